-- `face::grid_build` meets its contract: what `grid::build` answers, and the number in use fits 32 bits.
use Rattle.std.proofs.Common.{rules, ◌≡◌}
use Rattle.answer.specs.Answered.{value_or}
use Rattle.face.proofs.CountsFit.{build-fits}
use Rattle.face.proofs.grid_build.Goals as goal

pub overflow_cast-in_use : goal.overflow_cast-in_use
overflow_cast-in_use c =
    let e : c.unwrap_or.result ≡ value_or 0 c.build-built.result = search rules in
    record { fits = rw e (build-fits _ _ _ _ c.build-built.ensures.is) }
