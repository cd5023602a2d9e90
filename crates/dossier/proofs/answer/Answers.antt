-- What is printed fits the output.
use Rattle.std.proofs.Common.{arith, rules, sym, ◌≡◌}
use Rattle.std.proofs.lemmas.List.{length-take-le}
use Rattle.answer.specs.Answered.{value_or}
use Rattle.program.proofs.Fits.{count_fits}
use Rattle.dossier.proofs.answer.Goals as goal

pub slice_bounds-out-end : goal.slice_bounds-out-end
slice_bounds-out-end c =
    let e : c.unwrap_or-k.result ≡ value_or 0 c.print.result = search rules in
    omega (arith, e, count_fits _ _ _ _ c.print.ensures, c.print.auto.out)

pub slice_bounds-write_all-end : goal.slice_bounds-write_all-end
slice_bounds-write_all-end c =
    let e : c.unwrap_or-k.result ≡ value_or 0 c.print.result = search rules in
    sym (length-take-le _ _ (omega (arith, e, count_fits _ _ _ _ c.print.ensures, c.print.auto.out)))
