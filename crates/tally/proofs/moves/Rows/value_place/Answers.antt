-- `tally::moves::Rows::value_place` meets its contract: on the same level, measured.
use native.Mathlib.Omega.{arith}
use mathlib.Core.Path.{◌∙◌}
use Rattle.tally.specs.TallyRows.{place_for}
use Rattle.tally.proofs.moves.Rows.value_place.Goals as goal

pub place-requires : goal.place-requires
place-requires c = (omega (arith, c.level.ensures, c.requires.1), rw c.measured.ensures (omega arith))

pub returns : goal.returns
returns c = c.place.ensures.1 ∙ (λ i. place_for (c.level.ensures i) (c.measured.ensures i))
