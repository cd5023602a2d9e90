-- `tally::moves::Rows::kid_place` meets its contract: one level up, with what the leaf passes down.
use Prim.Native.Nat.{◌+◌}
use native.Mathlib.Omega.{arith}
use mathlib.Core.Path.{ap, ◌∙◌}
use Rattle.carried.specs.Carried.{passed_down}
use Rattle.tally.specs.TallyRows.{place_for}
use Rattle.tally.proofs.RowPlaces.{passed-status}
use Rattle.tally.proofs.moves.Rows.kid_place.Goals as goal

pub place-requires : goal.place-requires
place-requires c = (omega (arith, c.level.ensures, c.requires.1), rw c.passed_down.ensures (passed-status c.carried_at.result))

pub returns : goal.returns
returns c = c.place.ensures.1 ∙ (λ i. place_for (c.level.ensures i + 1) ((c.passed_down.ensures ∙ ap passed_down c.carried_at.ensures) i))
