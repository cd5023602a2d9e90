-- `tally::full::count_row` meets its contract: a leaf has a place, and there is room.
use native.Mathlib.Omega.{arith}
use mathlib.Core.Path.{sym, ◌∙◌}
use Rattle.tally.specs.TallyRows.{with_row}
use Rattle.tally.proofs.full.count_row.Goals as goal

pub row_place-requires : goal.row_place-requires
row_place-requires c = let p = c.requires in (p.0, p.1, p.2, p.3 (sym c.leaf.ensures ∙ c.if-leaf.true))

pub add-requires : goal.add-requires
add-requires c = let p = c.requires in (omega (arith, c.row_place.ensures.0, p.4.long), omega (arith, p.4.small c.row_place.result))

pub returns-then-leaf : goal.returns-then-leaf
unfolding with_row
returns-then-leaf c = rw (← c.leaf.ensures, c.if-leaf.true, ← c.row_place.ensures.1) c.add.ensures

pub returns-else-leaf : goal.returns-else-leaf
unfolding with_row
returns-else-leaf c = rw (← c.leaf.ensures, c.if-leaf.false)
