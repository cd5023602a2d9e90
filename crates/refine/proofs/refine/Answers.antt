-- `refine::refine` meets its contract.
use mathlib.Core.Path.{sym}
use Rattle.std.proofs.Common.{rules}
use Rattle.patch.proofs.DroppedRows.{map_of}
use Rattle.refine.proofs.WholeRefinement.{refined, refined-values}
use Rattle.refine.proofs.refine.Goals as goal

pub returns : goal.returns
returns c =
    let s = c.supply_near.ensures in
    let same = s.same.table in
    let numbers = s.same.numbers in
    let mapped = map_of (sym s.words) c.supply_near.new.p.mapped in
    let (words, values, _) = c.put_cells.ensures in
    let own = c.carried_at.ensures in
    let down = c.passed_down-c.ensures in
    (refined _ _ _ _ _ s.words own down (search rules) c.refresh_near.ensures.0, refined-values _ _ _ _ _ s.words own down (search rules), search rules)
