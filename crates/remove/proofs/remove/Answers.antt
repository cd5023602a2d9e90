-- `remove::remove` meets its contract.
use mathlib.Core.Path.{sym}
use Rattle.std.proofs.Common.{rules}
use Rattle.edit_laws.specs.Tables.{remove_values}
use Rattle.patch.proofs.DroppedRows.{map_of}
use Rattle.remove.proofs.WholeRemoval.{near-dropped, removed}
use Rattle.remove.proofs.remove.Goals as goal

pub invariant_of-drop_near : goal.invariant_of-drop_near
invariant_of-drop_near c =
    let (bare, _, plain) = rw c.blank.ensures at c.put_cells.ensures in
    record { plain = plain; mapped = map_of bare c.requires.4 }

pub returns : goal.returns
unfolding remove_values
returns c =
    let (bare, values, _) = rw c.blank.ensures at c.put_cells.ensures in
    let s = c.drop_near.ensures in
    let same = s.same.table in
    let numbers = s.same.numbers in
    let mapped = map_of (sym (near-dropped _ _ _ bare s.words)) c.drop_near.new.p.mapped in
    (removed _ _ _ bare s.words _ (search rules), values, search rules)
