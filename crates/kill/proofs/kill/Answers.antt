-- `kill::kill` meets its contract.
use mathlib.Core.Path.{sym}
use native.Mathlib.Omega.{arith}
use Rattle.std.proofs.Common.{rules}
use Rattle.carried.specs.Carried.{nothing}
use Rattle.edit_laws.specs.Tables.{kill_values}
use Rattle.edit_laws.proofs.PlainKept.{plain_cell}
use Rattle.patch.proofs.DroppedRows.{map_of}
use Rattle.kill.proofs.Killed.{cell-cleared, corners-dropped, killed}
use Rattle.border.specs.Borders.{border_of}
use Rattle.kill.proofs.kill.Goals as goal

pub invariant_of-drop_corners : goal.invariant_of-drop_corners
invariant_of-drop_corners c =
    let (plain, _, _, _, mapped) = c.requires in
    let (bare, _) = rw c.blank.ensures at c.put_carried.ensures in
    record { plain = plain_cell _ _ nothing plain c.put.ensures bare (omega arith); mapped = map_of (cell-cleared c.args.t.now _ c.put.ensures bare) mapped }

pub returns : goal.returns
unfolding kill_values
returns c =
    let a = c.rows_around.ensures.0 in
    let (bare, values) = rw c.blank.ensures at c.put_carried.ensures in
    let s = c.drop_corners.ensures in
    let gone = corners-dropped a _ (cell-cleared c.args.t.now _ c.put.ensures bare) s.words in
    let same = s.same.table in
    let numbers = s.same.numbers in
    let mapped = map_of (sym gone) c.drop_corners.new.p.mapped in
    (killed a _ (border_of c.still_border-still.result) gone (search rules) (search rules), values, search rules)
