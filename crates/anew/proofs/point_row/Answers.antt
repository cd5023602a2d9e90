-- `anew::point_row` meets its contract.
use mathlib.Core.Path.{sym}
use native.Mathlib.Omega.{arith}
use Rattle.edit_laws.proofs.PlainKept.{plain-put}
use Rattle.anew.proofs.FlagRows.{row-pointed}
use Rattle.anew.specs.NilRow.{nil-pointed}
use Rattle.anew.proofs.point_row.Goals as goal

pub returns-then-n-eq0 : goal.returns-then-n-eq0
returns-then-n-eq0 c = (sym (nil-pointed _ _ c.if-n-eq0.true), c.requires.0)

pub returns : goal.returns
returns c =
    (row-pointed _ _ 0 _ c.if-n-eq0.false c.points_anew-x.ensures.1 c.put.ensures, plain-put c.args.n c.points_anew-x.result c.requires.0 c.put.ensures (omega arith))
