-- `anew::wall_row` meets its contract.
use mathlib.Core.Path.{sym}
use native.Mathlib.Omega.{arith}
use Rattle.edit_laws.proofs.PlainKept.{plain-put}
use Rattle.anew.proofs.FlagRows.{row-walled}
use Rattle.anew.specs.NilRow.{nil-walled}
use Rattle.anew.proofs.wall_row.Goals as goal

pub returns-then-n-eq0 : goal.returns-then-n-eq0
returns-then-n-eq0 c = (sym (nil-walled _ _ c.if-n-eq0.true _), c.requires.0)

pub returns : goal.returns
returns c =
    (row-walled _ _ _ _ c.if-n-eq0.false c.flag-sentenced.ensures (c.walls_anew-x.ensures.1 c.args.d) c.put.ensures, plain-put c.args.n c.walls_anew-x.result c.requires.0 c.put.ensures (omega arith))
