-- `patch::links::link_side` meets its contract: the words are those of the wind and of its opposite.
use native.Mathlib.Omega.{arith}
use Rattle.patch.proofs.LinkingIn.{side-linked}
use Rattle.edit_laws.proofs.PlainKept.{plain-side}
use Rattle.patch.proofs.Opposite.{opposite-below}
use Rattle.patch.proofs.links.link_side.Goals as goal

pub overflow_add-o : goal.overflow_add-o
overflow_add-o c = omega (arith, opposite-below _ _ c.requires.5 c.wind-o.ensures)

pub put_unless_nil-requires : goal.put_unless_nil-requires
put_unless_nil-requires c = omega (arith, opposite-below _ _ c.requires.5 c.wind-o.ensures)

pub returns : goal.returns
returns c =
    let e = side-linked _ _ _ _ _ _ _ c.requires.5 c.side_by-x.ensures.1 c.wind-o.ensures c.put.ensures c.put_unless_nil.ensures in
    (e, plain-side c.requires.0 _ _ _ _ _ c.requires.4 e)
