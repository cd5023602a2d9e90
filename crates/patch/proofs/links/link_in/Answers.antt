-- `patch::links::link_in` meets its contract.
use native.Mathlib.Omega.{arith}
use Rattle.patch.proofs.LinkingIn.{linked-in}
use Rattle.edit_laws.proofs.PlainKept.{plain-placed}
use Rattle.patch.proofs.links.link_in.Goals as goal

pub link_side-requires : goal.link_side-requires
link_side-requires c =
    let pre = c.requires in
    (plain-placed pre.0 _ _ _ _ _ pre.1 pre.2 pre.5 c.place_in.ensures, omega arith, omega arith, omega arith, omega arith, omega arith)

pub returns : goal.returns
returns c =
    (linked-in _ _ _ _ _ _ _ (omega arith) c.requires.4 c.requires.5 c.requires.1 c.place_in.ensures c.link_side.ensures.0 c.link_side-2.ensures.0 c.link_side-3.ensures.0 c.link_side-4.ensures.0, c.link_side-4.ensures.1)
