-- `patch::links::take_out` meets its contract.
use native.Mathlib.Omega.{arith}
use Rattle.patch.proofs.LinkingIn.{taken_out}
use Rattle.edit_laws.proofs.PlainKept.{plain-unnamed, plain-freed}
use Rattle.patch.proofs.links.take_out.Goals as goal

pub drop_side-requires : goal.drop_side-requires
drop_side-requires c =
    let pre = c.requires in
    (plain-unnamed _ _ pre.0 c.put.ensures (omega (arith, c.kid_word-w.ensures.0)), omega arith, omega arith)

pub clear_row-requires : goal.clear_row-requires
clear_row-requires c =
    let pre = c.requires in
    omega (arith, pre.0.sized.words, pre.2, c.drop_side-4.auto, c.drop_side-3.auto, c.drop_side-2.auto, c.drop_side.auto, c.put.auto)

pub returns : goal.returns
returns c =
    let e = taken_out _ _ _ c.link-p.ensures.1 c.word.ensures c.word-2.ensures c.kid_word-w.ensures.1 c.put.ensures c.drop_side.ensures.0 c.drop_side-2.ensures.0 c.drop_side-3.ensures.0 c.drop_side-4.ensures.0 c.clear_row.ensures in
    (e, plain-freed _ c.drop_side-4.ensures.1 c.clear_row.ensures (omega (arith, c.drop_side-4.ensures.1.sized.words)))
