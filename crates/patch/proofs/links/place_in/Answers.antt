-- `patch::links::place_in` meets its contract.
use native.Mathlib.Omega.{arith}
use Rattle.table.proofs.Unsigned.{word-unsigned}
use Rattle.patch.proofs.LinkingIn.{placed-in}
use Rattle.patch.proofs.links.place_in.Goals as goal

pub depth-e-requires : goal.depth-e-requires
depth-e-requires c = (omega arith, omega arith, c.requires.7.level, omega (arith, c.requires.7.depth))

pub word-i-requires : goal.word-i-requires
word-i-requires c = (omega arith, word-unsigned c.args.t.now c.args.p 10 (omega (arith, c.requires.7.i)))

pub word-j-requires : goal.word-j-requires
word-j-requires c = (omega arith, word-unsigned c.args.t.now c.args.p 11 (omega (arith, c.requires.7.j)))

pub returns : goal.returns
returns c =
    placed-in _ _ _ _ _ _ c.depth-e.ensures c.word-i.ensures c.word-j.ensures c.put.ensures c.put_level.ensures c.put-2.ensures c.put-3.ensures c.put-4.ensures c.kid_word.ensures.1 c.put-5.ensures
