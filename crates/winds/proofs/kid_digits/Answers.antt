-- `winds::kid_digits` meets its contract, wind by wind.
use native.Mathlib.Omega.{arith}
use lib.Dec.{lit<}
use Rattle.winds.proofs.KidWinds.{kid-halves}
use Rattle.winds.proofs.kid_digits.Goals as goal

pub returns-then-i-eq-NE : goal.returns-then-i-eq-NE
returns-then-i-eq-NE c = kid-halves 0 c.if-i-eq-NE.true (lit< tt) c.wind.ensures c.halves.ensures

pub returns-then-i-eq-SE : goal.returns-then-i-eq-SE
returns-then-i-eq-SE c = kid-halves 1 c.if-i-eq-SE.true (lit< tt) c.wind-then-i-eq-SE.ensures c.halves-then-i-eq-SE.ensures

pub returns-then-i-eq-SW : goal.returns-then-i-eq-SW
returns-then-i-eq-SW c = kid-halves 2 c.if-i-eq-SW.true (lit< tt) c.wind-then-i-eq-SW.ensures c.halves-then-i-eq-SW.ensures

pub returns : goal.returns
returns c = kid-halves 3 (omega arith) (lit< tt) c.wind-2.ensures c.halves-2.ensures
