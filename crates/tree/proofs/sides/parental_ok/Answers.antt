-- `tree::sides::parental_ok` meets its contract, by the last digits of the place.
use native.Mathlib.Omega.{arith}
use Rattle.tree.proofs.Seaming.{sides-of-is}
use Rattle.tree.proofs.sides.parental_ok.Goals as goal

pub returns-then-j-eq0 : goal.returns-then-j-eq0
returns-then-j-eq0 c =
    sides-of-is _ _ _ 0 0 c.link-p.ensures.1 c.index-i.ensures c.index-j.ensures c.if-i-eq0.true c.if-j-eq0.true c.sides_by.ensures

pub returns-then-i-eq0 : goal.returns-then-i-eq0
returns-then-i-eq0 c =
    sides-of-is _ _ _ 0 1 c.link-p.ensures.1 c.index-i.ensures c.index-j.ensures c.if-i-eq0.true (omega arith) c.sides_by-then-i-eq0.ensures

pub returns-then-j-eq0-2 : goal.returns-then-j-eq0-2
returns-then-j-eq0-2 c =
    sides-of-is _ _ _ 1 0 c.link-p.ensures.1 c.index-i.ensures c.index-j.ensures (omega arith) c.if-j-eq0-2.true c.sides_by-then-j-eq0-2.ensures

pub returns : goal.returns
returns c =
    sides-of-is _ _ _ 1 1 c.link-p.ensures.1 c.index-i.ensures c.index-j.ensures (omega arith) (omega arith) c.sides_by-2.ensures
