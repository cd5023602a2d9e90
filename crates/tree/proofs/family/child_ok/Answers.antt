-- `tree::family::child_ok` meets its contract: past the other tests, the word of the kid at each corner.
use Rattle.tree.proofs.FamilyRows.{child-at}
use Rattle.mesh.specs.Picture.{parent_word}
use Rattle.table.proofs.LinkRanges.{kept-as-is}
use native.Mathlib.Omega.{arith}
use Rattle.tree.proofs.family.child_ok.Goals as goal

pub returns-then-j-eq0 : goal.returns-then-j-eq0
returns-then-j-eq0 c =
    child-at _ _ _ _ c.link-p.ensures.1 (kept-as-is c.args.levels.now.readable.plain c.requires parent_word (omega arith)) c.if-p-eq0.false c.is_free.ensures c.if-is_free.false c.is_above.ensures (c.if-not-is_above.false) c.index-i.ensures c.says.ensures (c.if-not-says.false) c.index-j.ensures c.says-2.ensures (c.if-not-says-2.false) 0 0 c.if-i-eq0.true c.if-j-eq0.true c.says-then-j-eq0.ensures

pub returns-then-i-eq0 : goal.returns-then-i-eq0
returns-then-i-eq0 c =
    child-at _ _ _ _ c.link-p.ensures.1 (kept-as-is c.args.levels.now.readable.plain c.requires parent_word (omega arith)) c.if-p-eq0.false c.is_free.ensures c.if-is_free.false c.is_above.ensures (c.if-not-is_above.false) c.index-i.ensures c.says.ensures (c.if-not-says.false) c.index-j.ensures c.says-2.ensures (c.if-not-says-2.false) 0 1 c.if-i-eq0.true (omega (arith, c.if-j-eq0.false)) c.says-then-i-eq0.ensures

pub returns-then-j-eq0-2 : goal.returns-then-j-eq0-2
returns-then-j-eq0-2 c =
    child-at _ _ _ _ c.link-p.ensures.1 (kept-as-is c.args.levels.now.readable.plain c.requires parent_word (omega arith)) c.if-p-eq0.false c.is_free.ensures c.if-is_free.false c.is_above.ensures (c.if-not-is_above.false) c.index-i.ensures c.says.ensures (c.if-not-says.false) c.index-j.ensures c.says-2.ensures (c.if-not-says-2.false) 1 0 (omega (arith, c.if-i-eq0.false)) c.if-j-eq0-2.true c.says-then-j-eq0-2.ensures

pub returns : goal.returns
returns c =
    child-at _ _ _ _ c.link-p.ensures.1 (kept-as-is c.args.levels.now.readable.plain c.requires parent_word (omega arith)) c.if-p-eq0.false c.is_free.ensures c.if-is_free.false c.is_above.ensures (c.if-not-is_above.false) c.index-i.ensures c.says.ensures (c.if-not-says.false) c.index-j.ensures c.says-2.ensures (c.if-not-says-2.false) 1 1 (omega (arith, c.if-i-eq0.false)) (omega (arith, c.if-j-eq0-2.false)) c.says-3.ensures
