-- `tree::family::kid_ok` meets its contract, by whether there is a kid.
use mathlib.Core.Path.{sym}
use Rattle.worked.proofs.Offsets.{kid-word-at}
use Rattle.tree.proofs.FamilyRows.{kid-none, kid-some}
use Rattle.table.proofs.LinkRanges.{kept-as-is}
use native.Mathlib.Omega.{arith}
use Rattle.tree.proofs.family.kid_ok.Goals as goal

pub returns-then-k-eq0 : goal.returns-then-k-eq0
returns-then-k-eq0 c =
    kid-none _ _ _ _ _ (sym (kid-word-at _ c.requires.2)) c.link-k.ensures.1 (kept-as-is c.requires.0.plain c.requires.1 _ (omega arith)) c.if-k-eq0.true

pub returns : goal.returns
returns c =
    let kid = c.kid_digits-e.ensures.2 in
    kid-some _ _ _ _ _ (sym (kid-word-at _ c.requires.2)) c.link-k.ensures.1 (kept-as-is c.requires.0.plain c.requires.1 _ (omega arith)) c.if-k-eq0.false c.is_free.ensures c.says.ensures c.index.ensures c.index-2.ensures kid.l-is kid.m-is
