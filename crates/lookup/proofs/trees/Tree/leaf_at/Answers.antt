-- `lookup::trees::Tree::leaf_at` meets its contract. A point whose coordinate has digits left lies outside the root's square. The invariant: what the
-- way down from the row n finds with l digits left is what the way from the root finds.
use native.Mathlib.Omega.{arith}
use mathlib.Core.Path.{refl, sym, ◌∙◌}
use borrow.Author.Rules.{rules}
use Rattle.lookup.proofs.LookupSteps.{find-leaf, find-last, find-on, row-at-east, row-at-north, row-at-inside}
use Rattle.lookup.proofs.trees.Tree.leaf_at.Goals as goal

pub returns-then-u-e-ne0 : goal.returns-then-u-e-ne0
returns-then-u-e-ne0 c = (search rules, row-at-east _ _ c.args.self.now.rows.d c.args.u _ c.if-u-e-ne0.true)

pub returns-then-v-e-ne0 : goal.returns-then-v-e-ne0
returns-then-v-e-ne0 c = (search rules, row-at-north _ _ c.args.self.now.rows.d c.args.u c.args.v c.if-u-e-ne0.false c.if-v-e-ne0.true)

pub loop-u-init : goal.loop-u-init
loop-u-init c =
    let a = c.args in
    (search rules, search rules, row-at-inside _ _ a.self.now.rows.d a.u a.v c.if-u-e-ne0.false c.if-v-e-ne0.false refl)

pub returns-then-l-eq0 : goal.returns-then-l-eq0
returns-then-l-eq0 c =
    let leaf = c.leaf in
    let at = c.loop-u in
    (omega arith, find-last _ _ _ _ at.l at.n (sym leaf.ensures ∙ c.loop-u-test.true) c.if-l-eq0.true ∙ at.invariant.2)

pub loop-u-preserved : goal.loop-u-preserved
loop-u-preserved c =
    let leaf = c.leaf in
    let at = c.loop-u in
    let p = c.args.self.now.rows.walkable in
    let on = find-on _ _ _ _ p.nil at.l at.n _ (sym leaf.ensures ∙ c.loop-u-test.true) c.if-l-eq0.false c.toward-n.ensures.1 in
    (search rules, c.toward-n.ensures.0, on ∙ at.invariant.2)

pub returns : goal.returns
returns c =
    let leaf = c.leaf in
    let at = c.loop-u in
    (at.invariant.1, find-leaf _ _ _ _ at.l at.n (sym leaf.ensures ∙ c.loop-u-test.false) ∙ at.invariant.2)
