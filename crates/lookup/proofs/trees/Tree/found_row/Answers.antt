-- `lookup::trees::Tree::found_row` meets its contract: the first try that finds a leaf is the answer.
use borrow.Author.Rules.{rules}
use Rattle.lookup.proofs.TriedRows.{found-own, found_left, found_below, found-both}
use Rattle.lookup.proofs.trees.Tree.found_row.Goals as goal

pub returns-then-own-ne0 : goal.returns-then-own-ne0
returns-then-own-ne0 c =
    let a = c.args in
    (search rules, found-own _ _ a.self.now.rows.d a.u a.v c.leaf_at-own.ensures.1 c.if-own-ne0.true)

pub returns-then-left-ne0 : goal.returns-then-left-ne0
returns-then-left-ne0 c =
    let a = c.args in
    (search rules, found_left _ _ a.self.now.rows.d a.u a.v c.leaf_at-own.ensures.1 c.if-own-ne0.false c.try_at-left.ensures.1 c.if-left-ne0.true)

pub returns-then-below-ne0 : goal.returns-then-below-ne0
returns-then-below-ne0 c =
    let a = c.args in
    (search rules, found_below _ _ a.self.now.rows.d a.u a.v c.leaf_at-own.ensures.1 c.if-own-ne0.false c.try_at-left.ensures.1 c.if-left-ne0.false c.try_at-below.ensures.1 c.if-below-ne0.true)

pub returns : goal.returns
returns c =
    let a = c.args in
    (search rules, found-both _ _ a.self.now.rows.d a.u a.v c.leaf_at-own.ensures.1 c.if-own-ne0.false c.try_at-left.ensures.1 c.if-left-ne0.false c.try_at-below.ensures.1 c.if-below-ne0.false c.try_at.ensures.1)
