-- `page::pages::Page::put` meets its contract: the first line, the leaves', and the last, with the sum of all before it.
use Prim.Native.Nat.{◌%◌, ◌^◌}
use native.Mathlib.Omega.{arith}
use mathlib.Core.Path.{refl, ap, ◌∙◌}
use borrow.Author.Rules.{rules}
use Rattle.lines.proofs.Pieces.{wrote_to}
use Rattle.page.proofs.PagePut.{page-long, page-lines, body-sum, page-put}
use Rattle.page.proofs.pages.Page.put.Goals as goal

pub put_head-requires : goal.put_head-requires
put_head-requires c =
    let p = c.args.self.now in
    omega (arith, c.requires, page-long p)

pub put_lines-requires : goal.put_lines-requires
put_lines-requires c =
    let p = c.args.self.now in
    omega (arith, c.requires, wrote_to c.put_head.ensures, page-long p)

pub sum-sum-requires : goal.sum-sum-requires
sum-sum-requires c =
    let p = c.args.self.now in
    omega (arith, c.requires, wrote_to c.put_head.ensures, wrote_to c.put_lines.ensures, page-long p)

pub put_foot-requires : goal.put_foot-requires
put_foot-requires c =
    let p = c.args.self.now in
    omega (arith, c.requires, wrote_to c.put_head.ensures, wrote_to c.put_lines.ensures, page-lines p _ _ refl (c.sum-sum.ensures ∙ ap (λ z. z % 2 ^ 32) (body-sum p c.put_head.ensures.put c.put_lines.ensures.put c.requires)))

pub returns : goal.returns
returns c =
    let p = c.args.self.now in
    let same = c.put_foot.ensures.same ∙ c.put_lines.ensures.same ∙ c.put_head.ensures.same in
    let whole = page-put p _ _ refl (c.sum-sum.ensures ∙ ap (λ z. z % 2 ^ 32) (body-sum p c.put_head.ensures.put c.put_lines.ensures.put c.requires)) c.put_head.ensures.put c.put_lines.ensures.put c.put_foot.ensures.put in
    search rules
