-- `page::pages::Page::body_size` meets its contract: the first line, and then the leaves'.
use native.Mathlib.Omega.{arith}
use Rattle.page.proofs.PagePut.{body-size}
use Rattle.page.proofs.pages.Page.body_size.Goals as goal

pub overflow_add-result : goal.overflow_add-result
overflow_add-result c = omega (arith, c.digits.ensures, c.digits-2.ensures, c.digits-3.ensures, c.lines_size.ensures)

pub returns : goal.returns
returns c =
    let p = c.args.self.now in
    omega (arith, c.digits.ensures, c.digits-2.ensures, c.digits-3.ensures, c.lines_size.ensures, body-size p)
