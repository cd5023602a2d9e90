-- `page::pages::Page::fits` meets its contract: the longest last line fits, or its length is worked out.
use native.Mathlib.Omega.{arith}
use mathlib.Core.Path.{refl, sym, ap}
use lib.Dec.{leb}
use borrow.Author.Tests.{le-leb}
use Rattle.page.proofs.PagePut.{page-short, page-size}
use Rattle.page.proofs.pages.Page.fits.Goals as goal

pub returns-then-size-room : goal.returns-then-size-room
returns-then-size-room c =
    let p = c.args.self.now in
    sym (le-leb _ c.args.room (omega (arith, c.body_size-size.ensures, page-short p)))

pub returns : goal.returns
returns c =
    let p = c.args.self.now in
    ap (λ n. leb n c.args.room)
    (omega (arith, c.body_size-size.ensures, c.digits.ensures, c.digits-2.ensures, page-size p _ _ refl c.body_sum-sum.ensures))
