-- `page::pages::Page::write` meets its contract: refused, or written, by whether the page fits.
use Rattle.page.specs.WholePage.{whole}
use Rattle.page.proofs.PagePut.{page-over, page-room, page-refused, page-written}
use Rattle.std.proofs.Common.{rules, Err, ap, ◌≡◌, ◌∙◌}
use Rattle.std.proofs.lemmas.Bool.{not-true, not-false}
use Rattle.answer.specs.declared.Refusal.{Refusal}
use Rattle.answer.specs.declared.Refusal.TheVariants.{TooShort}
use Rattle.answer.specs.OutputLists.{wrote_of}
use Rattle.answer.proofs.InOrder.{refuses, passes}
use Rattle.page.proofs.pages.Page.write.Goals as goal

pub returns-in_err-refuse_if : goal.returns-in_err-refuse_if
returns-in_err-refuse_if c =
    let p = c.args.self.now in
    let xs = whole p in
    let o : wrote_of c.from_residual.result c.args.out.now ≡ wrote_of (Err c.in_err-refuse_if.field-0.0) c.args.out.now = search rules in
    let (over, same) = refuses _ TooShort c.in_err-refuse_if.ensures in
    o ∙ ap (λ (r : Refusal). wrote_of (Err r) c.args.out.now) same ∙ page-refused xs c.args.out.now (page-over xs c.args.out.now (not-true _ over) c.fits.ensures)

pub put-requires : goal.put-requires
put-requires c =
    let p = c.args.self.now in
    page-room (whole p) c.args.out.now (not-false _ (passes _ TooShort c.in_ok-refuse_if.ensures)) c.fits.ensures

pub returns : goal.returns
returns c =
    let p = c.args.self.now in
    let xs = whole p in
    let room = page-room xs c.args.out.now (not-false _ (passes _ TooShort c.in_ok-refuse_if.ensures)) c.fits.ensures in
    page-written xs c.args.out.now room c.put.ensures
