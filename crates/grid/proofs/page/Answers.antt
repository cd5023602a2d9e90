-- `grid::page` meets its contract: the first checks refuse, or what is lent is a picture and the page by rows is the call's.
use Rattle.std.proofs.Common.{rules, sym, ◌≡◌, ◌∙◌, Err, arith}
use Rattle.answer.specs.OutputLists.{wrote_of}
use Rattle.answer.proofs.RefusalNumbers.{not-zero}
use Rattle.header.specs.Headers.{lent_of}
use Rattle.picture_laws.proofs.Accepted.{lent-sizes}
use Rattle.grid.proofs.First.{page-first, page-listed, page-done}
use Rattle.grid.proofs.page.Goals as goal

pub returns-in_err-check : goal.returns-in_err-check
returns-in_err-check c =
    let r = c.in_err-check.field-0.0 in
    let o : wrote_of c.from_residual.result c.args.out.now ≡ wrote_of (Err r) c.args.out.now = search rules in
    o ∙ page-first _ _ _ c.in_err-check.ensures (not-zero r) _

pub write_page-requires : goal.write_page-requires
write_page-requires c =
    let ok = sym c.in_ok-check.ensures in
    let s = lent-sizes _ _ ok in
    (record { words = omega (arith, s.words); small = s.high }, omega (arith, s.low), omega (arith, s.values), page-listed _ _ _ ok s.high c.ground_depth-d.ensures)

pub returns : goal.returns
returns c =
    let a = c.args in
    page-done a.capacity (lent_of a.header a.table.now a.values.now) a.out.now _ _ (sym c.in_ok-check.ensures) c.ground_depth-d.ensures c.write_page.ensures
