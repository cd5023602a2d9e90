-- `grid::scan` meets its contract: the first checks refuse, or what is lent is a picture and the scan by rows is the call's.
use Rattle.std.proofs.Common.{rules, sym, ◌≡◌, ◌∙◌, Err}
use Rattle.answer.specs.OutputLists.{wrote_of}
use Rattle.answer.proofs.RefusalNumbers.{not-zero}
use mir.Facts.{to_z-of_z}
use Rattle.grid.proofs.First.{lent-walkable, lent-few, scan-first, scan-done}
use Rattle.header.specs.Headers.{lent_of}
use Rattle.grid.proofs.scan.Goals as goal

pub returns-in_err-check : goal.returns-in_err-check
returns-in_err-check c =
    let r = c.in_err-check.field-0.0 in
    let o : wrote_of c.from_residual.result c.args.out.now ≡ wrote_of (Err r) c.args.out.now = search rules in
    o ∙ scan-first _ _ _ c.in_err-check.ensures (not-zero r) _ _ _ _ _ _

pub scan_out-requires : goal.scan_out-requires
scan_out-requires c =
    let a = c.args in
    let l = lent_of a.header a.table.now a.values.now in
    let ok = sym c.in_ok-check.ensures in
    let e = c.ground_depth-d.ensures in
    (lent-walkable a.capacity l _ ok e, lent-few a.capacity l a.start a.order a.kind _ ok e (to_z-of_z c.ranges.from) (to_z-of_z c.ranges.to))

pub returns : goal.returns
returns c =
    let a = c.args in
    scan-done a.capacity (lent_of a.header a.table.now a.values.now) a.start a.order a.kind a.out.now _ _ (sym c.in_ok-check.ensures) c.ground_depth-d.ensures (to_z-of_z c.ranges.from) (to_z-of_z c.ranges.to) c.scan_out.ensures
