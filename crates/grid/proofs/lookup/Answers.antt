-- `grid::lookup` meets its contract: the first checks refuse, or the lookup by rows is the call's.
use Rattle.std.proofs.Common.{rules, sym, ◌≡◌, ◌∙◌, Err, arith}
use Rattle.lookup.specs.LookupRows.{found_of}
use Rattle.answer.proofs.RefusalNumbers.{not-zero}
use Rattle.picture_laws.proofs.Accepted.{lent-sizes}
use Rattle.grid.proofs.First.{shallow, lent-walkable, lookup_first, lookup-done}
use Rattle.grid.proofs.lookup.Goals as goal

pub returns-in_err-check : goal.returns-in_err-check
returns-in_err-check c =
    let r = c.in_err-check.field-0.0 in
    let o : found_of c.from_residual.result ≡ found_of (Err r) = search rules in
    o ∙ lookup_first _ _ _ c.in_err-check.ensures (not-zero r) _ _

pub lookup_out-requires : goal.lookup_out-requires
lookup_out-requires c =
    let ok = sym c.in_ok-check.ensures in
    let s = lent-sizes _ _ ok in
    let e = c.ground_depth-d.ensures in
    (lent-walkable _ _ _ ok e, omega (arith, s.values), omega (arith, s.low), omega (arith, shallow _ _ ok, e))

pub returns : goal.returns
returns c = lookup-done _ _ _ _ _ _ (sym c.in_ok-check.ensures) c.ground_depth-d.ensures c.lookup_out.ensures
