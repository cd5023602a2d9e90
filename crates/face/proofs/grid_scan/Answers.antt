-- `face::grid_scan` meets its contract: what `grid::scan` answers in the four bytes of the order, and the count fits 32 bits.
use Rattle.std.proofs.Common.{rules, ◌≡◌}
use mir.Facts.{to_z-of_z}
use Rattle.answer.specs.Answered.{value_or}
use Rattle.face.proofs.AnyOrder.{scanned}
use Rattle.face.proofs.CountsFit.{scan-fits}
use Rattle.face.proofs.grid_scan.Goals as goal

pub overflow_cast-count : goal.overflow_cast-count
overflow_cast-count c =
    let e : c.unwrap_or.result ≡ value_or 0 c.scan-wrote.result = search rules in
    record { fits = rw e (scan-fits _ _ _ _ _ _ _ _ _ c.scan-wrote.ensures) }

pub returns : goal.returns
returns c =
    let e : c.unwrap_or.result ≡ value_or 0 c.scan-wrote.result = search rules in
    let is = scanned _ _ _ _ _ _ _ c.args.order.now _ c.scan-wrote.ensures c.four.ensures (to_z-of_z c.ranges.from) (to_z-of_z c.ranges.to) in
    rw (e, c.number_of.ensures) (record { is = is })
