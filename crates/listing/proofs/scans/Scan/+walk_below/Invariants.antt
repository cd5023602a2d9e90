-- The measure is the levels left. The invariant: the sink took the parts of the first kids.
use Rattle.walk.proofs.WalkSteps.{parts, kid_part}
use Rattle.listing.specs.ScanLists.{lists}
use Rattle.listing.proofs.scans.Scan.+walk_below.Given as goal

abbrev pub invariant-loop-w : goal.invariant-loop-w
invariant-loop-w g l =
    let s = l.self in
    g.S.Sink.Took l.fn.sink (parts (kid_part s.rows.t.now s.rows.cap (lists s) s.order l.fn.left l.n) s.order l.w-index) l.sink

abbrev pub decreases-walk_below : goal.decreases-walk_below
decreases-walk_below g l = l.left
