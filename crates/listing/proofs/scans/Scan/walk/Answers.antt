-- `listing::scans::Scan::walk` meets its contract: the row itself, then those below it.
use Rattle.std.proofs.Common.{List, ℕ, refl, arith, subst}
use Rattle.walk.proofs.WalkSteps.{walk-last, walk-on}
use Rattle.listing.proofs.scans.Scan.walk.Goals as goal

pub returns-then-left-ne0 : goal.returns-then-left-ne0
returns-then-left-ne0 g c =
    let a = c.args in
    subst (λ (xs : List ℕ). g.S.Sink.Took a.sink.now xs c.walk_below.new.sink)
    (walk-on _ _ _ _ a.left a.n refl (λ z. omega (arith, c.requires, z)) c.if-left-ne0.true)
    (g.met.S.Sink.took_more _ _ _ _ _ c.walk_one.ensures c.walk_below.ensures)

pub returns-else-left-ne0 : goal.returns-else-left-ne0
returns-else-left-ne0 g c =
    let a = c.args in
    subst (λ (xs : List ℕ). g.S.Sink.Took a.sink.now xs c.walk_one.new.sink)
    (walk-last _ _ _ _ a.left a.n refl (λ z. omega (arith, c.requires, z)) c.if-left-ne0.false)
    c.walk_one.ensures
