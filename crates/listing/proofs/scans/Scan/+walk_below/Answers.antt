-- `listing::scans::Scan::walk_below` meets its contract: each kid that there is takes its own walk.
use Rattle.std.proofs.Common.{rules, List, ℕ, ◌-◌, ◌<◌, ◌≤◌, length, refl, sym, ◌∙◌, subst}
use Rattle.walk.specs.WalkRows.{row_walk}
use Rattle.walk.proofs.WalkSteps.{parts_all, kid-more, walk_none, walk_end, walk-on, not_end}
use Rattle.listing.specs.ScanLists.{lists}
use Rattle.listing.proofs.scans.Scan.+walk_below.Goals as goal
use Rattle.listing.proofs.scans.Scan.+walk_below.Goals.{then-kid-ne0+then-not-is_end, then-kid-ne0+else-not-is_end, else-kid-ne0}

pub loop-w-init : goal.loop-w-init
loop-w-init g t c = g.met.S.Sink.took_none _

pub loop-w-preserved : goal.loop-w-preserved
loop-w-preserved g t c =
    let sink = g.met.S.Sink in
    let s = c.args.self.now in
    let l = c.args.left - 1 in
    let k = c.link-kid.result in
    let after = λ (xs : List ℕ) (e : g.row.S.Denot). g.S.Sink.Took c.loop-w.sink xs e in
    let kid : after (row_walk s.rows.t.now s.rows.cap (lists s) s.order l k) c.if-kid-ne0.sink = elim c.if-kid-ne0.branch [
      | then-kid-ne0+then-not-is_end w ↦
          let more = not_end s.rows.t.now l k (sym w.is_end.ensures ∙ w.if-not-is_end.true) in
          let walked = sink.took_more _ _ _ _ _ w.walk_one.ensures w.walk_below.ensures in
          rw w.sink-is (subst (λ (xs : List ℕ). after xs w.walk_below.new.sink) (walk-on _ _ _ _ l k refl w.if-kid-ne0.true more) walked)
      | then-kid-ne0+else-not-is_end w ↦
          let end = sym w.is_end.ensures ∙ w.if-not-is_end.false in
          rw w.sink-is (subst (λ (xs : List ℕ). after xs w.walk_one.new.sink) (walk_end _ _ _ _ l k refl w.if-kid-ne0.true s.kids end) w.walk_one.ensures)
      | else-kid-ne0 w ↦ rw w.sink-is (subst (λ (xs : List ℕ). after xs c.loop-w.sink) (walk_none _ _ _ _ l k w.if-kid-ne0.false) (sink.took_none _))
    ] in
    let fits : c.loop-w.w-index < length s.order = search rules in
    subst (λ (xs : List ℕ). g.S.Sink.Took c.args.sink.now xs c.if-kid-ne0.sink)
    (kid-more _ _ _ _ c.args.left c.args.n c.loop-w.w-index _ fits c.link-kid.ensures.1)
    (sink.took_more _ _ _ _ _ c.loop-w.invariant kid)

pub returns : goal.returns
returns g t c =
    let s = c.args.self.now in
    let all : length s.order ≤ c.loop-w.w-index = search rules in
    subst (λ (xs : List ℕ). g.S.Sink.Took c.args.sink.now xs c.loop-w.sink) (parts_all _ s.order c.loop-w.w-index all) c.loop-w.invariant
