-- `asks::other_under` meets its contract: the kids in turn, one level less left at each.
use Rattle.asks.proofs.AskedArms.{walk-nil, walk_end, walk-kids, walk-hit, walk-miss, walk-last}
use Rattle.asks.proofs.+other_under.Goals as goal

pub returns-then-m-eq0 : goal.returns-then-m-eq0
returns-then-m-eq0 t c = walk-nil _ _ _ c.args.l _ c.if-m-eq0.true

pub returns-then-l-eq0 : goal.returns-then-l-eq0
returns-then-l-eq0 t c = walk_end _ _ _ c.args.l _ _ c.if-m-eq0.false c.if-l-eq0.true c.flag.ensures

pub returns-then-other_under : goal.returns-then-other_under
returns-then-other_under t c =
    walk-kids _ _ _ _ _ c.if-m-eq0.false c.if-l-eq0.false
    (walk-hit _ _ _ _ _ _ _ 3 _ c.link.ensures.1 c.other_under.ensures c.if-other_under.true)

pub returns-then-other_under-2 : goal.returns-then-other_under-2
returns-then-other_under-2 t c =
    walk-kids _ _ _ _ _ c.if-m-eq0.false c.if-l-eq0.false
    (walk-miss _ _ _ _ _ _ _ 3 c.link.ensures.1 c.other_under.ensures c.if-other_under.false
    (walk-hit _ _ _ _ _ _ _ 2 _ c.link-2.ensures.1 c.other_under-2.ensures c.if-other_under-2.true))

pub returns-then-other_under-3 : goal.returns-then-other_under-3
returns-then-other_under-3 t c =
    walk-kids _ _ _ _ _ c.if-m-eq0.false c.if-l-eq0.false
    (walk-miss _ _ _ _ _ _ _ 3 c.link.ensures.1 c.other_under.ensures c.if-other_under.false
    (walk-miss _ _ _ _ _ _ _ 2 c.link-2.ensures.1 c.other_under-2.ensures c.if-other_under-2.false
    (walk-hit _ _ _ _ _ _ _ 4 _ c.link-3.ensures.1 c.other_under-3.ensures c.if-other_under-3.true)))

pub returns : goal.returns
returns t c =
    walk-kids _ _ _ _ _ c.if-m-eq0.false c.if-l-eq0.false
    (walk-miss _ _ _ _ _ _ _ 3 c.link.ensures.1 c.other_under.ensures c.if-other_under.false
    (walk-miss _ _ _ _ _ _ _ 2 c.link-2.ensures.1 c.other_under-2.ensures c.if-other_under-2.false
    (walk-miss _ _ _ _ _ _ _ 4 c.link-3.ensures.1 c.other_under-3.ensures c.if-other_under-3.false
    (walk-last _ _ _ _ _ _ _ 1 c.link-4.ensures.1 c.other_under-4.ensures))))
