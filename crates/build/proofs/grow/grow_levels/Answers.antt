-- `build::grow::grow_levels` meets its contract.
use Rattle.std.proofs.Common.{rules, arith, ◌∙◌}
use Rattle.edit_laws.proofs.Sprouts.{levels-bounds}
use Rattle.build.specs.BuildSteps.{growth}
use Rattle.build.proofs.Growths.{next_level, levels-on, ground-on, levels-left, reached}
use Rattle.build.proofs.grow.grow_levels.Goals as goal

pub grow_level-next-requires : goal.grow_level-next-requires
grow_level-next-requires c =
    let l = c.loop-up in
    let (a, b, e) = levels-bounds l.up l.invariant.room in
    (search rules, b, e, next_level _ _ _ c.args.plan.depth_is l.up l.r.ground (omega arith) (growth l.t l.r.next) l.invariant.room)

pub loop-up-preserved : goal.loop-up-preserved
loop-up-preserved c =
    let l = c.loop-up in
    let e = c.args.plan.depth_is in
    let s = c.grow_level-next.ensures in
    record {
      left = l.invariant.left ∙ levels-on _ _ _ e l.up l.r.ground (omega arith) (growth l.t l.r.next) _ s;
      from = l.invariant.from ∙ ground-on _ _ _ e l.up l.r.ground (omega arith) (growth l.t l.r.next) _ s;
      room = levels-left _ _ _ e l.up l.r.ground (omega arith) (growth l.t l.r.next) _ s l.invariant.room;
    }

pub returns : goal.returns
returns c =
    let l = c.loop-up in
    reached _ _ _ c.args.plan.depth_is l.up l.r.ground _ (growth l.t l.r.next) (omega arith) l.invariant.left l.invariant.from l.invariant.room
