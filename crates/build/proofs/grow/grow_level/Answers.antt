-- `build::grow::grow_level` meets its contract.
use Rattle.std.proofs.Common.{rules, arith, sym, ◌∙◌}
use Rattle.build.specs.BuildSteps.{growth}
use Rattle.build.proofs.RowTurns.{rows_on, rows-done}
use Rattle.build.proofs.Growths.{row-kids, row-rest}
use Rattle.build.proofs.grow.grow_level.Goals as goal

pub grow_kids-k-requires : goal.grow_kids-k-requires
grow_kids-k-requires c =
    let l = c.loop-q in
    (search rules, row-kids _ _ _ c.args.plan.depth_is _ l.q _ (growth l.t l.k) (omega arith) l.invariant.room)

pub loop-q-preserved : goal.loop-q-preserved
loop-q-preserved c =
    let l = c.loop-q in
    record {
      left = l.invariant.left ∙ rows_on _ l.q _ (growth l.t l.k) _ (omega arith) c.grow_kids-k.ensures;
      room = row-rest _ _ _ c.args.plan.depth_is _ l.q _ (growth l.t l.k) _ (omega arith) l.invariant.room c.grow_kids-k.ensures;
    }

pub returns : goal.returns
returns c = sym (c.loop-q.invariant.left ∙ rows-done _ c.loop-q.q _ (growth c.loop-q.t c.loop-q.k) (omega arith))
