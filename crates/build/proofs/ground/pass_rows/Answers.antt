-- `build::ground::pass_rows` meets its contract.
use Rattle.std.proofs.Common.{arith, sym, ◌∙◌}
use Rattle.build.proofs.RowTurns.{rows_on, rows-done}
use Rattle.build.proofs.ground.pass_rows.Goals as goal

pub loop-n-preserved : goal.loop-n-preserved
loop-n-preserved g c =
    let l = c.loop-n in
    record {
      left = l.invariant.left ∙ rows_on _ l.n _ l.t _ (omega arith) c.row.ensures.0;
      plain = c.row.ensures.1;
    }

pub returns : goal.returns
returns g c = (sym (c.loop-n.invariant.left ∙ rows-done _ c.loop-n.n _ c.loop-n.t (omega arith)), c.loop-n.invariant.plain)
