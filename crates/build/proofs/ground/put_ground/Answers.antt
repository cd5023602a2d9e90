-- `build::ground::put_ground` meets its contract.
use Rattle.std.proofs.Common.{arith, sym, ◌∙◌}
use Rattle.build.proofs.RowTurns.{rows_on, rows-done}
use Rattle.build.proofs.ground.put_ground.Goals as goal

pub loop-n-preserved : goal.loop-n-preserved
loop-n-preserved c =
    let l = c.loop-n in
    l.invariant ∙ rows_on _ l.n _ l.t _ (omega arith) c.put_cell.ensures

pub returns : goal.returns
returns c = sym (c.loop-n.invariant ∙ rows-done _ c.loop-n.n _ c.loop-n.t (omega arith))
