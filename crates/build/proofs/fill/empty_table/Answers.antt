-- `build::fill::empty_table` meets its contract.
use Rattle.std.proofs.Common.{arith}
use Rattle.build.proofs.Empty.{empty-start, empty-on, empty-done}
use Rattle.build.proofs.fill.empty_table.Goals as goal

pub loop-n-init : goal.loop-n-init
loop-n-init c = empty-start c.args.t.now _ c.nil_row.ensures (omega arith)

pub loop-n-preserved : goal.loop-n-preserved
loop-n-preserved c = empty-on c.loop-n.n c.loop-n.t _ c.clear_row.ensures (omega arith) c.loop-n.invariant

pub returns : goal.returns
returns c = empty-done c.loop-n.n _ c.loop-n.t (omega arith) (omega arith) c.loop-n.invariant
