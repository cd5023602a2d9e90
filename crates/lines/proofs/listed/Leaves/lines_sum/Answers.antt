-- `lines::listed::Leaves::lines_sum` meets its contract.
use Rattle.std.proofs.Common.{arith}
use Rattle.lines.specs.LineRows.{lines_of}
use Rattle.lines.proofs.Worded.{lines-total}
use Rattle.lines.proofs.listed.Leaves.lines_sum.Goals as goal

pub loop-n-init : goal.loop-n-init
unfolding lines_of
loop-n-init c = omega arith

pub loop-n-preserved : goal.loop-n-preserved
loop-n-preserved c =
    let s = c.args.self.now in
    omega (arith, c.loop-n.invariant, c.line_sum-sum.ensures, lines-total s.t.now s.v.now s.rows.now c.loop-n.n-index c.loop-n-test.true)
