-- `lines::listed::Leaves::lines_size` meets its contract.
use Rattle.std.proofs.Common.{refl, arith}
use Rattle.lines.specs.LineRows.{lines_of}
use Rattle.lines.proofs.Worded.{lines-longer}
use Rattle.lines.proofs.listed.Leaves.lines_size.Goals as goal

pub loop-n-init : goal.loop-n-init
unfolding lines_of
loop-n-init c = record { short = omega arith; measured = refl }

pub loop-n-preserved : goal.loop-n-preserved
loop-n-preserved c =
    let s = c.args.self.now in
    let e = c.line_size-size.ensures in
    record { short = omega (arith, e.0); measured = omega (arith, c.loop-n.invariant.measured, e.1, lines-longer s.t.now s.v.now s.rows.now c.loop-n.n-index c.loop-n-test.true) }
