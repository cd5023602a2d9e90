-- `lines::listed::Leaves::put_lines` meets its contract.
use Rattle.std.proofs.Common.{arith}
use Rattle.lines.specs.LineRows.{lines_of}
use Rattle.lines.proofs.Pieces.{wrote_none, wrote_more, wrote_as, wrote_to}
use Rattle.lines.proofs.Worded.{lines_more, lines-room}
use Rattle.lines.proofs.listed.Leaves.put_lines.Goals as goal

pub loop-n-init : goal.loop-n-init
unfolding lines_of
loop-n-init c = wrote_none _

pub put_line-requires : goal.put_line-requires
put_line-requires c =
    let s = c.args.self.now in
    omega (arith, c.requires, s.listed.3 c.loop-n.n-index, wrote_to c.loop-n.invariant, lines-room s.t.now s.v.now s.rows.now c.loop-n.n-index c.loop-n-test.true)

pub loop-n-preserved : goal.loop-n-preserved
loop-n-preserved c = wrote_as (lines_more _ _ _ c.loop-n.n-index c.loop-n-test.true) (wrote_more c.loop-n.invariant c.put_line.ensures)
