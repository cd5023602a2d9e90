-- `lines::listed::Leaves::line_size` meets its contract: the digits of the four numbers, and what stands around them.
use Rattle.std.proofs.Common.{arith}
use Rattle.lines.proofs.Worded.{words_size}
use Rattle.lines.proofs.listed.Leaves.line_size.Goals as goal

pub returns : goal.returns
returns c =
    omega (arith, c.digits.ensures, c.digits-2.ensures, c.digits-3.ensures, c.digits-4.ensures, words_size _ c.args.self.now.v.now c.args.n _ _ _ c.word-level.ensures c.word-i.ensures c.word-j.ensures)
