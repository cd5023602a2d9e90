-- `lines::listed::Leaves::put_line` meets its contract: the four numbers, and then the letter and the value.
use Rattle.std.proofs.Common.{arith}
use Rattle.lines.proofs.Pieces.{wrote_more, wrote_as, number_to, same_digits}
use Rattle.lines.proofs.Worded.{leaf-line, line-size}
use Rattle.lines.proofs.listed.Leaves.put_line.Goals as goal

pub number-requires : goal.number-requires
number-requires c = omega (arith, c.requires, line-size c.args.self.now.t.now c.args.self.now.v.now c.args.n)

pub number-requires-2 : goal.number-requires-2
number-requires-2 c = omega (arith, c.requires, line-size c.args.self.now.t.now c.args.self.now.v.now c.args.n, number_to _ c.number.ensures, same_digits c.word.ensures)

pub number-requires-3 : goal.number-requires-3
number-requires-3 c =
    omega (arith, c.requires, line-size c.args.self.now.t.now c.args.self.now.v.now c.args.n, number_to _ c.number.ensures, same_digits c.word.ensures, number_to _ c.number-2.ensures, same_digits c.word-2.ensures)

pub number-requires-4 : goal.number-requires-4
number-requires-4 c =
    omega (arith, c.requires, line-size c.args.self.now.t.now c.args.self.now.v.now c.args.n, number_to _ c.number.ensures, same_digits c.word.ensures, number_to _ c.number-2.ensures, same_digits c.word-2.ensures, number_to _ c.number-3.ensures, same_digits c.word-3.ensures)

pub put_value-requires : goal.put_value-requires
put_value-requires c =
    omega (arith, c.requires, line-size c.args.self.now.t.now c.args.self.now.v.now c.args.n, number_to _ c.number.ensures, same_digits c.word.ensures, number_to _ c.number-2.ensures, same_digits c.word-2.ensures, number_to _ c.number-3.ensures, same_digits c.word-3.ensures, number_to _ c.number-4.ensures)

pub returns : goal.returns
returns c =
    wrote_as (leaf-line _ _ _ _ _ _ _ c.word.ensures c.word-2.ensures c.word-3.ensures c.carried_at.ensures)
    (wrote_more (wrote_more (wrote_more (wrote_more c.number.ensures c.number-2.ensures) c.number-3.ensures) c.number-4.ensures) c.put_value.ensures)
