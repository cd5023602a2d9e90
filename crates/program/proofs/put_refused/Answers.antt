-- `program::put_refused` meets its contract, word by word.
use native.Mathlib.Omega.{arith}
use Rattle.lines.proofs.Pieces.{wrote_more, wrote_as, wrote_to, number_to}
use Rattle.program.proofs.LineLengths.{refused-line, refused-size}
use Rattle.program.proofs.put_refused.Goals as goal

pub text-requires : goal.text-requires
text-requires c = omega (arith, c.requires, refused-size c.args.n c.args.o)

pub number-requires : goal.number-requires
number-requires c = omega (arith, c.requires, wrote_to c.text.ensures, refused-size c.args.n c.args.o)

pub text-requires-2 : goal.text-requires-2
text-requires-2 c = omega (arith, c.requires, wrote_to c.text.ensures, number_to _ c.number.ensures, refused-size c.args.n c.args.o)

pub decimal-requires : goal.decimal-requires
decimal-requires c =
    omega (arith, c.requires, wrote_to c.text.ensures, number_to _ c.number.ensures, wrote_to c.text-2.ensures, refused-size c.args.n c.args.o)

pub byte-requires : goal.byte-requires
byte-requires c =
    omega (arith, c.requires, wrote_to c.text.ensures, number_to _ c.number.ensures, wrote_to c.text-2.ensures, wrote_to c.decimal.ensures, refused-size c.args.n c.args.o)

pub returns : goal.returns
returns c =
    wrote_as (refused-line _ _)
    (wrote_more (wrote_more (wrote_more (wrote_more c.text.ensures c.number.ensures) c.text-2.ensures) c.decimal.ensures) c.byte.ensures)
