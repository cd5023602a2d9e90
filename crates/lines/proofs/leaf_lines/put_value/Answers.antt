-- `lines::leaf_lines::put_value` meets its contract: the letter, the blank, the digits and the line feed.
use Rattle.std.proofs.Common.{arith}
use Rattle.lines.proofs.Pieces.{wrote_more, wrote_as, wrote_to}
use Rattle.lines.proofs.Worded.{value_line}
use Rattle.lines.proofs.Decimals.{hex-long}
use Rattle.lines.proofs.leaf_lines.put_value.Goals as goal

pub byte-requires-3 : goal.byte-requires-3
byte-requires-3 c = omega (arith, c.requires, wrote_to c.byte.ensures, wrote_to c.byte-2.ensures, wrote_to c.hex.ensures, hex-long 16 c.bits.result)

pub returns : goal.returns
returns c =
    wrote_as (value_line _ _ c.args.c c.letter_of.ensures c.bits.ensures) (wrote_more (wrote_more (wrote_more c.byte.ensures c.byte-2.ensures) c.hex.ensures) c.byte-3.ensures)
