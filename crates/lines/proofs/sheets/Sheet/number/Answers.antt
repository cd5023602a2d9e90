-- `lines::sheets::Sheet::number` meets its contract: the digits, and then the blank.
use Rattle.std.proofs.Common.{arith}
use Rattle.lines.proofs.Pieces.{wrote_more, wrote_to}
use Rattle.lines.proofs.sheets.Sheet.number.Goals as goal

pub byte-requires : goal.byte-requires
byte-requires c = omega (arith, c.requires, wrote_to c.decimal.ensures)

pub returns : goal.returns
returns c = wrote_more c.decimal.ensures c.byte.ensures
