-- `page::pages::put_foot` meets its contract, word by word.
use native.Mathlib.Omega.{arith}
use Rattle.lines.proofs.Pieces.{wrote_more, wrote_as, wrote_to, number_to}
use Rattle.lines.proofs.Worded.{foot-line, foot-size}
use Rattle.page.proofs.pages.put_foot.Goals as goal

pub text-requires : goal.text-requires
text-requires c = omega (arith, c.requires, foot-size c.args.leaves c.args.sum)

pub number-requires : goal.number-requires
number-requires c = omega (arith, c.requires, wrote_to c.text.ensures, foot-size c.args.leaves c.args.sum)

pub text-requires-2 : goal.text-requires-2
text-requires-2 c = omega (arith, c.requires, wrote_to c.text.ensures, number_to _ c.number.ensures, foot-size c.args.leaves c.args.sum)

pub decimal-requires : goal.decimal-requires
decimal-requires c =
    omega (arith, c.requires, wrote_to c.text.ensures, number_to _ c.number.ensures, wrote_to c.text-2.ensures, foot-size c.args.leaves c.args.sum)

pub byte-requires : goal.byte-requires
byte-requires c =
    omega (arith, c.requires, wrote_to c.text.ensures, number_to _ c.number.ensures, wrote_to c.text-2.ensures, wrote_to c.decimal.ensures, foot-size c.args.leaves c.args.sum)

pub returns : goal.returns
returns c =
    wrote_as (foot-line _ _) (wrote_more (wrote_more (wrote_more (wrote_more c.text.ensures c.number.ensures) c.text-2.ensures) c.decimal.ensures) c.byte.ensures)
