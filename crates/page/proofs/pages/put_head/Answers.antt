-- `page::pages::put_head` meets its contract, word by word.
use native.Mathlib.Omega.{arith}
use Rattle.header.specs.Headers.{header_of}
use Rattle.lines.proofs.Pieces.{wrote_more, wrote_as, wrote_to, number_to}
use Rattle.lines.proofs.Worded.{head-line, head-size}
use Rattle.page.proofs.pages.put_head.Goals as goal

pub text-requires : goal.text-requires
text-requires c = omega (arith, c.requires, head-size (header_of c.args.header))

pub number-requires : goal.number-requires
number-requires c = omega (arith, c.requires, wrote_to c.text.ensures, head-size (header_of c.args.header))

pub number-requires-2 : goal.number-requires-2
number-requires-2 c = omega (arith, c.requires, wrote_to c.text.ensures, number_to _ c.number.ensures, head-size (header_of c.args.header))

pub number-requires-3 : goal.number-requires-3
number-requires-3 c =
    omega (arith, c.requires, wrote_to c.text.ensures, number_to _ c.number.ensures, number_to _ c.number-2.ensures, head-size (header_of c.args.header))

pub put_mode-requires : goal.put_mode-requires
put_mode-requires c =
    omega (arith, c.requires, wrote_to c.text.ensures, number_to _ c.number.ensures, number_to _ c.number-2.ensures, number_to _ c.number-3.ensures, head-size (header_of c.args.header))

pub returns : goal.returns
returns c =
    wrote_as (head-line _)
    (wrote_more (wrote_more (wrote_more (wrote_more c.text.ensures c.number.ensures) c.number-2.ensures) c.number-3.ensures) c.put_mode.ensures)
