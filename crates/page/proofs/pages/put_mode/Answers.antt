-- `page::pages::put_mode` meets its contract: one word or the other, by the mode.
use Rattle.header.specs.Headers.{header_of}
use Rattle.lines.proofs.Pieces.{wrote_as}
use Rattle.lines.proofs.Worded.{ring-word, open-word}
use Rattle.page.proofs.pages.put_mode.Goals as goal

pub returns-then-is_ring : goal.returns-then-is_ring
returns-then-is_ring c = wrote_as (ring-word (header_of c.args.header).grid c.if-is_ring.true c.is_ring.ensures) c.text.ensures

pub returns-else-is_ring : goal.returns-else-is_ring
returns-else-is_ring c = wrote_as (open-word (header_of c.args.header).grid c.if-is_ring.false c.is_ring.ensures) c.text-else-is_ring.ensures
