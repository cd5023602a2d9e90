-- `table::plain::link` meets its contract: a word within the capacity is the link itself.
use native.Mathlib.Omega.{arith}
use Rattle.table.proofs.Unsigned.{word-unsigned, link-read}
use Rattle.table.proofs.plain.link.Goals as goal

pub word-requires : goal.word-requires
word-requires c =
    let h = c.requires.0.links c.args.n c.args.w c.requires.1 c.requires.2 in
    (omega arith, word-unsigned c.args.t.now c.args.n c.args.w (omega (arith, h, c.requires.0.sized.small)))

pub returns : goal.returns
returns c =
    let a = c.args in
    let p = c.requires in
    link-read a.t.now a.cap a.n a.w c.word.ensures (p.0.links a.n a.w p.1 p.2)
