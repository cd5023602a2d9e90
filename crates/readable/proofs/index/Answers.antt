-- `readable::index` meets its contract.
use native.Mathlib.Omega.{arith}
use Rattle.table.proofs.Unsigned.{word-unsigned}
use Rattle.readable.proofs.index.Goals as goal

pub word-requires : goal.word-requires
word-requires c =
    let a = c.args in
    let p = c.requires in
    (omega (arith, p.0.plain.sized.words), word-unsigned a.t.now a.n a.w (p.0.indices a.n a.w p.1 p.2 p.3))

pub returns : goal.returns
returns c = c.word.ensures
