-- `table::plain::word` meets its contract: a word without a sign is its own code.
use native.Mathlib.Omega.{arith}
use mir.Facts.{to_z-of_z}
use borrow.Author.Rules.{sfits_of}
use Rattle.table.specs.Words.{word_of}
use Rattle.table.proofs.Unsigned.{read-unsigned, size-code}
use Rattle.table.proofs.plain.word.Goals as goal

pub overflow_cast-result : goal.overflow_cast-result
overflow_cast-result c =
    let a = c.args in
    let p = read-unsigned a.t.now a.n a.w {z = c.raw.result} (sfits_of c.raw.type_inv) c.raw.ensures c.requires.1 in
    rw (to_z-of_z {z = c.raw.result} (sfits_of c.raw.type_inv), p.is) (tt, omega (arith, p.small))

pub returns : goal.returns
unfolding word_of
returns c =
    let a = c.args in
    let p = read-unsigned a.t.now a.n a.w {z = c.raw.result} (sfits_of c.raw.type_inv) c.raw.ensures c.requires.1 in
    rw (← c.raw.ensures, to_z-of_z {z = c.raw.result} (sfits_of c.raw.type_inv)) (size-code p)
