-- `kinds::high_first` meets its contract: the invariant is that the number is that of the bytes read so far.
use Prim.Native.Nat.{◌+◌}
use mathlib.Core.Path.{◌≡◌, ◌∙◌}
use lib.ListN.{get_or}
use native.Mathlib.Omega.{arith}
use Rattle.kinds.proofs.HighFirst.{part-byte, read_more, size-more, size_fits}
use Rattle.kinds.proofs.high_first.Goals as goal

pub overflow_mul-n : goal.overflow_mul-n
overflow_mul-n c = omega (arith, size_fits c.loop-byte.byte-index c.loop-byte.n (omega arith) c.loop-byte.invariant.0)

pub overflow_add-n : goal.overflow_add-n
overflow_add-n c = omega (arith, size_fits c.loop-byte.byte-index c.loop-byte.n (omega arith) c.loop-byte.invariant.0)

pub loop-byte-preserved : goal.loop-byte-preserved
loop-byte-preserved c =
    let a = c.args in
    let i = c.loop-byte.byte-index in
    let is : c.from.result ≡ get_or a.s.now (a.at + i) 0 = c.from.ensures ∙ part-byte a.s.now a.at a.k i (omega arith) in (
      size-more i c.loop-byte.n c.from.result c.loop-byte.invariant.0 (omega (arith, c.type_inv.s (a.at + i))),
      read_more a.s.now a.at i c.loop-byte.n c.from.result (omega arith) c.loop-byte.invariant.1 is,
    )
