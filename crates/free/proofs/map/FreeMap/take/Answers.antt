-- `free::map::FreeMap::take` meets its contract: a bit is cleared in its word, and one in the word over them where none is left.
use native.Mathlib.Omega.{arith}
use Prim.Native.Nat.{◌-◌}
use mathlib.Core.Path.{refl}
use mathlib.Core.Bool.{false}
use Rattle.free.specs.FreeMap.{switched}
use Rattle.free.proofs.Switching.{total-le, taken, count-taken}
use Rattle.free.proofs.map.FreeMap.take.Goals as goal

pub invariant_of-self : goal.invariant_of-self
invariant_of-self c = (taken c.requires c.self.invariant refl c.clear_bit-x.ensures c.settle-self-inside.ensures).kept

pub returns : goal.returns
returns c = λ f h.
    let less = rw (← c.self.view_is) at c.lacks-less.ensures in
    let h' = rw (← c.self.view_is) at h in
    let s = taken c.requires c.self.invariant refl c.clear_bit-x.ensures c.settle-self-inside.ensures in
    record { bits = s.bits f h'.bits; counts = omega (arith, count-taken c.requires h'.bits h'.counts (1 - c.lacks-less.result) (omega arith), total-le (switched f c.args.n false) 4096) }
