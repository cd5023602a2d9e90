-- `free::map::FreeMap::give` meets its contract: a bit is set in its word, and one in the word over them.
use native.Mathlib.Omega.{arith}
use mathlib.Core.Path.{refl}
use mathlib.Core.Bool.{true}
use Rattle.free.specs.FreeMap.{switched}
use Rattle.free.proofs.Switching.{total-le, given, count-given}
use Rattle.free.proofs.map.FreeMap.give.Goals as goal

pub invariant_of-self : goal.invariant_of-self
invariant_of-self c = (given c.requires.1 c.self.invariant refl c.requires.0 c.set_bit.ensures c.set_bit-self-inside.ensures).kept

pub returns : goal.returns
returns c = λ f h.
    let more = rw (← c.self.view_is) at c.lacks-more.ensures in
    let h' = rw (← c.self.view_is) at h in
    let s = given c.requires.1 c.self.invariant refl c.requires.0 c.set_bit.ensures c.set_bit-self-inside.ensures in
    record { bits = s.bits f h'.bits; counts = omega (arith, count-given c.requires.1 h'.bits h'.counts _ more, total-le (switched f c.args.n true) 4096) }
