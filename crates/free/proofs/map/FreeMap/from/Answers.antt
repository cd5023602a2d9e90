-- `free::map::FreeMap::from` meets its contract: the word of s first, and then the first word after it that is not 0.
use Prim.Native.Nat.{ℕ, ◌/◌}
use mathlib.Core.Path.{ap}
use Rattle.free.proofs.FirstFree.{first_of, in-word, in-none, word_in, word-pos, in-later}
use Rattle.free.proofs.map.FreeMap.from.Goals as goal

pub returns-then-here-ne0 : goal.returns-then-here-ne0
returns-then-here-ne0 c = rw (← c.self.view_is) (first_of (in-word c.requires c.self.invariant c.high-here.ensures.0 c.high-here.ensures.1 c.lowest.ensures))

pub returns-then-above-eq0 : goal.returns-then-above-eq0
returns-then-above-eq0 c = rw (← c.self.view_is) (first_of (in-none c.requires c.self.invariant c.high-here.ensures.0 c.if-here-ne0.false (ap (λ (x : ℕ). x / 2) c.high-above.ensures.0) c.if-above-eq0.true))

pub bounds-self-inside-v : goal.bounds-self-inside-v
bounds-self-inside-v c = word_in c.requires c.self.invariant c.high-here.ensures.0 c.if-here-ne0.false (ap (λ (x : ℕ). x / 2) c.high-above.ensures.0) c.high-above.ensures.1 c.lowest-2.ensures

pub lowest-requires-3 : goal.lowest-requires-3
lowest-requires-3 c = word-pos c.requires c.self.invariant c.high-here.ensures.0 c.if-here-ne0.false (ap (λ (x : ℕ). x / 2) c.high-above.ensures.0) c.high-above.ensures.1 c.lowest-2.ensures

pub returns : goal.returns
returns c = rw (← c.self.view_is) (first_of (in-later c.requires c.self.invariant c.high-here.ensures.0 c.if-here-ne0.false (ap (λ (x : ℕ). x / 2) c.high-above.ensures.0) c.high-above.ensures.1 c.lowest-2.ensures c.lowest-3.ensures))
