-- What the word of a level says of the depth: a level from 0 to 12 and no other depth.
-- Assumes nothing.
use Prim.Native.Nat.{ℕ, ◌+◌, ◌-◌, ◌≤◌, ◌<◌}
use native.Mathlib.Omega.{arith}
use native.Mathlib.Decide.{dec_lt, ℕ_discrete}
use mathlib.Core.Path.{◌≡◌, sym, ap, ◌∙◌}
use mathlib.Core.Bool.{false, cond}
use lib.Dec.{eqb, ltb}
use borrow.Author.Tests.{eq-eqb, ne_eqb, eqb-true, lt-ltb, le-ltb}
use Rattle.table.specs.Words.{depth_from}

pub level-says : (d c k : ℕ) → k ≤ 12 → eqb c k ≡ eqb (depth_from d c) (d + k)
level-says d c k low = go (dec_lt c 2147483648)
  where
    high : Dec (c ≡ k) → eqb c k ≡ eqb (c + d) (d + k)
    high (yes e) = eq-eqb c k e ∙ sym (eq-eqb (c + d) (d + k) (omega arith))
    high (no e) = ne_eqb c k e ∙ sym (ne_eqb (c + d) (d + k) (λ f. e (omega arith)))

    other : Dec (c - 2147483648 < d) → eqb (cond (ltb (c - 2147483648) d) (d - 1 - (c - 2147483648)) (d + 13)) (d + k) ≡ false
    other (yes x) = rw (lt-ltb (c - 2147483648) d x) (ne_eqb (d - 1 - (c - 2147483648)) (d + k) (λ e. omega arith))
    other (no x) = rw (le-ltb (c - 2147483648) d (omega (arith, x))) (ne_eqb (d + 13) (d + k) (λ e. omega arith))

    go : Dec (c < 2147483648) → eqb c k ≡ eqb (depth_from d c) (d + k)
    go (yes l) = rw (lt-ltb c 2147483648 l) (high (ℕ_discrete c k))
    go (no l) = rw (le-ltb c 2147483648 (omega (arith, l))) (ne_eqb c k (λ e. omega (arith, l)) ∙ sym (other (dec_lt (c - 2147483648) d)))

-- from level 0 up the word is the level
pub level-is : (d c : ℕ) → d ≤ depth_from d c → depth_from d c ≤ d + 12 → depth_from d c ≡ d + c
level-is d c low high =
    let k = depth_from d c - d in
    let e : depth_from d c ≡ d + k = omega arith in
    let same : c ≡ k = eqb-true c k (level-says d c k (omega arith) ∙ eq-eqb (depth_from d c) (d + k) e) in
    e ∙ ap (λ (n : ℕ). d + n) (sym same)
