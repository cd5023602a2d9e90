-- The digits of a kid are the offsets of its wind halved.
-- Assumes nothing.
use Prim.Native.Nat.{ℕ, zero, suc, ◌/◌, ◌<◌}
use native.Mathlib.Omega.{arith}
use mathlib.Core.Path.{◌≡◌, refl, ap, ◌∙◌}
use lib.Dec.{lit<}
use Rattle.winds.specs.WindTable.{compass_at, digits_of, kid_l, kid_m, KidWind}
use Rattle.winds.specs.declared.Compass.{Compass}
use Rattle.winds.specs.declared.Digits.{Digits}

-- what holds of each of the four kid winds
pub each-kid : (P : ℕ → Type 0) → P 0 → P 1 → P 2 → P 3 → (i : ℕ) → i < 4 → P i
each-kid P a b c d zero h = a
each-kid P a b c d (suc zero) h = b
each-kid P a b c d (suc (suc zero)) h = c
each-kid P a b c d (suc (suc (suc zero))) h = d
each-kid P a b c d (suc (suc (suc (suc i)))) h = absurd (omega arith)

-- the offsets of one of them halved
pub kid-halves : (j : ℕ) {i : ℕ} {c : Compass} {r : Digits} → i ≡ j → j < 4 → c ≡ compass_at j → r ≡ digits_of c → (r.l < 2) × (r.m < 2) × KidWind r.l r.m i
kid-halves j {i} {c} {r} e h a b =
    let l-is : r.l ≡ kid_l j = ap (λ x. x.l) b ∙ ap (λ x. x.east / 2) a in
    let m-is : r.m ≡ kid_m j = ap (λ x. x.m) b ∙ ap (λ x. x.north / 2) a in
    rw (e, l-is, m-is) (small.0, small.1, record { is-kid = h; l-is = refl; m-is = refl })
  where
    small : (kid_l j < 2) × (kid_m j < 2)
    small = each-kid (λ i. (kid_l i < 2) × (kid_m i < 2)) (lit< tt, lit< tt) (lit< tt, lit< tt) (lit< tt, lit< tt) (lit< tt, lit< tt) j h
