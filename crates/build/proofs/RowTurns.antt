-- A step for each of some successive rows: what is left of it after some of them, and where it ends.
-- Assumes nothing.
use Prim.Native.Nat.{ℕ, suc, ◌+◌, ◌-◌, ◌≤◌, ◌<◌}
use native.Mathlib.Omega.{arith}
use mathlib.Core.Path.{◌≡◌, sym, ap, ◌∙◌}
use Rattle.edit_laws.specs.Built.{each_row}

module _ {A : Type 0} (step : A → ℕ → A) where
  pub rows_on : (n b : ℕ) (a u : A) → n < b → u ≡ step a n → each_row step (b - n) n a ≡ each_row step (b - (n + 1)) (n + 1) u
  unfolding each_row
  rows_on n b a u h e =
      let m : b - n ≡ suc (b - (n + 1)) = omega arith in
      ap (λ (k : ℕ). each_row step k n a) m ∙ ap (each_row step (b - (n + 1)) (n + 1)) (sym e)

  pub rows-done : (n b : ℕ) (a : A) → b ≤ n → each_row step (b - n) n a ≡ a
  unfolding each_row
  rows-done n b a h =
      let m : b - n ≡ 0 = omega arith in
      ap (λ (k : ℕ). each_row step k n a) m
