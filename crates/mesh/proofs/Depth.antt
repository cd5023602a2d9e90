-- The depth of level 0: 2 to the d is the least power of two above the larger of columns and rows.
-- Assumes nothing.
use Prim.Native.Nat.{ℕ, suc, ◌-◌, ◌^◌, ◌≤◌, ◌<◌, max}
use native.Mathlib.Nat.{lt_of_not-le}
use native.Mathlib.Omega.{arith}
use mathlib.Core.Path.{◌≡◌, sym, subst}
use lib.Pow.{pow_mono}
use lib.Count.{count_leading_zeros, leading_top}
use Rattle.mesh.specs.Place.{Grid, base}

-- 2 ^ d is the least power of two above m
pub record LeastPower (m d : ℕ) : Type 0 where
  pub above : m < 2 ^ d
  pub least : (e : ℕ) → m < 2 ^ e → d ≤ e

larger : (j e m : ℕ) → 2 ^ j ≤ m → m < 2 ^ e → suc j ≤ e
larger j e m h l = lt_of_not-le (λ (g : e ≤ j). let far : 2 ^ e ≤ 2 ^ j = pow_mono g in omega arith)

pub ground-power : (g : Grid) → 1 ≤ max g.columns g.rows → max g.columns g.rows ≤ 32 → LeastPower (max g.columns g.rows) (base g)
unfolding base
ground-power g a b =
    let m = max g.columns g.rows in
    let t = leading_top 32 m a (omega arith) in
    let is : 32 - count_leading_zeros 32 m ≡ suc t.0 = omega arith in
    subst (λ (d : ℕ). LeastPower m d) (sym is) (record { above = t.3; least = λ e l. larger t.0 e m t.2 l })
