-- How many patches there are, counted level by level.
-- Assumes nothing.
use Prim.Native.Nat.{ℕ, suc, ◌+◌, ◌*◌, ◌/◌, ◌^◌, ◌≤◌}
use native.Mathlib.Nat.{div-le_self, mul-le-mul}
use native.Mathlib.Numerals.{add-one}
use native.Mathlib.Omega.{arith}
use mathlib.Core.Path.{◌≡◌, refl, sym, ap, ap₂, ◌∙◌}
use lib.ListN.{length}
use Rattle.number_laws.specs.Sizes.{level_size, levels_size}
use Rattle.mesh.specs.Call.{Rectangle}
use Rattle.mesh.specs.Place.{Grid, base}
use Rattle.mesh.specs.Build.{numbered}
use Rattle.number_laws.proofs.Sizes.{numbered-size}

-- a side halved is no larger
pub side-le : (k n : ℕ) → k ≤ 32 → k / 2 ^ n ≤ 32
side-le k n h = omega (arith, div-le_self k (2 ^ n))

pub level-le : (a b : ℕ) → a ≤ 33 → b ≤ 33 → a * b ≤ 1089
level-le a b h k = omega (arith, mul-le-mul {n₁ = a} {m₁ = b} {n₂ = 33} {m₂ = 33} h k)

module _ (g : Grid) where
  pub sizes-none : levels_size g 0 ≡ 0
  unfolding levels_size
  sizes-none = refl

  pub sizes-more : (n x s : ℕ) → s ≡ levels_size g n → x ≡ level_size g n → s + x ≡ levels_size g (n + 1)
  unfolding levels_size
  sizes-more n x s e h = rw add-one (ap₂ ◌+◌ e h)

  pub sizes-all : (d n s : ℕ) → Rectangle g → d ≡ base g → n ≡ d + 1 → s ≡ levels_size g n → s ≡ length (numbered g)
  sizes-all d n s in-range e h k =
      let m : n ≡ suc (base g) = omega arith in
      k ∙ ap (levels_size g) m ∙ sym (numbered-size g in-range)
