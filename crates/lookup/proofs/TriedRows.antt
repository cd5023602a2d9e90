-- The tries of a lookup as the code meets them: the first that finds a leaf is the last.
-- Assumes nothing.
use Prim.Native.Nat.{ℕ, zero, suc}
use native.Mathlib.Omega.{arith}
use mathlib.Core.Path.{◌≡◌, refl, sym, ◌∙◌}
use mathlib.Core.Logic.{◌≢◌}
use mathlib.Core.Bool.{cond}
use mathlib.Core.List.{List}
use lib.Dec.{eqb}
use lib.IntN.{ℤ}
use borrow.Author.Tests.{eq-eqb, ne_eqb}
use Rattle.mesh.proofs.Tries.{tried-own}
use Rattle.mesh.specs.Lookup.{tried, first_found}
use Rattle.lookup.specs.LookupRows.{row_at, row_found}

module _ (t : List ℤ) (cap d u v : ℕ) where
  abbrev try : ℕ → ℕ → ℕ
  try left down = tried (row_at t cap d) u v (left, down)

  last_one : (n : ℕ) → n ≡ cond (eqb n 0) 0 n
  last_one zero = refl
  last_one (suc n) = rw (ne_eqb (suc n) 0 (λ z. omega arith))

  module _ {n : ℕ} (e : n ≡ row_at t cap d u v) where
    own : try 0 0 ≡ n
    own = tried-own (row_at t cap d) u v ∙ sym e

    pub found-own : n ≢ 0 → n ≡ row_found t cap d u v
    unfolding first_found
    found-own h = rw (own, ne_eqb n 0 h)

    module _ (z : n ≡ 0) {left : ℕ} (f : left ≡ try 1 0) where
      pub found_left : left ≢ 0 → left ≡ row_found t cap d u v
      unfolding first_found
      found_left h = rw (own, eq-eqb n 0 z, ← f, ne_eqb left 0 h)

      module _ (y : left ≡ 0) {below : ℕ} (g : below ≡ try 0 1) where
        pub found_below : below ≢ 0 → below ≡ row_found t cap d u v
        unfolding first_found
        found_below h = rw (own, eq-eqb n 0 z, ← f, eq-eqb left 0 y, ← g, ne_eqb below 0 h)

        pub found-both : below ≡ 0 → {both : ℕ} → both ≡ try 1 1 → both ≡ row_found t cap d u v
        unfolding first_found
        found-both x {both} k = rw (own, eq-eqb n 0 z, ← f, eq-eqb left 0 y, ← g, eq-eqb below 0 x, ← k) (last_one both)
