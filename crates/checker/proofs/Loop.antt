-- The test of all rows, as the loop over them meets it.
-- Assumes nothing.
use mathlib.Core.Path.{◌≡◌, sym, subst, ◌∙◌}
use mathlib.Core.Bool.{Bool, true, false}
use mathlib.Core.List.{List}
use Prim.Native.Nat.{ℕ, suc, ◌+◌, ◌<◌}
use native.Mathlib.Numerals.{add-one}
use lib.IntN.{ℤ}
use lib.Ieee.{Float}
use Rattle.mesh.specs.Place.{Grid}
use Rattle.table.specs.Words.{free_at}
use Rattle.checker_laws.specs.Rowwise.{below, zero_ok, row_ok, rowwise}
use Rattle.readable.proofs.CountingUp.{below_more, below_fails}

module _ (g : Grid) (t : List ℤ) (cap : ℕ) (v : List Float) where
  abbrev pub good : ℕ → Bool
  good k = row_ok g t cap v (suc k)

  pub rows_more : (k : ℕ) {x : Bool} → below k good ≡ true → x ≡ row_ok g t cap v (k + 1) → x ≡ true → below (k + 1) good ≡ true
  rows_more k a e h = below_more good k a (rw (← add-one k) (sym e ∙ h))

  module _ {z w : Bool} (first : z ≡ zero_ok t v) (ok : z ≡ true) (flags : w ≡ free_at t 1) where
    pub no_row : w ≡ false → (k : ℕ) {x : Bool} → k < cap → x ≡ row_ok g t cap v (k + 1) → x ≡ false → false ≡ rowwise g t cap v
    unfolding rowwise
    no_row u k l e h = rw (← first, ok, ← flags, u) (sym (below_fails good cap k l (rw (← add-one k) (sym e ∙ h))))

    pub all-rows : w ≡ false → (k : ℕ) → k ≡ cap → below k good ≡ true → true ≡ rowwise g t cap v
    unfolding rowwise
    all-rows u k q a = rw (← first, ok, ← flags, u) (sym (subst (λ (m : ℕ). below m good ≡ true) q a))
