-- The question: refused by the list's length, then by the level or the status, and otherwise the number at their place.
-- Assumes nothing.
use Prim.Native.Nat.{ℕ, ◌≤◌, ◌<◌}
use native.Mathlib.Omega.{arith}
use native.Mathlib.Decide.{dec_lt}
use mathlib.Core.Path.{◌≡◌, subst}
use mathlib.Core.Logic.{◌≢◌}
use mathlib.Core.Bool.{true, false, ◌||◌}
use mathlib.Core.List.{List}
use lib.Dec.{T, ltb}
use lib.ListN.{length, get_or}
use borrow.Author.Tests.{eq-eqb, ne_eqb, lt-ltb, le-ltb}
use Rattle.mesh.specs.LeafCounts.{count_places, count_place}
use Rattle.mesh.specs.Refusal.{refusal}
use Rattle.mesh.specs.Call.{unless, count_checks, count_call}

-- a level and a status that are not refused
pub low-place : (l k : ℕ) → (ltb 12 l || ltb 2 k) ≡ false → (l ≤ 12) × (k ≤ 2)
low-place l k h = go (dec_lt 12 l) (dec_lt 2 k)
  where
    go : Dec (12 < l) → Dec (2 < k) → (l ≤ 12) × (k ≤ 2)
    go (yes a) b = absurd (subst T (rw (lt-ltb 12 l a) at h) tt)
    go (no a) (yes b) = absurd (subst T (rw (le-ltb 12 l (omega arith), lt-ltb 2 k b) at h) tt)
    go (no a) (no b) = (omega arith, omega arith)

module _ (c : List ℕ) (l k : ℕ) where
  pub another-length : length c ≢ count_places → record { refusal = 1; count = 0 } ≡ count_call c l k
  unfolding count_call count_checks refusal unless
  another-length h = rw (ne_eqb (length c) count_places h)

  module _ (long : length c ≡ count_places) where
    pub past-the-last : (ltb 12 l || ltb 2 k) ≡ true → record { refusal = 23; count = 0 } ≡ count_call c l k
    unfolding count_call count_checks refusal unless
    past-the-last h = rw (eq-eqb (length c) count_places long, h)

    pub at_its_place : (ltb 12 l || ltb 2 k) ≡ false → record { refusal = 0; count = get_or c (count_place l k) 0 } ≡ count_call c l k
    unfolding count_call count_checks refusal unless
    at_its_place h = rw (eq-eqb (length c) count_places long, h)
