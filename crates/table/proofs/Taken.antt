-- Whether a number is that of a patch, as the code decides it: one of 1 to the capacity whose row is not free.
-- Assumes nothing.
use Prim.Native.Nat.{ℕ, ◌≤◌}
use mathlib.Core.Path.{◌≡◌, refl}
use mathlib.Core.Bool.{Bool, true, false, not, ◌&&◌}
use mathlib.Core.List.{List}
use lib.Dec.{leb}
use lib.IntN.{ℤ}
use borrow.Author.Tests.{leb-true}
use Rattle.table.specs.Words.{free_at, taken}
use Rattle.table.proofs.Tests.{both-pass}

module _ (t : List ℤ) (cap n : ℕ) where
  pub taken-by : taken t cap n ≡ ((leb 1 n && leb n cap) && not (free_at t n))
  unfolding taken
  taken-by = go (leb 1 n)
    where
      go : (a : Bool) → (a && (leb n cap && not (free_at t n))) ≡ ((a && leb n cap) && not (free_at t n))
      go true = refl
      go false = refl

  -- a number in use is one of 1 to the capacity
  pub taken-within : taken t cap n ≡ true → (1 ≤ n) × (n ≤ cap)
  unfolding taken
  taken-within e =
      let p = both-pass (leb 1 n) _ e in
      (leb-true 1 n p.0, leb-true n cap (both-pass (leb n cap) _ p.1).0)
