-- In the picture of a valid state a row is a free row exactly if its number is free, and a number is that of a patch exactly if it is in use.
-- Assumes nothing.
use Prim.Native.Nat.{ℕ, ◌≤◌}
use native.Mathlib.Omega.{arith}
use native.Mathlib.Decide.{dec_le}
use mathlib.Core.Path.{◌≡◌, refl, ap}
use mathlib.Core.Bool.{false, not, ◌&&◌}
use mathlib.Core.List.{List}
use lib.Dec.{T, eqb, leb, lit<}
use lib.IntN.{ℤ}
use lib.ListN.{length, get_or-eq_default}
use borrow.Author.Tests.{le-leb, lt-leb}
use Rattle.mesh.specs.State.{State, Entry, nil, free, used, place_of, is_used, is_free, entry, capacity}
use Rattle.mesh.specs.Valid.{Valid}
use Rattle.mesh.specs.Picture.{table}
use Rattle.table.specs.Words.{word_of, free_at, taken}
use Rattle.table_laws.proofs.Pictured.{nil-words, free-flags, patch-not-free}

module _ (s : State) (v : Valid s) where
  abbrev es : List Entry
  es = s.entries

  abbrev t : List ℤ
  t = table s

  pub free-at : (n : ℕ) → free_at t n ≡ is_free (entry es n)
  unfolding free_at
  free-at n = go (entry es n) refl
    where
      go : (e : Entry) → entry es n ≡ e → eqb (word_of t n 12) 8192 ≡ is_free e
      go nil h = rw (nil-words s n 12 h (lit< tt))
      go free h = rw (free-flags s n h)
      go (used p x) h = patch-not-free s n p (ap place_of h)

  pub taken-row : (n : ℕ) → taken t (capacity s) n ≡ is_used (entry es n)
  unfolding taken
  taken-row n = rw (free-at n) (go (dec_le 1 n) (dec_le n (capacity s)) (entry es n) refl)
    where
      go : Dec (1 ≤ n) → Dec (n ≤ capacity s) → (e : Entry) → entry es n ≡ e → (leb 1 n && (leb n (capacity s) && not (is_free (entry es n)))) ≡ is_used (entry es n)
      go (yes a) (yes b) nil h = let z : T false = rw h at (v.others n a b) in absurd z
      go (yes a) (yes b) free h = rw (le-leb 1 n a, le-leb n (capacity s) b, h)
      go (yes a) (yes b) (used p x) h = rw (le-leb 1 n a, le-leb n (capacity s) b, h)
      go (yes a) (no b) e h =
          let past : length es ≤ n = omega (arith, b) in
          rw (le-leb 1 n a, lt-leb n (capacity s) (omega (arith, b)), get_or-eq_default es nil past)
      go (no a) b e h = let z : n ≡ 0 = omega (arith, a) in rw (z, v.zeroth)
