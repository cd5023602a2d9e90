-- A map that is filled from the rows of a table: it has the free ones of those that were looked at.
-- Assumes nothing.
use Prim.Native.Nat.{ℕ, zero, suc, ◌+◌, ◌-◌, ◌*◌, ◌/◌, ◌%◌, ◌≤◌, ◌<◌}
use native.Mathlib.Omega.{arith}
use native.Mathlib.Decide.{dec_lt, ℕ_discrete}
use mathlib.Core.Path.{◌≡◌, refl, sym, ap, ◌∙◌}
use mathlib.Core.Bool.{Bool, true, false, cond}
use mathlib.Core.List.{List}
use lib.Dec.{eqb, ltb}
use lib.IntN.{ℤ}
use lib.ListN.{length, get_or, replicate}
use borrow.Author.Tests.{eq-eqb, ne_eqb, lt-ltb, le-ltb}
use Rattle.mesh.specs.Picture.{row_words}
use Rattle.table.specs.Words.{free_at}
use Rattle.free.specs.FreeMap.{bit, map_bit, switched, Kept, Mapped}
use Rattle.free.proofs.MapBits.{bit-of-zero}
use Rattle.free.proofs.Switching.{total-none, mapped-same}
use Rattle.free.proofs.FreeRows.{free-within}

-- ---- the empty map

zeros : (k n : ℕ) → ◌≡◌ {A = ℕ} (get_or (replicate k 0) n 0) 0
zeros zero n = refl
zeros (suc k) zero = refl
zeros (suc k) (suc n) = zeros k n

empty-bit : (n : ℕ) → map_bit (replicate 64 0) n ≡ 0
unfolding map_bit
empty-bit n = ap (λ (x : ℕ). bit x (n % 64)) (zeros 64 (n / 64)) ∙ bit-of-zero (n % 64)

pub empty-kept : Kept (replicate 64 0) 0
empty-kept = record { long = refl; none = empty-bit 0; tops = λ w l. bit-of-zero w ∙ ap (λ (x : ℕ). cond (eqb x 0) 0 1) (sym (zeros 64 w)) }

empty-mapped : Mapped (λ n. false) (replicate 64 0) 0 0
empty-mapped = record {
  kept = empty-kept;
  maps = record { each = λ n l. empty-bit n };
  counts = sym (total-none 4096);
}

-- ---- row by row, from the last to the first

-- those of f from n on
pub from : ℕ → (ℕ → Bool) → ℕ → Bool
from n f k = cond (ltb k n) false (f k)

-- none lies past the capacity
pub load-start : (t : List ℤ) (cap : ℕ) → length t ≡ row_words * (cap + 1) → Mapped (from (cap + 1) (free_at t)) (replicate 64 0) 0 0
unfolding from
load-start t cap long = mapped-same empty-mapped (λ k l. go k (dec_lt k (cap + 1)))
  where
    go : (k : ℕ) → Dec (k < cap + 1) → false ≡ from (cap + 1) (free_at t) k
    go k (yes d) = rw (lt-ltb k (cap + 1) d)
    go k (no d) = rw (le-ltb k (cap + 1) (omega arith)) (sym (free-within t cap long k (omega arith)))

-- the next is n - 1
module _ {m : List ℕ} {top count : ℕ} (f : ℕ → Bool) (n : ℕ) (p : 0 < n) where
  -- its bit is not set yet
  pub load-bit : n ≤ 4096 → Mapped (from n f) m top count → map_bit m (n - 1) ≡ 0
  unfolding from
  load-bit l h = rw (lt-ltb (n - 1) n (omega arith)) at (h.maps.each (n - 1) (omega arith))

  pub load-free : f (n - 1) ≡ true → Mapped (switched (from n f) (n - 1) true) m top count → Mapped (from (n - 1) f) m top count
  unfolding from switched
  load-free e h = mapped-same h (λ k l. go k (ℕ_discrete k (n - 1)) (dec_lt k n))
    where
      go : (k : ℕ) → Dec (k ≡ n - 1) → Dec (k < n) → switched (from n f) (n - 1) true k ≡ from (n - 1) f k
      go k (yes q) d = rw (q, eq-eqb (n - 1) (n - 1) refl, le-ltb (n - 1) (n - 1) (omega arith)) (sym e)
      go k (no q) (yes d) = rw (ne_eqb k (n - 1) q, lt-ltb k n d, lt-ltb k (n - 1) (omega (arith, q)))
      go k (no q) (no d) = rw (ne_eqb k (n - 1) q, le-ltb k n (omega arith), le-ltb k (n - 1) (omega arith))

  pub load-taken : f (n - 1) ≡ false → Mapped (from n f) m top count → Mapped (from (n - 1) f) m top count
  unfolding from
  load-taken e h = mapped-same h (λ k l. go k (ℕ_discrete k (n - 1)) (dec_lt k n))
    where
      go : (k : ℕ) → Dec (k ≡ n - 1) → Dec (k < n) → from n f k ≡ from (n - 1) f k
      go k (yes q) d = rw (q, le-ltb (n - 1) (n - 1) (omega arith), lt-ltb (n - 1) n (omega arith)) (sym e)
      go k (no q) (yes d) = rw (lt-ltb k n d, lt-ltb k (n - 1) (omega (arith, q)))
      go k (no q) (no d) = rw (le-ltb k n (omega arith), le-ltb k (n - 1) (omega arith))

-- the number 0 is not free
pub load-end : {m : List ℕ} {top count : ℕ} (f : ℕ → Bool) (n : ℕ) → f 0 ≡ false → n ≤ 1 → Mapped (from n f) m top count → Mapped f m top count
unfolding from
load-end f n nil l h = mapped-same h (λ k i. go k (dec_lt k n))
  where
    go : (k : ℕ) → Dec (k < n) → from n f k ≡ f k
    go zero (yes d) = rw (lt-ltb 0 n d) (sym nil)
    go (suc k) (yes d) = absurd (omega arith)
    go k (no d) = rw (le-ltb k n (omega arith))
