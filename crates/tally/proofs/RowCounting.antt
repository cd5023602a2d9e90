-- The rows counted one after the other: on a picture the counts of the state, and on any table not too many for 32 bits.
-- Assumes nothing.
use Prim.Native.Nat.{ℕ, zero, suc, ◌+◌, ◌≤◌, ◌<◌}
use native.Mathlib.Omega.{arith}
use native.Mathlib.Decide.{dec_lt}
use mathlib.Core.Path.{◌≡◌, refl, sym, ap, ◌∙◌}
use mathlib.Core.Bool.{Bool, true, false, ◌&&◌, cond, and-true, and-false}
use mathlib.Core.Option.{none, some}
use mathlib.Core.List.{List, [], ◌∷◌}
use lib.Dec.{eqb}
use lib.IntN.{ℤ}
use lib.Ieee.{Float}
use lib.ListN.{length, get_or, replicate, get_or-replicate, length-replicate, get_or-eq_default}
use Rattle.mesh.specs.Tools.{count}
use Rattle.mesh.specs.Place.{base}
use Rattle.mesh.specs.Mesh.{leaf}
use Rattle.mesh.specs.State.{State, Entry, nil, free, used, status, place_of, is_cell, entry, cells, grid_of, capacity}
use Rattle.mesh.specs.Valid.{Valid}
use Rattle.mesh.specs.Picture.{table, amounts}
use Rattle.mesh.specs.LeafCounts.{count_places, count_place, is_counted, leaf_count, leaf_counts}
use Rattle.walk.specs.WalkRows.{leaf_row}
use Rattle.table_laws.proofs.KidRows.{cell_row, leaf-row}
use Rattle.tally_laws.proofs.Listed.{counts-are}
use Rattle.tally.specs.CountSteps.{more}
use Rattle.tally.specs.TallyRows.{row_place, with_row, row_counts, Roomy}
use Rattle.tally.proofs.CountLaws.{more-at, more-past, more-length}
use Rattle.tally.proofs.PicturedPlaces.{row-placed, row-spot, place_inside}

-- ---- how many of the numbers below n pass

abbrev passing : (ℕ → Bool) → ℕ → ℕ
passing f zero = 0
passing f (suc n) = passing f n + cond (f n) 1 0

passing-first : (f : ℕ → Bool) (n : ℕ) → passing f (suc n) ≡ cond (f 0) 1 0 + passing (λ i. f (suc i)) n
passing-first f zero = omega arith
passing-first f (suc n) = omega (arith, passing-first f n)

count-passing : {A : Type 0} (f : A → Bool) (d : A) (xs : List A) → count f xs ≡ passing (λ n. f (get_or xs n d)) (length xs)
count-passing f d [] = refl
count-passing f d (x ∷ xs) = omega (arith, count-passing f d xs, passing-first (λ n. f (get_or (x ∷ xs) n d)) (length xs))

-- ---- any table

module _ (t : List ℤ) (v : List Float) (cap : ℕ) where
  pub rows_long : (k : ℕ) → length (row_counts t v cap k) ≡ count_places
  unfolding row_counts with_row
  rows_long zero = length-replicate {A = ℕ} count_places 0
  rows_long (suc k) = go (leaf_row t cap (suc k)) (rows_long k)
    where
      go : (b : Bool) → length (row_counts t v cap k) ≡ count_places → length (cond b (more (row_counts t v cap k) (row_place t v (suc k)) 1) (row_counts t v cap k)) ≡ count_places
      go true ih = more-length (row_counts t v cap k) (row_place t v (suc k)) 1 ∙ ih
      go false ih = ih

  -- a row counts once at most
  at_most : (k j : ℕ) → get_or (row_counts t v cap k) j 0 ≤ k
  unfolding row_counts with_row
  at_most zero j = go (dec_lt j count_places)
    where
      go : Dec (j < count_places) → get_or (replicate count_places 0) j 0 ≤ 0
      go (yes l) = omega (arith, get_or-replicate {A = ℕ} count_places j 0 0 l)
      go (no l) = omega (arith, get_or-eq_default {A = ℕ} (replicate count_places 0) 0 {n = j} (omega (arith, length-replicate {A = ℕ} count_places 0)))
  at_most (suc k) j = go (leaf_row t cap (suc k)) (dec_lt (row_place t v (suc k)) count_places) (at_most k j)
    where
      one : (b : Bool) → cond {A = ℕ} b 1 0 ≤ 1
      one true = omega arith
      one false = omega arith

      go : (b : Bool) → Dec (row_place t v (suc k) < count_places) → get_or (row_counts t v cap k) j 0 ≤ k → get_or (cond b (more (row_counts t v cap k) (row_place t v (suc k)) 1) (row_counts t v cap k)) j 0 ≤ suc k
      go true (yes l) ih = omega (arith, ih, more-at (row_counts t v cap k) (row_place t v (suc k)) 1 j (omega (arith, rows_long k)), one (eqb j (row_place t v (suc k))))
      go true (no l) ih = omega (arith, ih, more-past (row_counts t v cap k) (row_place t v (suc k)) 1 j (omega (arith, rows_long k)))
      go false l ih = omega (arith, ih)

  pub rows-roomy : (k : ℕ) → k ≤ 4095 → Roomy (row_counts t v cap k)
  rows-roomy k few = record { long = rows_long k; small = λ i. omega (arith, at_most k i) }

-- ---- a picture

module _ (s : State) (v : Valid s) (l k : ℕ) (few : k ≤ 2) where
  abbrev t : List ℤ
  t = table s

  abbrev u : List Float
  u = amounts s

  abbrev here : ℕ → Bool
  here n = is_counted (grid_of s) (cells s.entries) l k (entry s.entries n)

  no_cell : (n : ℕ) → is_cell (entry s.entries n) ≡ false → leaf_row t (capacity s) n ≡ false
  unfolding leaf_row
  no_cell n e = rw (cell_row s v n, e)

  -- a row more
  row-adds : (c : List ℕ) → length c ≡ count_places → (n : ℕ) → get_or (with_row t u (capacity s) c n) (count_place l k) 0 ≡ get_or c (count_place l k) 0 + cond (here n) 1 0
  unfolding with_row
  row-adds c long n = go (entry s.entries n) refl
    where
      other : leaf_row t (capacity s) n ≡ false → (b : Bool) → b ≡ false → get_or (cond (leaf_row t (capacity s) n) (more c (row_place t u n) 1) c) (count_place l k) 0 ≡ get_or c (count_place l k) 0 + cond b 1 0
      other e b f = rw (e, f) (omega arith)

      go : (e : Entry) → entry s.entries n ≡ e → get_or (cond (leaf_row t (capacity s) n) (more c (row_place t u n) 1) c) (count_place l k) 0 ≡ get_or c (count_place l k) 0 + cond (is_counted (grid_of s) (cells s.entries) l k e) 1 0
      go nil e = other (no_cell n (ap is_cell e)) false refl
      go free e = other (no_cell n (ap is_cell e)) false refl
      go (used p none) e = other (no_cell n (ap is_cell e)) false refl
      go (used p (some x)) e = leafy (leaf (grid_of s) (cells s.entries) p) refl
        where
          leafy : (b : Bool) → leaf (grid_of s) (cells s.entries) p ≡ b → get_or (cond (leaf_row t (capacity s) n) (more c (row_place t u n) 1) c) (count_place l k) 0 ≡ get_or c (count_place l k) 0 + cond (is_counted (grid_of s) (cells s.entries) l k (used p (some x))) 1 0
          leafy false f = other (leaf-row s v n p (ap place_of e) ∙ f) (is_counted (grid_of s) (cells s.entries) l k (used p (some x))) (rw f (and-false (eqb p.depth (base (grid_of s) + l) && eqb (status x.value) k)))
          leafy true f =
              let p-in = row-placed s v n p x e in
              rw (leaf-row s v n p (ap place_of e), f, and-true (eqb p.depth (base (grid_of s) + l) && eqb (status x.value) k))
              (more-at c (row_place t u n) 1 (count_place l k) (rw long (place_inside s n p-in))
              ∙ ap (λ (a : ℕ). get_or c (count_place l k) 0 + a) (row-spot s v n p x e l k few))

  rows_at : (n : ℕ) → l ≤ 12 → get_or (row_counts t u (capacity s) n) (count_place l k) 0 ≡ passing here (suc n)
  unfolding row_counts
  rows_at zero low =
      let a : get_or (row_counts t u (capacity s) 0) (count_place l k) 0 ≡ 0 = get_or-replicate {A = ℕ} count_places (count_place l k) 0 0 (omega arith) in
      let b : cond {A = ℕ} (here 0) 1 0 ≡ 0 = ap (λ (e : Entry). cond {A = ℕ} (is_counted (grid_of s) (cells s.entries) l k e) 1 0) v.zeroth in
      omega (arith, a, b)
  rows_at (suc n) low = row-adds (row_counts t u (capacity s) n) (rows_long t u (capacity s) n) (suc n) ∙ ap (λ (a : ℕ). a + cond (here (suc n)) 1 0) (rows_at n low)

  rows-count : l ≤ 12 → get_or (row_counts t u (capacity s) (capacity s)) (count_place l k) 0 ≡ leaf_count s l k
  unfolding leaf_count
  rows-count low =
      let long : length s.entries ≡ suc (capacity s) = omega (arith, v.sizes.0) in
      rows_at (capacity s) low ∙ sym (count-passing (is_counted (grid_of s) (cells s.entries) l k) nil s.entries ∙ ap (passing here) long)

pub rows-counted : (s : State) → Valid s → row_counts (table s) (amounts s) (capacity s) (capacity s) ≡ leaf_counts s
rows-counted s v = counts-are s (row_counts (table s) (amounts s) (capacity s) (capacity s)) (rows_long (table s) (amounts s) (capacity s) (capacity s)) (λ l k a b. rows-count s v l k b a)
