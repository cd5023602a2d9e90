-- A table is its rows, one after the other, each of the same length: its length, and reading and writing a word.
-- Assumes nothing.
use Prim.Native.Nat.{ℕ, zero, suc, ◌+◌, ◌*◌, ◌<◌}
use native.Mathlib.Nat.{zero-add, zero-mul, suc-mul, add_comm}
use native.Mathlib.Omega.{arith}
use mathlib.Core.Path.{◌≡◌, refl, sym, ap, ◌∙◌}
use mathlib.Core.List.{List, [], ◌∷◌, ◌++◌, map}
use lib.IntN.{ℤ, pos}
use lib.ListN.{length, get_or, set, length-append, length-map, replicate, get_or-append, get_or-map}
use lib.Seq.{get_or-append-add, set-append_left}
use Rattle.mesh.specs.Tools.{flat}
use Rattle.mesh.specs.Place.{Grid, around}
use Rattle.mesh.specs.State.{State, Entry, nil, free, used, plus_zero, amount, value_of, entry, grid_of}
use Rattle.mesh.specs.Picture.{row_words, fields, row_of, table, amounts}

-- ---- rows of one length, one after the other

module _ {A : Type 0} (m : ℕ) where
  -- every row has m words
  abbrev pub Even : List (List A) → Type 0
  Even [] = Unit {0}
  Even (x ∷ xs) = (length x ≡ m) × Even xs

  pub map-even : {B : Type 0} (f : B → List A) → ((b : B) → length (f b) ≡ m) → (bs : List B) → Even (map f bs)
  map-even f h [] = tt
  map-even f h (b ∷ bs) = (h b, map-even f h bs)

  pub length-flat : (xs : List (List A)) → Even xs → length (flat xs) ≡ length xs * m
  length-flat [] h = sym (zero-mul m)
  length-flat (x ∷ xs) h = length-append x (flat xs) ∙ rw (h.0, length-flat xs h.1, suc-mul) (add_comm m (length xs * m))

  -- where the word w of the row after the first r rows of the rest stands
  next_row : (x : List A) → length x ≡ m → (r w : ℕ) → suc r * m + w ≡ length x + (r * m + w)
  next_row x h r w = rw (suc-mul, h) (omega arith)

  -- the word w of the row r; past the last row every word is d
  pub get_d-flat : (d : A) (xs : List (List A)) → Even xs → (r w : ℕ) → w < m → (y : List A) → get_or y w d ≡ d → get_or (flat xs) (r * m + w) d ≡ get_or (get_or xs r y) w d
  get_d-flat d [] h r w l y e = sym e
  get_d-flat d (x ∷ xs) h zero w l y e = rw (zero-mul, zero-add) (get_or-append x (flat xs) d w (rw h.0 l))
  get_d-flat d (x ∷ xs) h (suc r) w l y e =
      ap (λ (k : ℕ). get_or (x ++ flat xs) k d) (next_row x h.0 r w)
      ∙ get_or-append-add x (flat xs) (r * m + w) d
      ∙ get_d-flat d xs h.1 r w l y e

  set-append-add : (xs ys : List A) (n : ℕ) (a : A) → set (xs ++ ys) (length xs + n) a ≡ xs ++ set ys n a
  set-append-add [] ys n a = rw zero-add
  set-append-add (x ∷ xs) ys n a =
      let e : suc (length xs) + n ≡ suc (length xs + n) = omega arith in
      rw (e, set-append-add xs ys n a)

  -- to write a word is to write it in its row
  pub set-flat : (xs : List (List A)) → Even xs → (r w : ℕ) → w < m → (a : A) (y : List A) → set (flat xs) (r * m + w) a ≡ flat (set xs r (set (get_or xs r y) w a))
  set-flat [] h r w l a y = refl
  set-flat (x ∷ xs) h zero w l a y = rw (zero-mul, zero-add) (set-append_left x (flat xs) w a (rw h.0 l))
  set-flat (x ∷ xs) h (suc r) w l a y =
      ap (λ (k : ℕ). set (x ++ flat xs) k a) (next_row x h.0 r w)
      ∙ set-append-add x (flat xs) (r * m + w) a
      ∙ ap (λ (ys : List A). x ++ ys) (set-flat xs h.1 r w l a y)

pub get_d-repeated : {A : Type 0} (a : A) (n w : ℕ) → get_or (replicate n a) w a ≡ a
get_d-repeated a zero w = refl
get_d-repeated a (suc n) zero = refl
get_d-repeated a (suc n) (suc w) = get_d-repeated a n w

-- ---- a state's rows

pub row-length : (g : Grid) (es : List Entry) (e : Entry) → length (row_of g es e) ≡ row_words
unfolding row_of around fields
row-length g es nil = refl
row-length g es free = refl
row-length g es (used p x) = refl

-- the nil patch's row, which every number past the last one has too
pub nil-word : (g : Grid) (es : List Entry) (w : ℕ) → get_or (row_of g es nil) w (pos 0) ≡ pos 0
unfolding row_of around fields
nil-word g es w = get_d-repeated (pos 0) row_words w

module _ (s : State) where
  rows-even : Even row_words (map (row_of (grid_of s) s.entries) s.entries)
  rows-even = map-even row_words (row_of (grid_of s) s.entries) (row-length (grid_of s) s.entries) s.entries

  pub table-length : length (table s) ≡ length s.entries * row_words
  unfolding table
  table-length = length-flat row_words (map (row_of (grid_of s) s.entries) s.entries) rows-even ∙ rw length-map

  pub amounts-length : length (amounts s) ≡ length s.entries
  unfolding amounts
  amounts-length = length-map s.entries (λ e. amount (value_of e))

  pub amounts-at : (n : ℕ) → get_or (amounts s) n plus_zero ≡ amount (value_of (entry s.entries n))
  unfolding amounts
  amounts-at n = get_or-map (λ e. amount (value_of e)) s.entries n nil

  -- the word w of the row of number n
  pub table-word : (n w : ℕ) → w < row_words → get_or (table s) (n * row_words + w) (pos 0) ≡ get_or (row_of (grid_of s) s.entries (entry s.entries n)) w (pos 0)
  unfolding table
  table-word n w l =
      get_d-flat row_words (pos 0) (map (row_of (grid_of s) s.entries) s.entries) rows-even n w l (row_of (grid_of s) s.entries nil) (nil-word (grid_of s) s.entries w)
      ∙ ap (λ (x : List ℤ). get_or x w (pos 0)) (get_or-map (row_of (grid_of s) s.entries) s.entries n nil)
