-- Reading a linked table: a row's links are the numbers of the places around its own, its fields are the entry's, and its flags are the given
-- ones. The picture of a state is the linked table with the flags that the entries make.
-- Assumes nothing.
use Prim.Native.Nat.{ℕ, ◌+◌, ◌*◌, ◌<◌}
use native.Mathlib.Omega.{arith}
use mathlib.Core.Path.{◌≡◌, refl, sym, ap, ◌∙◌}
use mathlib.Core.Logic.{inr}
use mathlib.Core.Option.{none, some}
use mathlib.Core.List.{List, map}
use lib.IntN.{ℤ, pos}
use lib.ListN.{length, get_or, length-map, get_or-append, get_or-map}
use lib.Seq.{get_or-append-add}
use Rattle.number_laws.specs.Numbered.{Numbered}
use Rattle.mesh.specs.Place.{Place, Grid, level, around}
use Rattle.mesh.specs.State.{State, Entry, nil, free, used, status, place_of, cell_of, value_of, entry, number_of, grid_of, contents}
use Rattle.mesh.specs.Picture.{row_words, field_words, fields, row_of, table}
use Rattle.number_laws.proofs.Entries.{place-used}
use Rattle.number_laws.proofs.NumberedPlaces.{entry-contents}
use Rattle.picture_laws.proofs.Rows.{Even, map-even, length-flat, get_d-flat, get_d-repeated, table-length, table-word}
use Rattle.table.specs.Words.{code, word_of}
use Rattle.table.specs.Writes.{free_row, nil_row}
use Rattle.edit_laws.specs.Linked.{Flags, fields_with, row_with, table_with, flags_of}
use Rattle.edit_laws.proofs.Slots.{word, settled}

-- ---- rows

module _ (g : Grid) (es : List Entry) (f : Flags) where
  pub row-length : (e : Entry) → length (row_with g es f e) ≡ row_words
  unfolding row_with around fields_with
  row-length nil = refl
  row-length free = refl
  row-length (used p x) = refl

  pub row-nil : row_with g es f nil ≡ nil_row
  unfolding row_with around fields_with
  row-nil = refl

  nil-words : (w : ℕ) → get_or (row_with g es f nil) w (pos 0) ≡ pos 0
  nil-words w = ap (λ (r : List ℤ). get_or r w (pos 0)) row-nil ∙ get_d-repeated (pos 0) row_words w

  pub row-free : row_with g es f free ≡ free_row
  unfolding row_with around fields_with
  row-free = refl

  row-link : (e : Entry) (w : ℕ) → w < 9 → get_or (row_with g es f e) w (pos 0) ≡ pos (number_of es (get_or (around g (place_of e)) w none))
  unfolding row_with around
  row-link e w l =
      get_or-append (map (λ o. pos (number_of es o)) (around g (place_of e))) (fields_with g f e) (pos 0) w l
      ∙ get_or-map (λ o. pos (number_of es o)) (around g (place_of e)) w none

  row_field : (e : Entry) (j : ℕ) → get_or (row_with g es f e) (9 + j) (pos 0) ≡ get_or (fields_with g f e) j (pos 0)
  unfolding row_with around
  row_field e j = get_or-append-add (map (λ o. pos (number_of es o)) (around g (place_of e))) (fields_with g f e) j (pos 0)

  -- ---- the table's words

  rows-even : Even row_words (map (row_with g es f) es)
  rows-even = map-even row_words (row_with g es f) row-length es

  pub linked-length : length (table_with g es f) ≡ length es * row_words
  unfolding table_with
  linked-length = length-flat row_words (map (row_with g es f) es) rows-even ∙ rw length-map

  -- past the last row every word is 0, as in the nil patch's row
  pub linked-word : (n w : ℕ) → w < row_words → word (table_with g es f) n w ≡ get_or (row_with g es f (entry es n)) w (pos 0)
  unfolding table_with
  linked-word n w l =
      get_d-flat row_words (pos 0) (map (row_with g es f) es) rows-even n w l (row_with g es f nil) (nil-words w)
      ∙ ap (λ (x : List ℤ). get_or x w (pos 0)) (get_or-map (row_with g es f) es n nil)

  pub word-link : (n w : ℕ) → w < 9 → word (table_with g es f) n w ≡ pos (number_of es (get_or (around g (place_of (entry es n))) w none))
  word-link n w l = linked-word n w (omega arith) ∙ row-link (entry es n) w l

  pub number-of : (n w : ℕ) → w < 9 → word_of (table_with g es f) n w ≡ number_of es (get_or (around g (place_of (entry es n))) w none)
  unfolding word_of
  number-of n w l = ap code (word-link n w l)

  pub word-field : (n j : ℕ) → j < 5 → word (table_with g es f) n (9 + j) ≡ get_or (fields_with g f (entry es n)) j (pos 0)
  word-field n j l = linked-word n (9 + j) (omega arith) ∙ row_field (entry es n) j

  -- ---- a row in use

  module _ (n : ℕ) (p : Place) (h : place_of (entry es n) ≡ some p) where
    field : (j : ℕ) → j < 5 → word (table_with g es f) n (9 + j) ≡ get_or (field_words (level g p) p.i p.j (f p) (status (value_of (entry es n)))) j (pos 0)
    unfolding fields_with
    field j l = word-field n j l ∙ ap (λ (e : Entry). get_or (fields_with g f e) j (pos 0)) (place-used (entry es n) p h)

    pub word-level : word (table_with g es f) n 9 ≡ level g p
    word-level = field 0 (omega arith)

    pub word-i : word (table_with g es f) n 10 ≡ pos p.i
    word-i = field 1 (omega arith)

    pub word-j : word (table_with g es f) n 11 ≡ pos p.j
    word-j = field 2 (omega arith)

    pub word_flags : word (table_with g es f) n 12 ≡ pos (f p)
    word_flags = field 3 (omega arith)

    pub word-status : word (table_with g es f) n 13 ≡ pos (status (value_of (entry es n)))
    word-status = field 4 (omega arith)

    -- as numbers

    pub i-of : word_of (table_with g es f) n 10 ≡ p.i
    unfolding word_of
    i-of = ap code word-i

    pub j-of : word_of (table_with g es f) n 11 ≡ p.j
    unfolding word_of
    j-of = ap code word-j

    pub flags-of : word_of (table_with g es f) n 12 ≡ f p
    unfolding word_of
    flags-of = ap code word_flags

  -- ---- a row that is not

  pub word-free : (n w : ℕ) → w < row_words → entry es n ≡ free → word (table_with g es f) n w ≡ get_or free_row w (pos 0)
  word-free n w l h = linked-word n w l ∙ ap (λ (e : Entry). get_or (row_with g es f e) w (pos 0)) h ∙ ap (λ (r : List ℤ). get_or r w (pos 0)) row-free

  pub word-nil : (n w : ℕ) → w < row_words → entry es n ≡ nil → word (table_with g es f) n w ≡ pos 0
  word-nil n w l h = linked-word n w l ∙ ap (λ (e : Entry). get_or (row_with g es f e) w (pos 0)) h ∙ nil-words w

-- ---- the picture of a state

same_row : (g : Grid) (es : List Entry) (e : Entry) → ((p : Place) → place_of e ≡ some p → contents es p ≡ cell_of e) → row_of g es e ≡ row_with g es (flags_of g es) e
unfolding row_of row_with fields fields_with flags_of
same_row g es nil h = refl
same_row g es free h = refl
same_row g es (used p x) h = rw (h p refl)

pub picture-linked : (s : State) → Numbered s.entries → table s ≡ table_with (grid_of s) s.entries (flags_of (grid_of s) s.entries)
picture-linked s u = settled (record { long = table-length s ∙ sym (linked-length g es (flags_of g es)); apart = λ n w l. inr (table-word s n w l ∙ ap (λ (r : List ℤ). get_or r w (pos 0)) (row n) ∙ sym (linked-word g es (flags_of g es) n w l)) })
  where
    g : Grid
    g = grid_of s

    es : List Entry
    es = s.entries

    row : (n : ℕ) → row_of g es (entry es n) ≡ row_with g es (flags_of g es) (entry es n)
    row n = same_row g es (entry es n) (λ p h. entry-contents es u n p (cell_of (entry es n)) (place-used (entry es n) p h))
