-- What the words of a row say where the table is a state's picture: a link is the number of the place around the row's own that the word is for,
-- and the fields are the place's, the flags' and the value's.
-- Assumes nothing.
use Prim.Native.Nat.{ℕ, zero, suc, ◌+◌, ◌*◌, ◌/◌, ◌%◌, ◌^◌, ◌≤◌, ◌<◌}
use native.Mathlib.Nat.{pow-zero, pow-succ', div-one, zero-div, div-div-eq-div-mul}
use native.Mathlib.Omega.{arith}
use native.Mathlib.Decide.{ℕ_discrete}
use mathlib.Core.Path.{◌≡◌, refl, ap, ◌∙◌}
use mathlib.Core.Bool.{Bool, true, false}
use mathlib.Core.Option.{Option, none, some}
use mathlib.Core.List.{List, [], ◌∷◌}
use lib.Dec.{eqb, leb, lit<}
use lib.IntN.{pos}
use lib.ListN.{get_or, replicate, get_or-append}
use borrow.Author.Tests.{le-leb, ne_eqb}
use Rattle.mesh.specs.Tools.{digits}
use Rattle.mesh.specs.Place.{Place, Grid, base, level, around}
use Rattle.mesh.specs.Mesh.{derived, flags}
use Rattle.mesh.specs.State.{State, Entry, nil, free, used, place_of, cell_of, is_sentenced, value_of, amount, entry, cells, number, number_of, grid_of, capacity}
use Rattle.mesh.specs.Picture.{row_words, status_word, fields, row_of, table, amounts}
use Rattle.table.specs.Words.{code, word_of, link_of, flag_of, depth_of}
use Rattle.carried.specs.Carried.{carried_of, carried_for}
use Rattle.carried.specs.declared.Carried.{Carried}
use Rattle.table.proofs.LinkRanges.{depth-back}
use Rattle.number_laws.proofs.Entries.{place-used, in_list}
use Rattle.number_laws.proofs.NumberedPlaces.{number-place}
use Rattle.picture_laws.proofs.Rows.{table-word, amounts-at, nil-word, get_d-repeated}
use Rattle.picture_laws.proofs.Decoding.{low_digit, high-digits}
use Rattle.picture_laws.proofs.Links.{row-link}

-- ---- numbers

-- the binary digit k of a number
pub digit_at : (bs : List Bool) (k : ℕ) → eqb (digits bs / 2 ^ k % 2) 1 ≡ get_or bs k false
digit_at [] k = rw zero-div refl
digit_at (b ∷ bs) zero = rw (pow-zero, div-one) (low_digit b (digits bs))
digit_at (b ∷ bs) (suc k) = rw (pow-succ', ← div-div-eq-div-mul, high-digits b (digits bs)) (digit_at bs k)

-- ---- the words of a row

module _ (s : State) where
  abbrev g : Grid
  g = grid_of s

  abbrev es : List Entry
  es = s.entries

  abbrev c : Place → Bool
  c = cells s.entries

  word-of : (n w : ℕ) → w < row_words → word_of (table s) n w ≡ code (get_or (row_of g es (entry es n)) w (pos 0))
  unfolding word_of
  word-of n w l = ap code (table-word s n w l)

  -- the parent, the kids and the neighbours
  pub word-link : (n w : ℕ) → w < 9 → word_of (table s) n w ≡ number_of es (get_or (around g (place_of (entry es n))) w none)
  word-link n w l = word-of n w (omega arith) ∙ ap code (row-link g es (entry es n) w l)

  -- numbers are at most the capacity
  pub number-le : (o : Option Place) → number_of es o ≤ capacity s
  number-le none = omega arith
  number-le (some p) = go (ℕ_discrete (number es p) 0)
    where
      go : Dec (number es p ≡ 0) → number es p ≤ capacity s
      go (yes z) = omega arith
      go (no z) = omega (arith, in_list es (number es p) p (number-place es p z))

  pub link-word : (n w : ℕ) → w < 9 → link_of (table s) (capacity s) n w ≡ word_of (table s) n w
  unfolding link_of
  link-word n w l =
      let h : leb (word_of (table s) n w) (capacity s) ≡ true = le-leb (word_of (table s) n w) (capacity s) (rw (word-link n w l) (number-le (get_or (around g (place_of (entry es n))) w none))) in
      rw h

  pub link-number : (n w : ℕ) → w < 9 → link_of (table s) (capacity s) n w ≡ number_of es (get_or (around g (place_of (entry es n))) w none)
  link-number n w l = link-word n w l ∙ word-link n w l

  -- ---- the fields

  -- what every row carries
  pub carried-there : (n : ℕ) → carried_of (table s) (amounts s) n ≡ carried_for (value_of (entry es n))
  unfolding carried_of row_of around fields
  carried-there n = rw (table-word s n status_word (lit< tt), amounts-at s n) (go (entry es n))
    where
      go : (e : Entry) → ◌≡◌ {A = Carried} (record { status = get_or (row_of g es e) status_word (pos 0); value = amount (value_of e) }) (carried_for (value_of e))
      go nil = refl
      go free = refl
      go (used p x) = refl

  -- a free row has flags 8192, and the words before them are 0
  pub free-flags : (n : ℕ) → entry es n ≡ free → word_of (table s) n 12 ≡ 8192
  unfolding row_of around fields
  free-flags n h = word-of n 12 (lit< tt) ∙ ap (λ (e : Entry). code (get_or (row_of g es e) 12 (pos 0))) h

  pub free-words : (n w : ℕ) → entry es n ≡ free → w < 12 → word_of (table s) n w ≡ 0
  unfolding row_of around fields
  free-words n w h l =
      word-of n w (omega arith)
      ∙ ap (λ (e : Entry). code (get_or (row_of g es e) w (pos 0))) h
      ∙ ap code (get_or-append (replicate 12 (pos 0)) (pos 8192 ∷ pos 0 ∷ []) (pos 0) w l ∙ get_d-repeated (pos 0) 12 w)

  -- the nil patch's row is all 0
  pub nil-words : (n w : ℕ) → entry es n ≡ nil → w < row_words → word_of (table s) n w ≡ 0
  nil-words n w h l =
      word-of n w l
      ∙ ap (λ (e : Entry). code (get_or (row_of g es e) w (pos 0))) h
      ∙ ap code (nil-word g es w)

  module _ (n : ℕ) (p : Place) (h : place_of (entry es n) ≡ some p) where
    patch-word : (w : ℕ) → w < row_words → word_of (table s) n w ≡ code (get_or (row_of g es (used p (cell_of (entry es n)))) w (pos 0))
    patch-word w l = word-of n w l ∙ ap (λ (e : Entry). code (get_or (row_of g es e) w (pos 0))) (place-used (entry es n) p h)

    pub word-i : word_of (table s) n 10 ≡ p.i
    unfolding row_of around fields
    word-i = patch-word 10 (lit< tt)

    pub word-j : word_of (table s) n 11 ≡ p.j
    unfolding row_of around fields
    word-j = patch-word 11 (lit< tt)

    pub word_flags : word_of (table s) n 12 ≡ digits (flags g c p (is_sentenced (entry es n)))
    unfolding row_of around fields
    word_flags = patch-word 12 (lit< tt)

    -- the level's word itself
    pub level-word : get_or (table s) (n * row_words + 9) (pos 0) ≡ level g p
    unfolding row_of around fields
    level-word = table-word s n 9 (lit< tt) ∙ ap (λ (e : Entry). get_or (row_of g es e) 9 (pos 0)) (place-used (entry es n) p h)

    word-level : word_of (table s) n 9 ≡ code (level g p)
    unfolding word_of
    word-level = ap code level-word

    pub depth-within : base g ≤ 6 → p.depth ≤ base g + 12 → depth_of (table s) (base g) n ≡ p.depth
    unfolding depth_of level
    depth-within l b = rw word-level (depth-back (base g) p.depth (omega arith))

    pub flag-of : (k : ℕ) → flag_of (table s) k n ≡ get_or (flags g c p (is_sentenced (entry es n))) k false
    unfolding flag_of
    flag-of k = rw word_flags (digit_at (flags g c p (is_sentenced (entry es n))) k)

    pub sentenced-flag : flag_of (table s) 12 n ≡ is_sentenced (entry es n)
    unfolding flags derived
    sentenced-flag = flag-of 12

    -- a patch is not Dead, so its row is not a free row's
    pub patch-not-free : eqb (word_of (table s) n 12) 8192 ≡ false
    unfolding flag_of flags derived
    patch-not-free =
        ne_eqb (word_of (table s) n 12) 8192 (λ e.
        let dead : eqb (word_of (table s) n 12 / 2 ^ 13 % 2) 1 ≡ false = flag-of 13 in
        let alive : true ≡ false = rw e at dead in
        let z : ◌≡◌ {A = ℕ} 0 1 = cc in omega arith)
