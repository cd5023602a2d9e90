-- The test that a table is sound, row by row and by links: a constant amount of work for each row, and no search for a place. Each test takes what
-- it reads: the table t, its capacity, the depth d of level 0, the grid, the values v.
-- Assumes nothing.
use Rattle.std.specs.Prelude.{ℕ, zero, suc, ◌+◌, ◌/◌, ◌%◌, Bool, true, false, not, ◌&&◌, ◌||◌, cond, List, [], ◌∷◌, eqb, leb, ltb, ℤ, Float}
use Rattle.std.specs.Bool.{beq}
use Rattle.mesh.specs.Tools.{every, digits}
use Rattle.mesh.specs.Place.{Grid, in_rectangle, base, N, E, S, W}
use Rattle.mesh.specs.Valid.{finite}
use Rattle.mesh.specs.Mesh.{complete_bit, sentenced_bit}
use Rattle.mesh.specs.Picture.{east_word, flags_word, i_word, j_word, ne_word, north_word, nw_word, parent_word, se_word, south_word, sw_word, west_word}
use Rattle.table.specs.Words.{word_of, link_of, flag_of, free_at, depth_of}
use Rattle.carried.specs.Carried.{carried_of, is_blank, is_measured, is_carried_down, is_zero, is_nothing, same_value}
use Rattle.carried.specs.declared.Carried.{Carried}
use Rattle.worked.specs.Worked.{kid_word, side_in, kidless, touched_in, flags_from}

-- a test of the numbers below n, as a loop that counts up meets them
abbrev pub below : ℕ → (ℕ → Bool) → Bool
below zero f = true
below (suc n) f = below n f && f n

-- ---- rows without a patch

module _ (t : List ℤ) (v : List Float) where
  -- the words of the row but the flags are 0, and its value is +0
  unfoldable pub empty_ok : ℕ → Bool
  empty_ok n = below flags_word (λ w. eqb (word_of t n w) 0) && is_nothing (carried_of t v n)

  -- "row 0 is the nil patch: all words zero"
  unfoldable pub zero_ok : Bool
  zero_ok = empty_ok 0 && eqb (word_of t 0 flags_word) 0

-- ---- the place

-- "the root is number 1 with parent 0"
abbrev pub root_tests : List ℤ → ℕ → ℕ → List Bool
root_tests t d n = eqb (word_of t n parent_word) 0 ∷ eqb (depth_of t d n) 0 ∷ eqb (word_of t n i_word) 0 ∷ eqb (word_of t n j_word) 0 ∷ []

unfoldable pub root_ok : List ℤ → ℕ → ℕ → Bool
root_ok t d n = every (root_tests t d n)

module _ (t : List ℤ) (cap d : ℕ) where
  -- any other row has a parent in use one level up at the halved place, whose kid word at this corner names the row
  abbrev pub child_tests : ℕ → List Bool
  child_tests n =
      let p = link_of t cap n parent_word in
      not (eqb p 0) ∷
      eqb (word_of t n parent_word) p ∷
      not (free_at t p) ∷
      eqb (depth_of t d p + 1) (depth_of t d n) ∷
      eqb (word_of t p i_word) (word_of t n i_word / 2) ∷
      eqb (word_of t p j_word) (word_of t n j_word / 2) ∷
      eqb (word_of t p (kid_word (word_of t n i_word % 2) (word_of t n j_word % 2))) n ∷
      []

  unfoldable pub child_ok : ℕ → Bool
  child_ok n = every (child_tests n)

  unfoldable pub place_ok : ℕ → Bool
  place_ok n = leb (depth_of t d n) (d + 12) && cond (eqb n 1) (root_ok t d n) (child_ok n)

-- ---- kids and neighbours

-- a kid word is 0, or names a row k in use whose parent is this row and whose place ends in the kid's digits
abbrev pub kid_tests : List ℤ → ℕ → ℕ → ℕ → ℕ → List Bool
kid_tests t n l m k = not (free_at t k) ∷ eqb (word_of t k parent_word) n ∷ eqb (word_of t k i_word % 2) l ∷ eqb (word_of t k j_word % 2) m ∷ []

module _ (t : List ℤ) (cap : ℕ) where
  unfoldable pub kid_ok : ℕ → ℕ → ℕ → Bool
  kid_ok n l m = let k = link_of t cap n (kid_word l m) in eqb (word_of t n (kid_word l m)) k && (eqb k 0 || every (kid_tests t n l m k))

  abbrev pub kids_tests : ℕ → List Bool
  kids_tests n = kid_ok n 1 1 ∷ kid_ok n 1 0 ∷ kid_ok n 0 0 ∷ kid_ok n 0 1 ∷ []

  unfoldable pub kids_ok : ℕ → Bool
  kids_ok n = every (kids_tests n)

module _ (g : Grid) (t : List ℤ) (cap : ℕ) where
  -- each neighbour is the kid of the parent or of the parent's neighbour, but across the seam of level 0
  abbrev pub side_tests : ℕ → List Bool
  side_tests n =
      eqb (word_of t n north_word) (side_in g t cap n N) ∷
      eqb (word_of t n east_word) (side_in g t cap n E) ∷
      eqb (word_of t n south_word) (side_in g t cap n S) ∷
      eqb (word_of t n west_word) (side_in g t cap n W) ∷
      []

  unfoldable pub sides_ok : ℕ → Bool
  sides_ok n = every (side_tests n)

-- ---- ghosts, points and cells

module _ (t : List ℤ) (cap : ℕ) where
  -- "A ghost has flags 0"; one without a kid does not exist
  unfoldable pub ghost_ok : ℕ → Bool
  ghost_ok n = eqb (word_of t n flags_word) 0 && not (kidless t cap n)

  -- a cell stands, or none stands, under every kid's word
  abbrev pub kid_cell_tests : ℕ → Bool → List Bool
  kid_cell_tests n b =
      beq (flag_of t complete_bit (link_of t cap n ne_word)) b ∷
      beq (flag_of t complete_bit (link_of t cap n se_word)) b ∷
      beq (flag_of t complete_bit (link_of t cap n sw_word)) b ∷
      beq (flag_of t complete_bit (link_of t cap n nw_word)) b ∷
      []

  abbrev pub kid_cells_are : ℕ → Bool → Bool
  kid_cells_are n b = every (kid_cell_tests n b)

module _ (g : Grid) (t : List ℤ) (cap d : ℕ) where
  -- a cell of level 0 lies in the rectangle, and any other in a cell of the level below
  abbrev pub inside_ok : ℕ → Bool
  inside_ok n = cond (eqb (depth_of t d n) d) (in_rectangle g (word_of t n i_word) (word_of t n j_word)) (flag_of t complete_bit (link_of t cap n parent_word))

  -- a cell has its patches E, N and NE, lies inside, and its kids are four cells or none
  abbrev pub cell_tests : ℕ → List Bool
  cell_tests n =
      not (eqb (link_of t cap n east_word) 0) ∷
      not (eqb (link_of t cap n north_word) 0) ∷
      not (eqb (link_of t cap (link_of t cap n east_word) north_word) 0) ∷
      inside_ok n ∷
      (kid_cells_are t cap n true || kid_cells_are t cap n false) ∷
      []

  unfoldable pub cell_ok : ℕ → Bool
  cell_ok n = every (cell_tests n)

module _ (t : List ℤ) (cap d : ℕ) where
  -- "Sentenced may stand only on leaves above level 0"
  abbrev pub sentence_tests : ℕ → List Bool
  sentence_tests n = flag_of t complete_bit n ∷ not (eqb (depth_of t d n) d) ∷ kid_cells_are t cap n false ∷ []

  unfoldable pub sentence_ok : ℕ → Bool
  sentence_ok n = every (sentence_tests n)

module _ (g : Grid) (t : List ℤ) (cap d : ℕ) where
  -- a patch from level 0 up is touched by a cell
  abbrev pub point_tests : ℕ → List Bool
  point_tests n =
      touched_in t cap n ∷
      (not (flag_of t complete_bit n) || cell_ok g t cap d n) ∷
      (not (flag_of t sentenced_bit n) || sentence_ok t cap d n) ∷
      eqb (word_of t n flags_word) (digits (flags_from t cap d n (flag_of t sentenced_bit n))) ∷
      []

  unfoldable pub point_ok : ℕ → Bool
  point_ok n = every (point_tests n)

-- ---- values

module _ (t : List ℤ) (cap : ℕ) (v : List Float) where
  -- what the row's parent carries
  abbrev pub carried_above : ℕ → Carried
  carried_above n = carried_of t v (link_of t cap n parent_word)

  -- "status 0 has the bits of +0 .. a cell whose parent is not blank is not blank"
  unfoldable pub blank_ok : ℕ → Bool
  blank_ok n = is_zero (carried_of t v n) && (not (flag_of t complete_bit n) || is_blank (carried_above n))

  -- a carried cell's "parent is not blank, and the value bits are the parent's"
  abbrev pub carried_tests : ℕ → List Bool
  carried_tests n = is_carried_down (carried_of t v n) ∷ not (is_blank (carried_above n)) ∷ same_value (carried_above n) (carried_of t v n) ∷ []

  abbrev pub carried_ok : ℕ → Bool
  carried_ok n = every (carried_tests n)

  -- "only cells may have status 1 or 2, with a finite value"
  abbrev pub held_tests : ℕ → List Bool
  held_tests n = flag_of t complete_bit n ∷ finite (carried_of t v n).value ∷ (is_measured (carried_of t v n) || carried_ok n) ∷ []

  unfoldable pub held_ok : ℕ → Bool
  held_ok n = every (held_tests n)

  unfoldable pub value_ok : ℕ → Bool
  value_ok n = cond (is_blank (carried_of t v n)) (blank_ok n) (held_ok n)

-- ---- rows and the table

-- below level 0 a ghost, from there up a point
abbrev pub kind_ok : Grid → List ℤ → ℕ → ℕ → ℕ → Bool
kind_ok g t cap d n = cond (ltb (depth_of t d n) d) (ghost_ok t cap n) (point_ok g t cap d n)

module _ (g : Grid) (t : List ℤ) (cap : ℕ) (v : List Float) where
  abbrev pub used_tests : ℕ → List Bool
  used_tests n = place_ok t cap (base g) n ∷ sides_ok g t cap n ∷ kids_ok t cap n ∷ kind_ok g t cap (base g) n ∷ value_ok t cap v n ∷ []

  unfoldable pub used_ok : ℕ → Bool
  used_ok n = every (used_tests n)

  unfoldable pub row_ok : ℕ → Bool
  row_ok n = cond (free_at t n) (empty_ok t v n) (used_ok n)

  -- the nil patch, the root in use, and every row
  unfoldable pub rowwise : Bool
  rowwise = zero_ok t v && (not (free_at t 1) && below cap (λ k. row_ok (suc k)))
