-- The leaf counts by the rows of a table: the place of a row, what a request moves by the rows before it, and the count of all rows.
-- Assumes nothing.
use Rattle.std.specs.Prelude.{ℕ, zero, suc, ◌+◌, ◌≤◌, ◌<◌, cond, List, [], ◌∷◌, map, ℤ, Float, length, get_or, replicate, ◌≡◌}
use Rattle.mesh.specs.LeafCounts.{count_places, count_place}
use Rattle.mesh.specs.Picture.{ne_word, se_word, sw_word, nw_word, level_word}
use Rattle.table.specs.Words.{word_of, link_of}
use Rattle.carried.specs.Carried.{carried_of, status_of, measured_as, passed_down}
use Rattle.carried.specs.declared.Carried.{Carried}
use Rattle.walk.specs.WalkRows.{leaf_row}
use Rattle.tally.specs.CountSteps.{more, Move}

-- "level l and status s at place 3l + s": of a level and of what a cell of it carries
abbrev pub place_for : ℕ → Carried → ℕ
place_for l x = count_place l (status_of x)

-- the level is below the last
abbrev pub LevelBelow : List ℤ → ℕ → Type 0
LevelBelow t n = word_of t n level_word < 12

module _ (t : List ℤ) (v : List Float) where
  unfoldable pub row_place : ℕ → ℕ
  row_place n = place_for (word_of t n level_word) (carried_of t v n)

  -- it is one of the 39
  pub record Placed (n : ℕ) : Type 0 where
    pub level : word_of t n level_word ≤ 12
    pub status : status_of (carried_of t v n) ≤ 2

  -- the places of the four kids, and that they are
  abbrev pub kid_places : ℕ → ℕ → List ℕ
  kid_places cap n = map (λ w. row_place (link_of t cap n w)) (ne_word ∷ se_word ∷ sw_word ∷ nw_word ∷ [])

  abbrev pub KidsPlaced : ℕ → ℕ → Type 0
  KidsPlaced cap n = (w : ℕ) → 1 ≤ w → w ≤ 4 → Placed (link_of t cap n w)

  -- ---- what a request moves

  -- "kids of a blank cell are blank, otherwise carried"
  abbrev pub refined_move : ℕ → Move
  refined_move n = record { into = place_for (word_of t n level_word + 1) (passed_down (carried_of t v n)); many = 4; from = row_place n ∷ [] }

  abbrev pub removed_move : ℕ → ℕ → Move
  removed_move cap n = record { into = row_place n; many = 1; from = kid_places cap n }

  abbrev pub killed_move : ℕ → Move
  killed_move n = record { into = row_place n; many = 0; from = row_place n ∷ [] }

  abbrev pub measured_move : ℕ → Float → Move
  measured_move n x = record { into = place_for (word_of t n level_word) (measured_as x); many = 1; from = row_place n ∷ [] }

  -- ---- all rows

  -- with the row n, if it is a leaf
  unfoldable pub with_row : ℕ → List ℕ → ℕ → List ℕ
  with_row cap c n = cond (leaf_row t cap n) (more c (row_place n) 1) c

  -- the rows 1 to k
  unfoldable pub row_counts : ℕ → ℕ → List ℕ
  row_counts cap zero = replicate count_places 0
  row_counts cap (suc k) = with_row cap (row_counts cap k) (suc k)

-- a list of the counts of not too many rows
pub record Roomy (c : List ℕ) : Type 0 where
  pub long : length c ≡ count_places
  pub small : (i : ℕ) → get_or c i 0 ≤ 4096

-- a build has that many leaves, blank, on level 0
unfoldable pub built_counts : ℕ → List ℕ
built_counts cells = cells ∷ replicate 38 0
