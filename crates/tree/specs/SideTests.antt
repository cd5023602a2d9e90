-- The test of a row's neighbours in parts, as the functions take them: by its parent, and over the seam of a ring.
-- Assumes nothing.
use Rattle.std.specs.Prelude.{ℕ, ◌+◌, ◌-◌, ◌%◌, Bool, ◌&&◌, ◌||◌, cond, List, [], ◌∷◌, eqb, ℤ}
use Rattle.mesh.specs.Tools.{every}
use Rattle.mesh.specs.Place.{N, E, S, W}
use Rattle.mesh.specs.Picture.{east_word, i_word, j_word, north_word, parent_word, south_word, west_word}
use Rattle.table.specs.Words.{word_of, link_of, depth_of}
use Rattle.worked.specs.Worked.{side_of, down_to, side_by}

-- on level 0 of a ring of so many rows, in the first or the last row, or past it
abbrev pub on_seam : List ℤ → ℕ → ℕ → ℕ → Bool
on_seam t rows d n = eqb (depth_of t d n) d && (eqb (word_of t n j_word) 0 || (eqb (word_of t n j_word + 1) rows || eqb (word_of t n j_word) rows))

module _ (t : List ℤ) (cap : ℕ) where
  -- each neighbour is the one that the parent p and the digits l and m give
  unfoldable pub sides_by : ℕ → ℕ → ℕ → ℕ → Bool
  sides_by n p l m =
      every (
      eqb (word_of t n north_word) (side_by t cap p l m N) ∷
      eqb (word_of t n east_word) (side_by t cap p l m E) ∷
      eqb (word_of t n south_word) (side_by t cap p l m S) ∷
      eqb (word_of t n west_word) (side_by t cap p l m W) ∷
      [])

  -- and so by its own parent and digits
  abbrev pub sides_of : ℕ → Bool
  sides_of n =
      every (
      eqb (word_of t n north_word) (side_of t cap n N) ∷
      eqb (word_of t n east_word) (side_of t cap n E) ∷
      eqb (word_of t n south_word) (side_of t cap n S) ∷
      eqb (word_of t n west_word) (side_of t cap n W) ∷
      [])

  -- the rows north and south of the place with the indices i and j there, whose parent is p
  abbrev pub seam_north : ℕ → ℕ → ℕ → ℕ → ℕ → ℕ
  seam_north rows d p i j = cond (eqb (j + 1) rows) (down_to t cap d i 0) (side_by t cap p (i % 2) (j % 2) N)

  abbrev pub seam_south : ℕ → ℕ → ℕ → ℕ → ℕ → ℕ
  seam_south rows d p i j = cond (eqb j 0) (down_to t cap d i (rows - 1)) (cond (eqb j rows) 0 (side_by t cap p (i % 2) (j % 2) S))

  abbrev pub sides_over : ℕ → ℕ → ℕ → Bool
  sides_over rows d n =
      let p = link_of t cap n parent_word in
      let i = word_of t n i_word in
      let j = word_of t n j_word in
      every (
      eqb (word_of t n north_word) (seam_north rows d p i j) ∷
      eqb (word_of t n east_word) (side_by t cap p (i % 2) (j % 2) E) ∷
      eqb (word_of t n south_word) (seam_south rows d p i j) ∷
      eqb (word_of t n west_word) (side_by t cap p (i % 2) (j % 2) W) ∷
      [])
