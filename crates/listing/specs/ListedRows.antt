-- Which rows of a table a scan lists.
-- Assumes nothing.
use Rattle.std.specs.Prelude.{ℕ, ◌+◌, ◌*◌, Bool, ◌&&◌, ◌||◌, List, eqb, leb, get_or, ℤ, pos}
use Rattle.std.specs.Int.Signed.{le_z}
use Rattle.mesh.specs.Picture.{row_words, level_word}
use Rattle.mesh.specs.Mesh.{complete_bit, wall_h_bit, wall_v_bit}
use Rattle.table.specs.Words.{flag_of, depth_of}
use Rattle.walk.specs.WalkRows.{leaf_row}

-- "for levels from-level to to-level": the row's level is not below from
unfoldable pub from_level : List ℤ → ℤ → ℕ → Bool
from_level t from n = le_z from (get_or t (n * row_words + level_word) (pos 0))

module _ (t : List ℤ) (cap d : ℕ) where
  -- "1 patches, 2 cells, 3 leaves, 4 H-walls, 5 V-walls, 6 points (levels 0 up)"
  unfoldable pub listed_row : ℕ → ℕ → Bool
  listed_row k n =
      eqb k 1 ||
      ((eqb k 2 && flag_of t complete_bit n) ||
      ((eqb k 3 && leaf_row t cap n) ||
      ((eqb k 4 && flag_of t wall_h_bit n) ||
      ((eqb k 5 && flag_of t wall_v_bit n) ||
      (eqb k 6 && leb d (depth_of t d n))))))

  -- what a scan of the kind k lists from the level from on
  abbrev pub scans : ℤ → ℕ → ℕ → Bool
  scans from k n = from_level t from n && listed_row k n
