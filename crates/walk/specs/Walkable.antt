-- A table that was checked, as a walk reads it: plain, row 0 has no kids, and every level is one of the table's.
-- Assumes nothing.
use Rattle.std.specs.Prelude.{ℕ, ◌+◌, ◌≤◌, ◌<◌, ◌≡◌, List, ℤ}
use Rattle.mesh.specs.Picture.{north_word}
use Rattle.table.specs.Words.{word_of, depth_of}
use Rattle.table.specs.Plain.{Plain}

-- with level 0 at depth d
pub record Walkable (t : List ℤ) (cap d : ℕ) : Type 0 where
  pub plain : Plain t cap
  pub nil : (w : ℕ) → w < north_word → word_of t 0 w ≡ 0
  pub levels : (n : ℕ) → n ≤ cap → depth_of t d n ≤ d + 12
