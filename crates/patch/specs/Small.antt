-- Rows whose indices and depth are small enough that those of a kid fit a word, and whose level is not below that of depth 0.
-- Assumes nothing.
use Rattle.std.specs.Prelude.{ℕ, ◌+◌, ◌*◌, ◌<◌, ◌≤◌, List, ℤ}
use Rattle.table.specs.Words.{word_of, depth_of}
use Rattle.mesh.specs.Picture.{i_word, j_word, level_word}

pub record Small (b : ℕ) (t : List ℤ) (d n : ℕ) : Type 0 where
  pub i : word_of t n i_word < b
  pub j : word_of t n j_word < b
  pub level : word_of t n level_word < 2147483648 + d
  pub depth : depth_of t d n < b

-- every row of the table is
abbrev pub AllSmall : ℕ → List ℤ → ℕ → ℕ → Type 0
AllSmall b t cap d = (n : ℕ) → n ≤ cap → Small b t d n

-- t becomes u, whose rows are twice as large at most
abbrev pub Doubled : List ℤ → List ℤ → ℕ → ℕ → Type 0
Doubled t u cap d = (b : ℕ) → b ≤ 1073741824 → AllSmall b t cap d → AllSmall (2 * b) u cap d
