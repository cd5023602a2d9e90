-- Words that are read as they stand: once every row has been looked at, no link needs to be kept within the table and no sign is asked for.
-- Assumes nothing.
use Rattle.std.specs.Prelude.{ℕ, ◌+◌, ◌≤◌, ◌<◌, Bool, ◌&&◌, List, eqb, leb, ltb, ℤ}
use Rattle.mesh.specs.Picture.{link_words, flags_word, i_word, j_word, level_word}
use Rattle.table.specs.Words.{word_of, link_of, depth_of}
use Rattle.table.specs.Plain.{Plain}
use Rattle.checker_laws.specs.Rowwise.{below}

-- each link names a row or none
abbrev pub linked : List ℤ → ℕ → ℕ → Bool
linked t cap n = below link_words (λ w. eqb (word_of t n w) (link_of t cap n w))

-- a word that is not negative
abbrev pub positive : List ℤ → ℕ → ℕ → Bool
positive t n w = ltb (word_of t n w) 2147483648

-- each link of the row names a row or none, its level is one of the table's, and its indices and flags are not negative
unfoldable pub plain_row : List ℤ → ℕ → ℕ → ℕ → Bool
plain_row t cap d n = linked t cap n && leb (depth_of t d n) (d + 12) && positive t n i_word && positive t n j_word && positive t n flags_word

-- what all rows are then: plain, and without a sign in an index
pub record Readable (t : List ℤ) (cap : ℕ) : Type 0 where
  pub plain : Plain t cap
  pub indices : (n w : ℕ) → n ≤ cap → level_word < w → w < flags_word → word_of t n w < 2147483648

-- and their levels, with level 0 at depth d
pub record Levelled (t : List ℤ) (cap d : ℕ) : Type 0 where
  pub shallow : d ≤ 32
  pub deep : (n : ℕ) → n ≤ cap → depth_of t d n ≤ d + 12
