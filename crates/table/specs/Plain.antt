-- What a lent table is known to be, one condition after the other: it has a row for each number; its words can be read as they stand, so that no
-- link needs to be kept within the table and no sign is asked for.
-- Assumes nothing.
use Rattle.std.specs.Prelude.{ℕ, ◌+◌, ◌*◌, ◌≤◌, ◌<◌, List, T, length, get_or, ℤ, pos}
use Rattle.std.specs.Int.Signed.{le_z}
use Rattle.mesh.specs.Picture.{link_words, row_words, flags_word}
use Rattle.table.specs.Words.{word_of}

-- the rows 0 to the capacity stand in the table
pub record Sized (t : List ℤ) (cap : ℕ) : Type 0 where
  pub words : cap * row_words + row_words ≤ length t
  pub small : cap ≤ 4095

-- the word w of the row n is not negative
abbrev pub Unsigned : List ℤ → ℕ → ℕ → Type 0
Unsigned t n w = T (le_z (pos 0) (get_or t (n * row_words + w) (pos 0)))

-- its links name rows or none and its flags are not negative, as those of a picture are
pub record Plain (t : List ℤ) (cap : ℕ) : Type 0 where
  pub sized : Sized t cap
  pub links : (n w : ℕ) → n ≤ cap → w < link_words → word_of t n w ≤ cap
  pub flags : (n : ℕ) → n ≤ cap → word_of t n flags_word < 2147483648
