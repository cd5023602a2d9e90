-- A table with one row written whole.
-- Assumes nothing.
use Rattle.std.specs.Prelude.{ℕ, ◌+◌, ◌*◌, List, ◌++◌, take, drop, replicate, ℤ, pos}
use Rattle.mesh.specs.Picture.{link_words, row_words, free_flags, field_words}

-- the table with x in the place of the row n
unfoldable pub put_row : List ℤ → ℕ → List ℤ → List ℤ
put_row t n x = take (n * row_words) t ++ x ++ drop (n * row_words + row_words) t

-- "A free row has flags 8192 and every other word 0."
abbrev pub free_row : List ℤ
free_row = replicate link_words (pos 0) ++ field_words (pos 0) 0 0 free_flags 0

-- "row 0 is the nil patch: all words zero"
abbrev pub nil_row : List ℤ
nil_row = replicate row_words (pos 0)
