-- The lines of leaves as the code makes them from the rows of a table and the values.
-- Assumes nothing.
use Rattle.std.specs.Prelude.{ℕ, ◌+◌, ◌<◌, ◌≤◌, cond, List, [], ◌∷◌, map, length, ℤ, nat_lt, slice_index, to_bits, Float}
use Rattle.std.specs.Float.{binary64}
use Rattle.mesh.specs.Tools.{flat}
use Rattle.mesh.specs.Valid.{finite}
use Rattle.mesh.specs.Picture.{i_word, j_word, level_word}
use Rattle.mesh.specs.Page.{letter, hex_in, line, line_of}
use Rattle.table.specs.Words.{word_of}
use Rattle.carried.specs.Carried.{carried_of, status_of}
use Rattle.carried.specs.declared.Carried.{Carried}
use Rattle.table.specs.Plain.{Sized}

-- the bits of a value; 0 where it is not finite, which no sound table has
unfoldable pub bits_of : Float → ℕ
bits_of x = cond (finite x) (to_bits binary64 x) 0

-- a hexadecimal digit
abbrev pub hex_digit : ℕ → ℕ
hex_digit x = cond (nat_lt x 10) (48 + x) (87 + x)

-- what ends a line: the letter and the value of what is carried
abbrev pub line_end : Carried → List ℕ
line_end c = line ((letter (status_of c) ∷ []) ∷ hex_in 16 (bits_of c.value) [] ∷ [])

-- "number, level, i, j, letter .., value bits as 16 lowercase hex digits"
unfoldable pub row_line : List ℤ → List Float → ℕ → List ℕ
row_line t v n = let c = carried_of t v n in line_of n (word_of t n level_word) (word_of t n i_word) (word_of t n j_word) (status_of c) (bits_of c.value)

-- their lines
unfoldable pub lines_of : List ℤ → List Float → List ℕ → List ℕ
lines_of t v ns = flat (map (row_line t v) ns)

-- the rows ns are rows of a table of that capacity, and no more than it can have
abbrev pub Listed : List ℤ → List Float → ℕ → List ℕ → Type 0
Listed t v cap ns =
    Sized t cap × (cap < length v) × (length ns ≤ 4096) × ((i : ℕ) → slice_index ns i ≤ cap)
