-- The table and the values of a state (01, 'Rows and header'), and what is lent.
-- Assumes nothing.
use Rattle.std.specs.Prelude.{ℕ, ◌+◌, ◌*◌, ◌≡◌, List, [], ◌∷◌, ◌++◌, map, Float, ℤ, pos, get_or}
use Rattle.mesh.specs.Tools.{flat, digits}
use Rattle.mesh.specs.Place.{Grid, around, level}
use Rattle.mesh.specs.Mesh.{flags}
use Rattle.mesh.specs.State.{State, Header, Entry, nil, free, used, place_of, is_sentenced, value_of, status, amount, cells, number_of, grid_of}
use Rattle.mesh.specs.Valid.{Valid}

-- ---- the words of a row

-- "rows 1 to capacity have 14 signed 32-bit words": nine links, and the fields
abbrev pub link_words : ℕ
link_words = 9

abbrev pub field_count : ℕ
field_count = 5

abbrev pub row_words : ℕ
row_words = 14

-- "0 parent; 1 to 4 kids NE, SE, SW, NW; 5 to 8 neighbours N, E, S, W"
abbrev pub parent_word : ℕ
parent_word = 0

abbrev pub ne_word : ℕ
ne_word = 1

abbrev pub se_word : ℕ
se_word = 2

abbrev pub sw_word : ℕ
sw_word = 3

abbrev pub nw_word : ℕ
nw_word = 4

abbrev pub north_word : ℕ
north_word = 5

abbrev pub east_word : ℕ
east_word = 6

abbrev pub south_word : ℕ
south_word = 7

abbrev pub west_word : ℕ
west_word = 8

-- "9 level; 10 i; 11 j; 12 flags; 13 value status"
abbrev pub level_word : ℕ
level_word = 9

abbrev pub i_word : ℕ
i_word = 10

abbrev pub j_word : ℕ
j_word = 11

abbrev pub flags_word : ℕ
flags_word = 12

abbrev pub status_word : ℕ
status_word = 13

-- "A free row has flags 8192"
abbrev pub free_flags : ℕ
free_flags = 8192

-- ---- a row, a table, the values

-- "9 level; 10 i; 11 j; 12 flags; 13 value status"
abbrev pub field_words : ℤ → ℕ → ℕ → ℕ → ℕ → List ℤ
field_words k i j f st = k ∷ pos i ∷ pos j ∷ pos f ∷ pos st ∷ []

-- "A free row has flags 8192 and every other word 0."
unfoldable pub fields : Grid → List Entry → Entry → List ℤ
fields g es nil = field_words (pos 0) 0 0 0 0
fields g es free = field_words (pos 0) 0 0 free_flags 0
fields g es (used p x) =
    field_words (level g p) p.i p.j (digits (flags g (cells es) p (is_sentenced (used p x)))) (status (value_of (used p x)))

-- "0 parent; 1 to 4 kids NE, SE, SW, NW; 5 to 8 neighbours N, E, S, W", and the fields
unfoldable pub row_of : Grid → List Entry → Entry → List ℤ
row_of g es e = map (λ o. pos (number_of es o)) (around g (place_of e)) ++ fields g es e

unfoldable pub table : State → List ℤ
table s = flat (map (row_of (grid_of s) s.entries) s.entries)

-- the word w of the row of number n in the table
abbrev pub link_word : State → ℕ → ℕ → ℤ
link_word s n w = get_or (table s) (n * row_words + w) (pos 0)

-- "A second lent list has one f64 for each row."
unfoldable pub amounts : State → List Float
amounts s = map (λ e. amount (value_of e)) s.entries

-- ---- what is lent

-- what is lent with a capacity: the header, the table and the values
pub record Lent : Type 0 where
  pub header : Header
  pub words : List ℤ
  pub values : List Float

abbrev pub picture : State → Lent
picture s = record { header = s.header; words = table s; values = amounts s }

-- "a table is sound if it pictures one mesh under one numbering, with the rules above"
pub record Sound (l : Lent) : Type 0 where
  pub state : State
  pub valid : Valid state
  pub is-picture : l ≡ picture state
