-- A table between two steps of a request: its links are those of the entries, and its flags are any. The picture of a state is one of these.
-- Assumes nothing.
use Rattle.std.specs.Prelude.{ℕ, false, cond, List, map, ◌++◌, ℤ, pos}
use Rattle.mesh.specs.Tools.{flat, digits, or_else}
use Rattle.mesh.specs.Place.{Place, Grid, same, around, level}
use Rattle.mesh.specs.Mesh.{flags}
use Rattle.mesh.specs.State.{Entry, nil, free, used, place_of, value_of, status, cells, number_of, contents}
use Rattle.mesh.specs.Picture.{field_words, free_flags}

-- the flags' word at each place
abbrev pub Flags : Type 0
Flags = Place → ℕ

unfoldable pub fields_with : Grid → Flags → Entry → List ℤ
fields_with g f nil = field_words (pos 0) 0 0 0 0
fields_with g f free = field_words (pos 0) 0 0 free_flags 0
fields_with g f (used p x) = field_words (level g p) p.i p.j (f p) (status (value_of (used p x)))

unfoldable pub row_with : Grid → List Entry → Flags → Entry → List ℤ
row_with g es f e = map (λ o. pos (number_of es o)) (around g (place_of e)) ++ fields_with g f e

unfoldable pub table_with : Grid → List Entry → Flags → List ℤ
table_with g es f = flat (map (row_with g es f) es)

-- the flags that the entries make
unfoldable pub flags_of : Grid → List Entry → Flags
flags_of g es p = digits (flags g (cells es) p (or_else false (λ x. x.sentenced) (contents es p)))

-- one place's flags are others
abbrev pub with_flags : Place → ℕ → Flags → Flags
with_flags q x f p = cond (same p q) x (f p)
