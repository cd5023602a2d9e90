-- What a row carries beside its marks: the status of its value, and the value.
-- Assumes nothing.
use Rattle.std.specs.Prelude.{ℕ, ◌+◌, ◌*◌, Bool, ◌&&◌, cond, List, eqb, get_or, set, ℤ, pos, Float}
use Rattle.mesh.specs.State.{Value, status, amount, plus_zero}
use Rattle.mesh.specs.Decode.{value_from}
use Rattle.mesh.specs.Picture.{row_words, status_word}
use Rattle.mesh.specs.Test.{same_float}
use Rattle.table.specs.Words.{code}
use Rattle.carried.specs.declared.Carried.{Carried}

-- ---- read and written

unfoldable pub carried_of : List ℤ → List Float → ℕ → Carried
carried_of t v n = record { status = get_or t (n * row_words + status_word) (pos 0); value = get_or v n plus_zero }

-- the words with what the row n carries, and the values
abbrev pub put_status : List ℤ → ℕ → Carried → List ℤ
put_status t n c = set t (n * row_words + status_word) c.status

abbrev pub put_amount : List Float → ℕ → Carried → List Float
put_amount v n c = set v n c.value

-- ---- "status 0 blank, 1 measured, 2 carried down from the parent"

abbrev pub nothing : Carried
nothing = record { status = pos 0; value = plus_zero }

abbrev pub measured_as : Float → Carried
measured_as x = record { status = pos 1; value = x }

abbrev pub status_of : Carried → ℕ
status_of c = code c.status

abbrev pub is_blank : Carried → Bool
is_blank c = eqb (status_of c) 0

abbrev pub is_measured : Carried → Bool
is_measured c = eqb (status_of c) 1

abbrev pub is_carried_down : Carried → Bool
is_carried_down c = eqb (status_of c) 2

-- "kids of a blank cell are blank, otherwise carried"
abbrev pub passed_down : Carried → Carried
passed_down c = cond (is_blank c) nothing (record { status = pos 2; value = c.value })

-- "status 0 has the bits of +0"
abbrev pub is_zero : Carried → Bool
is_zero c = same_float c.value plus_zero

-- a row without a patch carries nothing
abbrev pub is_nothing : Carried → Bool
is_nothing c = is_blank c && is_zero c

-- "the value bits are the parent's"
abbrev pub same_value : Carried → Carried → Bool
same_value a b = same_float a.value b.value

-- ---- the values of the rules

abbrev pub value_carried : Carried → Value
value_carried c = value_from (status_of c) c.value

abbrev pub carried_for : Value → Carried
carried_for w = record { status = pos (status w); value = amount w }
