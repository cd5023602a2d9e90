-- The one state that a table can picture: from level, i, j, the flags Complete, Sentenced and Dead, the status, and the values.
-- Assumes nothing.
use Rattle.std.specs.Prelude.{ℕ, zero, suc, ◌/◌, ◌%◌, Bool, true, false, eqb, get_or, take, drop, Float, ℤ, pos, ◌+ℤ◌, nat_abs}
use Rattle.std.proofs.Math.Option.{none, some}
use mathlib.Core.List.{List, [], ◌∷◌, tail}
use Rattle.mesh.specs.Place.{Place, Grid, at, base}
use Rattle.mesh.specs.Mesh.{complete_bit, sentenced_bit, dead_bit, flag_count}
use Rattle.mesh.specs.State.{State, Entry, nil, free, used, Cell, Value, blank, measured, carried}
use Rattle.mesh.specs.Picture.{row_words, level_word, i_word, j_word, flags_word, status_word, Lent}

-- the k lowest binary digits, lowest first
abbrev pub digits_of : ℕ → ℕ → List Bool
digits_of zero n = []
digits_of (suc k) n = eqb (n % 2) 1 ∷ digits_of k (n / 2)

abbrev pub value_from : ℕ → Float → Value
value_from zero x = blank
value_from (suc zero) x = measured x
value_from (suc (suc n)) x = carried x

abbrev pub word : List ℤ → ℕ → ℤ
word row w = get_or row w (pos 0)

abbrev pub flag : List ℤ → ℕ → Bool
flag row b = get_or (digits_of flag_count (nat_abs (word row flags_word))) b false

abbrev pub place_from : Grid → List ℤ → Place
place_from g row = at (nat_abs (word row level_word +ℤ pos (base g))) (nat_abs (word row i_word)) (nat_abs (word row j_word))

-- by Dead and Complete
abbrev pub entry_by : Bool → Bool → Place → Cell → Entry
entry_by true c p x = free
entry_by false true p x = used p (some x)
entry_by false false p x = used p none

abbrev pub entry_from : Grid → List ℤ → Float → Entry
entry_from g row x =
    entry_by (flag row dead_bit) (flag row complete_bit) (place_from g row) (record { sentenced = flag row sentenced_bit; value = value_from (nat_abs (word row status_word)) x })

abbrev pub entries_from : Grid → List ℤ → List Float → List Entry
entries_from g t [] = []
entries_from g t (x ∷ xs) = entry_from g (take row_words t) x ∷ entries_from g (drop row_words t) xs

unfoldable pub decode : Lent → State
decode l = record { header = l.header; entries = nil ∷ entries_from l.header.grid (drop row_words l.words) (tail l.values) }
