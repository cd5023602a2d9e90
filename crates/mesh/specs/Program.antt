-- What the program `dossier` prints for its input (01, 'Walks, points, page').
-- Assumes nothing.
use Rattle.std.specs.Prelude.{ℕ, ◌+◌, not, List, [], ◌∷◌, ◌++◌, ltb, eqb, length, get_or, drop}
use Rattle.mesh.specs.Place.{Grid, rectangle}
use Rattle.mesh.specs.Refusal.{Check, ◌if◌, refusal}
use Rattle.mesh.specs.Build.{numbered, built}
use Rattle.mesh.specs.Tape.{Run, run}
use Rattle.mesh.specs.Page.{line, decimal, page}
use Rattle.mesh.specs.Call.{no2, unless, Wrote, writing}

-- "only the line `refused N at O`"
unfoldable pub refused_line : ℕ → ℕ → List ℕ
refused_line n o = line ((114 ∷ 101 ∷ 102 ∷ 117 ∷ 115 ∷ 101 ∷ 100 ∷ []) ∷ decimal n ∷ (97 ∷ 116 ∷ []) ∷ decimal o ∷ [])

-- "byte 7, columns, rows (one byte each), then a tape; capacity 1,000"
abbrev pub grid_in : List ℕ → Grid
grid_in input = rectangle (get_or input 1 0) (get_or input 2 0)

-- "20, then 4 for empty input, 5 for another first byte, 4 for a missing second or third byte"
unfoldable pub input_checks : List ℕ → List Check
input_checks input =
    (20 if ltb 60000 (length input)) ∷
    (4 if eqb (length input) 0) ∷
    (5 if not (eqb (get_or input 0 0) 7)) ∷
    (4 if ltb (length input) 3) ∷
    []

-- "then the build"
unfoldable pub grid_checks : List ℕ → List Check
grid_checks input = no2 (grid_in input) ∷ (11 if ltb 1000 (length (numbered (grid_in input)))) ∷ []

-- "all at offset 0"
abbrev pub head_checks : List ℕ → List Check
head_checks input = input_checks input ++ grid_checks input

-- "then the tape", whose offsets are "counted from the first input byte"
unfoldable pub tape_page : Run → List ℕ
tape_page r = unless r.refusal (λ n. refused_line n (3 + r.offset)) (page r.state)

unfoldable pub program : List ℕ → List ℕ
program input = unless (refusal (head_checks input)) (λ n. refused_line n 0) (tape_page (run (built (grid_in input) 1000) (drop 3 input)))

-- what is printed, as a call that writes it
unfoldable pub program_call : List ℕ → List ℕ → Wrote
program_call input out = writing (program input) out
