-- An order of any length, as four bytes.
-- Assumes nothing.
use Rattle.std.specs.Prelude.{ℕ, cond, List, [], ◌∷◌, eqb, length}

-- one of another length than four is no permutation; four zeros stand for it
abbrev pub four_of : List ℕ → List ℕ
four_of o = cond (eqb (length o) 4) o (0 ∷ 0 ∷ 0 ∷ 0 ∷ [])
