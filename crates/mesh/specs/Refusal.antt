-- Numbered refusals: the checks of a call in their order, each a number of 01 with the condition under which it is given.
-- Assumes nothing.
use Rattle.std.specs.Prelude.{ℕ, Bool, cond, List, [], ◌∷◌, eqb}

infix 20 ◌if◌
pub data Check : Type 0 where
  ◌if◌ : ℕ → Bool → Check

-- the number of the first check whose condition holds, 0 if none does
unfoldable pub refusal : List Check → ℕ
refusal [] = 0
refusal ((n if b) ∷ cs) = cond b n (refusal cs)

-- the checks with one more, directly behind that of number k
abbrev pub behind : ℕ → Check → List Check → List Check
behind k x [] = []
behind k x ((n if b) ∷ cs) = (n if b) ∷ cond (eqb n k) (x ∷ cs) (behind k x cs)
