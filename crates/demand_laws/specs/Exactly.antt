-- "Given exactly when" (01, 'Numbered refusals'): of checks in their order, the refusal's condition holds, and that of no check before it.
-- Assumes nothing.
use Rattle.std.specs.Prelude.{ℕ, ◌≡◌, Bool, true, false, List, ◌∷◌, ◌++◌}
use Rattle.mesh.specs.Tools.{any}
use Rattle.mesh.specs.Refusal.{Check, ◌if◌}

abbrev pub condition : Check → Bool
condition (n if b) = b

-- no condition holds
abbrev pub Clear : List Check → Type 0
Clear cs = any condition cs ≡ false

-- the check of number n holds, and none before it
pub record Given (n : ℕ) (cs : List Check) : Type 0 where
  pub before : List Check
  pub behind : List Check
  pub in_order : cs ≡ before ++ (n if true) ∷ behind
  pub none_before : Clear before
