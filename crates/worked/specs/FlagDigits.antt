-- Four flags at a time, and the two flags of a wall.
-- Assumes nothing.
use Rattle.std.specs.Prelude.{ℕ, ◌+◌, ◌*◌, Bool, cond, [], ◌∷◌}
use Rattle.mesh.specs.Tools.{digits}

-- the number whose four binary digits these are, lowest first
unfoldable pub four : Bool → Bool → Bool → Bool → ℕ
four a b c e = digits (a ∷ b ∷ c ∷ e ∷ [])

-- a boundary wall and a green one, as one number: their flags stand four bits apart
abbrev pub pair : Bool → Bool → ℕ
pair x y = cond x 1 0 + 16 * cond y 1 0
