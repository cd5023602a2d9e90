-- The kids near a cell but its own.
-- Assumes nothing.
use Rattle.std.specs.Prelude.{ℕ, List, [], ◌∷◌}
use Rattle.winds.specs.WindTable.{kid_l, kid_m}
use Rattle.edit_laws.specs.Tables.{Spot, spot}

-- the kid of the row p in the wind at place w of the table of winds
abbrev pub kid_spot : ℕ → ℕ → Spot
kid_spot p w = spot p (kid_l w) (kid_m w)

-- of the row north SW and SE, of the row east NW and SW, of the row north-east SW
abbrev pub corner_spots : ℕ → ℕ → ℕ → List Spot
corner_spots north east both = spot north 0 0 ∷ spot north 1 0 ∷ spot east 0 1 ∷ spot east 0 0 ∷ spot both 0 0 ∷ []

-- of the row south NW and NE, of the row west SE and NE
abbrev pub side_spots : ℕ → ℕ → List Spot
side_spots south west = spot south 0 1 ∷ spot south 1 1 ∷ spot west 1 0 ∷ spot west 1 1 ∷ []
