-- A new patch and a neighbour of it name each other, by its parent and the digits of its place.
-- Assumes nothing.
use Rattle.std.specs.Prelude.{ℕ, List, ℤ}
use Rattle.mesh.specs.Place.{Wind}
use Rattle.worked.specs.Worked.{side_by}
use Rattle.edit_laws.specs.PatchSteps.{name_each}

-- the row k, a kid of the row p whose digits are l and m
unfoldable pub link_by : List ℤ → ℕ → ℕ → ℕ → ℕ → ℕ → Wind → List ℤ
link_by t cap p l m k w = name_each t k w (side_by t cap p l m w)
