-- What the refusals 21 and 22 keep of a set of cells, from a build on.
-- Assumes nothing.
use Prim.Native.Nat.{◌<◌}
use mathlib.Core.Bool.{Bool}
use lib.Dec.{T}
use Rattle.mesh.specs.Place.{Place, Grid, Wind, base, step}
use Rattle.mesh.specs.Mesh.{on, in_area, has_kids}
use Rattle.place_laws.proofs.SideDigits.{aside}

-- every refined cell above level 0 has, on each of its four sides whose place lies in the area, a cell of its level
abbrev pub Balanced : Grid → (Place → Bool) → Type 0
Balanced g c = (p : Place) → T (c p) → base g < p.depth → T (has_kids g c p) → (w : Wind) → T (aside w) → T (in_area g c (step g w p)) → T (on g c (step g w p))
