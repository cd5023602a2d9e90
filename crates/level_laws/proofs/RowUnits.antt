-- The rows of a level in units, which are the rows of level 12: in a ring no cell reaches beyond the last of them.
-- Assumes nothing.
use Prim.Native.Nat.{ℕ, ◌+◌, ◌-◌, ◌*◌, ◌^◌, ◌≤◌}
use native.Mathlib.Nat.{zero-mul, mul-le-mul_right}
use native.Mathlib.Omega.{arith}
use mathlib.Core.Path.{◌≡◌, sym, ap, ◌∙◌}
use mathlib.Core.Logic.{◌⊎◌, inl, inr}
use mathlib.Core.Bool.{Bool}
use lib.Dec.{T}
use Rattle.mesh.specs.Place.{Place, Grid, base, lap}
use Rattle.mesh.specs.Mesh.{Mesh}
use Rattle.mesh.specs.Holding.{side, north_edge}
use Rattle.place_laws.proofs.Laps.{Below, lap-on}
use Rattle.place_laws.proofs.Base.{cell_below}

-- as many units as the rows of the level have
pub lap-units : (g : Grid) (e : ℕ) → base g ≤ e → e ≤ base g + 12 → lap g (base g + 12) ≡ lap g e * 2 ^ (base g + 12 - e)
lap-units g e a b = let s : e + (base g + 12 - e) ≡ base g + 12 = omega arith in ap (lap g) (sym s) ∙ lap-on g e (base g + 12 - e) a

pub north-edge : {g : Grid} {c : Place → Bool} → Mesh g c → (r : Place) → T (c r) → (lap g (base g + 12) ≡ 0) ⊎ (north_edge g r ≤ lap g (base g + 12))
north-edge {g} {c} m r t = go (cell_below g c m r t)
  where
    units : lap g (base g + 12) ≡ lap g r.depth * side g r
    units = lap-units g r.depth (m.low r t) (m.high r t)

    go : Below g r → (lap g (base g + 12) ≡ 0) ⊎ (north_edge g r ≤ lap g (base g + 12))
    go (inl z) = inl (rw (units, z, zero-mul (side g r)))
    go (inr l) = inr (rw units (mul-le-mul_right (side g r) (omega arith)))
