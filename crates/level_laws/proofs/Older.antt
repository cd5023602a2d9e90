-- "Older tables stay sound, without that promise": a table as it could be made before No. 1, worked out by the rules. Of two cells side by side
-- one is refined, and then its kid beside the other; the table is sound, it jumps by two levels, and a tape on it runs.
-- Assumes nothing.
use native.Mathlib.Omega.{arith}
use mathlib.Core.Path.{◌≡◌, refl}
use mathlib.Core.Logic.{inl}
use mathlib.Core.List.{[], ◌∷◌}
use lib.Dec.{lit<}
use Rattle.mesh.specs.Place.{rectangle, at}
use Rattle.mesh.specs.State.{State, cells, grid_of}
use Rattle.mesh.specs.Build.{built}
use Rattle.mesh.specs.Request.{refine, effect}
use Rattle.mesh.specs.LeafCounts.{counted}
use Rattle.mesh.specs.Call.{check_call, tape_call}
use Rattle.mesh.specs.Grids.{outcome}
use Rattle.mesh.proofs.References.{rules}
use Rattle.level_laws.specs.Beside.{NoJump}

-- 4 and 6 are the two cells, 11 is the kid of 4 beside 6
unfoldable pub older : State
older = effect (effect (built (rectangle 2 1) 33) (refine 4)) (refine 11)

pub older-sound : check_call 33 (counted older) ≡ 0
unfolding older rules
older-sound = refl

-- 6 and a kid of 11
pub older-jumps : NoJump (grid_of older) (cells older.entries) → ⊥
unfolding older rules
older-jumps h = let (a, _) = h (at 4 3 0) (at 2 1 0) tt tt (inl (inl refl, (lit< tt, lit< tt))) in omega arith

-- the next request refines 6
pub older-runs : outcome (tape_call 33 (counted older) (1 ∷ 0 ∷ 6 ∷ [])) ≡ (1, 0, 3)
unfolding older rules
older-runs = refl
