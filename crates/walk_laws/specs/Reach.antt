-- Which tries of a lookup reach the remaining area (02, No. 2). Nothing here knows of leaves.
-- Assumes nothing.
use Rattle.std.specs.Prelude.{ℕ, ◌-◌, Bool, not, ◌&&◌, leb}
use Rattle.mesh.specs.Holding.{ground_of}
use Rattle.mesh.specs.State.{State, cells, grid_of}
use Rattle.mesh.specs.Lookup.{beyond}

-- so many units to the left and down it is not below 0, and the level-0 place there is a cell
abbrev pub nears : State → ℕ → ℕ → ℕ × ℕ → Bool
nears s u v (left, down) = (leb left u && leb down v) && cells s.entries (ground_of (grid_of s) (u - left) (v - down))

-- and the point is one that tries are made for (02, No. 4)
abbrev pub reaches : State → ℕ → ℕ → ℕ × ℕ → Bool
reaches s u v e = not (beyond (grid_of s) v) && nears s u v e
