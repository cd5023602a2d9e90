-- What comes of rows that go round (02, No. 4): the last row of patches on level 0, and the steps that cross the seam there. Nothing that is
-- promised is said with these; the build and the checker are.
-- Assumes nothing.
use Rattle.std.specs.Prelude.{ℕ, suc, ◌-◌, Bool, false, ◌&&◌, ◌||◌, cond, eqb, ltb}
use Rattle.mesh.specs.Place.{Place, Grid, Wind, NE, SE, SW, NW, N, E, S, W, rectangle, is_ring, base, lap}

-- the same rectangle, open
abbrev pub opened : Grid → Grid
opened g = rectangle g.columns g.rows

-- in a ring the row after the last cells is row 0
abbrev pub last_j : Grid → ℕ
last_j g = cond (is_ring g) (g.rows - 1) g.rows

-- a step to this wind crosses the seam of a level that begins anew after n rows
abbrev pub seam : Wind → ℕ → ℕ → Bool
seam N n j = eqb (suc j) n
seam S n j = ltb 0 n && (eqb j 0 || eqb j n)
seam E n j = false
seam W n j = false
seam NE n j = false
seam SE n j = false
seam SW n j = false
seam NW n j = false

-- and so on level 0, where the ghosts below have no seam
unfoldable pub crosses : Grid → Wind → Place → Bool
crosses g w p = eqb p.depth (base g) && seam w (lap g p.depth) p.j
