-- How many patches a build has, level by level.
-- Assumes nothing.
use Rattle.std.specs.Prelude.{ℕ, suc, ◌+◌, ◌*◌, ◌/◌, ◌^◌, zero}
use Rattle.mesh.specs.Place.{Grid}
use Rattle.mesh.specs.Seam.{last_j}

-- the patches so many levels below level 0; and those of n levels from level 0 down
unfoldable pub level_size : Grid → ℕ → ℕ
level_size g up = (g.columns / 2 ^ up + 1) * (last_j g / 2 ^ up + 1)

unfoldable pub levels_size : Grid → ℕ → ℕ
levels_size g zero = 0
levels_size g (suc n) = levels_size g n + level_size g n
