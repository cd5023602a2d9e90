-- The full count from the cells alone (02, No. 5): the leaves of a level with a status, place by place of the rectangle. Nothing here knows of numbers,
-- rows or lists of counts.
-- Assumes nothing.
use Rattle.std.specs.Prelude.{ℕ, ◌&&◌, eqb}
use Rattle.mesh.specs.Tools.{count, or_else}
use Rattle.mesh.specs.Place.{Place, Grid}
use Rattle.mesh.specs.Mesh.{leaf}
use Rattle.mesh.specs.State.{blank, status}
use Rattle.mesh.specs.Deed.{Contents, held}
use Rattle.walk_laws.specs.Points.{cells_on}

-- the status of the cell at a place
abbrev pub status_at : Contents → Place → ℕ
status_at c p = status (or_else blank (λ x. x.value) (c p))

unfoldable pub leaves_on : Grid → Contents → ℕ → ℕ → ℕ
leaves_on g c l k = count (λ p. leaf g (held c) p && eqb (status_at c p) k) (cells_on g (held c) l)
