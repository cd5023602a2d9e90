-- The leaf that holds a point (01, 'Walks, points, page').
-- Assumes nothing.
use Rattle.std.specs.Prelude.{ℕ, ◌+◌, ◌-◌, ◌*◌, ◌^◌, ◌/◌, Bool, not, ◌&&◌, leb, ltb}
use Rattle.mesh.specs.Tools.{first}
use Rattle.mesh.specs.Place.{Place, Grid, base, at}
use Rattle.mesh.specs.Mesh.{leaf}
use Rattle.mesh.specs.State.{State, Entry, cells, grid_of}
use Rattle.mesh.specs.Test.{of_cell}

-- the side of a place "in 1/4096 of a level-0 cell"
abbrev pub side : Grid → Place → ℕ
side g p = 2 ^ (base g + 12 - p.depth)

-- where its square ends
module _ (g : Grid) (p : Place) where
  abbrev pub west_edge : ℕ
  west_edge = p.i * side g p

  abbrev pub east_edge : ℕ
  east_edge = (p.i + 1) * side g p

  abbrev pub south_edge : ℕ
  south_edge = p.j * side g p

  abbrev pub north_edge : ℕ
  north_edge = (p.j + 1) * side g p

-- "a leaf holds its lower and left edges, not its upper and right": speed u, load v
unfoldable pub holds : Grid → Place → ℕ → ℕ → Bool
holds g p u v = leb (west_edge g p) u && (ltb u (east_edge g p) && (leb (south_edge g p) v && ltb v (north_edge g p)))

unfoldable pub leaf_holding : State → ℕ → ℕ → Entry → Bool
leaf_holding s u v e = not (of_cell (λ p x. not (leaf (grid_of s) (cells s.entries) p && holds (grid_of s) p u v)) e)

-- the number of the leaf that holds the point, 0 for none
unfoldable pub leaf_at : State → ℕ → ℕ → ℕ
leaf_at s u v = first (leaf_holding s u v) 0 s.entries

-- the level-0 place of a point
abbrev pub ground_of : Grid → ℕ → ℕ → Place
ground_of g u v = at (base g) (u / 4096) (v / 4096)
