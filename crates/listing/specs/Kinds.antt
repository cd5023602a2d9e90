-- The number of each kind of a scan.
-- Assumes nothing.
use Rattle.std.specs.Prelude.{ℕ, eqb, cond, Option, Some, None}
use Rattle.listing.specs.declared.kinds.Kind.{Kind}
use Rattle.listing.specs.declared.kinds.Kind.TheVariants.{Patch, Cell, Leaf, HWall, VWall, Point}

-- "1 patches, 2 cells, 3 leaves, 4 H-walls, 5 V-walls, 6 points"
abbrev pub number_of : Kind → ℕ
number_of Patch = 1
number_of Cell = 2
number_of Leaf = 3
number_of HWall = 4
number_of VWall = 5
number_of Point = 6

abbrev pub kind_of : ℕ → Option Kind
kind_of n =
    cond (eqb n 1) (Some Patch)
    (cond (eqb n 2) (Some Cell)
    (cond (eqb n 3) (Some Leaf)
    (cond (eqb n 4) (Some HWall)
    (cond (eqb n 5) (Some VWall)
    (cond (eqb n 6) (Some Point) None)))))
