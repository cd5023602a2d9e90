-- No jump of two levels (02, No. 1): what the refusals 21 and 22 ask of a set of cells.
-- Assumes nothing.
use Rattle.std.specs.Prelude.{Bool, false, not, ◌&&◌, ltb}
use Rattle.mesh.specs.Tools.{any, or_else}
use Rattle.mesh.specs.Place.{Place, Grid, Wind, same, side_winds, base, step, kids}
use Rattle.mesh.specs.Mesh.{on, in_area, has_kids}

module _ (g : Grid) (c : Place → Bool) where
  -- the same-level place on this side "lies inside the remaining area and is not a cell"
  abbrev pub bare : Place → Wind → Bool
  bare p w = in_area g c (step g w p) && not (on g c (step g w p))

  -- 21: "a cell above level 0 if one of its four same-level neighbour places lies inside the remaining area and is not a cell"
  unfoldable pub coarse_beside : Place → Bool
  coarse_beside p = ltb (base g) p.depth && any (bare p) side_winds

  -- "a same-level cell outside the four" kids of p that "has kids"
  abbrev pub finer_than : Place → Place → Bool
  finer_than p q = c q && (not (any (same q) (kids p)) && has_kids g c q)

  -- 22: "a same-level cell outside the four that shares an edge with one of them has kids"
  unfoldable pub finer_beside : Place → Bool
  finer_beside p = any (λ k. any (λ w. or_else false (finer_than p) (step g w k)) side_winds) (kids p)
