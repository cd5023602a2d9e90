-- The patches counted from the cells alone: level by level the distinct corner points of its cells, and below level 0 the ghosts.
-- Nothing here knows of numbers or rows, and no test of a patch is used.
-- Assumes nothing.
use Rattle.std.specs.Prelude.{ℕ, zero, suc, ◌+◌, ◌*◌, ◌^◌, Bool, cond, List, [], ◌∷◌, ◌++◌, map, length}
use Rattle.std.proofs.Math.Option.{Option}
use Rattle.mesh.specs.Tools.{any, keep, flat, or_else}
use Rattle.mesh.specs.Place.{Place, Grid, at, same, base, to_north, to_east, parent}

-- ---- lists of places

-- the places of depth e and row j in the first w columns, and those of the first h rows
abbrev pub line : ℕ → ℕ → ℕ → List Place
line e zero j = []
line e (suc w) j = at e w j ∷ line e w j

abbrev pub box : ℕ → ℕ → ℕ → List Place
box e w zero = []
box e w (suc h) = line e w h ++ box e w h

-- each place once
abbrev pub distinct : List Place → List Place
distinct [] = []
distinct (p ∷ ps) = cond (any (same p) ps) (distinct ps) (p ∷ distinct ps)

-- those that are there
abbrev pub somes : List (Option Place) → List Place
somes [] = []
somes (o ∷ os) = or_else (somes os) (λ p. p ∷ somes os) o

-- ---- what each level has

module _ (g : Grid) where
  -- the four corners of a cell
  abbrev pub corners : Place → List Place
  corners r = r ∷ to_east g r ∷ to_north g r ∷ to_north g (to_east g r) ∷ []

  module _ (c : Place → Bool) where
    -- the cells of level k, which lie in the rectangle
    unfoldable pub cells_on : ℕ → List Place
    cells_on k = keep c (box (base g + k) (g.columns * 2 ^ k) (g.rows * 2 ^ k))

    unfoldable pub corners_on : ℕ → List Place
    corners_on k = distinct (flat (map corners (cells_on k)))

    -- n levels below level 0: "exactly if a level-0 patch lies under it: halve the indices, rounding down, once per level"
    unfoldable pub ghosts_on : ℕ → List Place
    ghosts_on zero = corners_on 0
    ghosts_on (suc n) = distinct (somes (map parent (ghosts_on n)))

-- ---- the sum

-- f 0 and so on, n of them
abbrev pub sum : (ℕ → ℕ) → ℕ → ℕ
sum f zero = 0
sum f (suc n) = f n + sum f n

-- the ghosts of levels -1 to minus the base, and the corner points of levels 0 to 12
unfoldable pub total : Grid → (Place → Bool) → ℕ
total g c = sum (λ n. length (ghosts_on g c (suc n))) (base g) + sum (λ k. length (corners_on g c k)) 13
