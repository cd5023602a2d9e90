-- What a build makes (01, 'Build and requests').
-- Assumes nothing.
use Rattle.std.specs.Prelude.{ℕ, zero, suc, ◌-◌, Bool, false, ◌&&◌, cond, List, [], ◌∷◌, ◌++◌, map, eqb, length, replicate}
use Rattle.std.proofs.Math.Option.{none, some}
use Rattle.mesh.specs.Tools.{flat, keep}
use Rattle.mesh.specs.Place.{Place, Grid, NE, SE, SW, NW, in_rectangle, base, kid, root}
use Rattle.mesh.specs.Mesh.{patch}
use Rattle.mesh.specs.State.{State, nil, free, used, Cell, blank}

-- every level-0 cell of the rectangle
unfoldable pub full : Grid → Place → Bool
full g p = eqb p.depth (base g) && in_rectangle g p.i p.j

-- "within a level by parents in their own order, kids in the order SW, NW, SE, NE"
unfoldable pub next_level : Grid → List Place → List Place
next_level g ps = keep (patch g (full g)) (flat (map (λ p. kid SW p ∷ kid NW p ∷ kid SE p ∷ kid NE p ∷ []) ps))

-- a level, and n levels more
unfoldable pub levels : Grid → ℕ → List Place → List Place
levels g zero ps = ps
levels g (suc n) ps = ps ++ levels g n (next_level g ps)

-- "numbers go level by level from the root"
unfoldable pub numbered : Grid → List Place
numbered g = levels g (base g) (root ∷ [])

abbrev pub blank_cell : Cell
blank_cell = record { sentenced = false; value = blank }

-- "puts them in the header with mark 0, and writes all rows and values, blank"
unfoldable pub built : Grid → ℕ → State
built g cap =
    let ps = numbered g in
    record {
      header = record { grid = g; mark = 0 };
      entries = nil ∷ map (λ p. used p (cond (full g p) (some blank_cell) none)) ps ++ replicate (cap - length ps) free;
    }
