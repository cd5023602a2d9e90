-- "Leaves that share part of an edge then differ by one level at most" (02, No. 1). Squares are measured in 1/4096 of a level-0 cell; what they
-- share knows no tree, no patch and no link.
-- Assumes nothing.
use Rattle.std.specs.Prelude.{ℕ, suc, ◌+◌, ◌≤◌, ◌<◌, ◌≡◌, ◌⊎◌, Bool, T}
use Rattle.mesh.specs.Place.{Place, Grid, base, lap}
use Rattle.mesh.specs.Mesh.{leaf}
use Rattle.mesh.specs.Holding.{west_edge, east_edge, south_edge, north_edge}

-- the stretch from a to b and that from c to d have a part of positive length in common
abbrev pub Overlap : ℕ → ℕ → ℕ → ℕ → Type 0
Overlap a b c d = (a < d) × (c < b)

-- a northern and a southern edge are one: in a ring the edge after its last row is the edge 0, since "row index on level k counts modulo
-- rows × 2^k" (02, No. 4), and a row of level 12 is one unit. In an open grid no northern edge is 0.
abbrev pub Meet : Grid → ℕ → ℕ → Type 0
Meet g n s = (n ≡ s) ⊎ ((n ≡ lap g (base g + 12)) × (s ≡ 0))

-- two squares share part of a vertical edge, of a horizontal edge, of an edge
module _ (g : Grid) (p q : Place) where
  abbrev pub BesideV : Type 0
  BesideV = ((east_edge g p ≡ west_edge g q) ⊎ (east_edge g q ≡ west_edge g p)) × Overlap (south_edge g p) (north_edge g p) (south_edge g q) (north_edge g q)

  abbrev pub BesideH : Type 0
  BesideH = (Meet g (north_edge g p) (south_edge g q) ⊎ Meet g (north_edge g q) (south_edge g p)) × Overlap (west_edge g p) (east_edge g p) (west_edge g q) (east_edge g q)

  abbrev pub Beside : Type 0
  Beside = BesideV ⊎ BesideH

-- the promise
abbrev pub NoJump : Grid → (Place → Bool) → Type 0
NoJump g c = (p q : Place) → T (leaf g c p) → T (leaf g c q) → Beside g p q → (p.depth ≤ suc q.depth) × (q.depth ≤ suc p.depth)
