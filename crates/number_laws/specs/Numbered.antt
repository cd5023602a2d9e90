-- A numbering of places, whatever their cells; the one of a list of places; and all patches of some depths.
-- Assumes nothing.
use Rattle.std.specs.Prelude.{ℕ, ◌≤◌, ◌≡◌, List, ◌++◌, map, T, replicate}
use Rattle.std.proofs.Math.Option.{some, Option}
use Rattle.mesh.specs.Place.{Grid, Place, In, Distinct}
use Rattle.mesh.specs.Mesh.{patch}
use Rattle.mesh.specs.State.{Entry, entry, place_of, nil, free, used, Cell}
use Rattle.mesh.specs.Build.{full}

-- what a numbering is, whatever the cells
pub record Numbered (es : List Entry) : Type 0 where
  pub zeroth : entry es 0 ≡ nil
  pub once : (n m : ℕ) (p : Place) → place_of (entry es n) ≡ some p → place_of (entry es m) ≡ some p → n ≡ m

-- these places under the numbers from 1 on, each with its cell or none, and so many free numbers behind
abbrev pub written : (Place → Option Cell) → ℕ → List Place → List Entry
written x k ps = map (λ p. used p (x p)) ps ++ replicate k free

-- exactly the patches of the full rectangle of these depths, each once
pub record Patches (g : Grid) (low high : ℕ) (ps : List Place) : Type 0 where
  pub once : Distinct ps
  pub holds : (q : Place) → In q ps → (low ≤ q.depth) × (q.depth ≤ high) × T (patch g (full g) q)
  pub all_of : (q : Place) → low ≤ q.depth → q.depth ≤ high → T (patch g (full g) q) → In q ps
