-- Entries that make a tree under the root, whatever their cells: what the links of their table need.
-- Assumes nothing.
use Rattle.std.specs.Prelude.{ℕ, ◌+◌, ◌≤◌, ◌≡◌, List, length, T, ◌≢◌}
use Rattle.std.proofs.Math.Option.{some}
use Rattle.mesh.specs.Place.{Grid, base, Place, root, lap, parent}
use Rattle.mesh.specs.State.{Entry, entry, place_of, stands}
use Rattle.mesh.specs.Tools.{any}
use Rattle.number_laws.specs.Numbered.{Numbered}

pub record Rooted (g : Grid) (cap : ℕ) (es : List Entry) : Type 0 where
  pub numbered : Numbered es
  pub long : length es ≡ cap + 1
  pub sizes : (base g ≤ 6) × (cap ≤ 4095)
  pub laps : (e : ℕ) → lap g e ≢ 1
  pub first-root : place_of (entry es 1) ≡ some root
  pub top : (n : ℕ) (p : Place) → place_of (entry es n) ≡ some p → p.depth ≡ 0 → p ≡ root
  pub deepest : (n : ℕ) (p : Place) → place_of (entry es n) ≡ some p → p.depth ≤ base g + 12
  pub parents : (n : ℕ) (q p : Place) → place_of (entry es n) ≡ some q → parent q ≡ some p → T (any (stands p) es)
