-- Which states picture a mesh under one numbering (01, 'What a mesh is' and 'Rows and header').
-- Assumes nothing.
use Rattle.std.specs.Prelude.{ℕ, ◌≤◌, ◌<◌, ◌≡◌, Bool, true, false, not, T, Float}
use Rattle.std.proofs.Math.Option.{some}
use Rattle.std.specs.Float.{nan, inf, fin}
use Rattle.mesh.specs.Tools.{any}
use Rattle.mesh.specs.Place.{Place, is_ring, root, base, parent}
use Rattle.mesh.specs.Mesh.{Mesh, patch, leaf}
use Rattle.mesh.specs.State.{State, nil, used, Cell, Value, blank, measured, carried, amount, is_blank, is_nil, place_of, value_of, stands, entry, cells, number_of, grid_of, capacity}

abbrev pub finite : Float → Bool
finite nan = false
finite (inf s) = false
finite (fin s m e) = true

-- the value of a place's parent; blank where there is no parent, or no cell there
abbrev pub above_of : State → Place → Value
above_of s p = value_of (entry s.entries (number_of s.entries (parent p)))

-- "Only cells may have status 1 or 2, with a finite value .. A carried cell is above level 0, its parent is not blank, and the value bits are
-- the parent's. A cell whose parent is not blank is not blank."
abbrev pub ValueRule : State → Place → Value → Type 0
ValueRule s p blank = T (is_blank (above_of s p))
ValueRule s p (measured x) = T (finite x)
ValueRule s p (carried x) = (base (grid_of s) < p.depth) × T (finite x) × T (not (is_blank (above_of s p))) × (amount (above_of s p) ≡ x)

pub record Valid (s : State) : Type 0 where
  -- "capacity 5 to 4,095"; "columns and rows 1 to 32 each"; open or a ring, and a ring has 3 rows at least
  pub sizes : (5 ≤ capacity s) × (capacity s ≤ 4095)
  pub rectangle : (1 ≤ (grid_of s).columns) × ((grid_of s).columns ≤ 32) × (1 ≤ (grid_of s).rows) × ((grid_of s).rows ≤ 32) × ((grid_of s).mode ≤ 1) × (T (is_ring (grid_of s)) → 3 ≤ (grid_of s).rows)
  -- "row 0 is the nil patch", and every other number is free or a patch
  pub zeroth : entry s.entries 0 ≡ nil
  pub others : (n : ℕ) → 1 ≤ n → n ≤ capacity s → T (not (is_nil (entry s.entries n)))
  -- the cells make a mesh
  pub mesh : Mesh (grid_of s) (cells s.entries)
  -- the patches are those of the mesh, each under one number, "the root is number 1"
  pub each : (n : ℕ) (p : Place) → place_of (entry s.entries n) ≡ some p → T (patch (grid_of s) (cells s.entries) p)
  pub every : (p : Place) → T (patch (grid_of s) (cells s.entries) p) → T (any (stands p) s.entries)
  pub once : (n m : ℕ) (p : Place) → place_of (entry s.entries n) ≡ some p → place_of (entry s.entries m) ≡ some p → n ≡ m
  pub first-root : place_of (entry s.entries 1) ≡ some root
  -- "Sentenced may stand only on leaves above level 0"
  pub sentences : (n : ℕ) (p : Place) (x : Cell) → entry s.entries n ≡ used p (some x) → T x.sentenced → (base (grid_of s) < p.depth) × T (leaf (grid_of s) (cells s.entries) p)
  pub values : (n : ℕ) (p : Place) (x : Cell) → entry s.entries n ≡ used p (some x) → ValueRule s p x.value
