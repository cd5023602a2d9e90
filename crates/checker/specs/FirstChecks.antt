-- The first two refusals of what is lent with a capacity: 1 by the lengths and the capacity, 2 by the grid. The old contents play no part.
-- Assumes nothing.
use Rattle.std.specs.Prelude.{ℕ, ◌≡◌, ◌≢◌, List, ◌∷◌}
use Rattle.mesh.specs.Picture.{Lent}
use Rattle.mesh.specs.Refusal.{Check, refusal}
use Rattle.mesh.specs.Call.{Sizes, Rectangle, no1, no2}

-- the refusal, whatever checks stand behind, or 0
pub record FirstRefusal (cap : ℕ) (l : Lent) (r : ℕ) : Type 0 where
  pub refused : r ≢ 0 → (cs : List Check) → r ≡ refusal (no1 cap l ∷ no2 l.header.grid ∷ cs)
  pub sizes : r ≡ 0 → Sizes cap l
  pub rectangle : r ≡ 0 → Rectangle l.header.grid
