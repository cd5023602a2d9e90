-- What becomes of the patches of a table.
-- Assumes nothing.
use Rattle.std.specs.Prelude.{ℕ, ◌≡◌, List, ℤ, length}
use Rattle.patch.specs.declared.patches.Patches.{Patches}

-- the same table is lent, and the same map
pub record Same (p q : Patches) : Type 0 where
  pub cap : q.cap ≡ p.cap
  pub long : length q.t.now ≡ length p.t.now
  pub table : q.t.ghost_name ≡ p.t.ghost_name
  pub numbers : q.map.ghost_name ≡ p.map.ghost_name

-- and a step on the words of a table of that capacity is taken
pub record Stepped (step : List ℤ → ℕ → List ℤ) (p q : Patches) : Type 0 where
  pub same : Same p q
  pub words : q.t.now ≡ step p.t.now p.cap
