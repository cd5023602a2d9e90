-- What is found besides what was found before.
-- Assumes nothing.
use Rattle.std.specs.Prelude.{ℕ, ◌+◌, ◌≤◌, ◌≡◌, List, length}
use Rattle.lines.specs.Puts.{Put}
use Rattle.leaves.specs.declared.Found.{Found}

-- n rows more fit
abbrev pub HasRoom : Found → ℕ → Type 0
HasRoom s n = s.count + n ≤ length s.rows.now

-- xs put into the same list from its place on
pub record FoundAlso (s : Found) (xs : List ℕ) (e : Found) : Type 0 where
  pub same : e.rows.ghost_name ≡ s.rows.ghost_name
  pub put : Put s.rows.now s.count xs e.rows.now e.count
