-- A history: one accepted request after the other, each by its set rule and with the numbers that the rules give.
-- Assumes nothing.
use Rattle.std.specs.Prelude.{◌+◌, ◌%◌, ◌≡◌, List, [], ◌∷◌, length}
use Rattle.mesh.specs.State.{State, grid_of, contents}
use Rattle.mesh.specs.Valid.{Valid}
use Rattle.mesh.specs.Deed.{Deed, set_rule}
use Rattle.demand_laws.specs.Numbers.{Numbers}

-- the state t follows s by the deed d
pub record Follows (s : State) (d : Deed) (t : State) : Type 0 where
  pub valid : Valid t
  -- "each accepted request adds 1 to the mark .. nothing else in the header ever changes"
  pub same-grid : grid_of t ≡ grid_of s
  pub next-mark : t.header.mark ≡ (s.header.mark + 1) % 65536
  pub same_length : length t.entries ≡ length s.entries
  -- the mesh by the set rule alone
  pub by-rule : contents t.entries ≡ set_rule d (contents s.entries)
  pub numbers : Numbers s d t

pub data History : State → List Deed → State → Type 0 where
  no_more : {s : State} → History s [] s
  one_more : {s t u : State} {d : Deed} {ds : List Deed} → Follows s d t → History t ds u → History s (d ∷ ds) u
