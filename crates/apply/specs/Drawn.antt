-- A lent table as the picture of a state.
-- Assumes nothing.
use Rattle.std.specs.Prelude.{ℕ, ◌≡◌, List, ℤ, Float}
use Rattle.mesh.specs.Place.{base}
use Rattle.mesh.specs.State.{State, Header, grid_of, capacity}
use Rattle.mesh.specs.Valid.{Valid}
use Rattle.mesh.specs.LeafCounts.{Counted, counted}

-- lists, whatever header they are lent with
abbrev pub lists : List ℤ → List Float → List ℕ → Header → Counted
lists t v c h = record { lent = record { header = h; words = t; values = v }; counts = c }

-- with the header of the state they are its picture and its counts; its level 0 is at depth d
pub record Drawn (s : State) (cap d : ℕ) (l : Header → Counted) : Type 0 where
  pub valid : Valid s
  pub is-capacity : capacity s ≡ cap
  pub is-depth : base (grid_of s) ≡ d
  pub is-counted : l s.header ≡ counted s

-- some state is pictured
pub record Pictured (cap d : ℕ) (l : Header → Counted) : Type 0 where
  pub state : State
  pub drawn : Drawn state cap d l
