-- The numbers that the rules give (01, 'Build and requests'): those of a build in their order; and by an accepted request a patch that stays keeps
-- its number, one that no longer exists gives it up, and a new one takes the smallest that is free at its turn.
-- Assumes nothing.
use Rattle.std.specs.Prelude.{ℕ, suc, ◌<◌, ◌≡◌, ◌≢◌, List, [], ◌∷◌, ◌++◌, map, T, get_or}
use Rattle.std.proofs.Math.Option.{none, some}
use Rattle.mesh.specs.Place.{Place, Grid, In}
use Rattle.mesh.specs.Mesh.{patch}
use Rattle.mesh.specs.State.{State, free, place_of, entry, cells, number, grid_of}
use Rattle.mesh.specs.Request.{wanted}
use Rattle.mesh.specs.Deed.{Deed, refined, sentenced, removed, killed, measured}

-- "numbers go level by level from the root": the numbers from 1 on are those of the places, and no other is in use
abbrev pub NumberedAs : List Place → State → Type 0
NumberedAs ps s = (k : ℕ) → place_of (entry s.entries (suc k)) ≡ get_or (map some ps) k none

-- ---- one accepted request

-- the places that a deed gives patches to where they are missing, in their turn
abbrev pub turns : Grid → Deed → List Place
turns g (refined p) = wanted g p
turns g (sentenced p) = []
turns g (removed p) = []
turns g (killed p) = []
turns g (measured p x) = []

-- between s and t, when the places xs have had their turn: a number was free, and none of them has it
abbrev pub FreeBehind : State → State → List Place → ℕ → Type 0
FreeBehind s t xs n = (entry s.entries n ≡ free) × ((q : Place) → In q xs → number t.entries q ≢ n)

pub record Smallest (P : ℕ → Type 0) (n : ℕ) : Type 0 where
  pub holds : P n
  pub none_below : (m : ℕ) → m < n → P m → ⊥

-- what the deed d, from s to t, makes of the numbers
pub record Numbers (s : State) (d : Deed) (t : State) : Type 0 where
  pub keeps : (q : Place) → number s.entries q ≢ 0 → T (patch (grid_of t) (cells t.entries) q) → number t.entries q ≡ number s.entries q
  -- "free every patch that no longer exists"
  pub frees : (n : ℕ) (q : Place) → place_of (entry s.entries n) ≡ some q → (T (patch (grid_of t) (cells t.entries) q) → ⊥) → entry t.entries n ≡ free
  -- "each new patch takes the smallest free number"
  pub takes : (xs ys : List Place) (q : Place) → turns (grid_of s) d ≡ xs ++ q ∷ ys → number s.entries q ≡ 0 → Smallest (FreeBehind s t xs) (number t.entries q)
  -- a new patch has a turn
  pub in-turn : (q : Place) → number s.entries q ≡ 0 → number t.entries q ≢ 0 → In q (turns (grid_of s) d)
