-- How many leaves a state has on each level with each status (02, No. 5: "a list of 39 leaf counts, level l and status s at place 3l + s"), and what is
-- lent with them.
-- Assumes nothing.
use Rattle.std.specs.Prelude.{ℕ, zero, suc, ◌+◌, ◌*◌, ◌/◌, ◌%◌, ◌≡◌, Bool, false, ◌&&◌, List, [], ◌∷◌, ◌++◌, eqb}
use Rattle.std.proofs.Math.Option.{none, some}
use Rattle.mesh.specs.Tools.{count}
use Rattle.mesh.specs.Place.{Place, Grid, base}
use Rattle.mesh.specs.Mesh.{leaf}
use Rattle.mesh.specs.State.{State, Entry, nil, free, used, Cell, status, cells, grid_of}
use Rattle.mesh.specs.Valid.{Valid}
use Rattle.mesh.specs.Picture.{Lent, picture}

-- levels 0 to 12, and the three statuses of each
abbrev pub count_places : ℕ
count_places = 39

abbrev pub count_place : ℕ → ℕ → ℕ
count_place l k = 3 * l + k

-- ---- the counts of a state

-- a cell at this place is of level l and has the status k
abbrev pub belongs : Grid → ℕ → ℕ → Place → Cell → Bool
belongs g l k p x = eqb p.depth (base g + l) && eqb (status x.value) k

-- the entry is a leaf of level l with the status k, in the set c of cells
abbrev pub is_counted : Grid → (Place → Bool) → ℕ → ℕ → Entry → Bool
is_counted g c l k nil = false
is_counted g c l k free = false
is_counted g c l k (used p none) = false
is_counted g c l k (used p (some x)) = belongs g l k p x && leaf g c p

unfoldable pub leaf_count : State → ℕ → ℕ → ℕ
leaf_count s l k = count (is_counted (grid_of s) (cells s.entries) l k) s.entries

-- the first n places of the list, and all of them
unfoldable pub counts_below : State → ℕ → List ℕ
counts_below s zero = []
counts_below s (suc n) = counts_below s n ++ (leaf_count s (n / 3) (n % 3) ∷ [])

unfoldable pub leaf_counts : State → List ℕ
leaf_counts s = counts_below s count_places

-- ---- what is lent

-- build, tape and checker are lent the counts beside the header, the table and the values
pub record Counted : Type 0 where
  pub lent : Lent
  pub counts : List ℕ

abbrev pub counted : State → Counted
counted s = record { lent = picture s; counts = leaf_counts s }

-- the table is sound, and the list agrees with it
pub record SoundCounts (l : Counted) : Type 0 where
  pub state : State
  pub valid : Valid state
  pub is-counted : l ≡ counted state
