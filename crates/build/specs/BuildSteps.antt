-- A table with the next number, the two numbers at the end of the levels, and what a build leaves.
-- Assumes nothing.
use Rattle.std.specs.Prelude.{ℕ, ◌+◌, ◌≤◌, ◌≡◌, List, [], ◌∷◌, ℤ}
use Rattle.mesh.specs.Place.{Grid, Wind, NE, SE, SW, NW}
use Rattle.mesh.specs.State.{in_use}
use Rattle.mesh.specs.Picture.{table, amounts, Lent}
use Rattle.mesh.specs.Build.{built}
use Rattle.edit_laws.specs.Built.{Growth, grow_levels, ground_from}

abbrev pub growth : List ℤ → ℕ → Growth
growth t k = record { words = t; next = k }

-- "kids in the order SW, NW, SE, NE"
abbrev pub in_turn : List Wind
in_turn = SW ∷ NW ∷ SE ∷ NE ∷ []

-- all levels from the root on, and where the last of them begins
pub record Reached (g : Grid) (cap d : ℕ) (r u : Growth) (ground : ℕ) : Type 0 where
  pub grown : u ≡ grow_levels g cap d d 1 r
  pub from : ground ≡ ground_from g cap d d 1 r
  pub low : 1 ≤ ground
  pub before : ground ≤ u.next
  pub high : u.next ≤ cap + 1

-- the lists of the built state, and its numbers in use
pub record Made (cap : ℕ) (l : Lent) (n : ℕ) : Type 0 where
  pub words_are : l.words ≡ table (built l.header.grid cap)
  pub values-are : l.values ≡ amounts (built l.header.grid cap)
  pub in-use-is : n ≡ in_use (built l.header.grid cap).entries
