-- The steps of a list of leaf counts: so many more at a place, one less at each of some places.
-- Assumes nothing.
use Rattle.std.specs.Prelude.{ℕ, ◌+◌, ◌-◌, ◌≤◌, ◌<◌, List, [], ◌∷◌, eqb, length, get_or, set}
use Rattle.mesh.specs.Tools.{count}

unfoldable pub more : List ℕ → ℕ → ℕ → List ℕ
more c i n = set c i (get_or c i 0 + n)

unfoldable pub less : List ℕ → ℕ → List ℕ
less c i = set c i (get_or c i 0 - 1)

-- one less at each
abbrev pub lesses : List ℕ → List ℕ → List ℕ
lesses c [] = c
lesses c (i ∷ is) = lesses (less c i) is

-- each of them can be had
pub record There (c is : List ℕ) : Type 0 where
  pub each : (j : ℕ) → count (eqb j) is ≤ get_or c j 0

-- what a request moves: so many leaves come to one place, and one leaves each of some
pub record Move : Type 0 where
  pub into : ℕ
  pub many : ℕ
  pub from : List ℕ

-- those that come first
unfoldable pub moved : List ℕ → Move → List ℕ
moved c m = lesses (more c m.into m.many) m.from

pub record Movable (c : List ℕ) (m : Move) : Type 0 where
  pub inside : m.into < length c
  pub small : get_or c m.into 0 + m.many < 4294967296
  pub there : There (more c m.into m.many) m.from
