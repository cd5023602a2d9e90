-- Of row 0 nothing is worked out anew.
-- Assumes nothing.
use Rattle.std.specs.Prelude.{ℕ, ◌≡◌, List, ℤ}
use borrow.Author.Tests.{eq-eqb}
use Rattle.edit_laws.specs.Anew.{wall_row, point_row}

module _ (cap : ℕ) (t : List ℤ) {n : ℕ} (z : n ≡ 0) where
  pub nil-walled : (d : ℕ) → wall_row cap d t n ≡ t
  unfolding wall_row
  nil-walled d = rw (eq-eqb n 0 z)

  pub nil-pointed : point_row cap t n ≡ t
  unfolding point_row
  nil-pointed = rw (eq-eqb n 0 z)
