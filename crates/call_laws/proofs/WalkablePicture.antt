-- The picture of a valid state is one that a walk can read: it is plain, row 0 has no kids, and its levels are the mesh's.
-- Assumes nothing.
use Prim.Native.Nat.{ℕ, ◌+◌, ◌≤◌}
use native.Mathlib.Omega.{arith}
use mathlib.Core.Path.{◌≡◌, refl}
use mathlib.Core.Option.{some}
use lib.Dec.{lit<}
use Rattle.mesh.specs.Place.{base}
use Rattle.mesh.specs.State.{State, Entry, nil, free, used, place_of, entry, cells, grid_of, capacity}
use Rattle.mesh.specs.Valid.{Valid}
use Rattle.mesh.specs.Picture.{table}
use Rattle.table.specs.Words.{word_of, depth_of}
use Rattle.walk.specs.Walkable.{Walkable}
use Rattle.place_laws.proofs.Tree.{patch-high}
use Rattle.table_laws.proofs.Pictured.{free-words, nil-words}
use Rattle.table_laws.proofs.LinkedRows.{depth-of}
use Rattle.table_laws.proofs.PlainPicture.{plain-picture}

module _ (s : State) (v : Valid s) where
  -- levels are those of the mesh, or 0
  ground : (n : ℕ) → word_of (table s) n 9 ≡ 0 → depth_of (table s) (base (grid_of s)) n ≤ base (grid_of s) + 12
  unfolding depth_of
  ground n e = rw e (omega arith)

  level-there : (n : ℕ) → depth_of (table s) (base (grid_of s)) n ≤ base (grid_of s) + 12
  level-there n = go (entry s.entries n) refl
    where
      go : (e : Entry) → entry s.entries n ≡ e → depth_of (table s) (base (grid_of s)) n ≤ base (grid_of s) + 12
      go nil h = ground n (nil-words s n 9 h (lit< tt))
      go free h = ground n (free-words s n 9 h (lit< tt))
      go (used p x) h =
          let i : place_of (entry s.entries n) ≡ some p = rw h in
          omega (arith, depth-of s v n p i, patch-high (grid_of s) (cells s.entries) v.mesh p (v.each n p i))

  pub walkable-picture : Walkable (table s) (capacity s) (base (grid_of s))
  walkable-picture = record {
    plain = plain-picture s v;
    nil = λ w l. nil-words s 0 w v.zeroth (omega (arith, l));
    levels = λ n _. level-there n;
  }
