-- The picture of a valid state is as long as the functions ask, and its rows are small: up to 32 columns and rows, and 12 levels above level 0.
-- Assumes nothing.
use Prim.Native.Nat.{ℕ, ◌-◌, ◌*◌, ◌^◌, ◌≤◌, ◌<◌}
use native.Mathlib.Nat.{mul-le-mul, pow-le-pow_right}
use native.Mathlib.Decide.{dec_lt}
use native.Mathlib.Omega.{arith}
use mathlib.Core.Path.{◌≡◌, refl, ap}
use mathlib.Core.Option.{some}
use lib.Dec.{T}
use lib.IntN.{ℤ}
use mathlib.Core.List.{List}
use Rattle.mesh.specs.Place.{Place, Grid, base}
use Rattle.mesh.specs.Mesh.{patch}
use Rattle.mesh.specs.State.{State, Entry, nil, free, used, place_of, entry, cells, grid_of, capacity}
use Rattle.mesh.specs.Valid.{Valid}
use Rattle.mesh.specs.Picture.{table}
use Rattle.place_laws.proofs.Base.{base-range, patch-inside, ghost-inside}
use Rattle.place_laws.proofs.Tree.{patch-high}
use Rattle.table.specs.Words.{word_of, depth_of}
use Rattle.table.proofs.LinkRanges.{level-from}
use Rattle.table_laws.proofs.Pictured.{word-i, word-j, depth-within, free-words, nil-words}
use Rattle.patch.specs.Small.{Small, AllSmall}

-- a row without a patch is all 0, so that it says level 0
small-zero : (t : List ℤ) (d n : ℕ) → d ≤ 6 → ((w : ℕ) → w < 12 → word_of t n w ≡ 0) → Small 1048576 t d n
unfolding depth_of
small-zero t d n h z = record { i = rw (z 10 (omega arith)) (omega arith); j = rw (z 11 (omega arith)) (omega arith); level = rw (z 9 (omega arith)) (omega arith); depth = rw (z 9 (omega arith)) (omega arith) }

module _ {s : State} (v : Valid s) where
  abbrev g : Grid
  g = grid_of s

  bounded : (i k e : ℕ) → k ≤ 32 → e ≤ 12 → i ≤ k * 2 ^ e → i < 1048576
  bounded i k e h l b =
      let m : k * 2 ^ e ≤ 32 * 2 ^ 12 = mul-le-mul h (pow-le-pow_right (omega arith) l) in
      omega arith

  place-small : (p : Place) → T (patch g (cells s.entries) p) → (p.i < 1048576) × (p.j < 1048576)
  place-small p t = go (dec_lt p.depth (base g))
    where
      go : Dec (p.depth < base g) → (p.i < 1048576) × (p.j < 1048576)
      go (yes h) =
          let (x, y) = ghost-inside g (cells s.entries) v.mesh v.rectangle p (omega arith) t in
          let l : p.depth ≤ 6 = omega (arith, base-range g v.rectangle) in
          let m : 2 ^ p.depth ≤ 2 ^ 6 = pow-le-pow_right (omega arith) l in
          (omega arith, omega arith)
      go (no h) =
          let (x, y) = patch-inside g (cells s.entries) v.mesh p (omega (arith, h)) t in
          let l = patch-high g (cells s.entries) v.mesh p t in
          (bounded p.i g.columns (p.depth - base g) v.rectangle.1 (omega arith) x, bounded p.j g.rows (p.depth - base g) v.rectangle.3 (omega arith) y)

  pub picture-small : AllSmall 1048576 (table s) (capacity s) (base g)
  picture-small n l = go (entry s.entries n) refl
    where
      go : (e : Entry) → entry s.entries n ≡ e → Small 1048576 (table s) (base g) n
      go nil e = small-zero (table s) (base g) n (base-range g v.rectangle).1 (λ w h. nil-words s n w e (omega arith))
      go free e = small-zero (table s) (base g) n (base-range g v.rectangle).1 (λ w h. free-words s n w e h)
      go (used p x) e =
          let h : place_of (entry s.entries n) ≡ some p = ap place_of e in
          let t = v.each n p h in
          let high = patch-high g (cells s.entries) v.mesh p t in
          let low = (base-range g v.rectangle).1 in
          let (i, j) = place-small p t in
          record { i = rw (word-i s n p h) i; j = rw (word-j s n p h) j; level = level-from (table s) (base g) n (rw (depth-within s n p h low high) (omega arith)); depth = rw (depth-within s n p h low high) (omega arith) }
