-- How many patches a build has: so many levels below level 0 they make a block, one column and one row more than the last row and column of patches
-- halved so often.
-- Assumes nothing.
use Prim.Native.Nat.{ℕ, zero, suc, ◌+◌, ◌*◌, ◌/◌, ◌^◌, ◌≤◌, ◌<◌}
use native.Mathlib.Nat.{le-div_iff_mul-le, one-le-pow}
use native.Mathlib.Omega.{arith}
use mathlib.Core.Path.{◌≡◌, ◌∙◌}
use mathlib.Core.Bool.{◌&&◌}
use mathlib.Core.List.{List, [], ◌∷◌}
use lib.Dec.{T, leb, leb→le, le→leb}
use lib.ListN.{length, length-append}
use Rattle.number_laws.specs.Numbered.{Patches}
use Rattle.number_laws.specs.Sizes.{level_size, levels_size}
use Rattle.mesh.specs.Call.{Rectangle}
use Rattle.mesh.specs.Place.{Place, Grid, root, base, In}
use Rattle.mesh.specs.Seam.{last_j}
use Rattle.mesh.specs.Build.{next_level, levels, numbered}
use Rattle.place_laws.proofs.Bools.{and_both, and_left, and_right}
use Rattle.place_laws.proofs.Extent.{full-patch}
use Rattle.place_laws.proofs.Blocks.{block_size}
use Rattle.number_laws.proofs.Levels.{first-level, next_level_lem}

module _ (g : Grid) (in-range : Rectangle g) where
  -- an index reaches so far exactly if its doubled value does
  far : (i k n : ℕ) → i * 2 ^ n ≤ k → i < k / 2 ^ n + 1
  far i k n h = omega (arith, (le-div_iff_mul-le {k = 2 ^ n} {x = i} {y = k} (one-le-pow n 2 (omega arith))).1 h)

  near : (i k n : ℕ) → i < k / 2 ^ n + 1 → i * 2 ^ n ≤ k
  near i k n h = (le-div_iff_mul-le {k = 2 ^ n} {x = i} {y = k} (one-le-pow n 2 (omega arith))).0 (omega arith)

  level-size : (e n : ℕ) (ps : List Place) → e + n ≡ base g → Patches g e e ps → length ps ≡ level_size g n
  unfolding level_size
  level-size e n ps d l = block_size e (g.columns / 2 ^ n + 1) (last_j g / 2 ^ n + 1) ps l.once inside all
    where
      inside : (q : Place) → In q ps → (q.depth ≡ e) × (q.i < g.columns / 2 ^ n + 1) × (q.j < last_j g / 2 ^ n + 1)
      inside q i =
          let (a, b, t) = l.holds q i in
          let x = leb (q.i * 2 ^ n) g.columns in
          let y = leb (q.j * 2 ^ n) (last_j g) in
          let u : T (x && y) = rw (full-patch g in-range n q (omega arith)) at t in
          (omega arith, far q.i g.columns n (leb→le _ _ (and_left x y u)), far q.j (last_j g) n (leb→le _ _ (and_right x y u)))

      all : (q : Place) → q.depth ≡ e → q.i < g.columns / 2 ^ n + 1 → q.j < last_j g / 2 ^ n + 1 → In q ps
      all q z i j =
          l.all_of q (omega arith) (omega arith)
          (rw (full-patch g in-range n q (omega arith))
          (and_both (leb (q.i * 2 ^ n) g.columns) (leb (q.j * 2 ^ n) (last_j g)) (le→leb _ _ (near q.i g.columns n i)) (le→leb _ _ (near q.j (last_j g) n j))))

  levels-size : (n e : ℕ) (ps : List Place) → e + n ≡ base g → Patches g e e ps → length (levels g n ps) ≡ levels_size g (suc n)
  unfolding levels levels_size
  levels-size zero e ps d l = let h : length ps ≡ 0 + level_size g 0 = omega (arith, level-size e 0 ps d l) in h
  levels-size (suc n) e ps d l =
      length-append ps (levels g n (next_level g ps))
      ∙ (let h : length ps + length (levels g n (next_level g ps)) ≡ levels_size g n + level_size g n + level_size g (suc n) = omega (arith, level-size e (suc n) ps d l, levels-size n (suc e) (next_level g ps) (omega arith) (next_level_lem g in-range e ps l)) in h)

  pub numbered-size : length (numbered g) ≡ levels_size g (suc (base g))
  unfolding numbered
  numbered-size = levels-size (base g) 0 (root ∷ []) (omega arith) (first-level g in-range)
