-- The patches of the full rectangle by their indices: so many levels below level 0 a patch stands where its indices, doubled so often, reach no
-- further than the rectangle's edge, or in a ring its last row.
-- Assumes nothing.
use Prim.Native.Nat.{ℕ, zero, suc, ◌+◌, ◌-◌, ◌*◌, ◌/◌, ◌^◌, ◌≤◌, ◌<◌}
use native.Mathlib.Nat.{pow-succ', mul_assoc, mul-le-mul_right}
use native.Mathlib.Omega.{arith}
use native.Mathlib.Decide.{dec_lt}
use mathlib.Core.Path.{◌≡◌, refl, sym, ap, ◌∙◌}
use mathlib.Core.Logic.{◌≢◌}
use mathlib.Core.Bool.{Bool, true, false, ◌&&◌, cond}
use lib.Dec.{T, leb, leb→le, le→leb}
use Rattle.mesh.specs.Call.{Rectangle}
use Rattle.mesh.specs.Place.{Place, Grid, at, base, lap, to_north, SW, kid, is_ring}
use Rattle.mesh.specs.Seam.{last_j}
use Rattle.mesh.specs.Mesh.{patch}
use Rattle.mesh.specs.Build.{full}
use Rattle.place_laws.proofs.Bools.{bool-ext, and_both, and_left, and_right}
use Rattle.place_laws.proofs.Places.{place-path}
use Rattle.place_laws.proofs.Steps.{lap-open, north-on, east-on}
use Rattle.place_laws.proofs.Kids.{parent-depth, parent-kid, kid-depth}
use Rattle.place_laws.proofs.Near.{Corner, c-here, c-east, c-north, c-both, corner-cast}
use Rattle.place_laws.proofs.Tree.{corner-patch, ghost-kid, kid-ghost}
use Rattle.place_laws.proofs.Base.{halved, patch-inside, patch-ring}
use Rattle.place_laws.proofs.Full.{cell_full, full-mesh}

-- a doubled index that is halved is no larger
doubled : (i n : ℕ) → i / 2 * 2 ^ suc n ≤ i * 2 ^ n
doubled i n = rw (pow-succ' 2 n, ← mul_assoc (i / 2) 2 (2 ^ n)) (mul-le-mul_right (2 ^ n) (omega arith))

pub last-j : (g : Grid) → last_j g ≤ g.rows
last-j g = go (is_ring g)
  where
    go : (b : Bool) → cond b (g.rows - 1) g.rows ≤ g.rows
    go true = omega arith
    go false = omega arith

module _ (g : Grid) (in-range : Rectangle g) where
  -- ---- a patch lies within

  pub patch-within : (n : ℕ) (p : Place) → p.depth + n ≡ base g → T (patch g (full g) p) → (p.i * 2 ^ n ≤ g.columns) × (p.j * 2 ^ n ≤ last_j g)
  patch-within zero p e t =
      let z : p.depth - base g ≡ 0 = omega arith in
      let (x, y) = rw z at (patch-inside g (full g) (full-mesh g in-range) p (omega arith) t) in
      (omega arith, last (is_ring g) y (λ o. let l = rw z at (patch-ring g (full g) (full-mesh g in-range) p (omega arith) t o) in omega arith) refl)
    where
      last : (b : Bool) → p.j ≤ g.rows * 2 ^ 0 → (is_ring g ≡ true → p.j < g.rows) → is_ring g ≡ b → p.j * 2 ^ 0 ≤ cond b (g.rows - 1) g.rows
      last true y r o = omega (arith, r o)
      last false y r o = omega arith
  patch-within (suc n) p e t =
      let (q, f, u) = ghost-kid g (full g) p (omega arith) t in
      let (x, y) = patch-within n q (omega (arith, parent-depth q p f)) u in
      let (i, j) = halved q p f in
      (rw i (omega (arith, doubled q.i n)), rw j (omega (arith, doubled q.j n)))

  -- ---- and every place within is one

  -- a place of level 0 is a corner of a cell: of its own, or of the last one where it lies on the edge
  touching : (p : Place) → p.depth ≡ base g → p.i ≤ g.columns → p.j ≤ last_j g → T (patch g (full g) p)
  touching p e x y = go (dec_lt p.i g.columns) (dec_lt p.j g.rows)
    where
      -- after the last row of cells there is one more in an open grid alone, where it lies north of them
      edge : (b : Bool) → p.j ≤ cond b (g.rows - 1) g.rows → (p.j < g.rows → ⊥) → is_ring g ≡ b → (lap g (base g) ≡ 0) × (p.j ≡ g.rows)
      edge true h l o = absurd (l (omega arith))
      edge false h l o = (lap-open g (base g) o, omega (arith, l))

      -- so many steps back
      back : ℕ → ℕ → Place
      back a b = at (base g) (p.i - a) (p.j - b)

      by : (a b : ℕ) → Corner g (back a b) p → p.i - a < g.columns → p.j - b < g.rows → T (patch g (full g) p)
      by a b k i j = corner-patch g (full g) (omega arith) k (cell_full g (back a b) refl i j)

      here : (i j : ℕ) → i ≡ p.i → j ≡ p.j → at (base g) i j ≡ p
      here i j a b = place-path (at (base g) i j) p (sym e) a b

      on : (p.j < g.rows → ⊥) → (suc (p.j - 1) ≢ lap g (base g)) × (suc (p.j - 1) ≡ p.j) × (p.j - 1 < g.rows)
      on l = let (z, s) = edge (is_ring g) y l refl in (λ k. omega arith, omega arith, omega arith)

      go : Dec (p.i < g.columns) → Dec (p.j < g.rows) → T (patch g (full g) p)
      go (yes a) (yes b) = by 0 0 (corner-cast (here (p.i - 0) (p.j - 0) (omega arith) (omega arith)) c-here) (omega arith) (omega arith)
      go (no a) (yes b) = by 1 0 (corner-cast (east-on g (base g) (p.i - 1) (p.j - 0) ∙ here (suc (p.i - 1)) (p.j - 0) (omega arith) (omega arith)) c-east) (omega arith) (omega arith)
      go (yes a) (no b) =
          let (k, l, m) = on b in
          by 0 1 (corner-cast (north-on g (base g) (p.i - 0) (p.j - 1) k ∙ here (p.i - 0) (suc (p.j - 1)) (omega arith) l) c-north) (omega arith) m
      go (no a) (no b) =
          let (k, l, m) = on b in
          let f = ap (to_north g) (east-on g (base g) (p.i - 1) (p.j - 1)) ∙ north-on g (base g) (suc (p.i - 1)) (p.j - 1) k in
          by 1 1 (corner-cast (f ∙ here (suc (p.i - 1)) (suc (p.j - 1)) (omega arith) l) c-both) (omega arith) m

  stands : (n : ℕ) (p : Place) → p.depth + n ≡ base g → p.i * 2 ^ n ≤ g.columns → p.j * 2 ^ n ≤ last_j g → T (patch g (full g) p)
  unfolding kid
  stands zero p e x y = touching p (omega arith) (omega arith) (omega arith)
  stands (suc n) p e x y =
      kid-ghost g (full g) p (kid SW p) (omega arith) (parent-kid SW p)
      (stands n (kid SW p) (omega (arith, kid-depth SW p)) (first p.i g.columns x) (first p.j (last_j g) y))
    where
      first : (i k : ℕ) → i * 2 ^ suc n ≤ k → (2 * i + 0) * 2 ^ n ≤ k
      first i k h = let e : 2 * i + 0 ≡ i * 2 = omega arith in rw (e, mul_assoc i 2 (2 ^ n), ← pow-succ' 2 n) h

  pub full-patch : (n : ℕ) (p : Place) → p.depth + n ≡ base g → patch g (full g) p ≡ (leb (p.i * 2 ^ n) g.columns && leb (p.j * 2 ^ n) (last_j g))
  full-patch n p e =
      bool-ext (patch g (full g) p) (leb (p.i * 2 ^ n) g.columns && leb (p.j * 2 ^ n) (last_j g))
      (λ t. let (x, y) = patch-within n p e t in and_both (leb (p.i * 2 ^ n) g.columns) (leb (p.j * 2 ^ n) (last_j g)) (le→leb _ _ x) (le→leb _ _ y))
      (λ t. stands n p e (leb→le _ _ (and_left (leb (p.i * 2 ^ n) g.columns) (leb (p.j * 2 ^ n) (last_j g)) t)) (leb→le _ _ (and_right (leb (p.i * 2 ^ n) g.columns) (leb (p.j * 2 ^ n) (last_j g)) t)))
