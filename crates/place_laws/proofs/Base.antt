-- The depth of level 0 is the bit length of the larger side, so the patches there halve down to the one root.
-- Assumes nothing.
use Prim.Native.Nat.{ℕ, zero, suc, ◌+◌, ◌-◌, ◌*◌, ◌/◌, ◌^◌, ◌≤◌, ◌<◌, max}
use native.Mathlib.Nat.{pow-suc, mul_assoc, mul-le-mul_right, one-le-pow}
use native.Mathlib.Omega.{arith}
use native.Mathlib.Decide.{dec_le, ℕ_discrete}
use mathlib.Core.Path.{◌≡◌, refl, sym, ap, ◌∙◌, subst}
use mathlib.Core.Logic.{◌⊎◌, inl, inr}
use mathlib.Core.Bool.{Bool, true, false, ◌&&◌, ◌||◌}
use mathlib.Core.Option.{some}
use lib.Dec.{T, ltb, ltb→lt}
use borrow.Author.Tests.{eq-eqb, le-ltb, ltb-false}
use Rattle.mesh.specs.Place.{Place, Grid, is_ring, root, base, lap, to_east, parent}
use Rattle.mesh.specs.Seam.{opened}
use Rattle.mesh.specs.Mesh.{Mesh, patch}
use Rattle.mesh.specs.Call.{outside, misfit, Rectangle}
use Rattle.mesh.proofs.Depth.{LeastPower, ground-power}
use Rattle.place_laws.proofs.Bools.{is-yes, yes-is, no-is, and_left, and_right, neither}
use Rattle.place_laws.proofs.Ranges.{within-outside, outside-within}
use Rattle.place_laws.proofs.Places.{place-path}
use Rattle.place_laws.proofs.Steps.{lap-ghost, lap-open, lap-ring, north-i, north-j, east-i, east-j, east-depth}
use Rattle.place_laws.proofs.Laps.{Below, after-near, after-within}
use Rattle.place_laws.proofs.Kids.{up, parent_up, up_is, up_depth, parent-depth}
use Rattle.place_laws.proofs.Near.{Corner, c-here, c-east, c-north, c-both, corner-depth, touched-corner}
use Rattle.place_laws.proofs.Tree.{patch-touched, ghost-kid, cell-patch, cell-up, patch-up}

-- what refusal 2 asks of a header's grid
pub fits-range : (g : Grid) → misfit g ≡ false → Rectangle g
fits-range g e =
    let (a, f) = neither (outside 1 32 g.columns) (outside 1 32 g.rows || (ltb 1 g.mode || (is_ring g && ltb g.rows 3))) e in
    let (b, h) = neither (outside 1 32 g.rows) (ltb 1 g.mode || (is_ring g && ltb g.rows 3)) f in
    let (m, r) = neither (ltb 1 g.mode) (is_ring g && ltb g.rows 3) h in
    let (p, q) = outside-within 1 32 g.columns a in
    let (u, w) = outside-within 1 32 g.rows b in
    (p, q, u, w, ltb-false 1 g.mode m, λ t. ltb-false g.rows 3 (rw (yes-is (is_ring g) t) at r))

pub range-fits : (g : Grid) → Rectangle g → misfit g ≡ false
range-fits g (p, q, u, w, m, r) = rw (within-outside 1 32 g.columns p q, within-outside 1 32 g.rows u w, le-ltb 1 g.mode m) short
  where
    short : (is_ring g && ltb g.rows 3) ≡ false
    short = no-is (is_ring g && ltb g.rows 3) (λ t. omega (arith, r (and_left (is_ring g) (ltb g.rows 3) t), ltb→lt g.rows 3 (and_right (is_ring g) (ltb g.rows 3) t)))

-- a grid in range that is no ring is open
pub open_is : (g : Grid) → Rectangle g → is_ring g ≡ false → opened g ≡ g
open_is g r o = λ i. record { columns = g.columns; rows = g.rows; mode = zeroth (ℕ_discrete g.mode 1) i }
  where
    zeroth : Dec (g.mode ≡ 1) → 0 ≡ g.mode
    zeroth (yes e) = absurd (is-yes false (sym (sym (eq-eqb g.mode 1 e) ∙ o)))
    zeroth (no f) = omega (arith, r.4, f)

-- ---- the bit length

module _ (g : Grid) (in-range : Rectangle g) where
  power : LeastPower (max g.columns g.rows) (base g)
  power = ground-power g (omega arith) (omega arith)

  pub base_above : max g.columns g.rows < 2 ^ base g
  base_above = power.above

  pub base-range : (1 ≤ base g) × (base g ≤ 6)
  base-range = (go (base g) base_above, power.least 6 (omega arith))
    where
      go : (d : ℕ) → max g.columns g.rows < 2 ^ d → 1 ≤ d
      go zero h = absurd (omega arith)
      go (suc d) h = omega arith

  -- a level that goes round has three rows at least
  pub lap-size : (e : ℕ) → (lap g e ≡ 0) ⊎ (3 ≤ lap g e)
  lap-size e = go (is_ring g) refl (dec_le (base g) e)
    where
      go : (b : Bool) → is_ring g ≡ b → Dec (base g ≤ e) → (lap g e ≡ 0) ⊎ (3 ≤ lap g e)
      go false o l = inl (lap-open g e o)
      go true o (no l) = inl (lap-ghost g e (omega arith))
      go true o (yes l) =
          let h : 3 * 2 ^ (e - base g) ≤ g.rows * 2 ^ (e - base g) = mul-le-mul_right (2 ^ (e - base g)) (in-range.5 (is-yes (is_ring g) o)) in
          inr (omega (arith, lap-ring g e o l, one-le-pow (e - base g) 2 (omega arith)))

  pub lap-many : (e : ℕ) → lap g e ≡ 1 → ⊥
  lap-many e one = go (lap-size e)
    where
      go : (lap g e ≡ 0) ⊎ (3 ≤ lap g e) → ⊥
      go (inl z) = omega arith
      go (inr z) = omega arith

-- ---- where cells and patches can stand

-- a corner of a cell lies at most one step on
pub corner-near : {g : Grid} {r q : Place} → Corner g r q → (q.i ≤ suc r.i) × (q.j ≤ suc r.j)
corner-near c-here = (omega arith, omega arith)
corner-near {g} {r} c-east = rw (east-i g r, east-j g r) (omega arith, omega arith)
corner-near {g} {r} c-north = rw (north-i g r, north-j g r) (omega arith, after-near (lap g r.depth) r.j)
corner-near {g} {r} c-both = rw (north-i g (to_east g r), north-j g (to_east g r), east-depth g r, east-i g r, east-j g r) (omega arith, after-near (lap g r.depth) r.j)

-- and in a ring within its rows
pub corner-within : {g : Grid} {r q : Place} → Corner g r q → r.j < lap g r.depth → q.j < lap g r.depth
corner-within c-here h = h
corner-within {g} {r} c-east h = rw (east-j g r) h
corner-within {g} {r} c-north h = rw (north-j g r) (after-within (lap g r.depth) r.j h)
corner-within {g} {r} c-both h = rw (north-j g (to_east g r), east-depth g r, east-j g r) (after-within (lap g r.depth) r.j h)

-- "halve the indices, rounding down"
pub halved : (q p : Place) → parent q ≡ some p → (p.i ≡ q.i / 2) × (p.j ≡ q.j / 2)
unfolding up
halved q p e = (ap (λ (x : Place). x.i) (sym (up_is q p e)), ap (λ (x : Place). x.j) (sym (up_is q p e)))

-- an index whose half is below k is below 2 k
half-below : (i k n : ℕ) → i / 2 < k * 2 ^ n → i < k * 2 ^ suc n
half-below i k n h = rw (pow-suc 2 n, ← mul_assoc k (2 ^ n) 2) (omega arith)

module _ (g : Grid) (c : Place → Bool) (m : Mesh g c) where
  -- a cell stands on the rectangle, so many levels above level 0
  pub cell-on : (n : ℕ) (p : Place) → p.depth ≡ base g + n → T (c p) → (p.i < g.columns * 2 ^ n) × (p.j < g.rows * 2 ^ n)
  cell-on zero p e t = let (x, y) = m.inside p t (omega arith) in (omega arith, omega arith)
  cell-on (suc n) p e t =
      let (i, j) = halved p (up p) (parent_up p (omega arith)) in
      let (x, y) = cell-on n (up p) (omega (arith, up_depth p (omega arith))) (cell-up g c m p t (omega arith)) in
      (half-below p.i g.columns n (rw i at x), half-below p.j g.rows n (rw j at y))

  pub cell-inside : (p : Place) → T (c p) → (p.i < g.columns * 2 ^ (p.depth - base g)) × (p.j < g.rows * 2 ^ (p.depth - base g))
  cell-inside p t = let l = m.low p t in cell-on (p.depth - base g) p (omega arith) t

  -- a patch stands on it or on its edge
  pub patch-inside : (p : Place) → base g ≤ p.depth → T (patch g c p) → (p.i ≤ g.columns * 2 ^ (p.depth - base g)) × (p.j ≤ g.rows * 2 ^ (p.depth - base g))
  patch-inside p h t =
      let (r, k, b) = touched-corner g c p (patch-touched g c p h t) in
      let (x, y) = corner-near k in
      let (i, j) = rw (sym (corner-depth k)) at (cell-inside r b) in
      (omega arith, omega arith)

  -- a level of a ring has its cells below its last row
  pub cell_below : (r : Place) → T (c r) → Below g r
  cell_below r b = go (is_ring g) refl
    where
      go : (o : Bool) → is_ring g ≡ o → Below g r
      go false o = inl (lap-open g r.depth o)
      go true o = inr (rw (lap-ring g r.depth o (m.low r b)) (cell-inside r b).1)

  -- and its patches: none stands after the last row
  pub patch-below : (p : Place) → T (patch g c p) → Below g p
  patch-below p t = go (dec_le (base g) p.depth)
    where
      corner : {r : Place} → Corner g r p → Below g r → Below g p
      corner k (inl z) = inl (ap (lap g) (corner-depth k) ∙ z)
      corner k (inr l) = inr (rw (corner-depth k) (corner-within k l))

      go : Dec (base g ≤ p.depth) → Below g p
      go (no l) = inl (lap-ghost g p.depth (omega arith))
      go (yes l) = let (r, k, b) = touched-corner g c p (patch-touched g c p l t) in corner k (cell_below r b)

  pub patch-ring : (p : Place) → base g ≤ p.depth → T (patch g c p) → is_ring g ≡ true → p.j < g.rows * 2 ^ (p.depth - base g)
  patch-ring p h t o = rw (← l) (go (patch-below p t))
    where
      l : lap g p.depth ≡ g.rows * 2 ^ (p.depth - base g)
      l = lap-ring g p.depth o h

      -- there is a cell, so the level has a row
      go : Below g p → p.j < lap g p.depth
      go (inr k) = k
      go (inl z) =
          let (r, k, b) = touched-corner g c p (patch-touched g c p h t) in
          let d : r.depth ≡ p.depth = sym (corner-depth k) in
          absurd (omega (arith, rw d at (cell-inside r b).1, l))

  module _ (in-range : Rectangle g) where
    -- a patch up to level 0 has its indices below 2 ^ depth
    ghost-by : (n : ℕ) (p : Place) → p.depth + n ≡ base g → T (patch g c p) → (p.i < 2 ^ p.depth) × (p.j < 2 ^ p.depth)
    ghost-by zero p e t =
        let d : p.depth ≡ base g = omega arith in
        let b : max g.columns g.rows < 2 ^ p.depth = rw d (base_above g in-range) in
        let z : p.depth - base g ≡ 0 = omega arith in
        let (x, y) = rw z at (patch-inside p (omega arith) t) in
        (omega arith, omega arith)
    ghost-by (suc n) p e t =
        let (q, f, u) = ghost-kid g c p (omega arith) t in
        let (x, y) = ghost-by n q (omega (arith, parent-depth q p f)) u in
        let (i, j) = halved q p f in
        let w : 2 ^ q.depth ≡ 2 ^ p.depth * 2 = rw (parent-depth q p f) (pow-suc 2 p.depth) in
        (omega arith, omega arith)

    pub ghost-inside : (p : Place) → p.depth ≤ base g → T (patch g c p) → (p.i < 2 ^ p.depth) × (p.j < 2 ^ p.depth)
    ghost-inside p h t = ghost-by (base g - p.depth) p (omega arith) t

    -- ---- the root

    pub depth-zero-root : (p : Place) → p.depth ≡ 0 → T (patch g c p) → p ≡ root
    depth-zero-root p e t = let (x, y) = rw e at (ghost-inside p (omega arith) t) in place-path p root e (omega arith) (omega arith)

    -- going up from any patch leads to the root
    climb : (n : ℕ) (p : Place) → p.depth ≡ n → T (patch g c p) → T (patch g c root)
    climb zero p e t = subst (λ (x : Place). T (patch g c x)) (depth-zero-root p e t) t
    climb (suc n) p e t = climb n (up p) (omega (arith, up_depth p (omega arith))) (patch-up g c m p (omega arith) t)

    pub root-patch : T (patch g c root)
    root-patch = let (p, e, t) = m.some-cell in climb (base g) p e (cell-patch g c m p t)
