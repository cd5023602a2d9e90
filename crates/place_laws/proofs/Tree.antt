-- The patches make a tree: below the root, the parent of a patch is a patch; and a ghost has a kid.
-- Assumes nothing.
use Prim.Native.Nat.{ℕ, zero, suc, ◌+◌, ◌-◌, ◌≤◌, ◌<◌}
use native.Mathlib.Omega.{arith}
use native.Mathlib.Decide.{dec_le}
use mathlib.Core.Path.{◌≡◌, refl, sym, subst}
use mathlib.Core.Bool.{Bool}
use mathlib.Core.Option.{some}
use lib.Dec.{T}
use Rattle.mesh.specs.Place.{Place, Grid, base, kids, parent}
use Rattle.mesh.specs.Mesh.{Mesh, touched, under, patch, has_kids}
use Rattle.place_laws.proofs.Lists.{any-weaken}
use Rattle.place_laws.proofs.Kids.{up, parent_up, up_is, up_depth, parent-depth, any-kid, kid-any, has-kid}
use Rattle.place_laws.proofs.Near.{Corner, c-here, corner-up, corner-depth, touched-corner, corner-touched}

module _ (g : Grid) (c : Place → Bool) where
  -- ---- a patch by its depth

  under-is : (n m : ℕ) (p : Place) → n ≡ m → T (under g c n p) → T (under g c m p)
  under-is n m p e t = rw (← e) t

  -- from level 0 up a patch is a place that is touched
  pub patch-touched : (p : Place) → base g ≤ p.depth → T (patch g c p) → T (touched g c p)
  unfolding patch under
  patch-touched p h t = under-is (base g - p.depth) 0 p (omega arith) t

  pub touched-patch : (p : Place) → base g ≤ p.depth → T (touched g c p) → T (patch g c p)
  unfolding patch under
  touched-patch p h t = under-is 0 (base g - p.depth) p (omega arith) t

  -- below level 0 a patch is the parent of one
  pub ghost-kid : (p : Place) → p.depth < base g → T (patch g c p) → (q : Place) × (parent q ≡ some p) × T (patch g c q)
  unfolding patch under
  ghost-kid p h t =
      let (q, e, u) = any-kid (under g c (base g - suc p.depth)) p (under-is (base g - p.depth) (suc (base g - suc p.depth)) p (omega arith) t) in
      (q, e, under-is (base g - suc p.depth) (base g - q.depth) q (rw (parent-depth q p e) refl) u)

  pub kid-ghost : (p q : Place) → p.depth < base g → parent q ≡ some p → T (patch g c q) → T (patch g c p)
  unfolding patch under
  kid-ghost p q h e t =
      under-is (suc (base g - q.depth)) (base g - p.depth) p (omega (arith, parent-depth q p e)) (kid-any (under g c (base g - q.depth)) p q e t)

  -- a cell makes the four patches at its corners
  pub corner-patch : {r p : Place} → base g ≤ r.depth → Corner g r p → T (c r) → T (patch g c p)
  corner-patch {r} {p} h k t = touched-patch p (omega (arith, corner-depth k)) (corner-touched g c k t)

  -- a patch is a ghost, or lies as deep as a cell
  pub patch-high : Mesh g c → (p : Place) → T (patch g c p) → p.depth ≤ base g + 12
  patch-high m p t = go (dec_le (base g) p.depth)
    where
      go : Dec (base g ≤ p.depth) → p.depth ≤ base g + 12
      go (yes h) = let (r, k, b) = touched-corner g c p (patch-touched p h t) in omega (arith, corner-depth k, m.high r b)
      go (no h) = omega arith

  pub cell-patch : Mesh g c → (p : Place) → T (c p) → T (patch g c p)
  cell-patch m p t = corner-patch (m.low p t) c-here t

  -- ---- up the tree

  module _ (m : Mesh g c) where
    -- the parent's place of a cell above level 0 is a cell
    pub cell-up : (p : Place) → T (c p) → base g < p.depth → T (c (up p))
    cell-up p t h = rw (parent_up p (omega arith)) at (m.above p t h)

    -- a place of level 0 or above that has kids is a cell
    pub kids-cell : (p : Place) → base g ≤ p.depth → T (has_kids g c p) → T (c p)
    kids-cell p l t = let (q, e, u) = has-kid g c p t in rw e at (m.above q u (omega (arith, parent-depth q p e)))

    -- the parent's place of a patch is a patch
    pub patch-up : (p : Place) → 0 < p.depth → T (patch g c p) → T (patch g c (up p))
    patch-up p h t = go (dec_le p.depth (base g))
      where
        go : Dec (p.depth ≤ base g) → T (patch g c (up p))
        go (yes a) = kid-ghost (up p) p (omega (arith, up_depth p h)) (parent_up p h) t
        go (no a) =
            let (r, k, b) = touched-corner g c p (patch-touched p (omega arith) t) in
            let d : r.depth ≡ p.depth = sym (corner-depth k) in
            corner-patch (omega (arith, up_depth r (omega (arith, d)))) (corner-up (omega arith) k) (cell-up r b (omega arith))

    pub patch-parent : (q p : Place) → parent q ≡ some p → T (patch g c q) → T (patch g c p)
    patch-parent q p e t =
        let h : 0 < q.depth = omega (arith, parent-depth q p e) in
        subst (λ (x : Place). T (patch g c x)) (up_is q p e) (patch-up q h t)

-- ---- a larger set of cells has more patches

module _ (g : Grid) (c d : Place → Bool) (more : (q : Place) → T (c q) → T (d q)) where
  under_more : (n : ℕ) (q : Place) → T (under g c n q) → T (under g d n q)
  unfolding under
  under_more zero q t = let (r, k, b) = touched-corner g c q t in corner-touched g d k (more r b)
  under_more (suc n) q t = any-weaken (under g c n) (under g d n) (under_more n) (kids q) t

  pub patch-more : (q : Place) → T (patch g c q) → T (patch g d q)
  unfolding patch
  patch-more q t = under_more (base g - q.depth) q t
