-- The leaves tile the area: a point whose level-0 place is a cell lies in exactly one leaf, and every other point in none. Up the tree, the
-- places that hold a point are cells from any cell that holds it to the ground; down the tree, a cell that is no leaf passes the point on
-- to one of its four kids.
-- Assumes nothing.
use Prim.Native.Nat.{ℕ, zero, suc, ◌+◌, ◌-◌, ◌/◌, ◌^◌, ◌≤◌, ◌<◌}
use native.Mathlib.Omega.{arith}
use native.Mathlib.Decide.{dec_lt}
use mathlib.Core.Path.{◌≡◌, sym, ap, ◌∙◌, subst}
use mathlib.Core.Logic.{◌⊎◌, inl, inr}
use mathlib.Core.Bool.{Bool, not}
use mathlib.Core.Option.{some}
use lib.Dec.{T}
use Rattle.mesh.specs.Place.{Place, Grid, at, base}
use Rattle.mesh.specs.Mesh.{Mesh, has_kids, leaf}
use Rattle.mesh.specs.Holding.{holds, ground_of}
use Rattle.place_laws.proofs.Bools.{either, and_both}
use Rattle.place_laws.proofs.Kids.{up, parent-depth, up_is, all-kids, has-kid, leaf-cell, leaf-kidless}
use Rattle.place_laws.proofs.Tree.{cell-up}
use Rattle.place_laws.proofs.UnitPoints.{place_at, place-at-depth, place-at-holds, holds-place-at, place-at-parent}

ground-place-at : (g : Grid) (u v : ℕ) → ground_of g u v ≡ place_at g (base g) u v
unfolding place_at
ground-place-at g u v =
    let k : 12 ≡ base g + 12 - base g = omega arith in
    ap (λ (n : ℕ). at (base g) (u / 2 ^ n) (v / 2 ^ n)) k

module _ {g : Grid} {c : Place → Bool} (m : Mesh g c) (u v : ℕ) where
  -- ---- up to the ground

  -- where a cell holds the point, so does a cell n depths less
  pub place_at_up : (n e d : ℕ) → d ≡ e + n → base g ≤ e → T (c (place_at g d u v)) → T (c (place_at g e u v))
  place_at_up zero e d f l t =
      let i : d ≡ e = omega arith in
      rw (← i) t
  place_at_up (suc n) e d f l t =
      let q = place_at g (suc e) u v in
      let x = place_at_up n (suc e) d (omega arith) (omega arith) t in
      let k : suc e ≤ base g + 12 = rw (place-at-depth g u v (suc e)) at (m.high q x) in
      let y : T (c (up q)) = cell-up g c m q x (rw (place-at-depth g u v (suc e)) (omega arith)) in
      rw (up_is q (place_at g e u v) (place-at-parent g u v e k)) at y

  cell-place-at : (p : Place) → T (leaf g c p) → T (holds g p u v) → (e : ℕ) → base g ≤ e → e ≤ p.depth → T (c (place_at g e u v))
  cell-place-at p t h e l k =
      place_at_up (p.depth - e) e p.depth (omega arith) l (subst (λ (q : Place). T (c q)) (holds-place-at g u v p h) (leaf-cell g c p t))

  pub tiling-none : (p : Place) → T (leaf g c p) → T (holds g p u v) → T (c (ground_of g u v))
  tiling-none p t h = rw (ground-place-at g u v) (cell-place-at p t h (base g) (omega arith) (m.low p (leaf-cell g c p t)))

  -- ---- one leaf at most

  -- above a leaf that holds the point no leaf holds it
  none_above : (p q : Place) → T (leaf g c p) → T (holds g p u v) → T (leaf g c q) → T (holds g q u v) → p.depth < q.depth → ⊥
  none_above p q a h b k l =
      let x = m.low p (leaf-cell g c p a) in
      let y = m.high q (leaf-cell g c q b) in
      leaf-kidless g c p a (place_at g (suc p.depth) u v)
      (place-at-parent g u v p.depth (omega arith) ∙ ap some (sym (holds-place-at g u v p h)))
      (cell-place-at q b k (suc p.depth) (omega arith) (omega arith))

  pub tiling-one : (p q : Place) → T (leaf g c p) → T (holds g p u v) → T (leaf g c q) → T (holds g q u v) → p ≡ q
  tiling-one p q a h b k = go (dec_lt p.depth q.depth) (dec_lt q.depth p.depth)
    where
      go : Dec (p.depth < q.depth) → Dec (q.depth < p.depth) → p ≡ q
      go (yes x) y = absurd (none_above p q a h b k x)
      go (no x) (yes y) = absurd (none_above q p b k a h y)
      go (no x) (no y) =
          let d : p.depth ≡ q.depth = omega arith in
          holds-place-at g u v p h ∙ ap (λ (n : ℕ). place_at g n u v) d ∙ sym (holds-place-at g u v q k)

  -- ---- down to a leaf

  -- a cell that holds the point is a leaf, or its kid that holds the point is a cell
  leaf-or-down : (e : ℕ) → T (c (place_at g e u v)) → T (leaf g c (place_at g e u v)) ⊎ T (c (place_at g (suc e) u v))
  unfolding leaf
  leaf-or-down e t = go (either (has_kids g c (place_at g e u v)))
    where
      go : T (has_kids g c (place_at g e u v)) ⊎ T (not (has_kids g c (place_at g e u v))) → T (leaf g c (place_at g e u v)) ⊎ T (c (place_at g (suc e) u v))
      go (inl x) =
          let (q, i, y) = has-kid g c (place_at g e u v) x in
          let l : e < base g + 12 = omega (arith, m.high q y, parent-depth q (place_at g e u v) i, place-at-depth g u v e) in
          inr (all-kids c (place_at g e u v) (m.four (place_at g e u v) t x) (place_at g (suc e) u v) (place-at-parent g u v e l))
      go (inr x) = inl (and_both (c (place_at g e u v)) (not (has_kids g c (place_at g e u v))) t x)

  -- no cell is n depths down
  place_at_down : (n e : ℕ) → base g + 12 < e + n → T (c (place_at g e u v)) → (p : Place) × T (leaf g c p) × T (holds g p u v)
  place_at_down zero e l t = absurd (omega (arith, m.high (place_at g e u v) t, place-at-depth g u v e))
  place_at_down (suc n) e l t = go (leaf-or-down e t) (place_at_down n (suc e) (omega arith))
    where
      go : T (leaf g c (place_at g e u v)) ⊎ T (c (place_at g (suc e) u v)) → (T (c (place_at g (suc e) u v)) → (p : Place) × T (leaf g c p) × T (holds g p u v)) → (p : Place) × T (leaf g c p) × T (holds g p u v)
      go (inl x) down = (place_at g e u v, x, place-at-holds g u v e)
      go (inr x) down = down x

  pub tiling-some : T (c (ground_of g u v)) → (p : Place) × T (leaf g c p) × T (holds g p u v)
  tiling-some t = place_at_down 13 (base g) (omega arith) (rw (ground-place-at g u v) at t)
