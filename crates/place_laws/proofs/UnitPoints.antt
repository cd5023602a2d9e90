-- Points in 1/4096 of a level-0 cell: of each depth one place holds a point, and its parent is the place one depth less that holds it.
-- Assumes nothing.
use Prim.Native.Nat.{ℕ, suc, ◌+◌, ◌-◌, ◌*◌, ◌/◌, ◌^◌, ◌≤◌, ◌<◌}
use native.Mathlib.Nat.{add-mul, one-mul, pow-suc, one-le-pow, div-eq_of_lt-le, div-mul-le_self, lt-div-mul-add, div-div-eq-div-mul}
use native.Mathlib.Omega.{arith}
use mathlib.Core.Path.{◌≡◌, refl, sym, ap, ◌∙◌}
use mathlib.Core.Bool.{◌&&◌}
use mathlib.Core.Option.{some}
use lib.Dec.{T, leb, ltb, leb→le, ltb→lt, le→leb, lt→ltb}
use Rattle.mesh.specs.Place.{Place, Grid, at, base, parent}
use Rattle.mesh.specs.Holding.{side, holds}
use Rattle.place_laws.proofs.Bools.{and_both, and_left, and_right}
use Rattle.place_laws.proofs.Places.{place-path}
use Rattle.place_laws.proofs.Kids.{up, parent_up}

-- ---- one coordinate

-- a number lies in the i-th interval of length h
abbrev pub Within : ℕ → ℕ → ℕ → Type 0
Within h i u = (i * h ≤ u) × (u < (i + 1) * h)

-- in one of them, and in no other
index-within : (h u : ℕ) → 0 < h → Within h (u / h) u
index-within h u l = (div-mul-le_self u h, rw (add-mul, one-mul) (lt-div-mul-add l))

within-index : (h i u : ℕ) → Within h i u → i ≡ u / h
within-index h i u (a, b) = sym (div-eq_of_lt-le h a b)

-- ---- both

-- a place holds a point exactly if its columns have the one coordinate and its rows the other
module _ (g : Grid) (p : Place) (u v : ℕ) where
  pub held : Within (side g p) p.i u → Within (side g p) p.j v → T (holds g p u v)
  unfolding holds
  held (a, b) (c, d) =
      let h = side g p in
      let t₃ = leb (p.j * h) v in
      let t₄ = ltb v ((p.j + 1) * h) in
      and_both (leb (p.i * h) u) (ltb u ((p.i + 1) * h) && (t₃ && t₄)) (le→leb _ _ a)
      (and_both (ltb u ((p.i + 1) * h)) (t₃ && t₄) (lt→ltb _ _ b) (and_both t₃ t₄ (le→leb _ _ c) (lt→ltb _ _ d)))

  pub holding : T (holds g p u v) → Within (side g p) p.i u × Within (side g p) p.j v
  unfolding holds
  holding t =
      let h = side g p in
      let a = leb (p.i * h) u in
      let b = ltb u ((p.i + 1) * h) in
      let c = leb (p.j * h) v in
      let d = ltb v ((p.j + 1) * h) in
      let t₁ = and_right a (b && (c && d)) t in
      let t₂ = and_right b (c && d) t₁ in
      ((leb→le _ _ (and_left a (b && (c && d)) t), ltb→lt _ _ (and_left b (c && d) t₁)), (leb→le _ _ (and_left c d t₂), ltb→lt _ _ (and_right c d t₂)))

-- ---- the place that holds a point

-- the place of depth e that holds the point
unfoldable pub place_at : Grid → ℕ → ℕ → ℕ → Place
place_at g e u v = at e (u / 2 ^ (base g + 12 - e)) (v / 2 ^ (base g + 12 - e))

module _ (g : Grid) (u v : ℕ) where
  pub place-at-depth : (e : ℕ) → (place_at g e u v).depth ≡ e
  unfolding place_at
  place-at-depth e = refl

  pub place-at-holds : (e : ℕ) → T (holds g (place_at g e u v) u v)
  unfolding place_at
  place-at-holds e =
      let h = 2 ^ (base g + 12 - e) in
      let l : 0 < h = one-le-pow (base g + 12 - e) 2 (omega arith) in
      held g (place_at g e u v) u v (index-within h u l) (index-within h v l)

  -- and no other place of that depth
  pub holds-place-at : (p : Place) → T (holds g p u v) → p ≡ place_at g p.depth u v
  unfolding place_at
  holds-place-at p t =
      let h = side g p in
      let (a, b) = holding g p u v t in
      place-path p (at p.depth (u / h) (v / h)) refl (within-index h p.i u a) (within-index h p.j v b)

  -- "halve the indices, rounding down": half an index is the index in intervals twice as long
  pub place-at-parent : (e : ℕ) → e < base g + 12 → parent (place_at g (suc e) u v) ≡ some (place_at g e u v)
  unfolding place_at up
  place-at-parent e l = parent_up (place_at g (suc e) u v) (omega arith) ∙ ap some (place-path (up (place_at g (suc e) u v)) (place_at g e u v) refl (half u) (half v))
    where
      half : (x : ℕ) → x / 2 ^ (base g + 12 - suc e) / 2 ≡ x / 2 ^ (base g + 12 - e)
      half x =
          let k : suc (base g + 12 - suc e) ≡ base g + 12 - e = omega arith in
          div-div-eq-div-mul x (2 ^ (base g + 12 - suc e)) 2
          ∙ ap (λ (n : ℕ). x / n) (sym (pow-suc 2 (base g + 12 - suc e)) ∙ ap (λ (n : ℕ). 2 ^ n) k)
