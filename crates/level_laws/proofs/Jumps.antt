-- In a balanced mesh two leaves that share part of an edge differ by one level at most. If one were two levels finer, there would be two points,
-- one in each, whose places on the level above the coarse leaf lie side by side; that of the fine leaf is a refined cell, so that of the
-- coarse leaf is a cell too, and a kid of it.
-- Assumes nothing.
use Prim.Native.Nat.{ℕ, zero, suc, ◌+◌, ◌-◌, ◌*◌, ◌/◌, ◌^◌, ◌≤◌, ◌<◌}
use native.Mathlib.Nat.{add-mul, one-mul, mul_assoc, mul_comm, pow-suc, one-le-pow, zero-mul, zero-div, div-eq_of_lt-le}
use native.Mathlib.Omega.{arith}
use native.Mathlib.Decide.{dec_le}
use mathlib.Core.Path.{◌≡◌, refl, sym, ap, ◌∙◌, subst}
use mathlib.Core.Logic.{◌⊎◌, inl, inr}
use mathlib.Core.Bool.{Bool}
use mathlib.Core.Option.{some}
use lib.Dec.{T}
use Rattle.mesh.specs.Place.{Place, Grid, Wind, N, E, S, W, base, lap, home, step, parent}
use Rattle.mesh.specs.Mesh.{Mesh, on, has_kids, leaf}
use Rattle.mesh.specs.Holding.{side, west_edge, east_edge, south_edge, north_edge, holds}
use Rattle.place_laws.proofs.Steps.{south-on, south-anew, west-on, step_back}
use Rattle.place_laws.proofs.Kids.{up_is, kid-has, leaf-cell, leaf-kidless}
use Rattle.place_laws.proofs.SideDigits.{aside}
use Rattle.place_laws.proofs.Walls.{home-up, home-cell}
use Rattle.place_laws.proofs.UnitPoints.{Within, held, place_at, place-at-depth, holds-place-at, place-at-parent}
use Rattle.place_laws.proofs.Tiling.{place_at_up}
use Rattle.level_laws.specs.Beside.{Overlap, Meet, BesideV, BesideH, Beside, NoJump}
use Rattle.level_laws.proofs.Balanced.{Balanced}
use Rattle.level_laws.proofs.RowUnits.{lap-units, north-edge}

-- ---- intervals

grows : (h i : ℕ) → 0 < h → i * h < (i + 1) * h
grows h i l = rw (add-mul, one-mul) (omega arith)

-- a number in both of two intervals that overlap
common : (h i k j : ℕ) → 0 < h → 0 < k → Overlap (i * h) ((i + 1) * h) (j * k) ((j + 1) * k) → (v : ℕ) × Within h i v × Within k j v
common h i k j a b (x, y) = go (dec_le (i * h) (j * k))
  where
    go : Dec (i * h ≤ j * k) → (v : ℕ) × Within h i v × Within k j v
    go (yes l) = (j * k, (l, y), (omega arith, grows k j b))
    go (no l) = (i * h, (omega arith, grows h i a), (omega arith, x))

-- the last number of the interval before an edge, and the first of the one behind it
last : (h i : ℕ) → 0 < h → Within h i ((i + 1) * h - 1)
last h i l = let g = grows h i l in (omega arith, omega arith)

index : (h k : ℕ) → 0 < h → (suc k * h / h ≡ suc k) × ((suc k * h - 1) / h ≡ k)
index h k l =
    let (a, b) = last h k l in
    let e : k + 1 ≡ suc k = omega arith in
    (div-eq_of_lt-le h (omega arith) (grows h (suc k) l), rw e at (div-eq_of_lt-le h a b))

-- ---- places side by side

module _ (g : Grid) (e : ℕ) where
  abbrev len : ℕ
  len = 2 ^ (base g + 12 - e)

  len-pos : 0 < len
  len-pos = one-le-pow (base g + 12 - e) 2 (omega arith)

  west-of : (k v : ℕ) → step g W (place_at g e (suc k * len) v) ≡ some (place_at g e (suc k * len - 1) v)
  unfolding place_at
  west-of k v = let (a, b) = index len k len-pos in rw (a, b) (west-on g e k (v / len))

  south-of : (k u : ℕ) → (suc k ≡ lap g e → ⊥) → step g S (place_at g e u (suc k * len)) ≡ some (place_at g e u (suc k * len - 1))
  unfolding place_at
  south-of k u h = let (a, b) = index len k len-pos in rw (a, b) (south-on g e (u / len) k h)

  -- over the seam
  south-round : (k u : ℕ) → suc k ≡ lap g e → step g S (place_at g e u 0) ≡ some (place_at g e u (suc k * len - 1))
  unfolding place_at
  south-round k u h = let (a, b) = index len k len-pos in rw (zero-div len, b) (south-anew g e (u / len) k h)

-- ---- a leaf two levels finer

module _ {g : Grid} {c : Place → Bool} (m : Mesh g c) where
  module _ (even : Balanced g c) (p q : Place) (here : T (leaf g c p)) (there : T (c q)) (deep : suc p.depth < q.depth) where
    -- the place with the point x, y of q has the place with the point u, v of p on one of its sides
    across : (u v x y : ℕ) → T (holds g p u v) → T (holds g q x y) → (w : Wind) → T (aside w) → step g w (place_at g (suc p.depth) x y) ≡ some (place_at g (suc p.depth) u v) → ⊥
    across u v x y hp hq w a e =
        let d = p.depth in
        let n = place_at g (suc d) u v in
        let k = place_at g (suc d) x y in
        let low = m.low p (leaf-cell g c p here) in
        let high = m.high q there in
        let t : T (c (place_at g q.depth x y)) = subst (λ (r : Place). T (c r)) (holds-place-at g x y q hq) there in
        let i : parent n ≡ some p = place-at-parent g u v d (omega arith) ∙ ap some (sym (holds-place-at g u v p hp)) in
        let f : T (has_kids g c k) = kid-has g c k (place_at g (suc (suc d)) x y) (place-at-parent g x y (suc d) (omega arith)) (place_at_up m x y (q.depth - suc (suc d)) (suc (suc d)) q.depth (omega arith) (omega arith) t) in
        let area : T (c (home g n)) = rw (ap (home g) (sym (up_is n p i)) ∙ home-up g n (omega (arith, place-at-depth g u v (suc d)))) at (home-cell g c m p (leaf-cell g c p here)) in
        let on-k : T (c k) = place_at_up m x y (q.depth - suc d) (suc d) q.depth (omega arith) (omega arith) t in
        let r : T (on g c (step g w k)) = even k on-k (omega (arith, place-at-depth g x y (suc d))) f w a (rw e area) in
        leaf-kidless g c p here n i (rw e at r)

    -- half the side of p
    abbrev half : ℕ
    half = 2 ^ (base g + 12 - suc p.depth)

    twice : side g p ≡ half * 2
    twice =
        let l = m.high q there in
        let k : base g + 12 - p.depth ≡ suc (base g + 12 - suc p.depth) = omega arith in
        ap (λ (n : ℕ). 2 ^ n) k ∙ pow-suc 2 (base g + 12 - suc p.depth)

    -- an edge of p, in halves of its side
    halves : (i : ℕ) → i * side g p ≡ 2 * i * half
    halves i = rw (twice, mul_comm half 2, ← mul_assoc i 2 half, mul_comm i 2)

    pos-p : 0 < side g p
    pos-p = one-le-pow (base g + 12 - p.depth) 2 (omega arith)

    pos-q : 0 < side g q
    pos-q = one-le-pow (base g + 12 - q.depth) 2 (omega arith)

    -- the edge between p and q: p ends there or q ends there
    behind : (i j : ℕ) → (i + 1) * side g p ≡ j * side g q → (k : ℕ) × Within (side g p) i (suc k * half - 1) × Within (side g q) j (suc k * half)
    behind i j e =
        let h : 2 * (i + 1) ≡ suc (2 * i + 1) = omega arith in
        let f : suc (2 * i + 1) * half ≡ (i + 1) * side g p = rw (← h) (sym (halves (i + 1))) in
        (2 * i + 1, rw f (last (side g p) i pos-p), rw (f, e) (omega arith, grows (side g q) j pos-q))

    before : (i j : ℕ) → (j + 1) * side g q ≡ i * side g p → (k : ℕ) × Within (side g p) i (suc k * half) × Within (side g q) j (suc k * half - 1)
    before zero j e = absurd (omega (arith, grows (side g q) j pos-q))
    before (suc i) j e =
        let h : 2 * suc i ≡ suc (2 * i + 1) = omega arith in
        let f : suc (2 * i + 1) * half ≡ suc i * side g p = rw (← h) (sym (halves (suc i))) in
        (2 * i + 1, rw f (omega arith, grows (side g p) (suc i) pos-p), rw (f, ← e) (last (side g q) j pos-q))

    no-jump-v : BesideV g p q → ⊥
    no-jump-v (x, o) = let (v, a, b) = common (side g p) p.j (side g q) q.j pos-p pos-q o in go v a b x
      where
        go : (v : ℕ) → Within (side g p) p.j v → Within (side g q) q.j v → (east_edge g p ≡ west_edge g q) ⊎ (east_edge g q ≡ west_edge g p) → ⊥
        go v a b (inl e) =
            let (k, s, t) = behind p.i q.i e in
            across (suc k * half - 1) v (suc k * half) v (held g p _ v s a) (held g q _ v t b) W tt (west-of g (suc p.depth) k v)
        go v a b (inr e) =
            let (k, s, t) = before p.i q.i e in
            across (suc k * half) v (suc k * half - 1) v (held g p _ v s a) (held g q _ v t b) E tt (step_back g W _ _ (west-of g (suc p.depth) k v))

    -- a row that begins in a cell is not the one after the last
    inner : (r : Place) → T (c r) → (k : ℕ) → Within (side g r) r.j (suc k * half) → suc k ≡ lap g (suc p.depth) → ⊥
    inner r t k (a, b) h = go (north-edge m r t)
      where
        all : lap g (base g + 12) ≡ suc k * half
        all = let l = m.low p (leaf-cell g c p here) in let u = m.high q there in rw h (lap-units g (suc p.depth) (omega arith) (omega arith))

        go : (lap g (base g + 12) ≡ 0) ⊎ (north_edge g r ≤ lap g (base g + 12)) → ⊥
        go (inl z) = omega (arith, all, grows half k (len-pos g (suc p.depth)))
        go (inr l) = omega (arith, all)

    -- the rows that p's level has in halves of its side, if an edge is the one after the last
    round : {n : ℕ} → 0 < n → n ≡ lap g (base g + 12) → (k : ℕ) × (suc k ≡ lap g (suc p.depth)) × (suc k * half ≡ n)
    round {n} l e =
        let a = m.low p (leaf-cell g c p here) in
        let b = m.high q there in
        go (lap g (suc p.depth)) refl (lap-units g (suc p.depth) (omega arith) (omega arith))
      where
        go : (x : ℕ) → lap g (suc p.depth) ≡ x → lap g (base g + 12) ≡ lap g (suc p.depth) * half → (k : ℕ) × (suc k ≡ lap g (suc p.depth)) × (suc k * half ≡ n)
        go zero z u = absurd (omega (arith, rw (z, zero-mul half) at u))
        go (suc k) z u = (k, sym z, rw (← z) (sym (e ∙ u)))

    first : (h i : ℕ) → 0 < h → i * h ≡ 0 → Within h i 0
    first h i l e = let g = grows h i l in (omega arith, omega arith)

    no-jump-h : BesideH g p q → ⊥
    no-jump-h (x, o) = let (u, a, b) = common (side g p) p.i (side g q) q.i pos-p pos-q o in go u a b x
      where
        go : (u : ℕ) → Within (side g p) p.i u → Within (side g q) q.i u → Meet g (north_edge g p) (south_edge g q) ⊎ Meet g (north_edge g q) (south_edge g p) → ⊥
        go u a b (inl (inl e)) =
            let (k, s, t) = behind p.j q.j e in
            across u (suc k * half - 1) u (suc k * half) (held g p u _ a s) (held g q u _ b t) S tt (south-of g (suc p.depth) k u (inner q there k t))
        go u a b (inl (inr (e, z))) =
            let (k, h, f) = round (omega (arith, grows (side g p) p.j pos-p)) e in
            let s : Within (side g p) p.j (suc k * half - 1) = rw f (last (side g p) p.j pos-p) in
            across u (suc k * half - 1) u 0 (held g p u _ a s) (held g q u _ b (first (side g q) q.j pos-q z)) S tt (south-round g (suc p.depth) k u h)
        go u a b (inr (inl e)) =
            let (k, s, t) = before p.j q.j e in
            across u (suc k * half) u (suc k * half - 1) (held g p u _ a s) (held g q u _ b t) N tt (step_back g S _ _ (south-of g (suc p.depth) k u (inner p (leaf-cell g c p here) k s)))
        go u a b (inr (inr (e, z))) =
            let (k, h, f) = round (omega (arith, grows (side g q) q.j pos-q)) e in
            let t : Within (side g q) q.j (suc k * half - 1) = rw f (last (side g q) q.j pos-q) in
            across u 0 u (suc k * half - 1) (held g p u _ a (first (side g p) p.j pos-p z)) (held g q u _ b t) N tt (step_back g S _ _ (south-round g (suc p.depth) k u h))

    no_jump : Beside g p q → ⊥
    no_jump (inl b) = no-jump-v b
    no_jump (inr b) = no-jump-h b

-- ---- the promise

flip : {A B : Type 0} → A ⊎ B → B ⊎ A
flip (inl a) = inr a
flip (inr b) = inl b

pub beside-flip : (g : Grid) (p q : Place) → Beside g p q → Beside g q p
beside-flip g p q (inl (x, (a, b))) = inl (flip x, (b, a))
beside-flip g p q (inr (x, (a, b))) = inr (flip x, (b, a))

pub balanced-no-jump : {g : Grid} {c : Place → Bool} → Mesh g c → Balanced g c → NoJump g c
balanced-no-jump {g} {c} m even p q a b e = (go q p b a (beside-flip g p q e) (dec_le p.depth (suc q.depth)), go p q a b e (dec_le q.depth (suc p.depth)))
  where
    go : (p q : Place) → T (leaf g c p) → T (leaf g c q) → Beside g p q → Dec (q.depth ≤ suc p.depth) → q.depth ≤ suc p.depth
    go p q a b e (yes l) = l
    go p q a b e (no l) = absurd (no_jump m even p q a (leaf-cell g c q b) (omega arith) e)
