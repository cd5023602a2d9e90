-- The nine places that a refinement wants are the corners of the kids, each once.
-- Assumes nothing.
use Prim.Native.Nat.{ℕ, suc, ◌+◌, ◌-◌, ◌*◌, ◌≤◌, ◌<◌}
use native.Mathlib.Omega.{arith}
use mathlib.Core.Path.{◌≡◌, refl, sym, ap, ◌∙◌, subst}
use mathlib.Core.Logic.{◌⊎◌, inl, inr}
use mathlib.Core.Bool.{Bool, true, false, not, ◌&&◌, cond}
use mathlib.Core.Option
use mathlib.Core.Option.{some, some-injective}
use mathlib.Core.List.{List, [], ◌∷◌, map}
use lib.Dec.{T, T_not, eqb, eqb→eq, eqb_refl, lit<}
use lib.ListN.{get_or}
use Rattle.mesh.specs.Tools.{any}
use Rattle.mesh.specs.Place.{Place, Grid, same, root, base, lap, j_after, to_north, to_east, kid, kids, parent, Wind, NE, SE, SW, NW, N, E, In, Distinct, step, S, W}
use Rattle.mesh.specs.Request.{wanted}
use Rattle.place_laws.proofs.Bools.{yes-is, no-is, and_left, and_right}
use Rattle.place_laws.proofs.Lists.{any_at, any-map}
use Rattle.place_laws.proofs.Places.{in-cases, in-any, is_same}
use Rattle.place_laws.proofs.Steps.{north-depth, north-i, north-j, east-depth, east-i, east-j, north-south, east-west, step-north, step-east}
use Rattle.place_laws.proofs.Laps.{Smooth, smooth-above, after-other}
use Rattle.place_laws.proofs.Kids.{parent_in, parent-kid, kid-parent, kid-depth}
use Rattle.place_laws.proofs.SideDigits.{kid_by, step-kid}
use Rattle.place_laws.proofs.Near.{Corner, c-here, c-east, c-north, c-both, corner-cast}

-- ---- steps among kids

-- from level 0 up
module _ (g : Grid) (p : Place) (low : base g ≤ p.depth) where
  above : (v : Wind) → Smooth g N (kid v p)
  above v = smooth-above g N (kid v p) (omega (arith, kid-depth v p))

  -- one step within the four
  pub north-sw : to_north g (kid SW p) ≡ kid NW p
  unfolding kid kid_by
  north-sw = some-injective _ _ (sym (step-north g (kid SW p)) ∙ step-kid g N SW tt p (above SW))

  pub north-se : to_north g (kid SE p) ≡ kid NE p
  unfolding kid kid_by
  north-se = some-injective _ _ (sym (step-north g (kid SE p)) ∙ step-kid g N SE tt p (above SE))

  -- and out of them
  pub north-nw : to_north g (kid NW p) ≡ kid SW (to_north g p)
  unfolding kid kid_by
  north-nw = some-injective _ _ (sym (step-north g (kid NW p)) ∙ step-kid g N NW tt p (above NW) ∙ ap (Option.map (kid SW)) (step-north g p))

  pub north-ne : to_north g (kid NE p) ≡ kid SE (to_north g p)
  unfolding kid kid_by
  north-ne = some-injective _ _ (sym (step-north g (kid NE p)) ∙ step-kid g N NE tt p (above NE) ∙ ap (Option.map (kid SE)) (step-north g p))

module _ (g : Grid) (p : Place) where
  -- one step within the four
  pub east-sw : to_east g (kid SW p) ≡ kid SE p
  unfolding kid kid_by
  east-sw = some-injective _ _ (sym (step-east g (kid SW p)) ∙ step-kid g E SW tt p (λ _. refl))

  pub east-nw : to_east g (kid NW p) ≡ kid NE p
  unfolding kid kid_by
  east-nw = some-injective _ _ (sym (step-east g (kid NW p)) ∙ step-kid g E NW tt p (λ _. refl))

  -- and out of them
  pub east-se : to_east g (kid SE p) ≡ kid SW (to_east g p)
  unfolding kid kid_by
  east-se = some-injective _ _ (sym (step-east g (kid SE p)) ∙ step-kid g E SE tt p (λ _. refl) ∙ ap (Option.map (kid SW)) (step-east g p))

  pub east-ne : to_east g (kid NE p) ≡ kid NW (to_east g p)
  unfolding kid kid_by
  east-ne = some-injective _ _ (sym (step-east g (kid NE p)) ∙ step-kid g E NE tt p (λ _. refl) ∙ ap (Option.map (kid NW)) (step-east g p))

-- one place alone leads to a place by a step east, and one by a step north
pub east-once : (g : Grid) (p q : Place) → to_east g p ≡ to_east g q → p ≡ q
east-once g p q e = some-injective _ _ (sym (east-west g p) ∙ ap (step g W) e ∙ east-west g q)

pub north-once : (g : Grid) (p q : Place) → to_north g p ≡ to_north g q → p ≡ q
north-once g p q e = some-injective _ _ (sym (north-south g p) ∙ ap (step g S) e ∙ north-south g q)

-- the point in the middle of p is a corner of the kids alone
pub middle-kid : (g : Grid) (r p : Place) → base g ≤ p.depth → Corner g r (kid NE p) → parent r ≡ some p
middle-kid g r p low k = go (kid NE p) refl k
  where
    go : (q : Place) → q ≡ kid NE p → Corner g r q → parent r ≡ some p
    go q e c-here = kid-parent NE e
    go q e c-east = kid-parent NW (east-once g r (kid NW p) (e ∙ sym (east-nw g p)))
    go q e c-north = kid-parent SE (north-once g r (kid SE p) (e ∙ sym (north-se g p low)))
    go q e c-both = kid-parent SW (east-once g r (kid SW p) (north-once g (to_east g r) (kid SE p) (e ∙ sym (north-se g p low)) ∙ sym (east-sw g p)))

-- ---- a property of each place of a list

abbrev pub Each : (Place → Type 0) → List Place → Type 0
Each P [] = Unit {0}
Each P (p ∷ ps) = P p × Each P ps

pub each_in : (P : Place → Type 0) (ps : List Place) → Each P ps → (q : Place) → In q ps → P q
each_in P [] h q t = absurd t
each_in P (p ∷ ps) h q t = go (in-cases q p ps t) (each_in P ps h.1 q)
  where
    go : (q ≡ p) ⊎ In q ps → (In q ps → P q) → P q
    go (inl e) f = subst P (sym e) h.0
    go (inr i) f = f i

-- ---- the nine are the corners of the kids

module _ (g : Grid) (p : Place) where
  -- the one at an index
  nth : (i : ℕ) (q : Place) → i < 9 → q ≡ get_or (wanted g p) i root → In q (wanted g p)
  unfolding wanted
  nth i q l e = any_at (same q) root (wanted g p) i l (is_same q (get_or (wanted g p) i root) e)

  pub kid-wanted : (q : Place) → In q (kids p) → In q (wanted g p)
  unfolding wanted kids
  kid-wanted = each_in (λ q. In q (wanted g p)) (kids p) (nth 3 _ (lit< tt) refl, (nth 1 _ (lit< tt) refl, (nth 0 _ (lit< tt) refl, (nth 2 _ (lit< tt) refl, tt))))

  pub wanted-depth : (q : Place) → In q (wanted g p) → q.depth ≡ suc p.depth
  unfolding wanted kid
  wanted-depth =
      let n : suc (to_north g p).depth ≡ suc p.depth = ap suc (north-depth g p) in
      let e : suc (to_east g p).depth ≡ suc p.depth = ap suc (east-depth g p) in
      each_in (λ q. q.depth ≡ suc p.depth) (wanted g p) (refl, (refl, (refl, (refl, (n, (n, (e, (e, (ap suc (north-depth g (to_east g p)) ∙ e, tt)))))))))

module _ (g : Grid) (p : Place) (low : base g ≤ p.depth) where
  -- the place east is as deep
  low-east : base g ≤ (to_east g p).depth
  low-east = rw (east-depth g p) low

  far : to_north g (to_east g (kid NE p)) ≡ kid SW (to_north g (to_east g p))
  far = ap (to_north g) (east-ne g p) ∙ north-nw g (to_east g p) low-east

  pub wanted-corner : (q : Place) → In q (wanted g p) → (r : Place) × (parent r ≡ some p) × Corner g r q
  unfolding wanted
  wanted-corner = each_in (λ q. (r : Place) × (parent r ≡ some p) × Corner g r q) (wanted g p) (
    here SW,
    (
      here SE,
      (
        here NW,
        (
          here NE,
          (
            of NW (north-nw g p low) c-north,
            (
              of NE (north-ne g p low) c-north,
              (of NE (east-ne g p) c-east, (of SE (east-se g p) c-east, (of NE far c-both, tt))),
            ),
          ),
        ),
      ),
    ),
  )
    where
      of : (w : Wind) {q x : Place} → x ≡ q → Corner g (kid w p) x → (r : Place) × (parent r ≡ some p) × Corner g r q
      of w e k = (kid w p, parent-kid w p, corner-cast e k)

      here : (w : Wind) → (r : Place) × (parent r ≡ some p) × Corner g r (kid w p)
      here w = of w refl c-here

  -- of each kid the point itself, and the points east, north and both
  abbrev Corners : Place → Type 0
  Corners r = In r (wanted g p) × In (to_east g r) (wanted g p) × In (to_north g r) (wanted g p) × In (to_north g (to_east g r)) (wanted g p)

  kid-corners : (r : Place) → In r (kids p) → Corners r
  unfolding wanted kids
  kid-corners = each_in Corners (kids p) (
    (nth g p 3 _ (lit< tt) refl, nth g p 6 _ (lit< tt) (east-ne g p), nth g p 5 _ (lit< tt) (north-ne g p low), nth g p 8 _ (lit< tt) far),
    (
      (nth g p 1 _ (lit< tt) refl, nth g p 7 _ (lit< tt) (east-se g p), nth g p 3 _ (lit< tt) (north-se g p low), nth g p 6 _ (lit< tt) (ap (to_north g) (east-se g p) ∙ north-sw g (to_east g p) low-east)),
      (
        (nth g p 0 _ (lit< tt) refl, nth g p 1 _ (lit< tt) (east-sw g p), nth g p 2 _ (lit< tt) (north-sw g p low), nth g p 3 _ (lit< tt) (ap (to_north g) (east-sw g p) ∙ north-se g p low)),
        (
          (nth g p 2 _ (lit< tt) refl, nth g p 3 _ (lit< tt) (east-nw g p), nth g p 4 _ (lit< tt) (north-nw g p low), nth g p 5 _ (lit< tt) (ap (to_north g) (east-nw g p) ∙ north-ne g p low)),
          tt,
        ),
      ),
    ),
  )

  pub corner-wanted : {r q : Place} → parent r ≡ some p → Corner g r q → In q (wanted g p)
  corner-wanted {r} e c-here = (kid-corners r (parent_in r p e)).0
  corner-wanted {r} e c-east = (kid-corners r (parent_in r p e)).1
  corner-wanted {r} e c-north = (kid-corners r (parent_in r p e)).2
  corner-wanted {r} e c-both = (kid-corners r (parent_in r p e)).3

-- ---- each once

abbrev differ : List ℕ → Bool
differ [] = true
differ (n ∷ ns) = not (any (eqb n) ns) && differ ns

-- places with different numbers are distinct
numbers-distinct : (f : Place → ℕ) (ps : List Place) → T (differ (map f ps)) → Distinct ps
numbers-distinct f [] t = tt
numbers-distinct f (p ∷ ps) t =
    let a = not (any (eqb (f p)) (map f ps)) in (
      λ i. T_not (any (eqb (f p)) (map f ps)) (and_left a (differ (map f ps)) t) (rw (any-map (eqb (f p)) f ps) (in-any (λ q. eqb (f p) (f q)) ps p i (eqb_refl (f p)))),
      numbers-distinct f ps (and_right a (differ (map f ps)) t),
    )

-- how far from the even index of a pair
at-even : (n : ℕ) → 2 * n + 0 - 2 * n ≡ 0
at-even n = omega arith

at-odd : (n : ℕ) → 2 * n + 1 - 2 * n ≡ 1
at-odd n = omega arith

at_next : (n : ℕ) → 2 * suc n + 0 - 2 * n ≡ 2
at_next n = omega arith

-- which of the three rows
abbrev row_of : ℕ → ℕ → ℕ
row_of n j = cond (eqb j (2 * n + 0)) 0 (cond (eqb j (2 * n + 1)) 1 2)

row-even : (n : ℕ) → row_of n (2 * n + 0) ≡ 0
row-even n = rw (yes-is (eqb (2 * n + 0) (2 * n + 0)) (eqb_refl (2 * n + 0)))

row-odd : (n : ℕ) → row_of n (2 * n + 1) ≡ 1
row-odd n =
    let e : eqb (2 * n + 1) (2 * n + 0) ≡ false = no-is (eqb (2 * n + 1) (2 * n + 0)) (λ t. omega (arith, eqb→eq (2 * n + 1) (2 * n + 0) t)) in
    rw (e, yes-is (eqb (2 * n + 1) (2 * n + 1)) (eqb_refl (2 * n + 1)))

row_next : (n m : ℕ) → (m ≡ n → ⊥) → row_of n (2 * m + 0) ≡ 2
row_next n m f =
    let e : eqb (2 * m + 0) (2 * n + 0) ≡ false = no-is (eqb (2 * m + 0) (2 * n + 0)) (λ t. f (omega (arith, eqb→eq (2 * m + 0) (2 * n + 0) t))) in
    let d : eqb (2 * m + 0) (2 * n + 1) ≡ false = no-is (eqb (2 * m + 0) (2 * n + 1)) (λ t. omega (arith, eqb→eq (2 * m + 0) (2 * n + 1) t)) in
    rw (e, d)

-- counted along the rows from the south-west, unless the level has one row alone and goes round
pub wanted-distinct : (g : Grid) (p : Place) → (lap g p.depth ≡ 1 → ⊥) → Distinct (wanted g p)
unfolding wanted kid
wanted-distinct g p one =
    let x = j_after (lap g p.depth) p.j in
    numbers-distinct (λ q. q.i - 2 * p.i + 3 * row_of p.j q.j) (wanted g p)
    (simp (north-i, north-j, east-depth, east-i, east-j, at-even, at-odd, at_next, row-even p.j, row-odd p.j, row_next p.j x (after-other (lap g p.depth) p.j one)) tt)
