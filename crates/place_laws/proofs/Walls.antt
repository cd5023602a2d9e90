-- Walls by levels: a wall with one cell is boundary on level 0, and above exactly where it lies on a boundary wall of the parent's place; the
-- other walls with one cell are green. The area is the same one level up, and a cell lies in it.
-- Assumes nothing.
use Prim.Native.Nat.{ℕ, zero, suc, pred, ◌+◌, ◌-◌, ◌/◌, ◌%◌, ◌^◌, ◌≤◌, ◌<◌}
use native.Mathlib.Nat.{pow-suc, mul_comm, div-one, div-div-eq-div-mul}
use native.Mathlib.Omega.{arith}
use native.Mathlib.Decide.{dec_lt}
use mathlib.Core.Path.{◌≡◌, refl, sym, ap, ap₂, ◌∙◌}
use mathlib.Core.Logic.{◌⊎◌, inl, inr}
use mathlib.Core.Bool.{Bool, true, false, not, ◌&&◌, ◌||◌, cond, beq}
use mathlib.Core.Option.{Option, none, some, map, none-ne-some, some-injective}
use lib.Dec.{T, eqb}
use borrow.Author.Tests.{eq-eqb, ne_eqb}
use Rattle.mesh.specs.Tools.{digits}
use Rattle.mesh.specs.Place.{Place, Grid, at, base, home, step, then, Wind, SW, S, W}
use Rattle.mesh.specs.Mesh.{Mesh, Wall, absent, is_wall, is_boundary, is_green, wall_of, on, in_area, touched, wall_h, wall_v, ends, sides, derived, flags}
use Rattle.place_laws.proofs.Bools.{no-is, or_left, or_right, or_cases}
use Rattle.place_laws.proofs.Laps.{smooth-above}
use Rattle.place_laws.proofs.Places.{place-path}
use Rattle.place_laws.proofs.Kids.{up, up_depth}
use Rattle.place_laws.proofs.SideDigits.{aside, stays, digit, within-still, step-up, step-depth}
use Rattle.place_laws.proofs.Near.{c-here, corner-touched}
use Rattle.place_laws.proofs.Tree.{cell-up}

-- ---- the area, by levels

-- half of a number, by a power of two
pub half_pow : (x n : ℕ) → x / 2 / 2 ^ n ≡ x / 2 ^ suc n
half_pow x n = div-div-eq-div-mul x 2 (2 ^ n) ∙ ap (λ (k : ℕ). x / k) (mul_comm 2 (2 ^ n) ∙ sym (pow-suc 2 n))

module _ (g : Grid) where
  -- on level 0 a place is its own home
  pub home-ground : (p : Place) → p.depth ≡ base g → home g p ≡ p
  unfolding home
  home-ground p e =
      let z : p.depth - base g ≡ 0 = omega arith in
      place-path (at (base g) (p.i / 2 ^ (p.depth - base g)) (p.j / 2 ^ (p.depth - base g))) p (sym e) (rw z (div-one p.i)) (rw z (div-one p.j))

  -- and above it is its parent's
  pub home-up : (p : Place) → base g < p.depth → home g (up p) ≡ home g p
  unfolding home up
  home-up p h =
      let z : p.depth - base g ≡ suc (pred p.depth - base g) = omega arith in
      place-path (at (base g) (p.i / 2 / 2 ^ (pred p.depth - base g)) (p.j / 2 / 2 ^ (pred p.depth - base g)))
      (at (base g) (p.i / 2 ^ (p.depth - base g)) (p.j / 2 ^ (p.depth - base g))) refl
      (rw z (half_pow p.i (pred p.depth - base g))) (rw z (half_pow p.j (pred p.depth - base g)))

module _ (g : Grid) (c : Place → Bool) (m : Mesh g c) where
  home-cell-by : (n : ℕ) (p : Place) → p.depth ≡ base g + n → T (c p) → T (c (home g p))
  home-cell-by zero p e t = rw (home-ground g p (omega arith)) t
  home-cell-by (suc n) p e t =
      rw (home-up g p (omega arith)) at (home-cell-by n (up p) (omega (arith, up_depth p (omega arith))) (cell-up g c m p t (omega arith)))

  -- a cell lies in the area
  pub home-cell : (p : Place) → T (c p) → T (c (home g p))
  home-cell p t = let l = m.low p t in home-cell-by (p.depth - base g) p (omega arith) t

  -- ---- a place that may be missing

  -- it lies above level 0, if it is there
  abbrev Deep : Option Place → Type 0
  Deep o = (q : Place) → o ≡ some q → base g < q.depth

  area-up : (o : Option Place) → Deep o → in_area g c (map up o) ≡ in_area g c o
  area-up none h = refl
  area-up (some q) h = ap c (home-up g q (h q refl))

  on-up : (o : Option Place) → Deep o → T (on g c o) → T (on g c (map up o))
  on-up none h t = t
  on-up (some q) h t = cell-up g c m q t (h q refl)

  on-area : (o : Option Place) → T (on g c o) → T (in_area g c o)
  on-area none t = t
  on-area (some q) t = home-cell q t

  area-ground : (o : Option Place) → ((q : Place) → o ≡ some q → q.depth ≡ base g) → in_area g c o ≡ on g c o
  area-ground none h = refl
  area-ground (some q) h = ap c (home-ground g q (h q refl))

-- ---- a wall by its two cells

-- the wall between a place and the place one step on
abbrev pub wall : Grid → (Place → Bool) → Wind → Option Place → Wall
wall g c w o = wall_of (on g c (then (step g w) o)) (on g c o) (in_area g c (then (step g w) o)) (in_area g c o)

is-wall-of : (y x b a : Bool) → is_wall (wall_of y x b a) ≡ (x || y)
is-wall-of true true b a = refl
is-wall-of true false b true = refl
is-wall-of true false b false = refl
is-wall-of false true true a = refl
is-wall-of false true false a = refl
is-wall-of false false b a = refl

is-green-of : (y x b a : Bool) → is_green (wall_of y x b a) ≡ (not (beq x y) && not (is_boundary (wall_of y x b a)))
is-green-of true true b a = refl
is-green-of true false b true = refl
is-green-of true false b false = refl
is-green-of false true true a = refl
is-green-of false true false a = refl
is-green-of false false b a = refl

-- where the area goes on over the wall
inner_of : (y x a : Bool) → (T x → T a) → (T y → T a) → is_boundary (wall_of y x a a) ≡ false
inner_of y x true h k = at y x
  where
    at : (y x : Bool) → is_boundary (wall_of y x true true) ≡ false
    at true true = refl
    at true false = refl
    at false true = refl
    at false false = refl
inner_of true x false h k = absurd (k tt)
inner_of false true false h k = absurd (h tt)
inner_of false false false h k = refl

-- on level 0, where the area is the cells
ground-of : (y x : Bool) → is_boundary (wall_of y x y x) ≡ not (beq x y)
ground-of true true = refl
ground-of true false = refl
ground-of false true = refl
ground-of false false = refl

-- below a wall of larger cells on the same two sides of the area
above_of : (y x yu xu b a : Bool) → (T x → T xu) → (T y → T yu) → (T xu → T a) → (T yu → T b)
    → is_boundary (wall_of y x b a) ≡ (not (beq x y) && is_boundary (wall_of yu xu b a))
above_of true true yu xu b a h k i j = refl
above_of false false yu xu b a h k i j = refl
above_of true false false xu b a h k i j = absurd (k tt)
above_of true false true false b a h k i j = refl
above_of true false true true b true h k i j = refl
above_of true false true true b false h k i j = absurd (i tt)
above_of false true yu false b a h k i j = absurd (h tt)
above_of false true false true b a h k i j = refl
above_of false true true true true a h k i j = refl
above_of false true true true false a h k i j = absurd (j tt)

and-false : (a : Bool) → (a && false) ≡ false
and-false true = refl
and-false false = refl

and-true : (a : Bool) → (a && true) ≡ a
and-true true = refl
and-true false = refl

-- ---- a wall by levels

module _ (g : Grid) (c : Place → Bool) where
  pub wall-cells : (w : Wind) (p : Place) → is_wall (wall g c w (some p)) ≡ (c p || on g c (step g w p))
  wall-cells w p = is-wall-of (on g c (step g w p)) (c p) (in_area g c (step g w p)) (in_area g c (some p))

  pub wall-green : (w : Wind) (p : Place) → is_green (wall g c w (some p)) ≡ (not (beq (c p) (on g c (step g w p))) && not (is_boundary (wall g c w (some p))))
  wall-green w p = is-green-of (on g c (step g w p)) (c p) (in_area g c (step g w p)) (in_area g c (some p))

  module _ (m : Mesh g c) (w : Wind) (side : T (aside w)) where
    wall-ground : (p : Place) → p.depth ≡ base g → is_boundary (wall g c w (some p)) ≡ not (beq (c p) (on g c (step g w p)))
    wall-ground p e =
        rw (area-ground g c m (step g w p) (λ q s. step-depth g w side p q s ∙ e), area-ground g c m (some p) (λ q s. ap (λ (x : Place). x.depth) (sym (some-injective _ _ s)) ∙ e))
        (ground-of (on g c (step g w p)) (c p))

    wall-above : (p : Place) → base g < p.depth → is_boundary (wall g c w (some p)) ≡ (not (beq (c p) (on g c (step g w p))) && (not (stays w p) && is_boundary (wall g c w (some (up p)))))
    wall-above p h = go (stays w p) (step-up g w side p (omega arith) (smooth-above g w p h))
      where
        deep : (q : Place) → step g w p ≡ some q → base g < q.depth
        deep q e = omega (arith, step-depth g w side p q e)

        here : in_area g c (some (up p)) ≡ in_area g c (some p)
        here = ap c (home-up g p h)

        there : in_area g c (map up (step g w p)) ≡ in_area g c (step g w p)
        there = area-up g c m (step g w p) deep

        go : (b : Bool) → map up (step g w p) ≡ cond b (some (up p)) (step g w (up p))
            → is_boundary (wall g c w (some p)) ≡ (not (beq (c p) (on g c (step g w p))) && (not b && is_boundary (wall g c w (some (up p)))))
        go true e =
            let a = in_area g c (some p) in
            let same : in_area g c (step g w p) ≡ a = sym there ∙ ap (in_area g c) e ∙ here in
            ap (λ (b : Bool). is_boundary (wall_of (on g c (step g w p)) (c p) b a)) same
            ∙ inner_of (on g c (step g w p)) (c p) a (λ t. home-cell g c m p t) (λ t. rw same at (on-area g c m (step g w p) t))
            ∙ sym (and-false (not (beq (c p) (on g c (step g w p)))))
        go false e =
            let s = step g w (up p) in
            let there' : in_area g c s ≡ in_area g c (step g w p) = ap (in_area g c) (sym e) ∙ there in
            above_of (on g c (step g w p)) (c p) (on g c s) (c (up p)) (in_area g c (step g w p)) (in_area g c (some p))
            (λ t. cell-up g c m p t h) (λ t. rw e at (on-up g c m (step g w p) deep t)) (λ t. rw here at (home-cell g c m (up p) t)) (λ t. rw there' at (on-area g c m s t))
            ∙ ap₂ (λ (b a : Bool). not (beq (c p) (on g c (step g w p))) && is_boundary (wall_of (on g c s) (c (up p)) b a)) (sym there') (sym here)

    pub wall-by : (p : Place) → base g ≤ p.depth
        → is_boundary (wall g c w (some p)) ≡ (not (beq (c p) (on g c (step g w p))) && (eqb p.depth (base g) || (not (stays w p) && is_boundary (wall g c w (some (up p))))))
    wall-by p h = go (dec_lt (base g) p.depth)
      where
        go : Dec (base g < p.depth) → is_boundary (wall g c w (some p)) ≡ (not (beq (c p) (on g c (step g w p))) && (eqb p.depth (base g) || (not (stays w p) && is_boundary (wall g c w (some (up p))))))
        go (yes l) = rw (ne_eqb p.depth (base g) (λ e. omega arith)) (wall-above p l)
        go (no l) =
            let e : p.depth ≡ base g = omega (arith, l) in
            rw (eq-eqb p.depth (base g) e) (wall-ground p e ∙ sym (and-true (not (beq (c p) (on g c (step g w p))))))

-- ---- the walls that go east and north from a point

pub stays-south : (p : Place) → not (stays S p) ≡ eqb (p.j % 2) 0
stays-south p = rw (within-still p.i) (digit p.j (λ e. rw e) (λ e. rw e))

pub stays-west : (p : Place) → not (stays W p) ≡ eqb (p.i % 2) 0
stays-west p = digit p.i (λ e. rw e) (λ e. rw (e, within-still p.j))

module _ (g : Grid) (c : Place → Bool) where
  pub wall_h-cells : (p : Place) → is_wall (wall_h g c (some p)) ≡ (c p || on g c (step g S p))
  unfolding wall_h
  wall_h-cells p = wall-cells g c S p

  pub wall_v-cells : (p : Place) → is_wall (wall_v g c (some p)) ≡ (c p || on g c (step g W p))
  unfolding wall_v
  wall_v-cells p = wall-cells g c W p

  pub wall_h-green : (p : Place) → is_green (wall_h g c (some p)) ≡ (not (beq (c p) (on g c (step g S p))) && not (is_boundary (wall_h g c (some p))))
  unfolding wall_h
  wall_h-green p = wall-green g c S p

  pub wall_v-green : (p : Place) → is_green (wall_v g c (some p)) ≡ (not (beq (c p) (on g c (step g W p))) && not (is_boundary (wall_v g c (some p))))
  unfolding wall_v
  wall_v-green p = wall-green g c W p

  pub wall_h-boundary : Mesh g c → (p : Place) → base g ≤ p.depth
      → is_boundary (wall_h g c (some p)) ≡ (not (beq (c p) (on g c (step g S p))) && (eqb p.depth (base g) || (eqb (p.j % 2) 0 && is_boundary (wall_h g c (some (up p))))))
  unfolding wall_h
  wall_h-boundary m p h = rw (← stays-south p) (wall-by g c m S tt p h)

  pub wall_v-boundary : Mesh g c → (p : Place) → base g ≤ p.depth
      → is_boundary (wall_v g c (some p)) ≡ (not (beq (c p) (on g c (step g W p))) && (eqb p.depth (base g) || (eqb (p.i % 2) 0 && is_boundary (wall_v g c (some (up p))))))
  unfolding wall_v
  wall_v-boundary m p h = rw (← stays-west p) (wall-by g c m W tt p h)

  -- ---- where there is a wall, a patch is touched

  pub south-touched : (p : Place) → T (on g c (step g S p)) → T (touched g c p)
  unfolding touched
  south-touched p t =
      or_right (c p) (on g c (step g W p) || (on g c (step g S p) || on g c (step g SW p)))
      (or_right (on g c (step g W p)) (on g c (step g S p) || on g c (step g SW p)) (or_left (on g c (step g S p)) (on g c (step g SW p)) t))

  pub west-touched : (p : Place) → T (on g c (step g W p)) → T (touched g c p)
  unfolding touched
  west-touched p t =
      or_right (c p) (on g c (step g W p) || (on g c (step g S p) || on g c (step g SW p)))
      (or_left (on g c (step g W p)) (on g c (step g S p) || on g c (step g SW p)) t)

  pub wall-touched : (w : Wind) (p : Place) → (T (on g c (step g w p)) → T (touched g c p)) → T (is_wall (wall g c w (some p))) → T (touched g c p)
  wall-touched w p h t = go (or_cases (c p) (on g c (step g w p)) (rw (wall-cells g c w p) at t))
    where
      go : T (c p) ⊎ T (on g c (step g w p)) → T (touched g c p)
      go (inl a) = corner-touched g c c-here a
      go (inr a) = h a

  pub wall_h-touched : (p : Place) → T (is_wall (wall_h g c (some p))) → T (touched g c p)
  unfolding wall_h
  wall_h-touched p t = wall-touched S p (south-touched p) t

  pub wall_v-touched : (p : Place) → T (is_wall (wall_v g c (some p))) → T (touched g c p)
  unfolding wall_v
  wall_v-touched p t = wall-touched W p (west-touched p) t

  -- ---- below level 0 there is none

  module _ (m : Mesh g c) where
    -- a place lies below level 0, if it is there
    abbrev Shallow : Option Place → Type 0
    Shallow o = (q : Place) → o ≡ some q → q.depth < base g

    no_cell : (o : Option Place) → Shallow o → on g c o ≡ false
    no_cell none h = refl
    no_cell (some q) h = no-is (c q) (λ t. omega (arith, m.low q t, h q refl))

    shallow-step : (w : Wind) → T (aside w) → (o : Option Place) → Shallow o → Shallow (then (step g w) o)
    shallow-step w t none h q e = absurd (none-ne-some _ e)
    shallow-step w t (some p) h q e = omega (arith, step-depth g w t p q e, h p refl)

    no-wall : (w : Wind) → T (aside w) → (o : Option Place) → Shallow o → wall g c w o ≡ absent
    no-wall w t o h = rw (no_cell o h, no_cell (then (step g w) o) (shallow-step w t o h))

    -- "A ghost has flags 0"
    pub ghost-flags : (p : Place) → p.depth < base g → digits (flags g c p false) ≡ 0
    unfolding flags derived ends sides wall_h wall_v
    ghost-flags p l =
        let here : Shallow (some p) = λ q e. let s : p ≡ q = some-injective _ _ e in rw s at l in
        let beside : (w : Wind) → T (aside w) → Shallow (step g w p) = λ w t. shallow-step w t (some p) here in
        let a : c p ≡ false = no_cell (some p) here in
        let b : wall g c S (some p) ≡ absent = no-wall S tt (some p) here in
        let d : wall g c W (some p) ≡ absent = no-wall W tt (some p) here in
        let e : wall g c S (step g W p) ≡ absent = no-wall S tt (step g W p) (beside W tt) in
        let f : wall g c W (step g S p) ≡ absent = no-wall W tt (step g S p) (beside S tt) in
        rw (b, d, e, f, a)
