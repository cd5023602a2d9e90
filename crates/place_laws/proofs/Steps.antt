-- The steps of a place. This file alone unfolds them, and the rows that they go by; every other proof knows of a step what the laws here say: its
-- depth, column and row, where there is none, that steps undo each other and change places, and which steps a wind is made of.
-- Assumes nothing.
use Prim.Native.Nat.{ℕ, zero, suc, pred, ◌-◌, ◌*◌, ◌^◌, ◌≤◌, ◌<◌}
use native.Mathlib.Nat.{pow-suc, mul_assoc}
use native.Mathlib.Omega.{arith}
use native.Mathlib.Decide.{ℕ_discrete}
use mathlib.Core.Path.{◌≡◌, refl, sym, ap, ◌∙◌}
use mathlib.Core.Logic.{◌≢◌}
use mathlib.Core.Bool.{Bool, true, false, ◌&&◌, cond}
use mathlib.Core.Option.{Option, none, some, map, none-ne-some, some-injective}
use lib.Dec.{leb, leb→le, le→leb}
use borrow.Author.Tests.{eq-eqb, ne_eqb}
use Rattle.mesh.specs.Place.{Place, Grid, at, base, is_ring, before, lap, j_after, j_before, to_north, to_east, to_south, to_west, then, step, compass, Wind, NE, SE, SW, NW, N, E, S, W}
use Rattle.place_laws.proofs.Bools.{yes-is, no-is}
use Rattle.place_laws.proofs.Places.{before-is, mapped, then_some}

-- ---- after how many rows a level begins anew

-- ghosts' rows go on
pub lap-ghost : (g : Grid) (e : ℕ) → e < base g → lap g e ≡ 0
unfolding lap
lap-ghost g e h = rw (no-is (leb (base g) e) (λ t. omega (arith, leb→le (base g) e t))) (go (is_ring g))
  where
    go : (b : Bool) → cond (b && false) (g.rows * 2 ^ (e - base g)) 0 ≡ 0
    go true = refl
    go false = refl

-- and so do all rows of an open grid
pub lap-open : (g : Grid) (e : ℕ) → is_ring g ≡ false → lap g e ≡ 0
unfolding lap
lap-open g e h = rw h

pub lap-ring : (g : Grid) (e : ℕ) → is_ring g ≡ true → base g ≤ e → lap g e ≡ g.rows * 2 ^ (e - base g)
unfolding lap
lap-ring g e h l = rw (h, yes-is (leb (base g) e) (le→leb (base g) e l))

-- and from level 0 up there are twice as many rows on the next level
pub lap-next : (g : Grid) (e : ℕ) → base g ≤ e → lap g (suc e) ≡ 2 * lap g e
unfolding lap
lap-next g e h = rw (yes-is (leb (base g) e) (le→leb (base g) e h), yes-is (leb (base g) (suc e)) (le→leb (base g) (suc e) (omega arith))) (go (is_ring g))
  where
    go : (b : Bool) → cond (b && true) (g.rows * 2 ^ (suc e - base g)) 0 ≡ 2 * cond (b && true) (g.rows * 2 ^ (e - base g)) 0
    go true =
        let s : suc e - base g ≡ suc (e - base g) = omega arith in
        rw (s, pow-suc 2 (e - base g), ← mul_assoc g.rows (2 ^ (e - base g)) 2) (omega arith)
    go false = refl

-- ---- the row after a row

pub after_on : (n j : ℕ) → suc j ≢ n → j_after n j ≡ suc j
unfolding j_after
after_on n j h = rw (ne_eqb (suc j) n h)

pub after-anew : (n j : ℕ) → suc j ≡ n → j_after n j ≡ 0
unfolding j_after
after-anew n j e = rw (eq-eqb (suc j) n e)

-- ---- depth, column and row

module _ (g : Grid) (p : Place) where
  pub north-depth : (to_north g p).depth ≡ p.depth
  unfolding to_north
  north-depth = refl

  pub north-i : (to_north g p).i ≡ p.i
  unfolding to_north
  north-i = refl

  pub north-j : (to_north g p).j ≡ j_after (lap g p.depth) p.j
  unfolding to_north
  north-j = refl

  pub east-depth : (to_east g p).depth ≡ p.depth
  unfolding to_east
  east-depth = refl

  pub east-i : (to_east g p).i ≡ suc p.i
  unfolding to_east
  east-i = refl

  pub east-j : (to_east g p).j ≡ p.j
  unfolding to_east
  east-j = refl

-- ---- where a step leads

module _ (g : Grid) (d i j : ℕ) where
  -- one row on, and from the last row to row 0
  pub north-on : suc j ≢ lap g d → to_north g (at d i j) ≡ at d i (suc j)
  unfolding to_north
  north-on h = rw (after_on (lap g d) j h)

  pub north-anew : suc j ≡ lap g d → to_north g (at d i j) ≡ at d i 0
  unfolding to_north
  north-anew e = rw (after-anew (lap g d) j e)

  -- one row back, from row 0 to the last row, and from the row past it nowhere
  pub south-on : suc j ≢ lap g d → step g S (at d i (suc j)) ≡ some (at d i j)
  unfolding step to_south j_before
  south-on h = rw (ne_eqb (suc j) (lap g d) h)

  pub south-anew : suc j ≡ lap g d → step g S (at d i 0) ≡ some (at d i j)
  unfolding step to_south j_before
  south-anew e = rw (← e)

  pub south-end : j ≡ lap g d → step g S (at d i j) ≡ none
  unfolding step to_south j_before
  south-end = go j
    where
      go : (j : ℕ) → j ≡ lap g d → step g S (at d i j) ≡ none
      go zero e = rw (← e)
      go (suc j) e = rw (eq-eqb (suc j) (lap g d) e)

  -- columns go on in every grid
  pub east-on : to_east g (at d i j) ≡ at d (suc i) j
  unfolding to_east
  east-on = refl

  pub west-on : step g W (at d (suc i) j) ≡ some (at d i j)
  unfolding step to_west
  west-on = refl

  pub west-end : step g W (at d 0 j) ≡ none
  unfolding step to_west
  west-end = refl

-- ---- a step, and the step back

-- south and west lead back, and so do north and east
pub south-north : (g : Grid) (p q : Place) → step g S p ≡ some q → to_north g q ≡ p
south-north g p q = go p.depth p.i p.j (ℕ_discrete p.j (lap g p.depth))
  where
    back : (d i j : ℕ) {o : Option Place} → o ≡ some q → o ≡ some (at d i j) → to_north g q ≡ to_north g (at d i j)
    back d i j e f = ap (to_north g) (some-injective _ _ (sym e ∙ f))

    go : (d i j : ℕ) → Dec (j ≡ lap g d) → step g S (at d i j) ≡ some q → to_north g q ≡ at d i j
    go d i j (yes h) e = absurd (none-ne-some _ (sym (south-end g d i j h) ∙ e))
    go d i zero (no h) e = let n : suc (pred (lap g d)) ≡ lap g d = omega (arith, h) in back d i (pred (lap g d)) e (south-anew g d i (pred (lap g d)) n) ∙ north-anew g d i (pred (lap g d)) n
    go d i (suc j) (no h) e = back d i j e (south-on g d i j h) ∙ north-on g d i j h

pub west-east : (g : Grid) (p q : Place) → step g W p ≡ some q → to_east g q ≡ p
unfolding step to_west to_east
west-east g p q e = let (i, b, f) = mapped (λ i. at p.depth i p.j) q (before p.i) e in rw (← f, ← before-is p.i i b)

pub north-south : (g : Grid) (p : Place) → step g S (to_north g p) ≡ some p
north-south g p = go p.depth p.i p.j (ℕ_discrete (suc p.j) (lap g p.depth))
  where
    go : (d i j : ℕ) → Dec (suc j ≡ lap g d) → step g S (to_north g (at d i j)) ≡ some (at d i j)
    go d i j (yes e) = rw (north-anew g d i j e) (south-anew g d i j e)
    go d i j (no h) = rw (north-on g d i j h) (south-on g d i j h)

pub east-west : (g : Grid) (p : Place) → step g W (to_east g p) ≡ some p
unfolding step to_west to_east
east-west g p = refl

-- a step along one side and a step along the other can change places
pub east-north : (g : Grid) (p : Place) → to_north g (to_east g p) ≡ to_east g (to_north g p)
unfolding to_north to_east
east-north g p = refl

pub west-of-north : (g : Grid) (p : Place) → step g W (to_north g p) ≡ map (to_north g) (step g W p)
unfolding step to_north to_west
west-of-north g p = go (before p.i)
  where
    go : (o : Option ℕ) → map (λ i. at p.depth i (j_after (lap g p.depth) p.j)) o ≡ map (to_north g) (map (λ i. at p.depth i p.j) o)
    go none = refl
    go (some i) = refl

-- ---- by winds

module _ (g : Grid) (p : Place) where
  -- one step north and one step east there is always a place
  pub step-north : step g N p ≡ some (to_north g p)
  unfolding step
  step-north = refl

  pub step-east : step g E p ≡ some (to_east g p)
  unfolding step
  step-east = refl

  -- a step to a corner is one to each side, in either order
  pub southwest : step g SW p ≡ then (step g S) (step g W p)
  unfolding step
  southwest = refl

  pub southwest-by-south : step g SW p ≡ then (step g W) (step g S p)
  unfolding step to_south to_west
  southwest-by-south = go (before p.i) (j_before (lap g p.depth) p.j) refl refl
    where
      go : (a b : Option ℕ) → before p.i ≡ a → j_before (lap g p.depth) p.j ≡ b → step g SW p ≡ then (step g W) (step g S p)
      go none none e f = simp (e, f)
      go none (some j) e f = simp (e, f)
      go (some i) none e f = simp (e, f)
      go (some i) (some j) e f = simp (e, f)

-- the opposite wind leads back
pub step_back : (g : Grid) (w : Wind) (p q : Place) → step g w p ≡ some q → step g (compass w).opposite q ≡ some p
unfolding step
step_back g N p q e = rw (← some-injective _ _ e) (north-south g p)
step_back g E p q e = rw (← some-injective _ _ e) (east-west g p)
step_back g S p q e = ap some (south-north g p q e)
step_back g W p q e = ap some (west-east g p q e)
step_back g NE p q e = rw (← some-injective _ _ e) (rw (west-of-north g (to_east g p), east-west g p) (north-south g p))
step_back g SE p q e = sym (west-of-north g q) ∙ rw (south-north g (to_east g p) q e) (east-west g p)
step_back g SW p q e =
    let (m, a, b) = then_some (to_south g) (to_west g p) q e in
    rw (east-north g q, south-north g m q b, west-east g p m a)
step_back g NW p q e =
    let (m, a, b) = mapped (to_north g) q (to_west g p) e in
    rw (← b, ← east-north g m) (north-south g (to_east g m) ∙ ap some (west-east g p m a))
