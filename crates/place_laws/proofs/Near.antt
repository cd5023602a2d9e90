-- The cells that touch a point, and the points that a cell touches; both go up the tree.
-- Assumes nothing.
use Prim.Native.Nat.{◌<◌}
use native.Mathlib.Omega.{arith}
use mathlib.Core.Path.{◌≡◌, refl, sym, ap, ◌∙◌}
use mathlib.Core.Logic.{◌⊎◌, inl, inr}
use mathlib.Core.Bool.{Bool, true, false, ◌||◌, cond}
use mathlib.Core.Option.{Option, none, some, some-injective}
use lib.Dec.{T}
use Rattle.mesh.specs.Place.{Place, Grid, base, to_north, to_east, step, SW, N, E, S, W}
use Rattle.mesh.specs.Mesh.{on, touched}
use Rattle.place_laws.proofs.Bools.{or_left, or_right, or_cases}
use Rattle.place_laws.proofs.Places.{then_some}
use Rattle.place_laws.proofs.Steps.{north-depth, east-depth, south-north, west-east, north-south, east-west, east-north, west-of-north, step-north, step-east, southwest}
use Rattle.place_laws.proofs.Laps.{Smooth, smooth-above}
use Rattle.place_laws.proofs.Kids.{up}
use Rattle.place_laws.proofs.SideDigits.{stays, step-up}

-- ---- the four points of a cell

-- q is a corner of the cell r
pub data Corner (g : Grid) (r : Place) : Place → Type 0 where
  c-here : Corner g r r
  c-east : Corner g r (to_east g r)
  c-north : Corner g r (to_north g r)
  c-both : Corner g r (to_north g (to_east g r))

pub corner-cast : {g : Grid} {r p q : Place} → p ≡ q → Corner g r p → Corner g r q
corner-cast e c = rw (← e) c

pub corner-depth : {g : Grid} {r q : Place} → Corner g r q → q.depth ≡ r.depth
corner-depth c-here = refl
corner-depth {g} {r} c-east = east-depth g r
corner-depth {g} {r} c-north = north-depth g r
corner-depth {g} {r} c-both = north-depth g (to_east g r) ∙ east-depth g r

-- p is a corner of the cells south, west and south-west of it
module _ {g : Grid} {p r : Place} where
  pub south-corner : step g S p ≡ some r → Corner g r p
  south-corner e = corner-cast (south-north g p r e) c-north

  pub west-corner : step g W p ≡ some r → Corner g r p
  west-corner e = corner-cast (west-east g p r e) c-east

  pub southwest-corner : step g SW p ≡ some r → Corner g r p
  southwest-corner e =
      let (m, a, b) = then_some (step g S) (step g W p) r (sym (southwest g p) ∙ e) in
      corner-cast (east-north g r ∙ ap (to_east g) (south-north g m r b) ∙ west-east g p m a) c-both

-- ---- halving keeps a step or undoes it

kept-or-undone : (b : Bool) {x y z : Place} → some x ≡ cond b (some y) (some z) → (x ≡ y) ⊎ (x ≡ z)
kept-or-undone true e = inl (some-injective _ _ e)
kept-or-undone false e = inr (some-injective _ _ e)

-- north, unless the seam of level 0 is crossed
north-up : (g : Grid) (p : Place) → 0 < p.depth → Smooth g N p → (up (to_north g p) ≡ up p) ⊎ (up (to_north g p) ≡ to_north g (up p))
north-up g p l s = kept-or-undone (stays N p) (rw (step-north g p, step-north g (up p)) at (step-up g N tt p l s))

east-up : (g : Grid) (p : Place) → 0 < p.depth → (up (to_east g p) ≡ up p) ⊎ (up (to_east g p) ≡ to_east g (up p))
east-up g p l = kept-or-undone (stays E p) (rw (step-east g p, step-east g (up p)) at (step-up g E tt p l (λ _. refl)))

-- the parent's place of a corner is a corner of the cell's parent's place
pub corner-up : {g : Grid} {r q : Place} → base g < r.depth → Corner g r q → Corner g (up r) (up q)
corner-up l c-here = c-here
corner-up {g} {r} l c-east = go (east-up g r (omega arith))
  where
    go : (up (to_east g r) ≡ up r) ⊎ (up (to_east g r) ≡ to_east g (up r)) → Corner g (up r) (up (to_east g r))
    go (inl h) = corner-cast (sym h) c-here
    go (inr h) = corner-cast (sym h) c-east
corner-up {g} {r} l c-north = go (north-up g r (omega arith) (smooth-above g N r l))
  where
    go : (up (to_north g r) ≡ up r) ⊎ (up (to_north g r) ≡ to_north g (up r)) → Corner g (up r) (up (to_north g r))
    go (inl h) = corner-cast (sym h) c-here
    go (inr h) = corner-cast (sym h) c-north
corner-up {g} {r} l c-both = let d = east-depth g r in go (east-up g r (omega arith)) (north-up g (to_east g r) (omega arith) (smooth-above g N (to_east g r) (omega arith)))
  where
    go : (up (to_east g r) ≡ up r) ⊎ (up (to_east g r) ≡ to_east g (up r)) → (up (to_north g (to_east g r)) ≡ up (to_east g r)) ⊎ (up (to_north g (to_east g r)) ≡ to_north g (up (to_east g r))) → Corner g (up r) (up (to_north g (to_east g r)))
    go (inl h) (inl k) = corner-cast (sym (k ∙ h)) c-here
    go (inl h) (inr k) = corner-cast (sym (k ∙ ap (to_north g) h)) c-north
    go (inr h) (inl k) = corner-cast (sym (k ∙ h)) c-east
    go (inr h) (inr k) = corner-cast (sym (k ∙ ap (to_north g) h)) c-both

-- ---- touched: a corner of a cell

module _ (g : Grid) (c : Place → Bool) where
  pub on-at : (o : Option Place) → T (on g c o) → (q : Place) × (o ≡ some q) × T (c q)
  on-at none t = absurd t
  on-at (some q) t = (q, refl, t)

  on-is : (o : Option Place) (q : Place) → o ≡ some q → T (c q) → T (on g c o)
  on-is o q e t = rw e t

  pub touched-corner : (p : Place) → T (touched g c p) → (r : Place) × Corner g r p × T (c r)
  unfolding touched
  touched-corner p t = one (or_cases (c p) (on g c (step g W p) || (on g c (step g S p) || on g c (step g SW p))) t)
    where
      three : T (on g c (step g S p)) ⊎ T (on g c (step g SW p)) → (r : Place) × Corner g r p × T (c r)
      three (inl a) = let (r, e, b) = on-at (step g S p) a in (r, south-corner e, b)
      three (inr a) = let (r, e, b) = on-at (step g SW p) a in (r, southwest-corner e, b)

      two : T (on g c (step g W p)) ⊎ T (on g c (step g S p) || on g c (step g SW p)) → (r : Place) × Corner g r p × T (c r)
      two (inl a) = let (r, e, b) = on-at (step g W p) a in (r, west-corner e, b)
      two (inr a) = three (or_cases (on g c (step g S p)) (on g c (step g SW p)) a)

      one : T (c p) ⊎ T (on g c (step g W p) || (on g c (step g S p) || on g c (step g SW p))) → (r : Place) × Corner g r p × T (c r)
      one (inl a) = (p, c-here, a)
      one (inr a) = two (or_cases (on g c (step g W p)) (on g c (step g S p) || on g c (step g SW p)) a)

  pub corner-touched : {p r : Place} → Corner g r p → T (c r) → T (touched g c p)
  unfolding touched
  corner-touched {p} {r} k t = go k t
    where
      go : {r p : Place} → Corner g r p → T (c r) → T (touched g c p)
      go {r} {p} c-here t = or_left (c p) (on g c (step g W p) || (on g c (step g S p) || on g c (step g SW p))) t
      go {r} {p} c-east t =
          or_right (c p) (on g c (step g W p) || (on g c (step g S p) || on g c (step g SW p)))
          (or_left (on g c (step g W p)) (on g c (step g S p) || on g c (step g SW p)) (on-is (step g W p) r (east-west g r) t))
      go {r} {p} c-north t =
          or_right (c p) (on g c (step g W p) || (on g c (step g S p) || on g c (step g SW p)))
          (or_right (on g c (step g W p)) (on g c (step g S p) || on g c (step g SW p))
          (or_left (on g c (step g S p)) (on g c (step g SW p)) (on-is (step g S p) r (north-south g r) t)))
      go {r} {p} c-both t =
          or_right (c p) (on g c (step g W p) || (on g c (step g S p) || on g c (step g SW p)))
          (or_right (on g c (step g W p)) (on g c (step g S p) || on g c (step g SW p))
          (or_right (on g c (step g S p)) (on g c (step g SW p))
          (on-is (step g SW p) r (rw (southwest g p, west-of-north g (to_east g r), east-west g r) (north-south g r)) t)))
