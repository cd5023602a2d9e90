-- A level-0 cell goes: the flags that change stand under its place, under the places east, north and north-east of it along the sides and in the
-- corner that they have in common with it, and at cells under the places south and west of it along these sides.
-- Assumes nothing.
use Prim.Native.Nat.{ℕ, zero, suc, ◌+◌, ◌-◌, ◌%◌, ◌≤◌, ◌<◌}
use native.Mathlib.Omega.{arith}
use mathlib.Core.Path.{◌≡◌, refl, sym, ap, ◌∙◌, subst}
use mathlib.Core.Logic.{◌⊎◌, inl, inr}
use mathlib.Core.Bool.{Bool, true, false, not, ◌&&◌, cond}
use mathlib.Core.Option.{some, map, some-injective}
use lib.Dec.{T, eqb}
use Rattle.mesh.specs.Place.{Place, Grid, base, home, step, to_north, to_east, Wind, NE, SE, SW, NW, N, E, S, W}
use Rattle.mesh.specs.Mesh.{derived}
use Rattle.place_laws.proofs.Bools.{and_both, and_left, and_right}
use Rattle.place_laws.proofs.Steps.{north-depth, north-i, east-depth, south-north, west-east, north-south, east-west, step-north, step-east, step_back}
use Rattle.place_laws.proofs.Laps.{smooth-above}
use Rattle.place_laws.proofs.Kids.{up, parent_up, up_depth}
use Rattle.place_laws.proofs.SideDigits.{aside, stays, within-still, digit, step-up, step-depth}
use Rattle.place_laws.proofs.Near.{Corner, c-here, c-east, c-north, c-both, corner-depth}
use Rattle.place_laws.proofs.Walls.{home-ground, home-up}
use Rattle.place_laws.proofs.Along.{Choice, chosen, any_kid, Along, a-here, a-down, home-along}
use Rattle.place_laws.proofs.Frames.{AgreeAt, derived-frame}

-- ---- the kids along a side, or in a corner

abbrev pub edge : Wind → Choice
edge NE l m = eqb l 1 && eqb m 1
edge SE l m = eqb l 1 && eqb m 0
edge SW l m = eqb l 0 && eqb m 0
edge NW l m = eqb l 0 && eqb m 1
edge N l m = eqb m 1
edge E l m = eqb l 1
edge S l m = eqb m 0
edge W l m = eqb l 0

-- a step that does not stay among the kids of one place leaves them along the side to its wind
leaves : (w : Wind) → T (aside w) → (p : Place) → not (stays w p) ≡ chosen (edge w) p
leaves N t p = rw (within-still p.i) (digit p.j (λ e. rw e) (λ e. rw e))
leaves S t p = rw (within-still p.i) (digit p.j (λ e. rw e) (λ e. rw e))
leaves E t p = rw (within-still p.j) (digit p.i (λ e. rw e) (λ e. rw e))
leaves W t p = rw (within-still p.j) (digit p.i (λ e. rw e) (λ e. rw e))
leaves NE t p = absurd t
leaves SE t p = absurd t
leaves SW t p = absurd t
leaves NW t p = absurd t

-- the kids of a corner of a cell that lie at the cell
abbrev pub facing : {g : Grid} {r q : Place} → Corner g r q → Choice
facing c-here = any_kid
facing c-east = edge W
facing c-north = edge S
facing c-both = edge SW

module _ (g : Grid) where
  -- a step leads among the kids of one place, or it is a step of the parents' places
  abbrev Beside : Wind → Place → Place → Type 0
  Beside w q r = (up q ≡ up r) ⊎ (T (chosen (edge w) q) × (step g w (up q) ≡ some (up r)))

  by_side : (w : Wind) → T (aside w) → (q r : Place) → base g < q.depth → step g w q ≡ some r → Beside w q r
  by_side w t q r h e = go (stays w q) (leaves w t q) (ap (map up) (sym e) ∙ step-up g w t q (omega arith) (smooth-above g w q h))
    where
      go : (b : Bool) → not b ≡ chosen (edge w) q → some (up r) ≡ cond b (some (up q)) (step g w (up q)) → Beside w q r
      go true f s = inl (sym (some-injective _ _ s))
      go false f s = inr (rw (← f) tt, sym s)

  -- ---- corners, down the tree

  -- q is a kid of a corner of the cell's parent's place, and one that lies at the cell
  abbrev Under : (r q : Place) → Corner g r q → Type 0
  Under r q k = (t : Place) × (j : Corner g (up r) t) × (up q ≡ t) × T (chosen (facing j) q) × ((l m : ℕ) → T (facing k l m) → T (facing j l m))

  corner-under : {r q : Place} → base g < r.depth → (k : Corner g r q) → Under r q k
  corner-under {r} h c-here = (up r, c-here, refl, tt, λ l m t. tt)
  corner-under {r} h c-east = go (by_side W tt (to_east g r) r (rw (east-depth g r) h) (east-west g r))
    where
      go : Beside W (to_east g r) r → Under r (to_east g r) c-east
      go (inl e) = (up r, c-here, e, tt, λ l m t. tt)
      go (inr (t, e)) = (to_east g (up r), c-east, sym (west-east g (up (to_east g r)) (up r) e), t, λ l m t. t)
  corner-under {r} h c-north = go (by_side S tt (to_north g r) r (rw (north-depth g r) h) (north-south g r))
    where
      go : Beside S (to_north g r) r → Under r (to_north g r) c-north
      go (inl e) = (up r, c-here, e, tt, λ l m t. tt)
      go (inr (t, e)) = (to_north g (up r), c-north, sym (south-north g (up (to_north g r)) (up r) e), t, λ l m t. t)
  corner-under {r} h c-both = go (by_side W tt s r (rw (east-depth g r) h) (east-west g r)) (by_side S tt (to_north g s) s (rw (north-depth g s, east-depth g r) h) (north-south g s))
    where
      s : Place
      s = to_east g r

      go : Beside W s r → Beside S (to_north g s) s → Under r (to_north g s) c-both
      go (inl e) (inl f) = (up r, c-here, f ∙ e, tt, λ l m t. tt)
      go (inr (t, e)) (inl f) = (to_east g (up r), c-east, f ∙ sym (west-east g (up s) (up r) e), rw (north-i g s) t, λ l m u. and_left (eqb l 0) (eqb m 0) u)
      go (inl e) (inr (u, f)) = (to_north g (up r), c-north, sym (south-north g (up (to_north g s)) (up s) f) ∙ ap (to_north g) e, u, λ l m t. and_right (eqb l 0) (eqb m 0) t)
      go (inr (t, e)) (inr (u, f)) = (
        to_north g (to_east g (up r)),
        c-both,
        sym (south-north g (up (to_north g s)) (up s) f) ∙ ap (to_north g) (sym (west-east g (up s) (up r) e)),
        and_both (chosen (edge W) (to_north g s)) (chosen (edge S) (to_north g s)) (rw (north-i g s) t) u,
        λ l m v. v,
      )

  -- ---- the places whose neighbour lies in a level-0 place

  module _ (p : Place) where
    corner-along-by : (n : ℕ) {r q : Place} → r.depth ≡ base g + n → home g r ≡ p → (k : Corner g r q)
        → (x : Place) × (j : Corner g p x) × ((l m : ℕ) → T (facing k l m) → T (facing j l m)) × Along (facing j) x q
    corner-along-by zero {r} {q} d e k =
        subst (λ (h : Place). (x : Place) × (j : Corner g h x) × ((l m : ℕ) → T (facing k l m) → T (facing j l m)) × Along (facing j) x q)
        (sym (home-ground g r (omega arith)) ∙ e) (q, k, λ l m t. t, a-here)
    corner-along-by (suc n) {r} {q} d e k =
        let (t, j, f, u, v) = corner-under (omega arith) k in
        let (x, i, w, a) = corner-along-by n (omega (arith, up_depth r (omega arith))) (home-up g r (omega arith) ∙ e) j in
        (x, i, λ l m y. w l m (v l m y), a-down a (parent_up q (omega (arith, corner-depth k)) ∙ ap some f) (w (q.i % 2) (q.j % 2) u))

    -- a corner of a cell under p
    pub corner-along : {r q : Place} → base g ≤ r.depth → home g r ≡ p → Corner g r q → (x : Place) × (j : Corner g p x) × Along (facing j) x q
    corner-along {r} h e k = let (x, j, w, a) = corner-along-by (r.depth - base g) (omega arith) e k in (x, j, a)

    module _ (w : Wind) (side : T (aside w)) where
      step-along-by : (n : ℕ) (q r : Place) → q.depth ≡ base g + n → step g w q ≡ some r → home g r ≡ p
          → (home g q ≡ p) ⊎ ((t : Place) × (step g w t ≡ some p) × Along (edge w) t q)
      step-along-by zero q r d s e = inr (q, s ∙ ap some (sym (home-ground g r (step-depth g w side q r s ∙ omega arith)) ∙ e), a-here)
      step-along-by (suc n) q r d s e = go (by_side w side q r (omega arith) s) (step-along-by n (up q) (up r) (omega (arith, up_depth q (omega arith))))
        where
          up-home : home g (up r) ≡ p
          up-home = home-up g r (omega (arith, step-depth g w side q r s)) ∙ e

          down : T (chosen (edge w) q) → (home g (up q) ≡ p) ⊎ ((t : Place) × (step g w t ≡ some p) × Along (edge w) t (up q))
              → (home g q ≡ p) ⊎ ((t : Place) × (step g w t ≡ some p) × Along (edge w) t q)
          down y (inl f) = inl (sym (home-up g q (omega arith)) ∙ f)
          down y (inr (t, f, a)) = inr (t, f, a-down a (parent_up q (omega arith)) y)

          go : Beside w q r
              → (step g w (up q) ≡ some (up r) → home g (up r) ≡ p → (home g (up q) ≡ p) ⊎ ((t : Place) × (step g w t ≡ some p) × Along (edge w) t (up q)))
              → (home g q ≡ p) ⊎ ((t : Place) × (step g w t ≡ some p) × Along (edge w) t q)
          go (inl f) ih = inl (sym (home-up g q (omega arith)) ∙ ap (home g) f ∙ up-home)
          go (inr (y, f)) ih = down y (ih f up-home)

      -- a place from which a step leads under p
      pub step-along : (q r : Place) → base g ≤ q.depth → step g w q ≡ some r → home g r ≡ p → (home g q ≡ p) ⊎ ((t : Place) × (step g w t ≡ some p) × Along (edge w) t q)
      step-along q r h = step-along-by (q.depth - base g) q r (omega arith)

-- ---- what changes

-- the places whose flags a level-0 cell at p can take part in
pub data Shadow (g : Grid) (c : Place → Bool) (p q : Place) : Type 0 where
  -- under p, E p, N p and NE p
  s-corner : {t : Place} (k : Corner g p t) → Along (facing k) t q → Shadow g c p q
  -- cells under S p and W p
  s-south : {t : Place} → step g S p ≡ some t → Along (edge N) t q → T (c q) → Shadow g c p q
  s-west : {t : Place} → step g W p ≡ some t → Along (edge E) t q → T (c q) → Shadow g c p q

-- the sets differ at p alone
module _ (g : Grid) (c d : Place → Bool) (p : Place) (ground : p.depth ≡ base g) (else : (r : Place) → (r ≡ p → ⊥) → c r ≡ d r) where
  agree : (r : Place) → (home g r ≡ p → ⊥) → AgreeAt g c d r
  agree r h = (else r (λ e. h (ap (home g) e ∙ home-ground g p ground)), else (home g r) h)

  pub shadow-same : (q : Place) → base g ≤ q.depth → (Shadow g c p q → ⊥) → derived g c q ≡ derived g d q
  shadow-same q h out =
      derived-frame g c d q
      (λ r k. agree r (λ e. let (x, j, a) = corner-along g p (omega (arith, corner-depth k)) e k in out (s-corner j a)))
      (λ t. (
        agree (to_north g q) (λ e. north t (step-along g p N tt q (to_north g q) h (step-north g q) e)),
        agree (to_east g q) (λ e. east t (step-along g p E tt q (to_east g q) h (step-east g q) e)),
      ))
    where
      here : home g q ≡ p → ⊥
      here e = out (s-corner c-here (subst (λ (x : Place). Along any_kid x q) e (home-along g q h)))

      north : T (c q) → (home g q ≡ p) ⊎ ((t : Place) × (step g N t ≡ some p) × Along (edge N) t q) → ⊥
      north u (inl e) = here e
      north u (inr (t, e, a)) = out (s-south (step_back g N t p e) a u)

      east : T (c q) → (home g q ≡ p) ⊎ ((t : Place) × (step g E t ≡ some p) × Along (edge E) t q) → ⊥
      east u (inl e) = here e
      east u (inr (t, e, a)) = out (s-west (step_back g E t p e) a u)
