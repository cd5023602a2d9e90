-- A place gets kids or loses them: the flags that change stand at the corners of the kids, the nine places that a refinement wants, and at the
-- cells beside the kids to the south and to the west, which are at most four.
-- Assumes nothing.
use Prim.Native.Nat.{◌≤◌}
use native.Mathlib.Omega.{arith}
use mathlib.Core.Path.{◌≡◌, refl, sym, ◌∙◌}
use mathlib.Core.Logic.{◌⊎◌, inl, inr}
use mathlib.Core.Bool.{Bool}
use mathlib.Core.Option.{some, map}
use lib.Dec.{T}
use Rattle.mesh.specs.Place.{Place, Grid, base, to_north, to_east, kid, kids, parent, Wind, NE, SE, SW, NW, S, W, In, step}
use Rattle.mesh.specs.Mesh.{wall_h, wall_v, derived}
use Rattle.mesh.specs.Request.{wanted}
use Rattle.place_laws.proofs.Steps.{south-north, west-east, north-south, east-west}
use Rattle.place_laws.proofs.Laps.{Smooth, smooth-above}
use Rattle.place_laws.proofs.Kids.{parent-kid, kid-parent, parent_in, parent-depth, kid-depth}
use Rattle.place_laws.proofs.SideDigits.{kid_by, step-kid}
use Rattle.place_laws.proofs.Near.{Corner, c-here}
use Rattle.place_laws.proofs.Wanted.{north-sw, north-se, east-sw, east-nw, north-once, east-once, each_in, corner-wanted}
use Rattle.place_laws.proofs.Frames.{AgreeAt, walls-frame, derived-frame, area_same}

-- ---- the four places

-- q lies one step south or west of a kid of p, outside p
pub data Fringe (g : Grid) (p q : Place) : Type 0 where
  south-of-sw : step g S (kid SW p) ≡ some q → Fringe g p q
  south-of-se : step g S (kid SE p) ≡ some q → Fringe g p q
  west-of-sw : step g W (kid SW p) ≡ some q → Fringe g p q
  west-of-nw : step g W (kid NW p) ≡ some q → Fringe g p q

module _ (g : Grid) (p q : Place) where
  -- one step north or one step east of it lies a kid of p
  pub fringe-beside : Fringe g p q → (parent (to_north g q) ≡ some p) ⊎ (parent (to_east g q) ≡ some p)
  fringe-beside (south-of-sw e) = inl (rw (south-north g (kid SW p) q e) (parent-kid SW p))
  fringe-beside (south-of-se e) = inl (rw (south-north g (kid SE p) q e) (parent-kid SE p))
  fringe-beside (west-of-sw e) = inr (rw (west-east g (kid SW p) q e) (parent-kid SW p))
  fringe-beside (west-of-nw e) = inr (rw (west-east g (kid NW p) q e) (parent-kid NW p))

  -- one of the four kids
  by-kid : (P : Place → Type 0) → P (kid NE p) → P (kid SE p) → P (kid SW p) → P (kid NW p) → (r : Place) → parent r ≡ some p → P r
  unfolding kids
  by-kid P a b c d r e = each_in P (kids p) (a, (b, (c, (d, tt)))) r (parent_in r p e)

  -- and a place beside a kid in this way is a kid itself, or one of the four
  pub beside-north : base g ≤ p.depth → parent (to_north g q) ≡ some p → (parent q ≡ some p) ⊎ Fringe g p q
  beside-north low k =
      by-kid (λ r. to_north g q ≡ r → (parent q ≡ some p) ⊎ Fringe g p q)
      (λ e. inl (kid-parent SE (north-once g q (kid SE p) (e ∙ sym (north-se g p low)))))
      (λ e. inr (south-of-se (rw (← e) (north-south g q))))
      (λ e. inr (south-of-sw (rw (← e) (north-south g q))))
      (λ e. inl (kid-parent SW (north-once g q (kid SW p) (e ∙ sym (north-sw g p low)))))
      (to_north g q) k refl

  pub beside-east : parent (to_east g q) ≡ some p → (parent q ≡ some p) ⊎ Fringe g p q
  beside-east k =
      by-kid (λ r. to_east g q ≡ r → (parent q ≡ some p) ⊎ Fringe g p q)
      (λ e. inl (kid-parent NW (east-once g q (kid NW p) (e ∙ sym (east-nw g p)))))
      (λ e. inl (kid-parent SW (east-once g q (kid SW p) (e ∙ sym (east-sw g p)))))
      (λ e. inr (west-of-sw (rw (← e) (east-west g q))))
      (λ e. inr (west-of-nw (rw (← e) (east-west g q))))
      (to_east g q) k refl

-- they are kids of the places south and west of p
module _ (g : Grid) (p : Place) (low : base g ≤ p.depth) where
  above : (w v : Wind) → Smooth g w (kid v p)
  above w v = smooth-above g w (kid v p) (omega (arith, kid-depth v p))

  pub fringe-south-sw : step g S (kid SW p) ≡ map (kid NW) (step g S p)
  unfolding kid kid_by
  fringe-south-sw = step-kid g S SW tt p (above S SW)

  pub fringe-south-se : step g S (kid SE p) ≡ map (kid NE) (step g S p)
  unfolding kid kid_by
  fringe-south-se = step-kid g S SE tt p (above S SE)

  pub fringe-west-sw : step g W (kid SW p) ≡ map (kid SE) (step g W p)
  unfolding kid kid_by
  fringe-west-sw = step-kid g W SW tt p (above W SW)

  pub fringe-west-nw : step g W (kid NW p) ≡ map (kid NE) (step g W p)
  unfolding kid kid_by
  fringe-west-nw = step-kid g W NW tt p (above W NW)

-- ---- what changes

-- the sets differ at the kids of p alone
module _ (g : Grid) (c d : Place → Bool) (p : Place) (low : base g ≤ p.depth) (else : (r : Place) → (parent r ≡ some p → ⊥) → c r ≡ d r) where
  agree : (r : Place) → (parent r ≡ some p → ⊥) → AgreeAt g c d r
  agree r h = (else r h, area_same g c d (λ o e. else o (λ k. omega (arith, parent-depth o p k))) r)

  -- the walls of a place that is no corner of a kid
  pub kids-walls : (q : Place) → (In q (wanted g p) → ⊥) → (c q ≡ d q) × (wall_h g c (some q) ≡ wall_h g d (some q)) × (wall_v g c (some q) ≡ wall_v g d (some q))
  kids-walls q out =
      let touch : (r : Place) → Corner g r q → AgreeAt g c d r = λ r k. agree r (λ e. out (corner-wanted g p low e k)) in
      let (h, v) = walls-frame g c d q touch in
      ((touch q c-here).0, h, v)

  pub kids-same : (q : Place) → (In q (wanted g p) → ⊥) → (T (c q) → Fringe g p q → ⊥) → derived g c q ≡ derived g d q
  kids-same q out off =
      derived-frame g c d q (λ r k. agree r (λ e. out (corner-wanted g p low e k)))
      (λ t. (agree (to_north g q) (λ k. no_place t (beside-north g p q low k)), agree (to_east g q) (λ k. no_place t (beside-east g p q k))))
    where
      no_place : T (c q) → (parent q ≡ some p) ⊎ Fringe g p q → ⊥
      no_place t (inl e) = out (corner-wanted g p low e c-here)
      no_place t (inr f) = off t f
