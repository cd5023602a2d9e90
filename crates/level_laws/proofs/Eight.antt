-- Refusal 22 asks eight places: of each kid the two neighbours that lie outside the four, and of each only whether it has kids.
-- Assumes nothing.
use Prim.Native.Nat.{suc, ◌+◌, ◌*◌, ◌/◌, ◌%◌, ◌≤◌}
use native.Mathlib.Omega.{arith}
use mathlib.Core.Path.{◌≡◌, refl, sym, ap, ◌∙◌}
use mathlib.Core.Bool.{Bool, true, false, ◌&&◌, cond, and-false, or-false, or_assoc}
use mathlib.Core.Option.{Option, none, some, map}
use mathlib.Core.List.{List, [], ◌∷◌}
use lib.Dec.{T}
use Rattle.mesh.specs.Call.{Rectangle}
use Rattle.mesh.specs.Tools.{any, or_else}
use Rattle.mesh.specs.Place.{Place, Grid, Wind, NE, SE, SW, NW, N, E, S, W, compass, kid_winds, side_winds, same, base, step, kid, kids, In}
use Rattle.mesh.specs.Mesh.{Mesh, has_kids}
use Rattle.mesh.specs.Jump.{finer_than, finer_beside}
use Rattle.mesh.proofs.Winds.{rule}
use Rattle.place_laws.proofs.Bools.{yes-is, no-is, bool-ext, and_both, and_right}
use Rattle.place_laws.proofs.Kids.{up, parent_up, up_is, kid-depth, up-kid, parent_in, in-parent}
use Rattle.place_laws.proofs.Tree.{kids-cell}
use Rattle.place_laws.proofs.Laps.{smooth-above}
use Rattle.place_laws.proofs.SideDigits.{aside, within, stays, step-up, step-depth, step_other}
use Rattle.place_laws.proofs.Base.{lap-many}

-- the neighbours of the kids that lie outside the four
abbrev pub eight : Grid → Place → List (Option Place)
eight g p =
    step g N (kid NE p) ∷
    step g E (kid NE p) ∷
    step g E (kid SE p) ∷
    step g S (kid SE p) ∷
    step g S (kid SW p) ∷
    step g W (kid SW p) ∷
    step g N (kid NW p) ∷
    step g W (kid NW p) ∷
    []

-- ---- which steps stay among the four

abbrev inward : Wind → Wind → Bool
inward x w = within ((compass x).east / 2 + (compass w).east) && within ((compass x).north / 2 + (compass w).north)

stays-kid : (x w : Wind) (p : Place) → stays w (kid x p) ≡ inward x w
unfolding kid
stays-kid x w p =
    let a : (2 * p.i + (compass x).east / 2) % 2 ≡ (compass x).east / 2 = omega (arith, (rule x).east-back) in
    let b : (2 * p.j + (compass x).north / 2) % 2 ≡ (compass x).north / 2 = omega (arith, (rule x).north-back) in
    rw (a, b)

-- what is the same for each wind is the same for the four
any-sides : (f h : Wind → Bool) → ((w : Wind) → T (aside w) → f w ≡ h w) → any f side_winds ≡ any h side_winds
any-sides f h e = rw (e N tt, e E tt, e S tt, e W tt)

any-kids : (f h : Wind → Bool) → ((x : Wind) → f x ≡ h x) → any f kid_winds ≡ any h kid_winds
any-kids f h e = rw (e NE, e SE, e SW, e NW)

module _ (g : Grid) (c : Place → Bool) (m : Mesh g c) (in-range : Rectangle g) (p : Place) (low : base g ≤ p.depth) where
  -- a neighbour of a kid, as 22 asks of it, and whether it has kids
  abbrev asked : Wind → Wind → Bool
  asked x w = or_else false (finer_than g c p) (step g w (kid x p))

  abbrev parental : Wind → Wind → Bool
  parental x w = or_else false (has_kids g c) (step g w (kid x p))

  -- 22 asks only where the step leads out of the four, and there only this
  asked_is : (x w : Wind) → T (aside w) → asked x w ≡ cond (inward x w) false (parental x w)
  asked_is x w a = rw (← stays-kid x w p) (go (stays w (kid x p)) refl (step g w (kid x p)) refl)
    where
      go : (b : Bool) → stays w (kid x p) ≡ b → (o : Option Place) → step g w (kid x p) ≡ o → or_else false (finer_than g c p) o ≡ cond b false (or_else false (has_kids g c) o)
      go true s none e = refl
      go false s none e = refl
      go b s (some q) e = at_place b s
        where
          above : (b : Bool) → stays w (kid x p) ≡ b → some (up q) ≡ cond b (some p) (step g w p)
          above b s = sym (ap (map up) e) ∙ step-up g w a (kid x p) (omega (arith, kid-depth x p)) (smooth-above g w (kid x p) (omega (arith, kid-depth x p))) ∙ rw (s, up-kid x p)

          depth-of : q.depth ≡ suc p.depth
          depth-of = step-depth g w a (kid x p) q e ∙ kid-depth x p

          at_place : (b : Bool) → stays w (kid x p) ≡ b → finer_than g c p q ≡ cond b false (has_kids g c q)
          at_place true s =
              let i : In q (kids p) = parent_in q p (parent_up q (omega (arith, depth-of)) ∙ above true s) in
              rw (yes-is (any (same q) (kids p)) i) (and-false (c q))
          at_place false s =
              let n : any (same q) (kids p) ≡ false = no-is (any (same q) (kids p)) (λ i. step_other g w a p (lap-many g in-range p.depth) (sym (above false s) ∙ ap some (up_is q p (in-parent q p i)))) in
              rw n (bool-ext (c q && has_kids g c q) (has_kids g c q) (λ t. and_right (c q) (has_kids g c q) t) (λ t. and_both (c q) (has_kids g c q) (kids-cell g c m q (omega (arith, depth-of)) t) t))

  pub finer-eight : finer_beside g c p ≡ any (or_else false (has_kids g c)) (eight g p)
  unfolding finer_beside kids
  finer-eight =
      any-kids (λ x. any (asked x) side_winds) _ (λ x. any-sides (asked x) (λ w. cond (inward x w) false (parental x w)) (asked_is x))
      ∙ simp (or_assoc, or-false)
