-- What keeps a set of cells balanced: the full rectangle is; four kids more are where 21 does not hold; four kids less where 22 does not hold;
-- one level-0 cell less always.
-- Assumes nothing.
use Prim.Native.Nat.{◌<◌}
use native.Mathlib.Omega.{arith}
use mathlib.Core.Path.{◌≡◌, refl, sym, ap, ◌∙◌}
use mathlib.Core.Logic.{◌⊎◌, inl, inr}
use mathlib.Core.Bool.{Bool, false, not, ◌&&◌}
use mathlib.Core.Option.{Option, none, some, some-injective}
use mathlib.Core.List.{List, [], ◌∷◌}
use lib.Dec.{T, ltb, lt→ltb}
use Rattle.mesh.specs.Tools.{any, or_else}
use Rattle.mesh.specs.Place.{Place, Grid, Wind, compass, same, side_winds, base, home, step, kids, parent, In}
use Rattle.mesh.specs.Mesh.{Mesh, on, in_area, has_kids}
use Rattle.mesh.specs.Jump.{bare, coarse_beside, finer_than, finer_beside}
use Rattle.mesh.specs.Build.{full}
use Rattle.place_laws.proofs.Bools.{either, and_both, and_right, or_left, or_right}
use Rattle.place_laws.proofs.Steps.{step_back}
use Rattle.place_laws.proofs.Places.{in-any, in_one}
use Rattle.place_laws.proofs.Kids.{parent-depth, has-kid, kid-has}
use Rattle.place_laws.proofs.Tree.{kids-cell}
use Rattle.place_laws.proofs.Near.{on-at}
use Rattle.place_laws.proofs.SideDigits.{aside, opposite-aside, among-sides, step-depth}
use Rattle.place_laws.proofs.Full.{full-cell}
use Rattle.place_laws.proofs.Growing.{grown, grown-old, grown-cases}
use Rattle.place_laws.proofs.Shrinking.{shrunk, stays, stayed}
use Rattle.level_laws.proofs.Balanced.{Balanced}

-- ---- the four sides

side-any : (f : Wind → Bool) (w : Wind) → T (aside w) → T (f w) → T (any f side_winds)
side-any f = among-sides (λ w. T (f w)) (λ ws. T (any f ws)) (λ w ws. or_left (f w) (any f ws)) (λ w ws. or_right (f w) (any f ws))

-- a side that lies in the area has a cell, where 21 does not hold
pub covered : (g : Grid) (c : Place → Bool) (p : Place) → coarse_beside g c p ≡ false → base g < p.depth → (w : Wind) → T (aside w) → T (in_area g c (step g w p)) → T (on g c (step g w p))
unfolding coarse_beside
covered g c p e l w a t = go (either (on g c (step g w p)))
  where
    go : T (on g c (step g w p)) ⊎ T (not (on g c (step g w p))) → T (on g c (step g w p))
    go (inl y) = y
    go (inr n) =
        let b : T (bare g c p w) = and_both (in_area g c (step g w p)) (not (on g c (step g w p))) t n in
        let h : T (ltb (base g) p.depth && any (bare g c p) side_winds) = and_both (ltb (base g) p.depth) (any (bare g c p) side_winds) (lt→ltb _ _ l) (side-any (bare g c p) w a b) in
        absurd (rw e at h)

-- ---- places that may be missing

module _ (g : Grid) (c d : Place → Bool) where
  on-more : ((q : Place) → T (c q) → T (d q)) → (o : Option Place) → T (on g c o) → T (on g d o)
  on-more h none t = t
  on-more h (some q) t = h q t

  -- the area is made by the cells of level 0 alone
  area-more : ((q : Place) → q.depth ≡ base g → T (c q) → T (d q)) → (o : Option Place) → T (in_area g c o) → T (in_area g d o)
  unfolding home
  area-more h none t = t
  area-more h (some q) t = h (home g q) refl t

-- ---- build

pub full-balanced : (g : Grid) → Balanced g (full g)
full-balanced g p t l k w a s = absurd (omega (arith, (full-cell g p t).0))

-- ---- refine

pub grown-balanced : (g : Grid) (c : Place → Bool) → Mesh g c → Balanced g c → (p : Place) → T (c p) → coarse_beside g c p ≡ false → Balanced g (grown c (kids p))
grown-balanced g c m even p here fine q t l k w a s =
    let (x, e, u) = has-kid g (grown c (kids p)) q k in
    on-more g c (grown c (kids p)) (grown-old c (kids p)) (step g w q) (go x e (grown-cases c p x u))
  where
    ground : (r : Place) → r.depth ≡ base g → T (c r) ⊎ (parent r ≡ some p) → T (c r)
    ground r d (inl y) = y
    ground r d (inr f) = absurd (omega (arith, parent-depth r p f, m.low p here))

    area : T (in_area g c (step g w q))
    area = area-more g (grown c (kids p)) c (λ r d y. ground r d (grown-cases c p r y)) (step g w q) s

    go : (x : Place) → parent x ≡ some q → T (c x) ⊎ (parent x ≡ some p) → T (on g c (step g w q))
    go x e (inl y) =
        let h = kid-has g c q x e y in
        even q (kids-cell g c m q (omega arith) h) l h w a area
    go x e (inr f) =
        let i : q ≡ p = some-injective _ _ (sym e ∙ f) in
        covered g c q (ap (coarse_beside g c) i ∙ fine) l w a area

-- ---- remove and kill

module _ (g : Grid) (c : Place → Bool) (even : Balanced g c) where
  -- cells can go that no refined cell above level 0 has beside it
  less-balanced : (ps : List Place) → ((q r : Place) (w : Wind) → T (aside w) → T (shrunk c ps q) → base g < q.depth → T (has_kids g c q) → step g w q ≡ some r → In r ps → ⊥) → Balanced g (shrunk c ps)
  less-balanced ps far q t l k w a s =
      let (x, e, u) = has-kid g (shrunk c ps) q k in
      let h : T (has_kids g c q) = kid-has g c q x e (stayed c ps x u) in
      let y = even q (stayed c ps q t) l h w a (area-more g (shrunk c ps) c (λ r d z. stayed c ps r z) (step g w q) s) in
      let (r, f, z) = on-at g c (step g w q) y in
      rw f (stays c ps r z (far q r w a t l h f))

  pub removed-balanced : (p : Place) → finer_beside g c p ≡ false → Balanced g (shrunk c (kids p))
  unfolding finer_beside
  removed-balanced p fine = less-balanced (kids p) far
    where
      beside : Place → Wind → Bool
      beside k w = or_else false (finer_than g c p) (step g w k)

      far : (q r : Place) (w : Wind) → T (aside w) → T (shrunk c (kids p) q) → base g < q.depth → T (has_kids g c q) → step g w q ≡ some r → In r (kids p) → ⊥
      far q r w a t l h f i =
          let n : T (not (any (same q) (kids p))) = and_right (c q) (not (any (same q) (kids p))) t in
          let z : T (finer_than g c p q) = and_both (c q) (not (any (same q) (kids p)) && has_kids g c q) (stayed c (kids p) q t) (and_both (not (any (same q) (kids p))) (has_kids g c q) n h) in
          let b : T (beside r (compass w).opposite) = rw (step_back g w q r f) z in
          let y : T (any (λ k. any (beside k) side_winds) (kids p)) = in-any (λ k. any (beside k) side_winds) (kids p) r i (side-any (beside r) (compass w).opposite (opposite-aside w a) b) in
          rw fine at y

  pub killed-balanced : (p : Place) → p.depth ≡ base g → Balanced g (shrunk c (p ∷ []))
  killed-balanced p e = less-balanced (p ∷ []) (λ q r w a t l h f i.
      let d : r.depth ≡ p.depth = ap (λ (x : Place). x.depth) (in_one r p i) in
      omega (arith, step-depth g w a q r f))
