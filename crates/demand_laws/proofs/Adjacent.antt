-- The places around a place are the adjacent ones: what a row's words are drawn by agrees with the plain words of 01.
-- Assumes nothing.
use Prim.Native.Nat.{ℕ, zero, suc, ◌/◌, ◌<◌}
use native.Mathlib.Omega.{arith}
use mathlib.Core.Path.{◌≡◌, sym, ap, ◌∙◌}
use mathlib.Core.Logic.{◌↔◌}
use mathlib.Core.Option.{none, some, none-ne-some, some-injective}
use lib.ListN.{get_or}
use Rattle.mesh.specs.Place.{Place, Grid, Wind, NE, SE, SW, NW, compass, lap, to_north, to_east, kid, parent, around, step, S, W}
use Rattle.mesh.proofs.Winds.{rule}
use Rattle.place_laws.proofs.Laps.{Below, after-modulo}
use Rattle.place_laws.proofs.Steps.{north-depth, north-i, north-j, east-depth, east-i, east-j, south-north, west-east, north-south, east-west, step-north, step-east}
use Rattle.place_laws.proofs.Places.{place-path}
use Rattle.place_laws.proofs.Kids.{up, parent_up, parent-depth, up_depth, up_is, parent-kid}
use Rattle.demand_laws.specs.Adjacent.{NorthOf, EastOf, KidOf, KidAt, Adjacent}

north-is : (g : Grid) (p q : Place) → Below g p → (to_north g p ≡ q) ↔ NorthOf g q p
north-is g p q b =
    let row = north-j g p ∙ after-modulo (lap g p.depth) p.j b in (
      λ e. rw (← e) (north-depth g p, north-i g p, row),
      λ (d, c, r). place-path (to_north g p) q (north-depth g p ∙ sym d) (north-i g p ∙ sym c) (row ∙ sym r),
    )

east-is : (g : Grid) (p q : Place) → (to_east g p ≡ q) ↔ EastOf g q p
east-is g p q = (
  λ e. rw (← e) (east-depth g p, omega (arith, east-i g p), east-j g p),
  λ (d, c, r). place-path (to_east g p) q (east-depth g p ∙ sym d) (omega (arith, east-i g p)) (east-j g p ∙ sym r),
)

-- south and west lead back
south-is : (g : Grid) (p q : Place) → Below g q → (step g S p ≡ some q) ↔ NorthOf g p q
south-is g p q b = (
  λ e. (north-is g q p b).0 (south-north g p q e),
  λ h. rw (← (north-is g q p b).1 h) (north-south g q),
)

west-is : (g : Grid) (p q : Place) → (step g W p ≡ some q) ↔ EastOf g p q
west-is g p q = (
  λ e. (east-is g q p).0 (west-east g p q e),
  λ h. rw (← (east-is g q p).1 h) (east-west g q),
)

parent_is : (q p : Place) → (parent q ≡ some p) ↔ KidOf q p
unfolding up
parent_is q p = (
  λ e. let h = up_is q p e in ((let d = parent-depth q p e in omega arith), ap (λ (x : Place). x.i) h, ap (λ (x : Place). x.j) h),
  λ (d, c, r). let h : 0 < q.depth = omega arith in rw (parent_up q h) (ap some (place-path (up q) p (omega (arith, up_depth q h)) c r)),
)

kid_is : (w : Wind) (p q : Place) → (kid w p ≡ q) ↔ KidAt ((compass w).east / 2) ((compass w).north / 2) q p
unfolding kid
kid_is w p q = (
  λ e. ((parent_is q p).0 (rw (← e) (parent-kid w p)), rw (← e) (omega (arith, (rule w).east-back)), rw (← e) (omega (arith, (rule w).north-back))),
  λ ((d, c, r), x, y). place-path (kid w p) q (omega arith) (omega arith) (omega arith),
)

of_some : {p q : Place} {A : Type 0} → (p ≡ q) ↔ A → (some p ≡ some q) ↔ A
of_some h = (λ e. h.0 (some-injective _ _ e), λ a. ap some (h.1 a))

-- between rows that a level has
pub around-adjacent : (g : Grid) (w : ℕ) (p q : Place) → Below g p → Below g q → (get_or (around g (some p)) w none ≡ some q) ↔ Adjacent g w p q
unfolding around
around-adjacent g zero p q a b = parent_is p q
around-adjacent g (suc zero) p q a b = of_some (kid_is NE p q)
around-adjacent g (suc (suc zero)) p q a b = of_some (kid_is SE p q)
around-adjacent g (suc (suc (suc zero))) p q a b = of_some (kid_is SW p q)
around-adjacent g (suc (suc (suc (suc zero)))) p q a b = of_some (kid_is NW p q)
around-adjacent g (suc (suc (suc (suc (suc zero))))) p q a b = rw (step-north g p) (of_some (north-is g p q a))
around-adjacent g (suc (suc (suc (suc (suc (suc zero)))))) p q a b = rw (step-east g p) (of_some (east-is g p q))
around-adjacent g (suc (suc (suc (suc (suc (suc (suc zero))))))) p q a b = south-is g p q b
around-adjacent g (suc (suc (suc (suc (suc (suc (suc (suc zero)))))))) p q a b = west-is g p q
around-adjacent g (suc (suc (suc (suc (suc (suc (suc (suc (suc w))))))))) p q a b = (λ e. absurd (none-ne-some _ e), λ n. absurd n)
