-- Refusal 21 is a flag: a cell has a bare side exactly if one of its walls is green, and on level 0 it has none.
-- Assumes nothing.
use Prim.Native.Nat.{◌<◌}
use native.Mathlib.Omega.{arith}
use native.Mathlib.Decide.{dec_lt}
use mathlib.Core.Path.{◌≡◌, refl, sym, ap, ◌∙◌}
use mathlib.Core.Bool.{Bool, true, false, not, ◌&&◌, ◌||◌, and-false, and-not_self}
use mathlib.Core.Option.{Option, none, some}
use lib.Dec.{T, ltb}
use lib.ListN.{get_or}
use borrow.Author.Tests.{lt-ltb, le-ltb}
use Rattle.mesh.specs.Tools.{any}
use Rattle.mesh.specs.Place.{Place, Grid, Wind, N, E, S, W, compass, side_winds, base, step}
use Rattle.mesh.specs.Mesh.{Mesh, is_green, wall_of, on, in_area, wall_h, wall_v, sides, derived}
use Rattle.mesh.specs.Jump.{bare, coarse_beside}
use Rattle.place_laws.proofs.Bools.{yes-is}
use Rattle.place_laws.proofs.Steps.{step_back}
use Rattle.place_laws.proofs.SideDigits.{aside, step-depth}
use Rattle.place_laws.proofs.Walls.{wall, home-ground}

-- ---- a wall of a cell by what is across

own : (y b a : Bool) → is_green (wall_of y true b a) ≡ (b && not y)
own true true a = refl
own true false a = refl
own false true a = refl
own false false a = refl

other : (x b a : Bool) → is_green (wall_of true x b a) ≡ (a && not x)
other true b true = refl
other true b false = refl
other false b true = refl
other false b false = refl

any_order : (a b c d : Bool) → (c || (a || (d || (b || false)))) ≡ (a || (b || (c || (d || false))))
any_order true b true d = refl
any_order true b false d = refl
any_order false true true d = refl
any_order false true false true = refl
any_order false true false false = refl
any_order false false true d = refl
any_order false false false true = refl
any_order false false false false = refl

module _ (g : Grid) (c : Place → Bool) where
  module _ (p : Place) (here : c p ≡ true) where
    own-wall : (w : Wind) → is_green (wall g c w (some p)) ≡ bare g c p w
    own-wall w = rw here (own (on g c (step g w p)) (in_area g c (step g w p)) (in_area g c (some p)))

    -- the wall that belongs to the place across
    other-wall : (w : Wind) → is_green (wall g c (compass w).opposite (step g w p)) ≡ bare g c p w
    other-wall w = go (step g w p) refl
      where
        go : (o : Option Place) → step g w p ≡ o → is_green (wall g c (compass w).opposite o) ≡ (in_area g c o && not (on g c o))
        go none e = refl
        go (some q) e = rw (step_back g w p q e, here) (other (c q) (in_area g c (some p)) (in_area g c (some q)))

    green-sides : any is_green (sides g c p) ≡ any (bare g c p) side_winds
    unfolding sides wall_h wall_v
    green-sides = rw (own-wall S, other-wall N, own-wall W, other-wall E) (any_order (bare g c p N) (bare g c p E) (bare g c p S) (bare g c p W))

  -- ---- on level 0 the area is the cells

  bare-ground : (p : Place) → p.depth ≡ base g → (w : Wind) → T (aside w) → bare g c p w ≡ false
  bare-ground p e w a = go (step g w p) refl
    where
      go : (o : Option Place) → step g w p ≡ o → (in_area g c o && not (on g c o)) ≡ false
      go none f = refl
      go (some q) f = rw (home-ground g q (step-depth g w a p q f ∙ e)) (and-not_self (c q))

  pub none_bare : (p : Place) → p.depth ≡ base g → any (bare g c p) side_winds ≡ false
  none_bare p e = rw (bare-ground p e N tt, bare-ground p e E tt, bare-ground p e S tt, bare-ground p e W tt)

  pub ground-not-coarse : (p : Place) → p.depth ≡ base g → coarse_beside g c p ≡ false
  unfolding coarse_beside
  ground-not-coarse p e = rw (le-ltb (base g) p.depth (omega arith))

  -- ---- bit 10 of the flags

  module _ (m : Mesh g c) where
    pub green-cell : (p : Place) → get_or (derived g c p) 10 false ≡ (c p && coarse_beside g c p)
    unfolding derived coarse_beside
    green-cell p = go (c p) refl
      where
        go : (b : Bool) → c p ≡ b → (c p && any is_green (sides g c p)) ≡ (c p && (ltb (base g) p.depth && any (bare g c p) side_winds))
        go false e = rw e
        go true e = rw (e, green-sides p e) (level (dec_lt (base g) p.depth))
          where
            level : Dec (base g < p.depth) → any (bare g c p) side_winds ≡ (ltb (base g) p.depth && any (bare g c p) side_winds)
            level (yes l) = rw (lt-ltb (base g) p.depth l)
            level (no l) =
                let d : p.depth ≡ base g = omega (arith, m.low p (rw e tt)) in
                none_bare p d ∙ sym (rw (le-ltb (base g) p.depth (omega arith)))

    -- on level 0 no cell has it, and 21 is never given
    pub ground-not-green : (p : Place) → p.depth ≡ base g → get_or (derived g c p) 10 false ≡ false
    ground-not-green p e = green-cell p ∙ ap (λ (b : Bool). c p && b) (ground-not-coarse p e) ∙ and-false (c p)

    -- the flag of a cell is the test
    pub green-is-coarse : (p : Place) → T (c p) → get_or (derived g c p) 10 false ≡ coarse_beside g c p
    green-is-coarse p t = green-cell p ∙ ap (λ (b : Bool). b && coarse_beside g c p) (yes-is (c p) t)
