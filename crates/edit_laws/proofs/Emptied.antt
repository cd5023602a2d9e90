-- Some places lose their cells, and their flags' words become 0: the cells and the marks in the flags are right then, and elsewhere the flags are
-- still those of the cells before.
-- Assumes nothing.
use Prim.Native.Nat.{ℕ}
use mathlib.Core.Path.{◌≡◌, refl, sym, ap, ◌∙◌}
use mathlib.Core.Logic.{◌≢◌}
use mathlib.Core.Bool.{Bool, true, false, cond}
use mathlib.Core.Option.{Option, none}
use mathlib.Core.List.{List}
use Rattle.number_laws.specs.Numbered.{Numbered}
use Rattle.mesh.specs.Tools.{any, digits, or_else}
use Rattle.mesh.specs.Place.{Place, Grid, same, In}
use Rattle.mesh.specs.Mesh.{flags}
use Rattle.mesh.specs.State.{Entry, Cell, cells, number, contents}
use Rattle.place_laws.proofs.Bools.{no-is}
use Rattle.edit_laws.specs.Linked.{Flags, flags_of}
use Rattle.edit_laws.proofs.FlagsAnew.{bit}
use Rattle.edit_laws.proofs.Celling.{with_all}
use Rattle.edit_laws.proofs.Starting.{mark_of, start_flags, start-stands, start-complete, start-sentenced}

-- ps are the places in one order, and qs in the order in which they are written
module _ (g : Grid) (es ds : List Entry) (u : Numbered es) (ps qs : List Place) (turn : (q : Place) → any (same q) qs ≡ any (same q) ps)
    (cells_is : (q : Place) → cells ds q ≡ cond (any (same q) ps) false (cells es q))
    (contents-is : (q : Place) → contents ds q ≡ cond (any (same q) ps) none (contents es q)) where
  abbrev f : Flags
  f = with_all qs 0 (start_flags g es)

  point-is : (q : Place) → mark_of ds q ≡ cond (any (same q) ps) false (mark_of es q)
  point-is q = ap (λ (o : Option Cell). or_else false (λ x. x.sentenced) o) (contents-is q) ∙ go (any (same q) ps)
    where
      go : (b : Bool) → or_else false (λ x. x.sentenced) (cond b none (contents es q)) ≡ cond b false (mark_of es q)
      go true = refl
      go false = refl

  one : (i : ℕ) (y : Bool) (q : Place) → false ≡ bit i 0 → bit i (start_flags g es q) ≡ y → (b : Bool) → any (same q) qs ≡ b → cond b false y ≡ bit i (f q)
  one i y q j k true e = rw e j
  one i y q j k false e = rw e (sym k)

  pub emptied-complete : (q : Place) → bit 0 (with_all qs 0 (start_flags g es) q) ≡ cells ds q
  emptied-complete q = sym (cells_is q ∙ one 0 (cells es q) q refl (start-complete g es u q) (any (same q) ps) (turn q))

  pub emptied-sentenced : (q : Place) → bit 12 (with_all qs 0 (start_flags g es) q) ≡ mark_of ds q
  emptied-sentenced q = sym (point-is q ∙ one 12 (mark_of es q) q refl (start-sentenced g es u q) (any (same q) ps) (turn q))

  pub emptied-away : (q : Place) → (In q ps → ⊥) → number es q ≢ 0 → with_all qs 0 (start_flags g es) q ≡ digits (flags g (cells es) q (mark_of ds q))
  unfolding flags_of
  emptied-away q o z =
      let not-one : any (same q) ps ≡ false = no-is (any (same q) ps) o in
      rw (turn q, not-one) (start-stands g es q z ∙ ap (λ (b : Bool). digits (flags g (cells es) q b)) (sym (point-is q ∙ rw not-one)))
