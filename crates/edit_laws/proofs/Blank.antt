-- A build leaves every value blank.
-- Assumes nothing.
use Prim.Native.Nat.{ℕ, zero, suc, ◌+◌, ◌-◌, ◌≤◌}
use native.Mathlib.Numerals.{add-one}
use native.Mathlib.Omega.{arith}
use mathlib.Core.Path.{◌≡◌, refl, ap, ap₂, ◌∙◌}
use mathlib.Core.Bool.{Bool, true, false, cond}
use mathlib.Core.Option.{Option, none, some}
use mathlib.Core.List.{List, [], ◌∷◌, map}
use lib.Ieee.{Float}
use lib.ListN.{length, replicate}
use Rattle.number_laws.specs.Numbered.{written}
use Rattle.mesh.specs.Place.{Place, Grid}
use Rattle.mesh.specs.State.{free, used, Cell, amount, plus_zero, value_of}
use Rattle.mesh.specs.Picture.{amounts}
use Rattle.mesh.specs.Build.{full, numbered, blank_cell, built}

module _ (x : Place → Option Cell) (blank : (p : Place) → amount (value_of (used p (x p))) ≡ plus_zero) where
  blank-free : (k : ℕ) → map (λ e. amount (value_of e)) (replicate k free) ≡ replicate k plus_zero
  blank-free zero = refl
  blank-free (suc k) = ap (λ (ys : List Float). plus_zero ∷ ys) (blank-free k)

  blank-written : (k : ℕ) (ps : List Place) → map (λ e. amount (value_of e)) (written x k ps) ≡ replicate (length ps + k) plus_zero
  blank-written k [] = let e : 0 + k ≡ k = omega arith in rw e (blank-free k)
  blank-written k (p ∷ ps) = let e : suc (length ps) + k ≡ suc (length ps + k) = omega arith in rw e (ap₂ ◌∷◌ (blank p) (blank-written k ps))

pub built-amounts : (g : Grid) (cap : ℕ) → length (numbered g) ≤ cap → amounts (built g cap) ≡ replicate (cap + 1) plus_zero
unfolding amounts built
built-amounts g cap fits =
    let e : length (numbered g) + (cap - length (numbered g)) ≡ cap = omega arith in
    ap (λ (ys : List Float). plus_zero ∷ ys) (blank-written (λ p. cond (full g p) (some blank_cell) none) (λ p. one (full g p) p) (cap - length (numbered g)) (numbered g))
    ∙ ap (λ (n : ℕ). replicate (suc n) plus_zero) e
    ∙ rw add-one
  where
    one : (b : Bool) (p : Place) → amount (value_of (used p (cond b (some blank_cell) none))) ≡ plus_zero
    one true p = refl
    one false p = refl
