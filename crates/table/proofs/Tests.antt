-- What a branch says of a choice: the arm that a true test takes, and the arm that a false one takes.
-- Assumes nothing.
use mathlib.Core.Path.{◌≡◌, refl, sym}
use mathlib.Core.Bool.{Bool, true, false, cond, ◌&&◌}
use Prim.Native.Nat.{ℕ, ◌≤◌}
use native.Mathlib.Omega.{arith}
use borrow.Author.Tests.{eq-eqb, ne_eqb, leb-true, leb-false}
use lib.Dec.{eqb, leb}

pub chosen : {A : Type 0} (b : Bool) (x y : A) → b ≡ true → x ≡ cond b x y
chosen b x y e = rw e

pub passed : {A : Type 0} (b : Bool) (x y : A) → b ≡ false → y ≡ cond b x y
passed b x y e = rw e

pub both-pass : (a b : Bool) → (a && b) ≡ true → (a ≡ true) × (b ≡ true)
both-pass true b e = (refl, e)
both-pass false b e = let z : ◌≡◌ {A = ℕ} 0 1 = cc in let no : ⊥ = omega arith in absurd no

-- what a bound keeps of a number is within the bound
pub kept-within : (y m : ℕ) → cond (leb y m) y 0 ≤ m
kept-within y m = go (leb y m) refl
  where
    go : (b : Bool) → leb y m ≡ b → cond b y 0 ≤ m
    go true e = leb-true y m e
    go false e = omega arith

-- a number equals what a bound keeps of it exactly where it is within the bound
pub named-is : (y m : ℕ) → leb y m ≡ eqb y (cond (leb y m) y 0)
named-is y m = go (leb y m) refl
  where
    go : (b : Bool) → leb y m ≡ b → b ≡ eqb y (cond b y 0)
    go true e = sym (eq-eqb y y refl)
    go false e = sym (ne_eqb y 0 (λ q. omega (arith, leb-false y m e)))
