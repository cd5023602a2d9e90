-- The tests of equal words, equal bits and equal lists say equality, and each finite value passes with itself.
-- Assumes nothing.
use Prim.Native.Nat.{ℕ, suc}
use mathlib.Core.Path.{◌≡◌, refl, ap, ap₂}
use mathlib.Core.Bool.{Bool, ◌&&◌, beq}
use mathlib.Core.List.{List, [], ◌∷◌}
use lib.Dec.{T, eqb, eqb→eq, eqb_refl}
use lib.IntN.{ℤ, pos, negsuc}
use lib.Ieee.{Float, nan, inf, fin}
use lib.ListN.{get_or}
use Rattle.mesh.specs.Tools.{same_list}
use Rattle.mesh.specs.Valid.{finite}
use Rattle.mesh.specs.Test.{same_int, same_float}
use Rattle.place_laws.proofs.Bools.{and_both, and_left, and_right, beq-is, beq-refl}

pub int_is : (a b : ℤ) → T (same_int a b) → a ≡ b
int_is (pos a) (pos b) t = ap pos (eqb→eq a b t)
int_is (pos a) (negsuc b) t = absurd t
int_is (negsuc a) (pos b) t = absurd t
int_is (negsuc a) (negsuc b) t = ap negsuc (eqb→eq a b t)

pub int-refl : (a : ℤ) → T (same_int a a)
int-refl (pos a) = eqb_refl a
int-refl (negsuc a) = eqb_refl a

pub float_is : (x y : Float) → T (same_float x y) → x ≡ y
float_is nan y t = absurd t
float_is (inf s) y t = absurd t
float_is (fin s m e) nan t = absurd t
float_is (fin s m e) (inf u) t = absurd t
float_is (fin s m e) (fin u n d) t =
    let r = and_right (beq s u) (eqb m n && same_int e d) t in
    let a : s ≡ u = beq-is s u (and_left (beq s u) (eqb m n && same_int e d) t) in
    let b : m ≡ n = eqb→eq m n (and_left (eqb m n) (same_int e d) r) in
    let c : e ≡ d = int_is e d (and_right (eqb m n) (same_int e d) r) in
    cc

pub float-refl : (x : Float) → T (finite x) → T (same_float x x)
float-refl nan h = absurd h
float-refl (inf s) h = absurd h
float-refl (fin s m e) h = and_both (beq s s) (eqb m m && same_int e e) (beq-refl s) (and_both (eqb m m) (same_int e e) (eqb_refl m) (int-refl e))

module _ {A : Type 0} (f : A → A → Bool) where
  pub list-is : ((x y : A) → T (f x y) → x ≡ y) → (xs ys : List A) → T (same_list f xs ys) → xs ≡ ys
  list-is h [] [] t = refl
  list-is h [] (y ∷ ys) t = absurd t
  list-is h (x ∷ xs) [] t = absurd t
  list-is h (x ∷ xs) (y ∷ ys) t = ap₂ ◌∷◌ (h x y (and_left (f x y) (same_list f xs ys) t)) (list-is h xs ys (and_right (f x y) (same_list f xs ys) t))

  pub list-refl : (d : A) (xs : List A) → ((k : ℕ) → T (f (get_or xs k d) (get_or xs k d))) → T (same_list f xs xs)
  list-refl d [] h = tt
  list-refl d (x ∷ xs) h = and_both (f x x) (same_list f xs xs) (h 0) (list-refl d xs (λ k. h (suc k)))
