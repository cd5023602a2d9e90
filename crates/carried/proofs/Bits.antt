-- A float by its bits: the exponent's field says whether it is finite, and finite floats with the same bits are the same.
-- Assumes nothing.
use mathlib.Core.Path.{◌≡◌, refl, sym, ap, subst, ◌∙◌}
use mathlib.Core.Bool.{Bool, true, false, not, cond, ◌&&◌, beq}
use Prim.Native.Nat.{ℕ, zero, suc, ◌≤◌, ◌<◌, ◌+◌, ◌%◌, ◌/◌}
use native.Mathlib.Omega.{arith}
use borrow.Author.Tests.{ltb-true, ltb-false, ne_eqb, eq-eqb, eqb-true, eqb-false}
use lib.Dec.{T, ltb, eqb}
use lib.IntN.{ℤ, pos, negsuc}
use lib.Ieee.{Float, nan, inf, fin, binary64, fits, is_nan, odd, of_fields, of_bits, to_bits, hid, prec, low, eq, ne}
use lib.Ieee.Bits.{of_bits-to_bits}
use lib.Ieee.Compare.{differs_from_itself}
use Rattle.std.specs.Float.{float_is_finite}
use Rattle.mesh.specs.State.{plus_zero}
use Rattle.mesh.specs.Valid.{finite}
use Rattle.mesh.specs.Test.{same_int, same_float}
use Rattle.table.proofs.Tests.{both-pass}

-- ---- the exponent's field

odd-finite : (d : ℕ) (s : Bool) (q k l : ℕ) → finite (odd d s q k l) ≡ true
unfolding odd
odd-finite d s zero k l = refl
odd-finite d s (suc q) k l = refl

fields-finite : (s : Bool) (x t : ℕ) → (x ≡ 2047 → ⊥) → finite (of_fields binary64 s x t) ≡ true
unfolding of_fields
fields-finite s zero t h = odd-finite (prec binary64) s t 0 (low binary64)
fields-finite s (suc x) t h = rw (ne_eqb (suc x) 2047 h) (odd-finite (prec binary64) s (hid binary64 + t) x (low binary64))

fields-other : (s : Bool) (x t : ℕ) → x ≡ 2047 → finite (of_fields binary64 s x t) ≡ false
unfolding of_fields
fields-other s zero t h = absurd (let no : ⊥ = omega arith in no)
fields-other s (suc x) t h = rw (eq-eqb (suc x) 2047 h) (ends (eqb t 0))
  where
    ends : (b : Bool) → finite (cond b (inf s) nan) ≡ false
    ends true = refl
    ends false = refl

field_below : (w : ℕ) → w % 0x8000_0000_0000_0000 < 0x7ff0_0000_0000_0000 → w % 0x8000_0000_0000_0000 / 0x10_0000_0000_0000 ≡ 2047 → ⊥
field_below w h e = omega arith

field-ones : (w : ℕ) → 0x7ff0_0000_0000_0000 ≤ w % 0x8000_0000_0000_0000 → w % 0x8000_0000_0000_0000 / 0x10_0000_0000_0000 ≡ 2047
field-ones w h = omega arith

abbrev pub finite_bits : ℕ → Bool
finite_bits w = ltb (w % 0x8000_0000_0000_0000) 0x7ff0_0000_0000_0000

pub pattern : (w : ℕ) → finite_bits w ≡ finite (of_bits binary64 w)
unfolding of_bits
pattern w = go (finite_bits w) refl
  where
    go : (b : Bool) → finite_bits w ≡ b → b ≡ finite (of_bits binary64 w)
    go true e = sym (fields-finite _ _ _ (field_below w (ltb-true _ _ e)))
    go false e = sym (fields-other _ _ _ (field-ones w (ltb-false _ _ e)))

-- ---- finite floats

pub finite-is : (x : Float) → float_is_finite x ≡ finite x
unfolding float_is_finite
finite-is nan = refl
finite-is (inf s) = refl
finite-is (fin s m e) = refl

-- ---- NaN

-- `x == x` is false of a NaN, and of nothing else
pub same-no-nan : (x : Float) → eq x x ≡ true → T (not (is_nan x))
unfolding eq is_nan
same-no-nan nan h = let z : ◌≡◌ {A = ℕ} 0 1 = cc in let no : ⊥ = omega arith in absurd no
same-no-nan (inf s) h = tt
same-no-nan (fin s m e) h = tt

pub differs-other : (x : Float) → eq x x ≡ false → false ≡ finite x
unfolding ne
differs-other x h = ap finite (sym (differs_from_itself x (subst (λ (b : Bool). T (not b)) (sym h) tt)))

pub finite-no-nan : (x : Float) → finite x ≡ true → T (not (is_nan x))
unfolding is_nan
finite-no-nan nan h = let z : ◌≡◌ {A = ℕ} 0 1 = cc in let no : ⊥ = omega arith in absurd no
finite-no-nan (inf s) h = tt
finite-no-nan (fin s m e) h = tt

-- ---- the same bits

pub not-same-left : (x y : Float) → finite x ≡ false → false ≡ same_float x y
not-same-left nan y h = refl
not-same-left (inf s) y h = refl
not-same-left (fin s m e) y h = let z : ◌≡◌ {A = ℕ} 0 1 = cc in let no : ⊥ = omega arith in absurd no

pub not-same-right : (x y : Float) → finite y ≡ false → false ≡ same_float x y
not-same-right nan y h = refl
not-same-right (inf s) y h = refl
not-same-right (fin s m e) nan h = refl
not-same-right (fin s m e) (inf t) h = refl
not-same-right (fin s m e) (fin t n d) h = let z : ◌≡◌ {A = ℕ} 0 1 = cc in let no : ⊥ = omega arith in absurd no

beq-true : (a b : Bool) → beq a b ≡ true → a ≡ b
beq-true true true e = refl
beq-true true false e = sym e
beq-true false true e = e
beq-true false false e = refl

beq-refl : (a : Bool) → beq a a ≡ true
beq-refl true = refl
beq-refl false = refl

int-true : (a b : ℤ) → same_int a b ≡ true → a ≡ b
int-true (pos a) (pos b) e = ap pos (eqb-true a b e)
int-true (pos a) (negsuc b) e = let z : ◌≡◌ {A = ℕ} 0 1 = cc in let no : ⊥ = omega arith in absurd no
int-true (negsuc a) (pos b) e = let z : ◌≡◌ {A = ℕ} 0 1 = cc in let no : ⊥ = omega arith in absurd no
int-true (negsuc a) (negsuc b) e = ap negsuc (eqb-true a b e)

int-refl : (a : ℤ) → same_int a a ≡ true
int-refl (pos a) = eq-eqb a a refl
int-refl (negsuc a) = eq-eqb a a refl

same_true : (x y : Float) → same_float x y ≡ true → x ≡ y
same_true nan y h = let z : ◌≡◌ {A = ℕ} 0 1 = cc in let no : ⊥ = omega arith in absurd no
same_true (inf s) y h = let z : ◌≡◌ {A = ℕ} 0 1 = cc in let no : ⊥ = omega arith in absurd no
same_true (fin s m e) nan h = let z : ◌≡◌ {A = ℕ} 0 1 = cc in let no : ⊥ = omega arith in absurd no
same_true (fin s m e) (inf t) h = let z : ◌≡◌ {A = ℕ} 0 1 = cc in let no : ⊥ = omega arith in absurd no
same_true (fin s m e) (fin t n d) h =
    let (a, b) = both-pass (beq s t) (eqb m n && same_int e d) h in
    let (i, j) = both-pass (eqb m n) (same_int e d) b in
    let p : s ≡ t = beq-true s t a in
    let q : m ≡ n = eqb-true m n i in
    let r : e ≡ d = int-true e d j in
    cc

same_refl : (x : Float) → finite x ≡ true → same_float x x ≡ true
same_refl nan h = h
same_refl (inf s) h = h
same_refl (fin s m e) h = rw (beq-refl s, eq-eqb m m refl, int-refl e)

-- two finite floats of the format are the same exactly where their bits are
pub same_bits : (x y : Float) → T (fits binary64 x) → T (fits binary64 y) → finite x ≡ true → eqb (to_bits binary64 x) (to_bits binary64 y) ≡ same_float x y
same_bits x y f g h = go (eqb (to_bits binary64 x) (to_bits binary64 y)) refl
  where
    back : (b : Bool) → same_float x y ≡ b → eqb (to_bits binary64 x) (to_bits binary64 y) ≡ false → b ≡ false
    back true e n = absurd (eqb-false _ _ n (ap (to_bits binary64) (same_true x y e)))
    back false e n = refl

    go : (b : Bool) → eqb (to_bits binary64 x) (to_bits binary64 y) ≡ b → b ≡ same_float x y
    go true e =
        let q : x ≡ y = sym (of_bits-to_bits binary64 x f) ∙ ap (of_bits binary64) (eqb-true _ _ e) ∙ of_bits-to_bits binary64 y g in
        sym (same_refl x h) ∙ ap (same_float x) q
    go false e = sym (back (same_float x y) refl e)

pub plus-zero : of_bits binary64 0 ≡ plus_zero
unfolding of_bits of_fields odd
plus-zero = refl

zero_pattern : to_bits binary64 plus_zero ≡ 0
unfolding to_bits
zero_pattern = refl

-- and a float is +0 exactly where its bits are 0
pub zero_bits : (x : Float) → T (fits binary64 x) → eqb (to_bits binary64 x) 0 ≡ same_float x plus_zero
zero_bits x f = go (eqb (to_bits binary64 x) 0) refl
  where
    back : (b : Bool) → same_float x plus_zero ≡ b → eqb (to_bits binary64 x) 0 ≡ false → b ≡ false
    back true e n = absurd (eqb-false _ _ n (ap (to_bits binary64) (same_true x plus_zero e) ∙ zero_pattern))
    back false e n = refl

    go : (b : Bool) → eqb (to_bits binary64 x) 0 ≡ b → b ≡ same_float x plus_zero
    go true e =
        let q : plus_zero ≡ x = sym plus-zero ∙ sym (ap (of_bits binary64) (eqb-true _ _ e)) ∙ of_bits-to_bits binary64 x f in
        ap (λ (y : Float). same_float y plus_zero) q
    go false e = sym (back (same_float x plus_zero) refl e)
