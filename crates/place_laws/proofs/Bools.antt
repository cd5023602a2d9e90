-- Tests: from a Bool to what it says, and back.
-- Assumes nothing.
use mathlib.Core.Path.{◌≡◌, refl, sym}
use mathlib.Core.Logic.{◌⊎◌, inl, inr}
use mathlib.Core.Bool.{Bool, true, false, not, cond, ◌&&◌, ◌||◌, beq}
use lib.Dec.{T}

pub yes-is : (b : Bool) → T b → b ≡ true
yes-is true t = refl
yes-is false t = absurd t

pub is-yes : (b : Bool) → b ≡ true → T b
is-yes b e = rw e tt

pub no-is : (b : Bool) → (T b → ⊥) → b ≡ false
no-is true f = absurd (f tt)
no-is false f = refl

pub is-no : (b : Bool) → b ≡ false → T (not b)
is-no b e = rw e tt

-- two tests that say the same are equal
pub bool-ext : (a b : Bool) → (T a → T b) → (T b → T a) → a ≡ b
bool-ext true true f h = refl
bool-ext true false f h = absurd (f tt)
bool-ext false true f h = absurd (h tt)
bool-ext false false f h = refl

pub or_left : (a b : Bool) → T a → T (a || b)
or_left true b t = tt
or_left false b t = absurd t

pub or_right : (a b : Bool) → T b → T (a || b)
or_right true b t = tt
or_right false b t = t

pub or_cases : (a b : Bool) → T (a || b) → T a ⊎ T b
or_cases true b t = inl tt
or_cases false b t = inr t

pub and_both : (a b : Bool) → T a → T b → T (a && b)
and_both true b t u = u
and_both false b t u = absurd t

pub and_left : (a b : Bool) → T (a && b) → T a
and_left true b t = tt
and_left false b t = t

pub and_right : (a b : Bool) → T (a && b) → T b
and_right true b t = t
and_right false b t = absurd t

-- what a test that fails says
pub both_true : (a b : Bool) → not (a && b) ≡ false → (a ≡ true) × (b ≡ true)
both_true true true e = (refl, refl)
both_true true false e = absurd (is-yes false (sym e))
both_true false b e = absurd (is-yes false (sym e))

pub neither : (a b : Bool) → (a || b) ≡ false → (a ≡ false) × (b ≡ false)
neither true b e = absurd (is-yes false (sym e))
neither false b e = (refl, e)

-- 'a implies b' as a test
pub implied : (a b : Bool) → T (not a || b) → T a → T b
implied true b t u = t
implied false b t u = absurd u

pub implies : (a b : Bool) → (T a → T b) → T (not a || b)
implies true b f = f tt
implies false b f = tt

pub not-not : (b : Bool) → T (not (not b)) → T b
not-not true t = tt
not-not false t = t

pub beq-is : (a b : Bool) → T (beq a b) → a ≡ b
beq-is true true t = refl
beq-is true false t = absurd t
beq-is false true t = absurd t
beq-is false false t = refl

pub beq-refl : (a : Bool) → T (beq a a)
beq-refl true = tt
beq-refl false = tt

-- a test passes or it does not
pub either : (b : Bool) → T b ⊎ T (not b)
either true = inl tt
either false = inr tt

-- a choice between two that are the same
pub cond_same : {A : Type 0} (b : Bool) (x : A) → cond b x x ≡ x
cond_same true x = refl
cond_same false x = refl
