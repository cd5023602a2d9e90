-- Checks in their order, each a step that may refuse.
-- Assumes nothing.
use Rattle.std.specs.Prelude.{◌≡◌, ℕ, Bool, true, false, cond, List, [], ◌∷◌, Result, Ok, Err}
use Rattle.std.proofs.Common.{refl, sym, ap, ◌∙◌, arith, subst}
use Rattle.mesh.specs.Refusal.{Check, ◌if◌, refusal}
use Rattle.answer.specs.declared.Refusal.{Refusal}
use Rattle.answer.specs.Answered.{number, refusal_of}
use Rattle.answer.proofs.RefusalNumbers.{above-zero, same-number}

-- the answer is refused as the checks say
pub record Decided {A : Type 0} (cs : List Check) (out : Result A Refusal) : Type 0 where
  pub is : refusal_of out ≡ refusal cs

pub decided : {A : Type 0} (cs : List Check) {out : Result A Refusal} → Decided cs out → refusal_of out ≡ refusal cs
decided cs d = d.is

not-both : {A : Type 0} {r : Refusal} {x : A} → Ok x ≡ Err r → ⊥
not-both {r = r} e = let n : 0 ≡ number r = ap refusal_of e in let z = above-zero r in omega arith

-- a step that refuses with k where b holds
abbrev step_of : Bool → Refusal → Result (Unit {0}) Refusal
step_of b k = cond b (Err k) (Ok (tt {0}))

passes-step : (b : Bool) (k : Refusal) {x : Unit {0}} → step_of b k ≡ Ok x → b ≡ false
passes-step true k e = absurd (not-both (sym e))
passes-step false k e = refl

stops-step : (b : Bool) (k : Refusal) {e : Refusal} → step_of b k ≡ Err e → (n : ℕ) → number e ≡ cond b (number k) n
stops-step true k f n = sym (ap refusal_of f)
stops-step false k f n = absurd (not-both f)

refuses-step : (b : Bool) (k : Refusal) {e : Refusal} → step_of b k ≡ Err e → (b ≡ true) × (e ≡ k)
refuses-step true k {e} f = (refl, same-number e k (sym (ap refusal_of f)))
refuses-step false k f = absurd (not-both f)

ends-step : (b : Bool) (k : Refusal) → refusal_of (step_of b k) ≡ cond b (number k) 0
ends-step true k = refl
ends-step false k = refl

-- where a step refuses, its condition holds
pub refuses : (b : Bool) (k : Refusal) {e : Refusal} → Err e ≡ step_of b k → (b ≡ true) × (e ≡ k)
refuses b k is = refuses-step b k (sym is)

-- where it does not, it does not
pub passes : (b : Bool) (k : Refusal) {x : Unit {0}} → Ok x ≡ step_of b k → b ≡ false
passes b k is = passes-step b k (sym is)

-- what holds of the number that a step refuses with, if it does
pub refused_as : {A : Type 0} (P : ℕ → Type 0) (b : Bool) (k : Refusal) {e : Refusal} (out : Result A Refusal)
    → Err e ≡ step_of b k → refusal_of out ≡ number e → (b ≡ true → P (number k)) → P (refusal_of out)
refused_as P b k out is o f = let (h, same) = refuses b k is in subst P (sym (o ∙ ap number same)) (f h)

-- and of the last step, whether it refuses or not
pub answered_as : (P : ℕ → Type 0) (b : Bool) (k : Refusal) {step : Result (Unit {0}) Refusal}
    → step ≡ step_of b k → (b ≡ true → P (number k)) → (b ≡ false → P 0) → P (refusal_of step)
answered_as P b k {step} is f g = subst (λ (r : Result (Unit {0}) Refusal). P (refusal_of r)) (sym is) (go b f g)
  where
    go : (b : Bool) → (b ≡ true → P (number k)) → (b ≡ false → P 0) → P (refusal_of (step_of b k))
    go true f g = f refl
    go false f g = g refl

-- the same of what the number is to be
pub refused_is : {A : Type 0} {n : ℕ} (b : Bool) (k : Refusal) {e : Refusal} (out : Result A Refusal)
    → Err e ≡ step_of b k → refusal_of out ≡ number e → (b ≡ true → number k ≡ n) → refusal_of out ≡ n
refused_is {n = n} b k out is o f = refused_as (λ (m : ℕ). m ≡ n) b k out is o f

pub answered_is : {n : ℕ} (b : Bool) (k : Refusal) (step : Result (Unit {0}) Refusal)
    → step ≡ step_of b k → (b ≡ true → number k ≡ n) → (b ≡ false → 0 ≡ n) → refusal_of step ≡ n
answered_is {n} b k step is f g = answered_as (λ (m : ℕ). m ≡ n) b k is f g

-- one check by a test of the code, b, that is the condition c
module _ {b c : Bool} (k : Refusal) (test : b ≡ c) where
  pub passed : {x : Unit {0}} → Ok x ≡ step_of b k → c ≡ false
  passed is = sym test ∙ passes-step b k (sym is)

  -- the step refuses, and so do the checks
  pub stops : {A : Type 0} {cs : List Check} {e : Refusal} {out : Result A Refusal} → Err e ≡ step_of b k → refusal_of out ≡ number e → Decided ((number k if c) ∷ cs) out
  unfolding refusal
  stops {cs = cs} is o = record { is = rw (sym test) (o ∙ stops-step b k (sym is) (refusal cs)) }

  -- the step passes, and the checks after it decide
  pub goes_on : {A : Type 0} {cs : List Check} {x : Unit {0}} {out : Result A Refusal} → Ok x ≡ step_of b k → Decided cs out → Decided ((number k if c) ∷ cs) out
  unfolding refusal
  goes_on is o = record { is = rw (passed is) o.is }

  -- the last step is the answer
  pub ends : {step : Result (Unit {0}) Refusal} → step ≡ step_of b k → Decided ((number k if c) ∷ []) step
  unfolding refusal
  ends is = record { is = rw (sym test) (ap refusal_of is ∙ ends-step b k) }
