-- A refusal is given exactly if its condition holds and none before it; a request is accepted exactly if none of its conditions holds.
-- Assumes nothing.
use Prim.Native.Nat.{ℕ, zero, suc, ◌≤◌}
use native.Mathlib.Omega.{arith}
use mathlib.Core.Path.{◌≡◌, refl, ap, ◌∙◌}
use mathlib.Core.Logic.Iff
use mathlib.Core.Logic.{◌≢◌, ◌↔◌}
use mathlib.Core.Bool.{true, false}
use mathlib.Core.List.{List, [], ◌∷◌, ◌++◌}
use lib.Dec.{T, leb, leb→le}
use borrow.Author.Tests.{ne_eqb}
use Rattle.mesh.specs.State.{State}
use Rattle.mesh.specs.Refusal.{Check, ◌if◌, refusal}
use Rattle.mesh.specs.Request.{Request, refine, sentence, remove, kill, set_value, loose_checks, checks, effect, marked, refused, accepted, request}
use Rattle.place_laws.proofs.Bools.{and_left, and_right}
use Rattle.number_laws.proofs.Checks.{from, refused-from}
use Rattle.demand_laws.specs.Exactly.{Clear, Given}

-- ---- any list of checks

-- conditions that do not hold leave the answer to those behind them
clear-past : (cs ds : List Check) → Clear cs → refusal (cs ++ ds) ≡ refusal ds
unfolding refusal
clear-past [] ds h = refl
clear-past ((k if true) ∷ cs) ds h = absurd (let z : ◌≡◌ {A = ℕ} 0 1 = cc in omega arith)
clear-past ((k if false) ∷ cs) ds h = clear-past cs ds h

refusal-given : (cs : List Check) (n : ℕ) → n ≢ 0 → refusal cs ≡ n → Given n cs
unfolding refusal
refusal-given [] n z e = absurd (omega arith)
refusal-given ((k if true) ∷ cs) n z e = record { before = []; behind = cs; in_order = ap (λ (m : ℕ). (m if true) ∷ cs) e; none_before = refl }
refusal-given ((k if false) ∷ cs) n z e =
    let g = refusal-given cs n z e in
    record { before = (k if false) ∷ g.before; behind = g.behind; in_order = ap (λ (l : List Check). (k if false) ∷ l) g.in_order; none_before = g.none_before }

given-refusal : (cs : List Check) (n : ℕ) → Given n cs → refusal cs ≡ n
unfolding refusal
given-refusal cs n g = rw g.in_order (clear-past g.before ((n if true) ∷ g.behind) g.none_before)

-- "given exactly when"
pub refusal-exactly : (cs : List Check) (n : ℕ) → n ≢ 0 → (refusal cs ≡ n) ↔ Given n cs
refusal-exactly cs n z = (refusal-given cs n z, given-refusal cs n)

-- none is given exactly if no condition holds: the checks' numbers are not 0
pub no-refusal-exactly : (m : ℕ) → m ≢ 0 → (cs : List Check) → T (from m cs) → (refusal cs ≡ 0) ↔ Clear cs
unfolding refusal
no-refusal-exactly m z [] t = (λ e. refl, λ h. refl)
no-refusal-exactly m z ((k if true) ∷ cs) t = (
  λ e. absurd (omega (arith, leb→le m k (and_left (leb m k) (from m cs) t))),
  λ h. absurd (let z : ◌≡◌ {A = ℕ} 0 1 = cc in omega arith),
)
no-refusal-exactly m z ((k if false) ∷ cs) t = no-refusal-exactly m z cs (and_right (leb m k) (from m cs) t)

-- and so is no number that is given
given-number : (m : ℕ) → m ≢ 0 → (cs : List Check) (n : ℕ) → T (from m cs) → Given n cs → n ≢ 0
given-number m z cs n t g = go g.before (rw g.in_order at t)
  where
    go : (bs : List Check) → T (from m (bs ++ (n if true) ∷ g.behind)) → n ≢ 0
    go [] t y = omega (arith, leb→le m n (and_left (leb m n) _ t))
    go ((k if b) ∷ bs) t y = go bs (and_right (leb m k) _ t) y

-- ---- a request

module _ (s : State) where
  -- a request's refusals are 6 and above
  checks-from : (r : Request) → T (from 6 (checks s r))
  unfolding loose_checks checks
  checks-from (refine n) = tt
  checks-from (sentence n) = tt
  checks-from (remove n) = tt
  checks-from (kill n) = tt
  checks-from (set_value n x) = tt

  -- what refuses a request is the refusal of its checks
  pub refused-is : (r : Request) (n : ℕ) → request s r ≡ refused n → (6 ≤ n) × (refusal (checks s r) ≡ n)
  unfolding request
  refused-is r n h = go (refusal (checks s r)) refl
    where
      go : (k : ℕ) → refusal (checks s r) ≡ k → (6 ≤ n) × (refusal (checks s r) ≡ n)
      go zero e = absurd (let x : accepted _ ≡ refused n = rw e at h in let z : ◌≡◌ {A = ℕ} 0 1 = cc in omega arith)
      go (suc k) e =
          let x : refused (suc k) ≡ refused n = rw (e, ne_eqb (suc k) 0 (λ y. omega arith)) at h in
          let i : suc k ≡ n = cc in
          (omega (arith, refused-from 6 (checks s r) (checks-from r) (λ z. omega arith)), e ∙ i)

  is-refused : (r : Request) (n : ℕ) → n ≢ 0 → refusal (checks s r) ≡ n → request s r ≡ refused n
  unfolding request
  is-refused r n z e = rw (e, ne_eqb n 0 z)

  -- what accepts it is that there is none
  pub accepted-is : (r : Request) (t : State) → request s r ≡ accepted t → (refusal (checks s r) ≡ 0) × (t ≡ marked (effect s r))
  unfolding request
  accepted-is r t h = go (refusal (checks s r)) refl
    where
      go : (k : ℕ) → refusal (checks s r) ≡ k → (refusal (checks s r) ≡ 0) × (t ≡ marked (effect s r))
      go zero e = let x : accepted (marked (effect s r)) ≡ accepted t = rw e at h in (e, cc)
      go (suc k) e = absurd (let x : refused (suc k) ≡ accepted t = rw (e, ne_eqb (suc k) 0 (λ y. omega arith)) at h in let z : ◌≡◌ {A = ℕ} 0 1 = cc in omega arith)

  is-accepted : (r : Request) → refusal (checks s r) ≡ 0 → request s r ≡ accepted (marked (effect s r))
  unfolding request
  is-accepted r e = rw e

  -- "a request is refused exactly under its listed condition"
  pub refused-exactly : (r : Request) (n : ℕ) → (request s r ≡ refused n) ↔ Given n (checks s r)
  refused-exactly r n = (
    λ h. let (l, e) = refused-is r n h in (refusal-exactly (checks s r) n (λ z. omega arith)).0 e,
    λ g. is-refused r n (given-number 6 (λ z. omega arith) (checks s r) n (checks-from r) g) (given-refusal (checks s r) n g),
  )

  pub accepted-exactly : (r : Request) → (request s r ≡ accepted (marked (effect s r))) ↔ Clear (checks s r)
  accepted-exactly r =
      Iff.trans (λ h. (accepted-is r (marked (effect s r)) h).0, is-accepted r)
      (no-refusal-exactly 6 (λ z. omega arith) (checks s r) (checks-from r))
