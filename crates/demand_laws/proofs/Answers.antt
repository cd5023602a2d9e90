-- Demand 1: each call's answer is 0 or one of the refusals that 01 and 02 list for it, on anything that is lent.
-- Assumes nothing.
use Prim.Native.Nat.{ℕ, zero, suc, ◌+◌}
use native.Mathlib.Omega.{arith}
use mathlib.Core.Path.{◌≡◌, refl, sym, subst}
use mathlib.Core.Logic.{◌⊎◌, inl, inr}
use mathlib.Core.Bool.{Bool, true, false}
use mathlib.Core.Option.{Option, none, some}
use mathlib.Core.List.{List, [], ◌∷◌, ◌++◌}
use lib.Dec.{T, eqb, ltb}
use lib.ListN.{length}
use lib.IntN.{ℤ}
use borrow.Author.Tests.{eqb-true, eq-eqb}
use Rattle.mesh.specs.Tools.{any, all}
use Rattle.mesh.specs.Place.{Grid}
use Rattle.mesh.specs.State.{State}
use Rattle.mesh.specs.Refusal.{Check, ◌if◌, refusal}
use Rattle.mesh.specs.Request.{Request, refine, sentence, remove, kill, set_value, loose_checks, checks, Result, refused, accepted, request}
use Rattle.mesh.specs.Tape.{Kind, kind, asks, Step, stop, next, answered, step_by, run_from, run}
use Rattle.mesh.specs.Scan.{scan_checks}
use Rattle.mesh.specs.Lookup.{lookup_checks}
use Rattle.mesh.specs.Page.{page_checks}
use Rattle.mesh.specs.Picture.{Lent}
use Rattle.mesh.specs.LeafCounts.{Counted, counted}
use Rattle.mesh.specs.Decode.{decode}
use Rattle.mesh.specs.Call.{lent_checks, unless, check_call, Built, build_checks, build_call, Taped, tape_call, Wrote, scan_call, Found, lookup_call, page_call, counted_checks, Count, count_checks, count_call}
use Rattle.mesh.proofs.Runs.{run-stop, run-next}
use Rattle.demand_laws.proofs.Exactly.{refused-is}
use Rattle.demand_laws.proofs.Refusals.{unless-names}
use Rattle.place_laws.proofs.Bools.{or_left, or_right, or_cases, and_left, and_right, is-yes, yes-is}

-- ---- a number that a list of checks can give

abbrev pub among : List ℕ → ℕ → Bool
among ns n = any (eqb n) ns

abbrev numbers : List Check → List ℕ
numbers [] = []
numbers ((k if b) ∷ cs) = k ∷ numbers cs

refusal-among : (cs : List Check) → T (among (0 ∷ numbers cs) (refusal cs))
unfolding refusal
refusal-among [] = tt
refusal-among ((k if true) ∷ cs) = or_right (eqb k 0) _ (or_left (eqb k k) _ (is-yes _ (eq-eqb k k refl)))
refusal-among ((k if false) ∷ cs) = go (or_cases (eqb (refusal cs) 0) _ (refusal-among cs))
  where
    go : T (eqb (refusal cs) 0) ⊎ T (among (numbers cs) (refusal cs)) → T (among (0 ∷ k ∷ numbers cs) (refusal cs))
    go (inl t) = or_left (eqb (refusal cs) 0) _ t
    go (inr t) = or_right (eqb (refusal cs) 0) _ (or_right (eqb (refusal cs) k) _ t)

among-more : (ns ms : List ℕ) → T (all (among ms) ns) → (n : ℕ) → T (among ns n) → T (among ms n)
among-more [] ms h n t = absurd t
among-more (k ∷ ns) ms h n t = go (or_cases (eqb n k) _ t) (among-more ns ms (and_right (among ms k) _ h) n)
  where
    go : T (eqb n k) ⊎ T (among ns n) → (T (among ns n) → T (among ms n)) → T (among ms n)
    go (inl e) more = subst (λ (m : ℕ). T (among ms m)) (sym (eqb-true n k (yes-is _ e))) (and_left (among ms k) _ h)
    go (inr u) more = more u

-- ---- tapes

-- kind (5), body (4), and the kinds' lists
abbrev pub of_tapes : List ℕ
of_tapes = 0 ∷ 1 ∷ 2 ∷ 3 ∷ 4 ∷ 5 ∷ 6 ∷ 7 ∷ 8 ∷ 9 ∷ 10 ∷ 11 ∷ 12 ∷ 13 ∷ 14 ∷ 15 ∷ 16 ∷ 21 ∷ 22 ∷ []

listed : (s : State) (r : Request) → T (all (among of_tapes) (0 ∷ numbers (checks s r))) → T (among of_tapes (refusal (checks s r)))
listed s r h = among-more (0 ∷ numbers (checks s r)) of_tapes h (refusal (checks s r)) (refusal-among (checks s r))

checks-among : (s : State) (r : Request) → T (among of_tapes (refusal (checks s r)))
unfolding loose_checks checks
checks-among s (refine n) = listed s (refine n) tt
checks-among s (sentence n) = listed s (sentence n) tt
checks-among s (remove n) = listed s (remove n) tt
checks-among s (kill n) = listed s (kill n) tt
checks-among s (set_value n x) = listed s (set_value n x) tt

refused-among : (s : State) (r : Request) (k : ℕ) → request s r ≡ refused k → T (among of_tapes k)
refused-among s r k h = subst (λ (n : ℕ). T (among of_tapes n)) (refused-is s r k h).1 (checks-among s r)

step-among : (s : State) (o : Option Kind) (bs : List ℕ) (r : ℕ) → step_by s o bs ≡ stop r → T (among of_tapes r)
step-among s none bs r e = let i : 5 ≡ r = cc in subst (λ (n : ℕ). T (among of_tapes n)) i tt
step-among s (some k) bs r e = body (ltb (length bs) k.len) refl
  where
    q : Request
    q = asks k bs

    done : (x : Result) → request s q ≡ x → answered x k.len ≡ stop r → T (among of_tapes r)
    done (refused n) f h = let i : n ≡ r = cc in subst (λ (m : ℕ). T (among of_tapes m)) i (refused-among s q n f)
    done (accepted u) f h = absurd (let z : ◌≡◌ {A = ℕ} 0 1 = cc in omega arith)

    body : (b : Bool) → ltb (length bs) k.len ≡ b → T (among of_tapes r)
    body true f = let h : stop 4 ≡ stop r = rw f at e in let i : 4 ≡ r = cc in subst (λ (m : ℕ). T (among of_tapes m)) i tt
    body false f = done (request s q) refl (rw f at e)

from-among : (bs : List ℕ) (l : ℕ) (s : State) (n o : ℕ) → T (among of_tapes (run_from l s n o bs).refusal)
unfolding run_from
from-among [] l s n o = tt
from-among (b ∷ bs) (suc l) s n o = from-among bs l s n (o + 1)
from-among (k ∷ bs) zero s n o = go (step_by s (kind k) bs) refl (from-among bs)
  where
    go : (x : Step) → step_by s (kind k) bs ≡ x → ((l : ℕ) (s : State) (n o : ℕ) → T (among of_tapes (run_from l s n o bs).refusal)) → T (among of_tapes (run_from 0 s n o (k ∷ bs)).refusal)
    go (stop r) e ih = rw (run-stop s n o k r bs e) (step-among s (kind k) bs r e)
    go (next t l) e ih = rw (run-next s n o k l t bs e) (ih l t (n + 1) (o + 1))

-- ---- the calls

module _ (cap : ℕ) (l : Counted) where
  pub check-answers : T (among (0 ∷ 1 ∷ 2 ∷ 3 ∷ []) (check_call cap l))
  unfolding check_call counted_checks
  check-answers = among-more (0 ∷ 1 ∷ 1 ∷ 2 ∷ 3 ∷ 3 ∷ []) (0 ∷ 1 ∷ 2 ∷ 3 ∷ []) tt (refusal (counted_checks cap l)) (refusal-among (counted_checks cap l))

  pub build-answers : (g : Grid) → T (among (0 ∷ 1 ∷ 2 ∷ 11 ∷ []) (build_call cap l g).refusal)
  unfolding build_call build_checks
  build-answers g = subst (λ (n : ℕ). T (among (0 ∷ 1 ∷ 2 ∷ 11 ∷ []) n)) (sym (unless-names _ _ (λ (r : Built). r.refusal) (λ n. refl) refl (refusal (build_checks cap l g)))) (among-more (0 ∷ 1 ∷ 1 ∷ 2 ∷ 11 ∷ []) (0 ∷ 1 ∷ 2 ∷ 11 ∷ []) tt (refusal (build_checks cap l g)) (refusal-among (build_checks cap l g)))

  pub tape-answers : (bytes : List ℕ) → T (among of_tapes (tape_call cap l bytes).refusal)
  unfolding tape_call run unless
  tape-answers bytes = go (check_call cap l) (among-more (0 ∷ 1 ∷ 2 ∷ 3 ∷ []) of_tapes tt (check_call cap l) check-answers)
    where
      ran : Taped
      ran = let r = run (decode l.lent) bytes in record { done = r.done; refusal = r.refusal; offset = r.offset; lent = counted r.state }

      refused_as : ℕ → Taped
      refused_as n = record { done = 0; refusal = n; offset = 0; lent = l }

      go : (n : ℕ) → T (among of_tapes n) → T (among of_tapes (unless n refused_as ran).refusal)
      go zero t = from-among bytes 0 (decode l.lent) 0 0
      go (suc n) t = t

module _ (cap : ℕ) (l : Lent) where
  pub scan-answers : (n : ℕ) (o : List ℕ) (k : ℕ) (from to : ℤ) (out : List ℕ) → T (among (0 ∷ 1 ∷ 2 ∷ 3 ∷ 6 ∷ 17 ∷ 18 ∷ []) (scan_call cap l n o k from to out).refusal)
  unfolding scan_call lent_checks scan_checks
  scan-answers n o k from to out =
      let cs = lent_checks cap l ++ scan_checks (decode l) (length out) n o k from to in
      subst (λ (n : ℕ). T (among (0 ∷ 1 ∷ 2 ∷ 3 ∷ 6 ∷ 17 ∷ 18 ∷ []) n)) (sym (unless-names _ _ (λ (r : Wrote). r.refusal) (λ n. refl) refl (refusal cs))) (refusal-among cs)

  pub lookup-answers : (u v : ℕ) → T (among (0 ∷ 1 ∷ 2 ∷ 3 ∷ 19 ∷ []) (lookup_call cap l u v).refusal)
  unfolding lookup_call lent_checks lookup_checks
  lookup-answers u v =
      let cs = lent_checks cap l ++ lookup_checks (decode l) u v in
      subst (λ (n : ℕ). T (among (0 ∷ 1 ∷ 2 ∷ 3 ∷ 19 ∷ []) n)) (sym (unless-names _ _ (λ (r : Found). r.refusal) (λ n. refl) refl (refusal cs))) (refusal-among cs)

  pub page-answers : (out : List ℕ) → T (among (0 ∷ 1 ∷ 2 ∷ 3 ∷ 18 ∷ []) (page_call cap l out).refusal)
  unfolding page_call lent_checks page_checks
  page-answers out =
      let cs = lent_checks cap l ++ page_checks (decode l) (length out) in
      subst (λ (n : ℕ). T (among (0 ∷ 1 ∷ 2 ∷ 3 ∷ 18 ∷ []) n)) (sym (unless-names _ _ (λ (r : Wrote). r.refusal) (λ n. refl) refl (refusal cs))) (refusal-among cs)

pub count-answers : (c : List ℕ) (l k : ℕ) → T (among (0 ∷ 1 ∷ 23 ∷ []) (count_call c l k).refusal)
unfolding count_call count_checks
count-answers c l k =
    let cs = count_checks c l k in
    subst (λ (n : ℕ). T (among (0 ∷ 1 ∷ 23 ∷ []) n)) (sym (unless-names _ _ (λ (r : Count). r.refusal) (λ n. refl) refl (refusal cs))) (refusal-among cs)
