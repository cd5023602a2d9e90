-- One request of a tape, from its kind byte on: none that is read, a refusal, or the next kind byte with another state.
-- Assumes nothing.
use Rattle.std.specs.Prelude.{Result}
use Rattle.answer.specs.declared.Refusal.{Refusal}
use Rattle.answer.specs.Answered.{number, refusal_of, value_or}
use Rattle.answer.proofs.RefusalNumbers.{not-zero}
use Prim.Native.Nat.{ℕ, zero, suc, ◌+◌, ◌≤◌, ◌<◌}
use native.Mathlib.Omega.{arith}
use native.Mathlib.Numerals.{add-one}
use mathlib.Core.Path.{◌≡◌, refl, sym, ap, ◌∙◌}
use mathlib.Core.Logic.{◌≢◌}
use mathlib.Core.List.{List, [], ◌∷◌}
use lib.ListN.{length, drop, get_or, length-drop}
use lib.Seq.{drop-cons, drop-drop}
use borrow.Author.Tests.{le-ltb, ne_eqb}
use Rattle.mesh.specs.State.{State, Header}
use Rattle.mesh.specs.LeafCounts.{Counted}
use Rattle.mesh.specs.Refusal.{refusal}
use Rattle.mesh.specs.Request.{Request, checks, effect, marked, refused, accepted, request}
use Rattle.mesh.specs.Tape.{Kind, kind, asks, stop, next, step_by, run_from}
use Rattle.mesh.proofs.Runs.{run-over, run-stop, run-next}
use Rattle.apply.specs.Applied.{Applied}
use Rattle.kinds.specs.declared.asked.Request as Read
use Rattle.kinds.specs.AskedFor.{request_of, Announced, Unread}
use Rattle.tape.specs.Ran.{Turned}
use Rattle.apply.proofs.Drawing.{request-accepted, accepted-done}
use Rattle.apply.proofs.Asking.{made-for}

-- ---- a request by its refusal

request-refused : (s : State) (q : Request) (given : ℕ) → given ≡ refusal (checks s q) → given ≢ 0 → request s q ≡ refused given
unfolding request
request-refused s q given e z = rw (← e, ne_eqb given 0 z)

-- ---- a run over a body

run-body : (l : ℕ) (s : State) (n o : ℕ) (bs : List ℕ) → l ≤ length bs → run_from l s n o bs ≡ run_from 0 s n (o + l) (drop l bs)
run-body zero s n o bs h = let e : o ≡ o + 0 = omega arith in ap (λ (i : ℕ). run_from 0 s n i bs) e
run-body (suc l) s n o [] h = absurd (omega arith)
run-body (suc l) s n o (b ∷ bs) h =
    let e : o + 1 + l ≡ o + suc l = omega arith in
    run-over s n o l b bs ∙ run-body l s n (o + 1) bs (omega arith) ∙ ap (λ (i : ℕ). run_from 0 s n i (drop l bs)) e

-- ---- the bytes from a kind byte on

module _ (bytes : List ℕ) (at : ℕ) (inside : at < length bytes) where
  abbrev rest : List ℕ
  rest = drop (at + 1) bytes

  split : drop at bytes ≡ get_or bytes at 0 ∷ rest
  split = rw add-one (drop-cons bytes at 0 inside)

  stopped : (s : State) (r : ℕ) → step_by s (kind (get_or bytes at 0)) rest ≡ stop r → (n : ℕ) → run_from 0 s n at (drop at bytes) ≡ record { state = s; done = n; refusal = r; offset = at }
  stopped s r e n = rw split (run-stop s n at (get_or bytes at 0) r rest e)

  -- what stops before a request is decided
  pub turned-unread : {cap d : ℕ} {l : Header → Counted} (e : Refusal) → Unread bytes at e → Turned bytes at cap d l l (number e) at
  turned-unread e u = record {
    stops = λ _ s p. stopped s (number e) (u s);
    same = λ _. refl;
    goes = λ z. absurd (not-zero e z);
    further = λ z. absurd (not-zero e z);
  }

  -- ---- a request with its body

  module _ {cap d given after : ℕ} {q : Read.Request} {l l' : Header → Counted} (read : Announced bytes at q after) (made : Applied (request_of q) cap d l l' given) where
    abbrev row : Kind
    row = read.row

    abbrev asked : Request
    asked = asks row rest

    a : Applied asked cap d l l' given
    a = made-for q read.asked made

    fits : row.len ≤ length rest
    fits = simp length-drop (omega (arith, read.whole))

    step-refused : (s : State) → request s asked ≡ refused given → step_by s (kind (get_or bytes at 0)) rest ≡ stop given
    step-refused s e = rw (read.is-kind, le-ltb (length rest) row.len fits, e)

    step-accepted : (s s' : State) → request s asked ≡ accepted s' → step_by s (kind (get_or bytes at 0)) rest ≡ next s' row.len
    step-accepted s s' e = rw (read.is-kind, le-ltb (length rest) row.len fits, e)

    on : (s s' : State) → request s asked ≡ accepted s' → (m : ℕ) → run_from 0 s m at (drop at bytes) ≡ run_from 0 s' (m + 1) after (drop after bytes)
    on s s' e m =
        rw (split, read.is-next)
        (run-next s m at (get_or bytes at 0) row.len s' rest (step-accepted s s' e)
        ∙ run-body row.len s' (m + 1) (at + 1) rest fits
        ∙ ap (run_from 0 s' (m + 1) (at + 1 + row.len)) (drop-drop row.len (at + 1) bytes))

    pub turned-request : Turned bytes at cap d l l' given after
    turned-request = record {
      stops = λ z s p. stopped s given (step-refused s (request-refused s asked given (a.decided s p) z));
      same = a.refused;
      goes = λ z s p.
          record { state = marked (effect s asked); drawn = a.done s p z; next-mark = (accepted-done s p.valid asked (sym (a.decided s p) ∙ z)).next-mark; goes_on = on s (marked (effect s asked)) (request-accepted s asked (sym (a.decided s p) ∙ z)) };
      further = λ z. (omega (arith, read.is-next), omega (arith, read.is-next, read.whole));
    }

-- ---- by the answer that passes a refusal on: no kind byte is next

module _ {bytes : List ℕ} {at cap d next : ℕ} {l l' : Header → Counted} (out : Result ℕ Refusal) (e : Refusal) where
  pub turned-refused : refusal_of out ≡ number e → Turned bytes at cap d l l' (number e) next → Turned bytes at cap d l l' (refusal_of out) (value_or at out)
  turned-refused o u =
      let some : refusal_of out ≢ 0 = λ z. not-zero e (sym o ∙ z) in
      record {
        stops = λ z s p n. u.stops (not-zero e) s p n ∙ ap (λ (k : ℕ). record { state = s; done = n; refusal = k; offset = at }) (sym o);
        same = λ z. u.same (not-zero e);
        goes = λ z. absurd (some z);
        further = λ z. absurd (some z);
      }
