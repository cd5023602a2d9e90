-- A tape: refused by the first checks, nothing changes; otherwise what is lent is a picture, and the run of the tape is the call's.
-- Assumes nothing.
use Prim.Native.Nat.{ℕ}
use mathlib.Core.Path.{◌≡◌, sym, ap, ◌∙◌}
use mathlib.Core.List.{List}
use lib.IntN.{ℤ}
use lib.Ieee.{Float}
use Rattle.mesh.specs.Place.{base}
use Rattle.mesh.specs.LeafCounts.{Counted}
use Rattle.mesh.specs.Call.{check_call, tape_call}
use Rattle.header.specs.Headers.{lent_of, counted_of, with_mark}
use Rattle.header.specs.declared.Header.{Header}
use Rattle.demand_laws.proofs.Refusals.{unless-refused}
use Rattle.picture_laws.proofs.Accepted.{lent-sizes}
use Rattle.tally_laws.proofs.CountedChecks.{counted-lent, counted-sound}
use Rattle.apply.specs.Drawn.{lists, Pictured}
use Rattle.tape.specs.Ran.{Ran}
use Rattle.tape.proofs.TapeCalled.{pictured, ran_call}
use Rattle.std.specs.Prelude.{Option, Some}
use Rattle.answer.specs.declared.Refusal.{Refusal}
use Rattle.answer.specs.Answered.{number, stop_of}
use Rattle.answer.proofs.RefusalNumbers.{not-zero}
use Rattle.grid.specs.Calls.{taped_of, Tapes}

module _ (l : Counted) (cap : ℕ) (bytes : List ℕ) where
  pub tape-first : (r : Refusal) → number r ≡ check_call cap l → Tapes l cap bytes l (record { done = 0; refusal = Some r; offset = 0 })
  unfolding tape_call
  tape-first r is = record { is = sym (rw (sym is) (unless-refused _ _ (number r) (not-zero r))) }

module _ (h : Header) (t : List ℤ) (v : List Float) (c : List ℕ) (cap : ℕ) (bytes : List ℕ) (ok : check_call cap (counted_of h t v c) ≡ 0) {d : ℕ} (deep : d ≡ base (lent_of h t v).header.grid) where
  abbrev l : Counted
  l = counted_of h t v c

  pub tape-pictured : Pictured cap d (lists t v c)
  tape-pictured = pictured cap l (counted-sound cap l ok) (lent-sizes cap l.lent (counted-lent cap l ok)) deep

  pub tape-done : {h' : Header} {t' : List ℤ} {v' : List Float} {c' : List ℕ} {done offset mark' : ℕ} {refusal : Option Refusal} → h' ≡ with_mark h mark' → Ran bytes cap d h.mark (lists t v c) (lists t' v' c') done (stop_of refusal) offset mark'
      → Tapes (counted_of h t v c) cap bytes (counted_of h' t' v' c') (record { done = done; refusal = refusal; offset = offset })
  tape-done {t' = t'} {v'} {c'} {done} {offset} {refusal = refusal} e r = record { is = ap (λ (x : Header). taped_of (record { done = done; refusal = refusal; offset = offset }) (counted_of x t' v' c')) e ∙ ran_call cap l (counted-sound cap l ok) (lent-sizes cap l.lent (counted-lent cap l ok)) deep r }
