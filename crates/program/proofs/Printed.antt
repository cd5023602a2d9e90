-- What is printed, branch by branch: the head refuses, or the build does, or a request of the tape, or the page of the state after the tape is
-- written. For the lists of the capacity picture that state from the build on, so that no first check of a later call refuses.
-- Assumes nothing.
use Prim.Native.Nat.{ℕ, ◌+◌, ◌-◌, ◌*◌, ◌≤◌}
use native.Mathlib.Omega.{arith}
use mathlib.Core.Path.{◌≡◌, refl, sym, ap, ◌∙◌}
use mathlib.Core.Logic.{◌≢◌}
use mathlib.Core.List.{List, [], ◌∷◌}
use lib.ListN.{length, take, drop, length-drop}
use lib.Seq.{take_all}
use borrow.Author.Tests.{eq-eqb}
use Rattle.mesh.specs.State.{State, capacity}
use Rattle.mesh.specs.Valid.{Valid}
use Rattle.mesh.specs.Picture.{row_words, picture}
use Rattle.mesh.specs.LeafCounts.{count_places, Counted, counted}
use Rattle.mesh.specs.Refusal.{refusal}
use Rattle.mesh.specs.Scan.{no18}
use Rattle.mesh.specs.Page.{page, page_checks}
use Rattle.mesh.specs.Call as Call
use Rattle.mesh.specs.Decode.{decode}
use Rattle.mesh.specs.Call.{lent_refusal, build_checks, build_call, tape_call, wrote, page_call, writing}
use Rattle.mesh.specs.Program.{grid_in, refused_line, head_checks, tape_page, program, program_call, grid_checks, input_checks}
use Rattle.number_laws.proofs.Checks.{past, kept}
use Rattle.picture_laws.proofs.Decoding.{decode-back}
use Rattle.picture_laws.proofs.Accepted.{picture-accepted}
use Rattle.checker.proofs.Checking.{sized}
use Rattle.demand_laws.proofs.Prefixes.{run-offset}
use Rattle.demand_laws.proofs.Refusals.{unless-accepted, unless-refused, unless-names}
use Rattle.demand_laws.proofs.PicturedCalls.{tape-runs}
use Rattle.call_laws.proofs.Called.{checks-after}
use Rattle.std.specs.Prelude.{Result}
use Rattle.answer.specs.declared.Refusal.{Refusal}
use Rattle.answer.specs.Answered.{refusal_of, stop_of}
use Rattle.grid.specs.declared.Taped.{Taped}
use Rattle.grid.specs.Calls.{taped_of, Builds, Tapes}
use Rattle.input.proofs.Head.{head-sizes}
use Rattle.program.proofs.PrintedTape.{started, ran, started-valid, ran-valid}

-- the page call on the picture of a valid state
pub page-prints : (s : State) → Valid s → (cap : ℕ) → capacity s ≡ cap → (out : List ℕ) → page_call cap (picture s) out ≡ writing (page s) out
unfolding page_call page_checks
page-prints s v cap c out =
    let ok : lent_refusal cap (picture s) ≡ 0 = ap (λ (n : ℕ). lent_refusal n (picture s)) (sym c) ∙ picture-accepted s v in
    ap (λ (r : ℕ). wrote r (page (decode (picture s))) out) (checks-after cap (picture s) ok (no18 (length out) (page (decode (picture s))) ∷ []))
    ∙ ap (λ (t : State). writing (page t) out) (decode-back s v)

module _ (input : List ℕ) where
  -- ---- the program, branch by branch

  pub prints : (out : List ℕ) {w : Call.Wrote} {xs : List ℕ} → xs ≡ program input → w ≡ writing xs out → w ≡ program_call input out
  unfolding program_call
  prints out e h = h ∙ ap (λ (ys : List ℕ). writing ys out) e

  refused : (n : ℕ) → n ≡ refusal (head_checks input) → n ≢ 0 → refused_line n 0 ≡ program input
  unfolding program
  refused n e some = sym (rw (sym e) (unless-refused _ _ n some))

  pub head-refused : (n : ℕ) → n ≡ refusal (input_checks input) → n ≢ 0 → refused_line n 0 ≡ program input
  head-refused n e some = refused n (e ∙ sym (kept (input_checks input) (grid_checks input) (λ z. some (e ∙ z)))) some

  module _ (ok : refusal (input_checks input) ≡ 0) where
    after-head : refusal (head_checks input) ≡ refusal (grid_checks input)
    unfolding input_checks
    after-head = past (input_checks input) (grid_checks input) tt ok

    -- ---- the build

    module _ {l l₁ : Counted} {b : Result ℕ Refusal} (built-as : Builds l 1000 (grid_in input).columns (grid_in input).rows 0 l₁ b) (size : length l.lent.words ≡ row_words * 1001) (places : length l.lent.values ≡ 1001) (long : length l.counts ≡ count_places) where
      checks-same : refusal (build_checks 1000 l (grid_in input)) ≡ refusal (head_checks input)
      unfolding build_checks grid_checks refusal
      checks-same = rw (eq-eqb (length l.counts) count_places long) (sized 1000 l.lent (grid_checks input) (record { words = size; values = places; low = omega arith; high = omega arith }) ∙ sym after-head)

      build-why : refusal_of b ≡ refusal (head_checks input)
      unfolding build_call
      build-why = ap (λ (r : Call.Built). r.refusal) built-as.is ∙ unless-names _ _ (λ (r : Call.Built). r.refusal) (λ n. refl) refl _ ∙ checks-same

      pub build-refused : refusal_of b ≢ 0 → refused_line (refusal_of b) 0 ≡ program input
      build-refused = refused (refusal_of b) build-why

      module _ (none : refusal_of b ≡ 0) where
        passed : refusal (head_checks input) ≡ 0
        passed = sym build-why ∙ none

        started-lent : l₁ ≡ counted (started input)
        unfolding build_call
        started-lent = ap (λ (r : Call.Built). r.lent) (built-as.is ∙ unless-accepted _ _ _ (checks-same ∙ passed))

        program-ran : program input ≡ tape_page (ran input)
        unfolding program
        program-ran = unless-accepted _ _ _ passed

        -- ---- the tape

        module _ {l₂ : Counted} {r : Taped} (taped-as : Tapes l₁ 1000 (take (length input - 3) (drop 3 input)) l₂ r) where
          taped : taped_of r l₂ ≡ record { done = (ran input).done; refusal = (ran input).refusal; offset = (ran input).offset; lent = counted (ran input).state }
          taped =
              let (v, c) = started-valid input passed in
              let rest : take (length input - 3) (drop 3 input) ≡ drop 3 input = take_all (length input - 3) (drop 3 input) (omega (arith, length-drop 3 input)) in
              taped-as.is
              ∙ ap (λ (bytes : List ℕ). tape_call 1000 l₁ bytes) rest
              ∙ ap (λ (l : Counted). tape_call 1000 l (drop 3 input)) started-lent
              ∙ tape-runs (started input) v 1000 c (drop 3 input)

          same-why : stop_of r.refusal ≡ (ran input).refusal
          same-why = ap (λ (x : Call.Taped). x.refusal) taped

          same-offset : r.offset ≡ (ran input).offset
          same-offset = ap (λ (x : Call.Taped). x.offset) taped

          pub offset-low : r.offset ≤ 60000
          offset-low = omega (arith, same-offset, (run-offset (started input) (drop 3 input)).0, length-drop 3 input, (head-sizes input ok).1)

          pub tape-refused : stop_of r.refusal ≢ 0 → refused_line (stop_of r.refusal) (3 + r.offset) ≡ program input
          unfolding tape_page
          tape-refused some = rw (same-why, same-offset) (sym (program-ran ∙ unless-refused _ _ (ran input).refusal (λ z. some (same-why ∙ z))))

          pub tape-printed : stop_of r.refusal ≡ 0 → (out : List ℕ) {w : Call.Wrote} → w ≡ page_call 1000 l₂.lent out → w ≡ program_call input out
          unfolding tape_page
          tape-printed calm out e =
              let (v, c) = ran-valid input passed in
              let p : page (ran input).state ≡ program input = sym (program-ran ∙ unless-accepted _ _ (ran input).refusal (sym same-why ∙ calm)) in
              prints out p (e ∙ ap (λ (x : Call.Taped). page_call 1000 x.lent.lent out) taped ∙ page-prints (ran input).state v 1000 c out)
