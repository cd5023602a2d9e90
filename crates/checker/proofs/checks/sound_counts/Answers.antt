-- `checker::checks::sound_counts` meets its contract: past the first two refusals the test by rows decides, and it has counted.
use Rattle.std.proofs.Common.{rules, ◌≡◌}
use Rattle.std.proofs.lemmas.Bool.{not-true, not-false}
use Rattle.answer.specs.Answered.{number, refusal_of}
use Rattle.answer.specs.declared.Refusal.TheVariants.{Unsound}
use Rattle.answer.proofs.RefusalNumbers.{not-zero}
use Rattle.answer.proofs.InOrder.{refused_is, passes}
use native.Mathlib.Omega.{arith}
use mathlib.Core.Path.{refl, sym, ◌∙◌}
use Rattle.mesh.specs.Call.{lent_checks, lent_refusal}
use Rattle.place_laws.proofs.Base.{base-range}
use Rattle.readable.proofs.ReadableRows.{not_plain, plain-table, levelled-table}
use Rattle.checker.proofs.Checking.{rows_pass, rows-fail, shallow}
use Rattle.checker.proofs.checks.sound_counts.Goals as goal

pub returns-in_err-first_refusal-clause-refused : goal.returns-in_err-first_refusal-clause-refused
unfolding lent_refusal lent_checks
returns-in_err-first_refusal-clause-refused c =
    let e = c.in_err-first_refusal.field-0.0 in
    let o : refusal_of c.from_residual.result ≡ number e = search rules in
    o ∙ c.in_err-first_refusal.ensures.refused (not-zero e) _

pub plain-requires : goal.plain-requires
plain-requires c =
    let f = c.in_ok-first_refusal.ensures.sizes refl in
    (record { words = omega (arith, f.words); small = f.high }, rw c.ground_depth-d.ensures (shallow _))

pub returns-in_err-refuse_if-clause-refused : goal.returns-in_err-refuse_if-clause-refused
returns-in_err-refuse_if-clause-refused c =
    let f = c.in_ok-first_refusal.ensures.sizes refl in
    let r = c.in_ok-first_refusal.ensures.rectangle refl in
    refused_is _ Unsound _ c.in_err-refuse_if.ensures (search rules)
    (λ h. rows-fail _ _ f r c.words_fit.ensures (not_plain _ _ _ _ (omega (arith, f.low)) r {b = c.plain.result} (rw (← c.ground_depth-d.ensures) c.plain.ensures) (not-true _ h)) refl)

pub invariant_of-levels : goal.invariant_of-levels
invariant_of-levels c =
    let f = c.in_ok-first_refusal.ensures.sizes refl in
    let e = c.ground_depth-d.ensures in
    let all = sym c.plain.ensures ∙ not-false _ (passes _ Unsound c.in_ok-refuse_if.ensures) in
    record {
      readable = plain-table _ _ _ all (record { words = omega (arith, f.words); small = f.high });
      levelled = levelled-table _ _ _ all (rw e (shallow _));
    }

pub invariant_of-rows : goal.invariant_of-rows
invariant_of-rows c =
    let f = c.in_ok-first_refusal.ensures.sizes refl in
    let r = c.in_ok-first_refusal.ensures.rectangle refl in
    let e = c.ground_depth-d.ensures in
    record {
      rooted = omega (arith, f.low);
      depth_is = e;
      shallow = rw e (base-range _ r).1;
      tall = r.2;
    }

pub returns-in_err-refuse_if-2-clause-refused : goal.returns-in_err-refuse_if-2-clause-refused
returns-in_err-refuse_if-2-clause-refused c =
    let f = c.in_ok-first_refusal.ensures.sizes refl in
    let r = c.in_ok-first_refusal.ensures.rectangle refl in
    refused_is _ Unsound _ c.in_err-refuse_if-2.ensures (search rules)
    (λ h. rows-fail _ _ f r c.words_fit.ensures c.rowwise.ensures.0 (not-true _ h))

pub returns-clause-refused : goal.returns-clause-refused
returns-clause-refused c =
    let f = c.in_ok-first_refusal.ensures.sizes refl in
    let r = c.in_ok-first_refusal.ensures.rectangle refl in
    rows_pass _ _ f r c.words_fit.ensures c.rowwise.ensures.0 (not-false _ (passes _ Unsound c.in_ok-refuse_if-2.ensures))
