-- `checker::first_checks::first_refusal` meets its contract: each return is a law of `Checking`.
use Rattle.std.proofs.Common.{rules, sym, ◌∙◌, arith}
use Rattle.std.proofs.lemmas.Bool.{ltb-true, ltb-false, eqb-true, eqb-false, not-true, not-false}
use Rattle.mesh.specs.Call.{Sizes}
use Rattle.header.specs.Headers.{lent_of}
use Rattle.answer.specs.declared.Refusal.TheVariants.{BadLengths, BadHeader}
use Rattle.answer.proofs.InOrder.{refused_as, answered_as, passes}
use Rattle.checker.specs.FirstChecks.{FirstRefusal}
use Rattle.checker.proofs.Checking.{missizes, misfits, none_first}
use Rattle.checker.proofs.first_checks.first_refusal.Goals as goal

pub returns-in_err-refuse_if : goal.returns-in_err-refuse_if
returns-in_err-refuse_if c = refused_as (FirstRefusal _ _) _ BadLengths _ c.in_err-refuse_if.ensures (search rules) (λ h. missizes _ _ (λ s. omega (arith, ltb-true _ _ h)))

pub returns-in_err-refuse_if-2 : goal.returns-in_err-refuse_if-2
returns-in_err-refuse_if-2 c = refused_as (FirstRefusal _ _) _ BadLengths _ c.in_err-refuse_if-2.ensures (search rules) (λ h. missizes _ _ (λ s. omega (arith, ltb-true _ _ h)))

pub returns-in_err-refuse_if-3 : goal.returns-in_err-refuse_if-3
returns-in_err-refuse_if-3 c = refused_as (FirstRefusal _ _) _ BadLengths _ c.in_err-refuse_if-3.ensures (search rules) (λ h. missizes _ _ (λ s. eqb-false _ _ (not-true _ h) s.words))

pub returns-in_err-refuse_if-4 : goal.returns-in_err-refuse_if-4
returns-in_err-refuse_if-4 c = refused_as (FirstRefusal _ _) _ BadLengths _ c.in_err-refuse_if-4.ensures (search rules) (λ h. missizes _ _ (λ s. eqb-false _ _ (not-true _ h) s.values))

pub returns : goal.returns
returns c =
    let z : Sizes c.args.capacity (lent_of c.args.header c.args.t.now c.args.v.now) =
    record {
      words = eqb-true _ _ (not-false _ (passes _ BadLengths c.in_ok-refuse_if-3.ensures));
      values = eqb-true _ _ (not-false _ (passes _ BadLengths c.in_ok-refuse_if-4.ensures));
      low = ltb-false _ _ (passes _ BadLengths c.in_ok-refuse_if.ensures);
      high = ltb-false _ _ (passes _ BadLengths c.in_ok-refuse_if-2.ensures);
    } in
    answered_as (FirstRefusal _ _) _ BadHeader c.refuse_if-5.ensures
    (λ h. misfits _ _ z (sym c.misfit.ensures ∙ h)) (λ h. none_first _ _ z (sym c.misfit.ensures ∙ h))
