-- `grid::build_refusal` meets its contract: one of the first two refusals, or the room for the patches.
use Rattle.std.proofs.Common.{rules, refl, ◌≡◌, ◌∙◌, arith}
use Rattle.std.proofs.lemmas.Bool.{eqb-true, eqb-false, ltb-true, ltb-false, not-true, not-false}
use Rattle.answer.specs.Answered.{number, refusal_of}
use Rattle.answer.specs.declared.Refusal.TheVariants.{BadLengths, TooFewFree}
use Rattle.answer.proofs.RefusalNumbers.{not-zero}
use Rattle.answer.proofs.InOrder.{refused_is, answered_is, passes}
use Rattle.grid.proofs.BuildCalls.{miscounted, early, too_few, enough}
use Rattle.grid.proofs.build_refusal.Goals as goal

pub returns-in_err-refuse_if : goal.returns-in_err-refuse_if
returns-in_err-refuse_if c = refused_is _ BadLengths _ c.in_err-refuse_if.ensures (search rules) (λ h. miscounted _ _ _ (eqb-false _ _ (not-true _ h)))

pub returns-in_err-first_refusal : goal.returns-in_err-first_refusal
returns-in_err-first_refusal c =
    let e = c.in_err-first_refusal.field-0.0 in
    let o : refusal_of c.from_residual-in_err-first_refusal.result ≡ number e = search rules in
    o ∙ early _ _ _ (eqb-true _ _ (not-false _ (passes _ BadLengths c.in_ok-refuse_if.ensures))) (c.in_err-first_refusal.ensures.refused (not-zero e))

pub patches_in-requires : goal.patches_in-requires
patches_in-requires c = (c.in_ok-first_refusal.ensures.rectangle refl, c.ground_depth-d.ensures)

pub returns : goal.returns
returns c =
    let f = c.in_ok-first_refusal.ensures in
    let long = eqb-true _ _ (not-false _ (passes _ BadLengths c.in_ok-refuse_if.ensures)) in
    answered_is _ TooFewFree _ c.refuse_if-2.ensures
    (λ h. too_few _ _ _ long (f.sizes refl) (f.rectangle refl) (omega (arith, c.patches_in.ensures, ltb-true _ _ h)))
    (λ h. enough _ _ _ long (f.sizes refl) (f.rectangle refl) (omega (arith, c.patches_in.ensures, ltb-false _ _ h)))
