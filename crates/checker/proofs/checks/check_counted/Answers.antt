-- `checker::checks::check_counted` meets its contract: the length of the lent counts comes first, and on a sound table they are compared with those of the rows.
use Rattle.std.proofs.Common.{rules, ◌≡◌, ◌∙◌, refl}
use Rattle.std.proofs.lemmas.Bool.{eqb-true, eqb-false, not-true, not-false}
use Rattle.answer.specs.Answered.{number, refusal_of}
use Rattle.answer.specs.declared.Refusal.TheVariants.{BadLengths, Unsound}
use Rattle.answer.proofs.RefusalNumbers.{not-zero}
use Rattle.answer.proofs.InOrder.{refused_is, answered_is, passes}
use Rattle.tally_laws.proofs.CountedChecks.{miscounted, lent-refused}
use Rattle.checker.proofs.CountedRows.{counts_same, counts-differ}
use Rattle.checker.proofs.checks.check_counted.Goals as goal

pub returns-in_err-refuse_if : goal.returns-in_err-refuse_if
returns-in_err-refuse_if c = refused_is _ BadLengths _ c.in_err-refuse_if.ensures (search rules) (λ h. miscounted _ _ (eqb-false _ _ (not-true _ h)))

pub returns-in_err-sound_counts : goal.returns-in_err-sound_counts
returns-in_err-sound_counts c =
    let e = c.in_err-sound_counts.field-0.0 in
    let o : refusal_of c.from_residual-in_err-sound_counts.result ≡ number e = search rules in
    o ∙ lent-refused _ _ (eqb-true _ _ (not-false _ (passes _ BadLengths c.in_ok-refuse_if.ensures))) c.in_err-sound_counts.ensures.refused (not-zero e)

pub returns : goal.returns
returns c =
    let long = eqb-true _ _ (not-false _ (passes _ BadLengths c.in_ok-refuse_if.ensures)) in
    let own = c.in_ok-sound_counts.ensures in
    answered_is _ Unsound _ c.refuse_if-2.ensures
    (λ h. counts-differ _ _ long own.refused refl own.counted c.agree.ensures (not-true _ h))
    (λ h. counts_same _ _ long own.refused refl own.counted c.agree.ensures (not-false _ h))
