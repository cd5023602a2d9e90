-- `apply::sentence` meets its contract: the refusal is the rules', and the one word that is written makes the picture of the state with the cell sentenced.
use Rattle.std.proofs.Common.{rules, refl, ◌≡◌, arith}
use Rattle.answer.specs.Answered.{number, refusal_of}
use Rattle.apply.proofs.Deciding.{stopped, sentence-decides, sentence-within}
use Rattle.apply.proofs.Applying.{sentence-applied}
use Rattle.apply.proofs.Following.{sentence-free}
use Rattle.apply.proofs.Tamed.{drawn-ranged, drawn-tame}
use Rattle.apply.proofs.sentence.Goals as goal

pub sentence_refusal-requires : goal.sentence_refusal-requires
sentence_refusal-requires c = (drawn-tame c.requires.drawn).plain.sized

pub returns-in_err-sentence_refusal : goal.returns-in_err-sentence_refusal
returns-in_err-sentence_refusal c =
    let o : refusal_of c.from_residual.result ≡ number c.in_err-sentence_refusal.field-0.0 = search rules in
    (stopped _ _ _ _ _ _ o (sentence-decides _ _ _ _ _ _ c.in_err-sentence_refusal.ensures), refl)

pub sentence_at-requires : goal.sentence_at-requires
sentence_at-requires c =
    let p = c.requires.drawn in
    (omega (arith, sentence-within _ _ _ c.in_ok-sentence_refusal.ensures refl, (drawn-ranged p).words), (drawn-tame p).flags _)

pub returns : goal.returns
returns c =
    let a = sentence-applied _ _ _ _ _ _ _ c.in_ok-sentence_refusal.ensures refl c.sentence_at.ensures in
    (a, sentence-free c.requires _ a)
