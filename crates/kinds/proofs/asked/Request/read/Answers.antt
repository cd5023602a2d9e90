-- `kinds::asked::Request::read` meets its contract: an unknown kind, a short body, or what the row of the kind byte asks for.
use Rattle.std.proofs.Common.{rules, ◌∙◌, ap, arith}
use Rattle.std.proofs.lemmas.Bool.{leb-true, leb-false}
use Rattle.answer.specs.declared.Refusal.TheVariants.{CutOff}
use Rattle.answer.proofs.InOrder.{refuses, passes}
use Rattle.mesh.specs.Request.{refine, sentence, remove, kill}
use Rattle.mesh.specs.Tape.{kinds, kind}
use Rattle.kinds.specs.BodyLengths.{body_length}
use Rattle.kinds.proofs.Bodies.{announced}
use Rattle.kinds.proofs.RequestsRead.{with-number, with-value, short-unread, announced-as, number-asked, value-asked}
use Rattle.kinds.proofs.asked.Request.read.Goals as goal
use Rattle.kinds.proofs.asked.Request.read.Goals.{in-Refine, in-Sentence, in-Remove, in-Kill, in-SetValue}

pub returns-in_err-refuse_if : goal.returns-in_err-refuse_if
returns-in_err-refuse_if c =
    let long = c.body_length-len.ensures ∙ ap body_length c.in_ok-kind.ensures in
    let (short, same) = refuses _ CutOff c.in_err-refuse_if.ensures in
    let unread = short-unread _ _ long c.requires (leb-true _ _ short) in
    search rules

pub number_at-n-requires : goal.number_at-n-requires
number_at-n-requires c =
    let enough = leb-false _ _ (passes _ CutOff c.in_ok-refuse_if.ensures) in
    omega (arith, enough, with-number _ c.body_length-len.ensures)

pub value_at-requires : goal.value_at-requires
value_at-requires c =
    let enough = leb-false _ _ (passes _ CutOff c.in_ok-refuse_if.ensures) in
    omega (arith, enough, with-value c.in-SetValue.is c.body_length-len.ensures)

pub returns : goal.returns
unfolding kinds kind
returns c =
    let long = c.body_length-len.ensures ∙ ap body_length c.in_ok-kind.ensures in
    let enough = leb-false _ _ (passes _ CutOff c.in_ok-refuse_if.ensures) in
    let is = c.in_ok-kind.ensures in
    let number = c.number_at-n.ensures in
    elim c.match-kind.branch [
      | in-Refine w ↦ rw w.request-is (announced-as _ _ long enough _ (announced is w.in-Refine.is) (ap refine (number-asked _ number)))
      | in-Sentence w ↦ rw w.request-is (announced-as _ _ long enough _ (announced is w.in-Sentence.is) (ap sentence (number-asked _ number)))
      | in-Remove w ↦ rw w.request-is (announced-as _ _ long enough _ (announced is w.in-Remove.is) (ap remove (number-asked _ number)))
      | in-Kill w ↦ rw w.request-is (announced-as _ _ long enough _ (announced is w.in-Kill.is) (ap kill (number-asked _ number)))
      | in-SetValue w ↦ rw w.request-is (announced-as _ _ long enough _ (announced is w.in-SetValue.is) (value-asked _ number w.value_at.ensures))
    ]
