-- `input::head_refusal` meets its contract: one check after the other.
use Rattle.std.proofs.Common.{rules, refl}
use Rattle.mesh.specs.Program.{input_checks}
use Rattle.answer.specs.declared.Refusal.TheVariants.{TooLong, CutOff, UnknownKind}
use Rattle.answer.proofs.InOrder.{decided, stops, goes_on, ends}
use Rattle.input.proofs.head_refusal.Goals as goal

pub returns-in_err-refuse_if : goal.returns-in_err-refuse_if
unfolding input_checks
returns-in_err-refuse_if c = decided (input_checks c.args.input.now) (stops TooLong refl c.in_err-refuse_if.ensures (search rules))

pub returns-in_err-refuse_if-2 : goal.returns-in_err-refuse_if-2
unfolding input_checks
returns-in_err-refuse_if-2 c = decided (input_checks c.args.input.now) (goes_on TooLong refl c.in_ok-refuse_if.ensures (stops CutOff refl c.in_err-refuse_if-2.ensures (search rules)))

pub returns-in_err-refuse_if-3 : goal.returns-in_err-refuse_if-3
unfolding input_checks
returns-in_err-refuse_if-3 c = decided (input_checks c.args.input.now) (goes_on TooLong refl c.in_ok-refuse_if.ensures (goes_on CutOff refl c.in_ok-refuse_if-2.ensures (stops UnknownKind refl c.in_err-refuse_if-3.ensures (search rules))))

pub returns : goal.returns
unfolding input_checks
returns c = decided (input_checks c.args.input.now) (goes_on TooLong refl c.in_ok-refuse_if.ensures (goes_on CutOff refl c.in_ok-refuse_if-2.ensures (goes_on UnknownKind refl c.in_ok-refuse_if-3.ensures (ends CutOff refl c.refuse_if-4.ensures))))
