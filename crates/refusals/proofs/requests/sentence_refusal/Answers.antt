-- `refusals::requests::sentence_refusal` meets its contract: each check where those before it pass.
use Rattle.std.proofs.Common.{rules, arith}
use Rattle.answer.specs.declared.Refusal.TheVariants.{HasKids, WrongLevel}
use Rattle.answer.proofs.InOrder.{decided, stops, goes_on, ends}
use Rattle.refusals.specs.Decide.{sentence_rows, sentence_refusal}
use Rattle.refusals.proofs.Arms.{first_two, past_two, past-le}
use Rattle.refusals.proofs.requests.sentence_refusal.Goals as goal

pub returns-in_err-cell_refusal : goal.returns-in_err-cell_refusal
unfolding sentence_refusal
returns-in_err-cell_refusal c = decided (sentence_rows c.args.t.now c.args.cap c.args.n) (first_two _ _ _ _ c.in_err-cell_refusal.ensures (search rules))

pub has_kids-requires : goal.has_kids-requires
has_kids-requires c = let w = past-le _ _ _ c.in_ok-cell_refusal.ensures in omega (arith, w)

pub returns-in_err-refuse_if : goal.returns-in_err-refuse_if
unfolding sentence_refusal
returns-in_err-refuse_if c = decided (sentence_rows c.args.t.now c.args.cap c.args.n) (past_two _ _ _ c.in_ok-cell_refusal.ensures (stops HasKids c.has_kids.ensures c.in_err-refuse_if.ensures (search rules)))

pub says-requires : goal.says-requires
says-requires c = let w = past-le _ _ _ c.in_ok-cell_refusal.ensures in omega (arith, w)

pub returns : goal.returns
unfolding sentence_refusal
returns c = decided (sentence_rows c.args.t.now c.args.cap c.args.n) (past_two _ _ _ c.in_ok-cell_refusal.ensures (goes_on HasKids c.has_kids.ensures c.in_ok-refuse_if.ensures (ends WrongLevel c.says.ensures c.refuse_if-2.ensures)))
