-- `refusals::requests::remove_refusal` meets its contract: each check where those before it pass.
use Rattle.std.proofs.Common.{rules, ap, arith, not}
use Rattle.answer.specs.declared.Refusal.TheVariants.{FinerBeside, KidsNotSentenced, NoKids}
use Rattle.answer.proofs.InOrder.{decided, stops, goes_on, ends}
use Rattle.refusals.specs.Decide.{remove_rows, remove_refusal}
use Rattle.refusals.proofs.Arms.{first_two, past_two, past-le}
use Rattle.refusals.proofs.requests.remove_refusal.Goals as goal

pub returns-in_err-cell_refusal : goal.returns-in_err-cell_refusal
unfolding remove_refusal
returns-in_err-cell_refusal c = decided (remove_rows c.args.t.now c.args.cap c.args.n) (first_two _ _ _ _ c.in_err-cell_refusal.ensures (search rules))

pub has_kids-requires : goal.has_kids-requires
has_kids-requires c = let w = past-le _ _ _ c.in_ok-cell_refusal.ensures in omega (arith, w)

pub returns-in_err-refuse_if : goal.returns-in_err-refuse_if
unfolding remove_refusal
returns-in_err-refuse_if c = decided (remove_rows c.args.t.now c.args.cap c.args.n) (past_two _ _ _ c.in_ok-cell_refusal.ensures (stops NoKids (ap not c.has_kids.ensures) c.in_err-refuse_if.ensures (search rules)))

pub kids_sentenced-requires : goal.kids_sentenced-requires
kids_sentenced-requires c = let w = past-le _ _ _ c.in_ok-cell_refusal.ensures in omega (arith, w)

pub returns-in_err-refuse_if-2 : goal.returns-in_err-refuse_if-2
unfolding remove_refusal
returns-in_err-refuse_if-2 c = decided (remove_rows c.args.t.now c.args.cap c.args.n) (past_two _ _ _ c.in_ok-cell_refusal.ensures (goes_on NoKids (ap not c.has_kids.ensures) c.in_ok-refuse_if.ensures (stops KidsNotSentenced (ap not c.kids_sentenced.ensures) c.in_err-refuse_if-2.ensures (search rules))))

pub finer_round-requires : goal.finer_round-requires
finer_round-requires c = let w = past-le _ _ _ c.in_ok-cell_refusal.ensures in (c.requires, w)

pub returns : goal.returns
unfolding remove_refusal
returns c = decided (remove_rows c.args.t.now c.args.cap c.args.n) (past_two _ _ _ c.in_ok-cell_refusal.ensures (goes_on NoKids (ap not c.has_kids.ensures) c.in_ok-refuse_if.ensures (goes_on KidsNotSentenced (ap not c.kids_sentenced.ensures) c.in_ok-refuse_if-2.ensures (ends FinerBeside c.finer_round.ensures c.refuse_if-3.ensures))))
