-- `refusals::requests::set_refusal` meets its contract: each check where those before it pass.
use Rattle.std.proofs.Common.{rules, ap, arith, not}
use Rattle.answer.specs.declared.Refusal.TheVariants.{HasKids, NotFinite}
use Rattle.answer.proofs.InOrder.{decided, stops, goes_on, ends}
use Rattle.refusals.specs.Decide.{set_rows, set_refusal}
use Rattle.refusals.proofs.Arms.{first_two, past_two, past-le}
use Rattle.refusals.proofs.requests.set_refusal.Goals as goal

pub returns-in_err-cell_refusal : goal.returns-in_err-cell_refusal
unfolding set_refusal
returns-in_err-cell_refusal c = decided (set_rows c.args.t.now c.args.cap c.args.n c.args.x) (first_two _ _ _ _ c.in_err-cell_refusal.ensures (search rules))

pub has_kids-requires : goal.has_kids-requires
has_kids-requires c = let w = past-le _ _ _ c.in_ok-cell_refusal.ensures in omega (arith, w)

pub returns-in_err-refuse_if : goal.returns-in_err-refuse_if
unfolding set_refusal
returns-in_err-refuse_if c = decided (set_rows c.args.t.now c.args.cap c.args.n c.args.x) (past_two _ _ _ c.in_ok-cell_refusal.ensures (stops HasKids c.has_kids.ensures c.in_err-refuse_if.ensures (search rules)))

pub returns : goal.returns
unfolding set_refusal
returns c = decided (set_rows c.args.t.now c.args.cap c.args.n c.args.x) (past_two _ _ _ c.in_ok-cell_refusal.ensures (goes_on HasKids c.has_kids.ensures c.in_ok-refuse_if.ensures (ends NotFinite (ap not c.is_finite.ensures) c.refuse_if-2.ensures)))
