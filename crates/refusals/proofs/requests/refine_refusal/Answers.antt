-- `refusals::requests::refine_refusal` meets its contract: each check where those before it pass.
use Rattle.std.proofs.Common.{rules, arith}
use lib.Dec.{ltb}
use Rattle.answer.specs.declared.Refusal.TheVariants.{CoarserBeside, HasKids, IsSentenced, TooFewFree, TopLevel}
use Rattle.answer.proofs.InOrder.{decided, stops, goes_on, ends}
use Rattle.refusals.specs.Decide.{refine_rows, refine_refusal}
use Rattle.refusals.proofs.Arms.{first_two, past_two, past-le}
use Rattle.refusals.proofs.requests.refine_refusal.Goals as goal

pub returns-in_err-cell_refusal : goal.returns-in_err-cell_refusal
unfolding refine_refusal
returns-in_err-cell_refusal c = decided (refine_rows c.args.t.now c.args.cap c.args.n) (first_two _ _ _ _ c.in_err-cell_refusal.ensures (search rules))

pub has_kids-requires : goal.has_kids-requires
has_kids-requires c = let w = past-le _ _ _ c.in_ok-cell_refusal.ensures in omega (arith, w)

pub returns-in_err-refuse_if : goal.returns-in_err-refuse_if
unfolding refine_refusal
returns-in_err-refuse_if c = decided (refine_rows c.args.t.now c.args.cap c.args.n) (past_two _ _ _ c.in_ok-cell_refusal.ensures (stops HasKids c.has_kids.ensures c.in_err-refuse_if.ensures (search rules)))

pub says-requires : goal.says-requires
says-requires c = let w = past-le _ _ _ c.in_ok-cell_refusal.ensures in omega (arith, w)

pub returns-in_err-refuse_if-2 : goal.returns-in_err-refuse_if-2
unfolding refine_refusal
returns-in_err-refuse_if-2 c = decided (refine_rows c.args.t.now c.args.cap c.args.n) (past_two _ _ _ c.in_ok-cell_refusal.ensures (goes_on HasKids c.has_kids.ensures c.in_ok-refuse_if.ensures (stops TopLevel c.says.ensures c.in_err-refuse_if-2.ensures (search rules))))

pub flag-requires : goal.flag-requires
flag-requires c = let w = past-le _ _ _ c.in_ok-cell_refusal.ensures in (c.requires.0, w, omega arith)

pub returns-in_err-refuse_if-3 : goal.returns-in_err-refuse_if-3
unfolding refine_refusal
returns-in_err-refuse_if-3 c = decided (refine_rows c.args.t.now c.args.cap c.args.n) (past_two _ _ _ c.in_ok-cell_refusal.ensures (goes_on HasKids c.has_kids.ensures c.in_ok-refuse_if.ensures (goes_on TopLevel c.says.ensures c.in_ok-refuse_if-2.ensures (stops IsSentenced c.flag.ensures c.in_err-refuse_if-3.ensures (search rules)))))

pub flag-coarser_beside-requires : goal.flag-coarser_beside-requires
flag-coarser_beside-requires c = let w = past-le _ _ _ c.in_ok-cell_refusal.ensures in (c.requires.0, w, omega arith)

pub returns-in_err-refuse_if-4 : goal.returns-in_err-refuse_if-4
unfolding refine_refusal
returns-in_err-refuse_if-4 c = decided (refine_rows c.args.t.now c.args.cap c.args.n) (past_two _ _ _ c.in_ok-cell_refusal.ensures (goes_on HasKids c.has_kids.ensures c.in_ok-refuse_if.ensures (goes_on TopLevel c.says.ensures c.in_ok-refuse_if-2.ensures (goes_on IsSentenced c.flag.ensures c.in_ok-refuse_if-3.ensures (stops CoarserBeside c.flag-coarser_beside.ensures c.in_err-refuse_if-4.ensures (search rules))))))

pub lack_count-requires : goal.lack_count-requires
lack_count-requires c = let w = past-le _ _ _ c.in_ok-cell_refusal.ensures in (c.requires.0, w)

pub returns : goal.returns
unfolding refine_refusal
returns c = decided (refine_rows c.args.t.now c.args.cap c.args.n) (past_two _ _ _ c.in_ok-cell_refusal.ensures (goes_on HasKids c.has_kids.ensures c.in_ok-refuse_if.ensures (goes_on TopLevel c.says.ensures c.in_ok-refuse_if-2.ensures (goes_on IsSentenced c.flag.ensures c.in_ok-refuse_if-3.ensures (goes_on CoarserBeside c.flag-coarser_beside.ensures c.in_ok-refuse_if-4.ensures (ends TooFewFree (λ i. ltb (c.requires.1 i) (c.lack_count.ensures i)) c.refuse_if-5.ensures))))))
