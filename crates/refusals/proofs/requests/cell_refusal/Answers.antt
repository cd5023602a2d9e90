-- `refusals::requests::cell_refusal` meets its contract: each check where those before it pass.
use Rattle.std.proofs.Common.{rules, ap, arith, not}
use borrow.Author.Tests.{not-false}
use Rattle.table.proofs.Taken.{taken-within}
use Rattle.answer.specs.declared.Refusal.TheVariants.{NoPatch, NoCell}
use Rattle.answer.proofs.InOrder.{decided, passed, stops, goes_on, ends}
use Rattle.refusals.proofs.requests.cell_refusal.Goals as goal

pub returns-in_err-refuse_if : goal.returns-in_err-refuse_if
returns-in_err-refuse_if c = decided _ (stops NoPatch (ap not c.is_taken.ensures) c.in_err-refuse_if.ensures (search rules))

pub flag-requires : goal.flag-requires
flag-requires c = omega (arith, taken-within _ _ _ (not-false _ (passed NoPatch (ap not c.is_taken.ensures) c.in_ok-refuse_if.ensures)))

pub returns : goal.returns
returns c = decided _ (goes_on NoPatch (ap not c.is_taken.ensures) c.in_ok-refuse_if.ensures (ends NoCell (ap not c.flag.ensures) c.refuse_if-2.ensures))
