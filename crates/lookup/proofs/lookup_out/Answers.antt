-- `lookup::lookup_out` meets its contract.
use Rattle.std.proofs.Common.{rules, ap, ◌∙◌, ◌≡◌, Err}
use borrow.Author.Tests.{eqb-true, eqb-false}
use Rattle.answer.specs.declared.Refusal.{Refusal}
use Rattle.answer.specs.declared.Refusal.TheVariants.{NotFound}
use Rattle.answer.proofs.InOrder.{refuses, passes}
use Rattle.lookup.specs.LookupRows.{found_of}
use Rattle.lookup.proofs.LookupBranches.{found_none, found-leaf}
use Rattle.lookup.proofs.lookup_out.Goals as goal

pub returns-in_err-refuse_if : goal.returns-in_err-refuse_if
returns-in_err-refuse_if c =
    let a = c.args in
    let (none, e) = refuses _ NotFound c.in_err-refuse_if.ensures in
    let o : found_of c.from_residual.result ≡ found_of (Err c.in_err-refuse_if.field-0.0) = search rules in
    o ∙ ap (λ (r : Refusal). found_of (Err r)) e ∙ found_none _ _ _ _ a.d a.x a.y _ c.lookup_row-n.ensures.1 (eqb-true _ 0 none)

pub returns : goal.returns
returns c =
    let a = c.args in
    let some = eqb-false _ 0 (passes _ NotFound c.in_ok-refuse_if.ensures) in
    found-leaf _ _ _ _ a.d a.x a.y _ c.lookup_row-n.ensures.1 some c.carried_at.ensures _ c.value_of.ensures
