-- `grid::count` meets its contract: the list's length, then the level and the status, and then the place is one of the list.
use Rattle.std.proofs.Common.{rules, ap, ◌≡◌, ◌∙◌, Err, arith}
use Rattle.std.proofs.lemmas.Bool.{eqb-true, eqb-false, not-true, not-false}
use Rattle.answer.specs.declared.Refusal.{Refusal}
use Rattle.answer.specs.declared.Refusal.TheVariants.{BadLengths, NoSuchCount}
use Rattle.answer.proofs.InOrder.{refuses, passes}
use Rattle.grid.specs.Calls.{count_of}
use Rattle.grid.proofs.CountCalls.{another-length, past-the-last, at_its_place, low-place}
use Rattle.grid.proofs.count.Goals as goal

pub returns-in_err-refuse_if : goal.returns-in_err-refuse_if
returns-in_err-refuse_if c =
    let o : count_of c.from_residual.result ≡ count_of (Err c.in_err-refuse_if.field-0.0) = search rules in
    let (other, same) = refuses _ BadLengths c.in_err-refuse_if.ensures in
    o ∙ ap (λ (r : Refusal). count_of (Err r)) same ∙ another-length _ _ _ (eqb-false _ _ (not-true _ other))

pub returns-in_err-refuse_if-2 : goal.returns-in_err-refuse_if-2
returns-in_err-refuse_if-2 c =
    let o : count_of c.from_residual-in_err-refuse_if-2.result ≡ count_of (Err c.in_err-refuse_if-2.field-0.0) = search rules in
    let (past, same) = refuses _ NoSuchCount c.in_err-refuse_if-2.ensures in
    o ∙ ap (λ (r : Refusal). count_of (Err r)) same ∙ past-the-last _ _ _ (eqb-true _ _ (not-false _ (passes _ BadLengths c.in_ok-refuse_if.ensures))) past

pub overflow_mul-place : goal.overflow_mul-place
overflow_mul-place c = let (p, q) = low-place c.args.level c.args.status (passes _ NoSuchCount c.in_ok-refuse_if-2.ensures) in omega arith

pub overflow_add-place : goal.overflow_add-place
overflow_add-place c = let (p, q) = low-place c.args.level c.args.status (passes _ NoSuchCount c.in_ok-refuse_if-2.ensures) in omega arith

pub bounds-counts-place : goal.bounds-counts-place
bounds-counts-place c =
    let (p, q) = low-place c.args.level c.args.status (passes _ NoSuchCount c.in_ok-refuse_if-2.ensures) in
    omega (arith, eqb-true _ _ (not-false _ (passes _ BadLengths c.in_ok-refuse_if.ensures)))

pub returns : goal.returns
returns c = at_its_place _ _ _ (eqb-true _ _ (not-false _ (passes _ BadLengths c.in_ok-refuse_if.ensures))) (passes _ NoSuchCount c.in_ok-refuse_if-2.ensures)
