-- `refine::supply::supply_near` meets its contract: patch by patch, and each doubles the bound of the rows at most.
use mathlib.Core.Path.{◌∙◌}
use native.Mathlib.Omega.{arith}
use Rattle.edit_laws.specs.Tables.{supplied}
use Rattle.near.proofs.SpotSteps.{over-wanted}
use Rattle.patch.proofs.StepsInTurn.{step_then}
use Rattle.refine.proofs.SuppliedKid.{start, after, ready}
use Rattle.refine.proofs.supply.supply_near.Goals as goal

pub supply-requires-2 : goal.supply-requires-2
supply-requires-2 c = ready (after (start c.requires.2 c.requires.3) c.supply.ensures) c.requires.0 c.requires.1 (omega arith)

pub supply-requires-3 : goal.supply-requires-3
supply-requires-3 c = ready (after (after (start c.requires.2 c.requires.3) c.supply.ensures) c.supply-2.ensures) c.requires.0 c.requires.1 (omega arith)

pub supply-requires-4 : goal.supply-requires-4
supply-requires-4 c = ready (after (after (after (start c.requires.2 c.requires.3) c.supply.ensures) c.supply-2.ensures) c.supply-3.ensures) c.requires.0 c.requires.1 (omega arith)

pub supply-requires-5 : goal.supply-requires-5
supply-requires-5 c = ready (after (after (after (after (start c.requires.2 c.requires.3) c.supply.ensures) c.supply-2.ensures) c.supply-3.ensures) c.supply-4.ensures) c.around-a.ensures.1.north c.requires.1 (omega arith)

pub supply-requires-6 : goal.supply-requires-6
supply-requires-6 c = ready (after (after (after (after (after (start c.requires.2 c.requires.3) c.supply.ensures) c.supply-2.ensures) c.supply-3.ensures) c.supply-4.ensures) c.supply-5.ensures) c.around-a.ensures.1.north c.requires.1 (omega arith)

pub supply-requires-7 : goal.supply-requires-7
supply-requires-7 c = ready (after (after (after (after (after (after (start c.requires.2 c.requires.3) c.supply.ensures) c.supply-2.ensures) c.supply-3.ensures) c.supply-4.ensures) c.supply-5.ensures) c.supply-6.ensures) c.around-a.ensures.1.east c.requires.1 (omega arith)

pub supply-requires-8 : goal.supply-requires-8
supply-requires-8 c = ready (after (after (after (after (after (after (after (start c.requires.2 c.requires.3) c.supply.ensures) c.supply-2.ensures) c.supply-3.ensures) c.supply-4.ensures) c.supply-5.ensures) c.supply-6.ensures) c.supply-7.ensures) c.around-a.ensures.1.east c.requires.1 (omega arith)

pub supply-requires-9 : goal.supply-requires-9
supply-requires-9 c = ready (after (after (after (after (after (after (after (after (start c.requires.2 c.requires.3) c.supply.ensures) c.supply-2.ensures) c.supply-3.ensures) c.supply-4.ensures) c.supply-5.ensures) c.supply-6.ensures) c.supply-7.ensures) c.supply-8.ensures) c.around-a.ensures.1.both c.requires.1 (omega arith)

pub returns : goal.returns
returns c =
    let p = c.args.p.now in
    let all = step_then (step_then (step_then (step_then (step_then (step_then (step_then (step_then (c.supply.ensures.0) c.supply-2.ensures.0) c.supply-3.ensures.0) c.supply-4.ensures.0) c.supply-5.ensures.0) c.supply-6.ensures.0) c.supply-7.ensures.0) c.supply-8.ensures.0) c.supply-9.ensures.0 in
    record { same = all.same; words = all.words ∙ over-wanted p.t.now p.cap c.args.n (supplied p.cap c.args.d) c.around-a.ensures.0 }
