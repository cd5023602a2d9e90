-- `remove::drop_near` meets its contract: kid by kid.
use mathlib.Core.Path.{◌∙◌}
use Rattle.edit_laws.specs.Tables.{at_kid, drop_untouched}
use Rattle.near.proofs.SpotSteps.{over-wanted}
use Rattle.patch.proofs.StepsInTurn.{step_then}
use Rattle.remove.proofs.drop_near.Goals as goal

pub returns : goal.returns
returns c =
    let own = step_then (step_then (step_then c.drop_kid.ensures c.drop_kid-2.ensures) c.drop_kid-3.ensures) c.drop_kid-4.ensures in
    let all = step_then (step_then (step_then (step_then (step_then own c.drop_kid-5.ensures) c.drop_kid-6.ensures) c.drop_kid-7.ensures) c.drop_kid-8.ensures) c.drop_kid-9.ensures in
    record { same = all.same; words = all.words ∙ over-wanted _ _ _ (at_kid (drop_untouched c.args.p.now.cap) c.args.p.now.cap) c.around-a.ensures.0 }
