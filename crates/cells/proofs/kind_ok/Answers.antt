-- `cells::kind_ok` meets its contract: below level 0 the sign of the level says so.
use mathlib.Core.Path.{sym, ap, ◌∙◌}
use mathlib.Core.Bool.{not}
use Rattle.readable.proofs.Signs.{level-sign}
use Rattle.cells.proofs.kind_ok.Goals as goal

pub returns-then-not-is_positive : goal.returns-then-not-is_positive
returns-then-not-is_positive c =
    rw (level-sign _ _ _ (c.args.rows.now.levels.levelled.deep _ c.requires) ∙ ap not (sym c.is_positive.ensures) ∙ (ap not c.if-not-is_positive.true)) c.ghost_ok.ensures

pub returns : goal.returns
returns c =
    rw (level-sign _ _ _ (c.args.rows.now.levels.levelled.deep _ c.requires) ∙ ap not (sym c.is_positive.ensures) ∙ (ap not c.if-not-is_positive.false)) c.point_ok.ensures
