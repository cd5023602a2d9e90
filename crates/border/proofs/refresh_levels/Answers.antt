-- `border::refresh_levels` meets its contract.
use Rattle.std.proofs.Common.{arith, sym, ◌∙◌}
use Rattle.border.proofs.Borders.{levels-on, levels-done, levels-end}
use Rattle.border.proofs.refresh_levels.Goals as goal

pub returns-then-not-refresh_level : goal.returns-then-not-refresh_level
returns-then-not-refresh_level c =
    let l = c.loop-e in
    let (h, p, k) = c.refresh_level.ensures in
    sym (l.invariant.left ∙ levels-on _ l.t _ _ l.e (omega arith) h ∙ levels-end _ _ _ _ _ l.e (k c.if-not-refresh_level.true))

pub loop-e-preserved : goal.loop-e-preserved
loop-e-preserved c =
    let l = c.loop-e in
    let (h, p, k) = c.refresh_level.ensures in
    record { left = l.invariant.left ∙ levels-on _ l.t _ _ l.e (omega arith) h; plain = p }

pub returns : goal.returns
returns c = sym (c.loop-e.invariant.left ∙ levels-done _ c.loop-e.t _ _ c.loop-e.e (omega arith))
