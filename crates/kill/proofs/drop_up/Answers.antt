-- `kill::drop_up` meets its contract.
use Rattle.std.proofs.Common.{arith, ◌≡◌, ◌-◌, ◌+◌, sym, ◌∙◌}
use mathlib.Core.Path.{ap₂}
use Rattle.edit_laws.specs.Tables.{drop_up}
use Rattle.patch.proofs.StepsInTurn.{same_then}
use Rattle.patch.proofs.DroppedRows.{up-end, up-nil, up_kept, up-on}
use Rattle.kill.proofs.drop_up.Goals as goal
use Rattle.kill.proofs.drop_up.Goals.{then-k-eq0-via-then-k-eq0, then-k-eq0-via-else-k-eq0+then-not-kidless}

pub returns-then-k-eq0 : goal.returns-then-k-eq0
returns-then-k-eq0 c =
    let i = c.loop-level.invariant in
    elim c.then-k-eq0.branch [
      | then-k-eq0-via-then-k-eq0 w ↦ record { same = i.same; words = up-nil _ _ _ _ w.if-k-eq0.true ∙ sym i.left }
      | then-k-eq0-via-else-k-eq0+then-not-kidless w ↦ record { same = i.same; words = up_kept _ _ _ _ w.if-k-eq0.false w.kidless.ensures w.if-not-kidless.true ∙ sym i.left }
    ]

pub returns : goal.returns
returns c =
    let i = c.loop-level.invariant in
    record { same = i.same; words = up-end _ _ _ _ (omega arith) ∙ sym i.left }

pub loop-level-preserved : goal.loop-level-preserved
loop-level-preserved c =
    let i = c.loop-level.invariant in
    let s = c.free_row.ensures in
    let one_less : c.args.levels - c.loop-level._level - 1 ≡ c.args.levels - (c.loop-level._level + 1) = omega arith in
    let on = up-on _ _ _ (c.args.levels - c.loop-level._level) (λ z. omega arith) c.if-k-eq0.false c.kidless.ensures c.if-not-kidless.false c.link-above.ensures.1 s.words in
    record { same = same_then i.same s.same; within = omega (arith, c.link-above.ensures.0, s.same.cap); left = i.left ∙ on ∙ ap₂ (λ e cap. drop_up e c.free_row.new.self.t.now cap c.link-above.result) one_less (sym s.same.cap) }
