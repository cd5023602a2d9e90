-- `checker::rowwise` meets its contract. The invariant: the rows below n pass, and they are counted.
use Prim.Native.Nat.{◌+◌}
use native.Mathlib.Omega.{arith}
use mathlib.Core.Path.{◌≡◌, refl, ap, ◌∙◌}
use mathlib.Core.Bool.{false}
use Rattle.place_laws.proofs.Bools.{is-yes}
use Rattle.tally.specs.TallyRows.{row_counts}
use Rattle.tally.proofs.RowCounting.{rows-roomy}
use Rattle.checker.proofs.Loop.{rows_more, no_row, all-rows}
use Rattle.checker.proofs.CountedRows.{row-placed, rows-added}
use Rattle.checker.proofs.rowwise.Goals as goal

pub loop-n-init : goal.loop-n-init
unfolding row_counts
loop-n-init c = (0, omega arith, refl, c.requires.1)

pub returns-then-not-row_ok : goal.returns-then-not-row_ok
returns-then-not-row_ok c =
    let (k, next, _, _) = c.loop-n.invariant in
    (no_row _ _ _ _ c.zero_ok.ensures c.if-not-zero_ok.false c.is_free.ensures c.if-is_free.false k (omega arith) (rw next at c.row_ok.ensures) c.if-not-row_ok.true, λ e. absurd (is-yes false e))

pub count_row-requires : goal.count_row-requires
count_row-requires c =
    let s = c.args.rows.now in
    let (k, next, _, counted) = c.loop-n.invariant in
    (s.levels.readable.plain, c.requires.0, omega arith, row-placed _ _ _ _ _ c.row_ok.ensures c.if-not-row_ok.false, rw counted (rows-roomy _ _ _ k (omega (arith, s.levels.readable.plain.sized.small))))

pub loop-n-preserved : goal.loop-n-preserved
loop-n-preserved c =
    let (k, next, passed, counted) = c.loop-n.invariant in
    (k + 1, omega arith, rows_more _ _ _ _ k passed (rw next at c.row_ok.ensures) c.if-not-row_ok.false, rows-added _ _ _ k counted (rw next at c.count_row.ensures))

pub returns-else-not-row_ok : goal.returns-else-not-row_ok
returns-else-not-row_ok c =
    let (k, next, passed, counted) = c.loop-n.invariant in
    let last : k + 1 ≡ c.args.rows.now.levels.cap = omega arith in (
      all-rows _ _ _ _ c.zero_ok.ensures c.if-not-zero_ok.false c.is_free.ensures c.if-is_free.false (k + 1) last (rows_more _ _ _ _ k passed (rw next at c.row_ok.ensures) c.if-not-row_ok.false),
      λ _. rows-added _ _ _ k counted (rw next at c.count_row.ensures) ∙ ap (row_counts _ _ _) last,
    )
