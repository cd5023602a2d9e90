-- `checker::rowwise` meets its contract. The invariant: the rows below n pass, and they are counted.
use Prim.Native.Nat.{ℕ, ◌+◌}
use mathlib.Core.Path.{◌≡◌}
use mathlib.Core.Bool.{true}
use Rattle.header.specs.Headers.{header_of}
use Rattle.tally.specs.TallyRows.{row_counts}
use Rattle.checker_laws.specs.Rowwise.{below}
use Rattle.checker.proofs.Loop.{good}
use Rattle.checker.proofs.rowwise.Given as goal

abbrev pub invariant-loop-n : goal.invariant-loop-n
invariant-loop-n l = (k : ℕ) × (l.n ≡ k + 1) × (below k (good (header_of l.rows.header).grid l.rows.levels.t.now l.rows.levels.cap l.rows.v.now) ≡ true) × (l.c ≡ row_counts l.rows.levels.t.now l.rows.v.now l.rows.levels.cap k)
