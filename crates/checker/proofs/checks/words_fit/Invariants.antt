-- `checker::checks::words_fit` meets its contract. The invariant: the words below the index fit.
use Prim.Native.Nat.{ℕ, ◌<◌}
use Rattle.table.specs.Words.{FitsAt}
use Rattle.checker.proofs.checks.words_fit.Given as goal

abbrev pub invariant-loop-word : goal.invariant-loop-word
invariant-loop-word l = (k : ℕ) → k < l.word-index → FitsAt l.t k
