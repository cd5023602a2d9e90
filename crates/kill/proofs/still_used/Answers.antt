-- `kill::still_used` meets its contract.
use native.Mathlib.Omega.{arith}
use mathlib.Core.Path.{sym, ◌∙◌}
use borrow.Author.Tests.{eq-eqb, ne_eqb}
use Rattle.kill.proofs.still_used.Goals as goal

pub returns-then-word-eq-FREE : goal.returns-then-word-eq-FREE
returns-then-word-eq-FREE c = (omega arith, rw (eq-eqb _ _ (sym c.word.ensures ∙ c.if-word-eq-FREE.true)))

pub returns-else-word-eq-FREE : goal.returns-else-word-eq-FREE
returns-else-word-eq-FREE c = (omega arith, rw (ne_eqb _ _ (λ e. c.if-word-eq-FREE.false (c.word.ensures ∙ e))))
