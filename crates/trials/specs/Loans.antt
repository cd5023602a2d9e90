-- What a call on a loan keeps.
-- Assumes nothing.
use Rattle.std.specs.Prelude.{◌≡◌}
use Rattle.trials.specs.declared.loan.Loan.{Loan}

-- l became l': the same lists are lent, with the same capacity and arguments
pub record Kept (l l' : Loan) : Type 0 where
  pub same-words : l'.words.ghost_name ≡ l.words.ghost_name
  pub same-values : l'.values.ghost_name ≡ l.values.ghost_name
  pub same-counts : l'.counts.ghost_name ≡ l.counts.ghost_name
  pub same-capacity : l'.capacity ≡ l.capacity
  pub same-arguments : l'.arguments ≡ l.arguments
