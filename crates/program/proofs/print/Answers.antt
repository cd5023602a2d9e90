-- `program::print` meets its contract: the head refuses, or all is printed on lists of the capacity.
use Rattle.answer.proofs.RefusalNumbers.{not-zero}
use Rattle.program.proofs.Printed.{prints, head-refused}
use Rattle.program.proofs.print.Goals as goal

pub returns-in-Err : goal.returns-in-Err
returns-in-Err c = prints _ _ (head-refused _ _ c.in-Err.ensures (not-zero c.in-Err.refusal)) c.write_refused.ensures
