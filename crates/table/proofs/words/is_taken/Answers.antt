-- `table::words::is_taken` meets its contract.
use Rattle.table.proofs.Taken.{taken-by}
use Rattle.table.proofs.words.is_taken.Goals as goal

pub returns-then-n-cap : goal.returns-then-n-cap
returns-then-n-cap c = rw (taken-by c.args.t.now c.args.cap c.args.n, c.if-n-cap.true, c.is_free.ensures)

pub returns-else-n-cap : goal.returns-else-n-cap
returns-else-n-cap c = rw (taken-by c.args.t.now c.args.cap c.args.n, c.if-n-cap.false)
