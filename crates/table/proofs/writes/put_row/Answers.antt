-- `table::writes::put_row` meets its contract: the part of the table that is written is the row.
use Rattle.table.proofs.PutRows.{part-put}
use Rattle.table.proofs.writes.put_row.Goals as goal

pub returns : goal.returns
returns c = part-put c.args.t.now c.args.n c.args.x _ c.copy_from_slice.ensures.after
