-- `refusals::one_row::set_at` meets its contract.
use Rattle.refusals.proofs.one_row.set_at.Goals as goal

pub returns : goal.returns
returns c = rw c.measured.ensures at c.put_carried.ensures
