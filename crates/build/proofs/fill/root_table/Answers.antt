-- `build::fill::root_table` meets its contract.
use Rattle.build.proofs.Empty.{rooted}
use Rattle.build.proofs.fill.root_table.Goals as goal

pub returns : goal.returns
returns c = rooted _ _ _ _ _ c.empty_table.ensures c.put_level.ensures c.put.ensures
