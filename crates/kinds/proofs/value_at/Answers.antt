-- `kinds::value_at` meets its contract: the value's bytes stand two behind the first of the body.
use Rattle.kinds.proofs.Bodies.{field-behind}
use Rattle.kinds.proofs.value_at.Goals as goal

pub returns : goal.returns
returns c = rw (field-behind _ _ 2 8, ← c.high_first.ensures) c.value_of.ensures
