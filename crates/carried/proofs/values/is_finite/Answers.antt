-- `carried::values::is_finite` meets its contract.
use mathlib.Core.Path.{◌∙◌}
use Rattle.carried.proofs.Bits.{finite-is}
use Rattle.carried.proofs.values.is_finite.Goals as goal

pub returns : goal.returns
returns c = c.is_finite.ensures.value ∙ finite-is c.args.x
