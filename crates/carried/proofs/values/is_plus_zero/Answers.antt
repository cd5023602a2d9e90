-- `carried::values::is_plus_zero` meets its contract: by the bits of a float that equals itself.
use mathlib.Core.Path.{sym, subst}
use lib.Dec.{T}
use Rattle.mesh.specs.State.{plus_zero}
use Rattle.carried.proofs.Bits.{same-no-nan, differs-other, not-same-left, zero_bits}
use Rattle.carried.proofs.values.is_plus_zero.Goals as goal

pub float_to_bits-result : goal.float_to_bits-result
float_to_bits-result c = same-no-nan _ c.if-x.true

pub returns-then-x : goal.returns-then-x
returns-then-x c = zero_bits c.args.x (subst T (sym c.well_formed.0.1) tt)

pub returns : goal.returns
returns c = not-same-left c.args.x plus_zero (sym (differs-other c.args.x c.if-x.false))
