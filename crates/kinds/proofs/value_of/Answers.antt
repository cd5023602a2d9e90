-- `kinds::value_of` meets its contract: a finite pattern is a value, and any other is refused like an infinite one.
use Rattle.kinds.proofs.Patterns.{finite-pattern, infinite-pattern, stands-for}
use Rattle.kinds.proofs.value_of.Goals as goal

pub float_from_bits-result : goal.float_from_bits-result
float_from_bits-result c = finite-pattern _ c.if-w-lt9218868437227405312.true

pub float_from_bits-result-2 : goal.float_from_bits-result-2
float_from_bits-result-2 c = infinite-pattern

pub returns : goal.returns
returns c = stands-for _ c.if-w-lt9218868437227405312.false
