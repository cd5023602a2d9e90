-- `lines::leaf_lines::bits` meets its contract: only a finite value is asked for its bits.
use Rattle.std.proofs.Common.{sym, ◌∙◌}
use Rattle.carried.proofs.Bits.{finite-no-nan}
use Rattle.table.proofs.Tests.{chosen, passed}
use Rattle.lines.specs.LineRows.{bits_of}
use Rattle.lines.proofs.leaf_lines.bits.Goals as goal

pub float_to_bits-result : goal.float_to_bits-result
float_to_bits-result c = finite-no-nan _ (sym c.is_finite.ensures ∙ c.if-is_finite.true)

pub returns-then-is_finite : goal.returns-then-is_finite
unfolding bits_of
returns-then-is_finite c = chosen _ _ _ (sym c.is_finite.ensures ∙ c.if-is_finite.true)

pub returns : goal.returns
unfolding bits_of
returns c = passed _ _ _ (sym c.is_finite.ensures ∙ c.if-is_finite.false)
