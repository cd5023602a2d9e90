-- `free::map::set_bit` meets its contract: a bit set is an `|` with a power of two.
use Rattle.free.specs.FreeMap.{on}
use Rattle.free.proofs.MapBits.{bit_at}
use Rattle.free.proofs.map.set_bit.Goals as goal

pub returns : goal.returns
unfolding on
returns c = rw (bit_at c.args.b c.requires)
