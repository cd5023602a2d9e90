-- `free::map::clear_bit` meets its contract: a bit cleared is set first, and then taken away by `^`.
use Rattle.free.specs.FreeMap.{on, off}
use Rattle.free.proofs.MapBits.{bit_at}
use Rattle.free.proofs.map.clear_bit.Goals as goal

pub returns : goal.returns
unfolding on off
returns c = rw (bit_at c.args.b c.requires)
