-- `free::map::FreeMap::lacks` meets its contract.
use native.Mathlib.Omega.{arith}
use Rattle.free.specs.FreeMap.{bit, map_bit}
use Rattle.free.proofs.map.FreeMap.lacks.Goals as goal

pub returns : goal.returns
unfolding bit map_bit
returns c = rw (← c.self.view_is) (omega arith)
