-- `free::map::FreeMap::next` meets its contract: the first free number from 1 on.
use native.Mathlib.Omega.{arith}
use Rattle.free.proofs.FirstFree.{first-hit, first-none}
use Rattle.free.proofs.map.FreeMap.next.Goals as goal

pub returns-then-r-lt4096 : goal.returns-then-r-lt4096
returns-then-r-lt4096 c = λ f h. first-hit f (c.from-r.ensures f h) c.if-r-lt4096.true

pub returns-else-r-lt4096 : goal.returns-else-r-lt4096
returns-else-r-lt4096 c = λ f h. first-none f (omega arith) (c.from-r.ensures f h) c.if-r-lt4096.false
