-- `free::map::FreeMap::load` meets its contract: the map has the free rows from n on.
use Rattle.table.specs.Words.{free_at}
use Rattle.free.specs.FreeMap.{Mapped}
use Rattle.free.proofs.LoadingMap.{from}
use Rattle.free.proofs.map.FreeMap.load.Given as goal

abbrev pub invariant-loop-n : goal.invariant-loop-n
invariant-loop-n l = Mapped (from l.n (free_at l.t)) l.self-inside.words l.top l.count
