-- `free::map::FreeMap::count` meets its contract.
use Rattle.free.proofs.map.FreeMap.count.Goals as goal

pub returns : goal.returns
returns c = λ f h. let h' = rw (← c.self.view_is) at h in h'.counts
