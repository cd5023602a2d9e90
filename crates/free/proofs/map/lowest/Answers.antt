-- `free::map::lowest` meets its contract: the zeros below the lowest bit that is set.
use native.Mathlib.Nat.{lt_of_le_of_lt}
use lib.Dec.{lit<}
use lib.Count.{trailing_le}
use Rattle.free.proofs.MapBits.{low-is}
use Rattle.free.proofs.map.lowest.Goals as goal

pub overflow_cast-result : goal.overflow_cast-result
overflow_cast-result c = record { fits = lt_of_le_of_lt (trailing_le 64 _) (lit< tt) }

pub returns : goal.returns
returns c = low-is _ c.requires c.ranges.x.fits
