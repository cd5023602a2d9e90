-- `walk::is_bare` meets its contract, word by word.
use mathlib.Core.Path.{ap₂}
use mathlib.Core.Bool.{◌&&◌}
use Rattle.walk.proofs.is_bare.Goals as goal

pub returns : goal.returns
returns c = ap₂ ◌&&◌ c.says.ensures (ap₂ ◌&&◌ c.says-2.ensures (ap₂ ◌&&◌ c.says-3.ensures c.says-4.ensures))
