-- `apply::EditedTable::set_value` meets its contract: no number becomes free, so that the map stays the map of the table.
use Rattle.std.proofs.Common.{refl}
use Rattle.apply.proofs.Following.{same-mapped}
use Rattle.apply.proofs.EditedTable.set_value.Goals as goal

pub set_value-requires : goal.set_value-requires
set_value-requires c = c.requires.pictured

pub returns : goal.returns
returns c =
    let (a, free) = c.set_value.ensures in
    record { applied = a; kept = record { same-words = refl; same-values = refl; same-counts = refl; same-map = refl; same-capacity = refl; same-depth = refl; maps = same-mapped free c.requires.maps } }
