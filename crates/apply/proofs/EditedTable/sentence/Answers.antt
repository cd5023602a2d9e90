-- `apply::EditedTable::sentence` meets its contract: no number becomes free, so that the map stays the map of the table.
use Rattle.std.proofs.Common.{refl}
use Rattle.apply.proofs.Following.{same-mapped}
use Rattle.apply.proofs.EditedTable.sentence.Goals as goal

pub sentence-requires : goal.sentence-requires
sentence-requires c = c.requires.pictured

pub returns : goal.returns
returns c =
    let (a, free) = c.sentence.ensures in
    record { applied = a; kept = record { same-words = refl; same-values = refl; same-counts = refl; same-map = refl; same-capacity = refl; same-depth = refl; maps = same-mapped free c.requires.maps } }
