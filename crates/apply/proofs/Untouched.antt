-- A table that is edited keeps its lists, its capacity and its depth.
-- Assumes nothing.
use Rattle.std.proofs.Common.{refl}
use Rattle.apply.specs.Edited.{Ready, Kept}
use Rattle.apply.specs.declared.EditedTable.{EditedTable}

pub unchanged : {e : EditedTable} → Ready e → Kept e e
unchanged r = record { same-words = refl; same-values = refl; same-counts = refl; same-map = refl; same-capacity = refl; same-depth = refl; maps = r.maps }
