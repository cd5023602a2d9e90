-- The border of a cell that is killed.
-- Assumes nothing.
use Rattle.std.specs.Prelude.{ℕ, List, ℤ}
use Rattle.edit_laws.specs.Tables.{Border, drop_corner, still_used}

-- its corners go that no cell touches
abbrev pub corners_gone : List ℤ → ℕ → ℕ → Border → List ℤ
corners_gone t cap d b = drop_corner (drop_corner (drop_corner (drop_corner t cap d b.both) cap d b.north) cap d b.east) cap d b.own

-- without the rows that are free; none south or west of it is
abbrev pub still_border : List ℤ → Border → Border
still_border t b = record { own = still_used t b.own; north = still_used t b.north; east = still_used t b.east; both = still_used t b.both; south = b.south; west = b.west }
