-- What a request makes of what a cell carries (01, 'Build and requests').
-- Assumes nothing.
use Rattle.std.specs.Prelude.{true, false, Float}
use Rattle.mesh.specs.State.{Cell, Value, blank, measured, carried}

-- "kids of a blank cell are blank, otherwise carried"
abbrev pub inherited : Value → Value
inherited blank = blank
inherited (measured x) = carried x
inherited (carried x) = carried x

abbrev pub kid_cell : Cell → Cell
kid_cell x = record { sentenced = false; value = inherited x.value }

abbrev pub sentenced_cell : Cell → Cell
sentenced_cell x = record { sentenced = true; value = x.value }

-- "set value, status 1"
abbrev pub measured_cell : Float → Cell → Cell
measured_cell y x = record { sentenced = x.sentenced; value = measured y }
