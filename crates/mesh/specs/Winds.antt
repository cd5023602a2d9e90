-- The winds in the order of a row's words.
-- Assumes nothing.
use Rattle.std.specs.Prelude.{ℕ, ◌+◌, List, ◌++◌, Bool, eqb}
use Rattle.mesh.specs.Place.{Wind, NE, SE, SW, NW, N, E, S, W, kid_winds, side_winds}
use Rattle.mesh.specs.Tools.{any}

abbrev pub winds : List Wind
winds = kid_winds ++ side_winds

abbrev pub position : Wind → ℕ
position NE = 0
position SE = 1
position SW = 2
position NW = 3
position N = 4
position E = 5
position S = 6
position W = 7

-- "1 to 4 kids NE, SE, SW, NW; 5 to 8 neighbours N, E, S, W"
abbrev pub word_of_wind : Wind → ℕ
word_of_wind w = position w + 1

-- a wind is one of a list
infix 20 ◌of◌
abbrev pub ◌of◌ : Wind → List Wind → Bool
w of ws = any (λ x. eqb (word_of_wind x) (word_of_wind w)) ws
