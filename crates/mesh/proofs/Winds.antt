-- The rule of the winds: the opposite of the opposite is the wind itself, and the two offsets cancel (each is one too large).
-- Assumes nothing.
use Prim.Native.Nat.{◌+◌, ◌<◌}
use mathlib.Core.Path.{◌≡◌, refl}
use lib.Dec.{lit<}
use lib.ListN.{get_or}
use Rattle.mesh.specs.Place.{Wind, NE, SE, SW, NW, N, E, S, W, compass}
use Rattle.mesh.specs.Winds.{winds, position}

pub record Rule (w : Wind) : Type 0 where
  pub twice : (compass (compass w).opposite).opposite ≡ w
  pub east-back : (compass w).east + (compass (compass w).opposite).east ≡ 2
  pub north-back : (compass w).north + (compass (compass w).opposite).north ≡ 2
  pub in_table : get_or winds (position w) NE ≡ w
  pub below : position w < 8

pub rule : (w : Wind) → Rule w
rule NE = record { twice = refl; east-back = refl; north-back = refl; in_table = refl; below = lit< tt }
rule SE = record { twice = refl; east-back = refl; north-back = refl; in_table = refl; below = lit< tt }
rule SW = record { twice = refl; east-back = refl; north-back = refl; in_table = refl; below = lit< tt }
rule NW = record { twice = refl; east-back = refl; north-back = refl; in_table = refl; below = lit< tt }
rule N = record { twice = refl; east-back = refl; north-back = refl; in_table = refl; below = lit< tt }
rule E = record { twice = refl; east-back = refl; north-back = refl; in_table = refl; below = lit< tt }
rule S = record { twice = refl; east-back = refl; north-back = refl; in_table = refl; below = lit< tt }
rule W = record { twice = refl; east-back = refl; north-back = refl; in_table = refl; below = lit< tt }
