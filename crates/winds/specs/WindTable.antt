-- The table of the winds as the code holds it: a wind by its place in the order of the words.
-- Assumes nothing.
use Rattle.std.specs.Prelude.{ℕ, ◌/◌, ◌<◌, ◌≡◌, map, get_or}
use Rattle.mesh.specs.Place as Place
use Rattle.mesh.specs.Place.{Wind}
use Rattle.mesh.specs.Winds.{winds, position}
use Rattle.winds.specs.declared.Compass.{Compass}
use Rattle.winds.specs.declared.Digits.{Digits}

abbrev pub compass_of : Wind → Compass
compass_of w = record { east = (Place.compass w).east; north = (Place.compass w).north; opposite = position (Place.compass w).opposite }

abbrev pub compass_at : ℕ → Compass
compass_at i = get_or (map compass_of winds) i (record { east = 0; north = 0; opposite = 0 })

-- ---- kids, by the same table

-- "2i+l, 2j+m": the digits of a kid are the offsets of its wind halved
abbrev pub digits_of : Compass → Digits
digits_of c = record { l = c.east / 2; m = c.north / 2 }

-- those of the kid in the wind at place i
abbrev pub kid_l : ℕ → ℕ
kid_l i = (digits_of (compass_at i)).l

abbrev pub kid_m : ℕ → ℕ
kid_m i = (digits_of (compass_at i)).m

-- the kid wind with the digits l and m stands at place i
pub record KidWind (l m i : ℕ) : Type 0 where
  pub is-kid : i < 4
  pub l-is : kid_l i ≡ l
  pub m-is : kid_m i ≡ m
