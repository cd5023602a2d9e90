-- The set rules worked out on an example: what each deed makes of a cell and its four kids, where every place has a measured cell.
-- Assumes nothing.
use mathlib.Core.Path.{◌≡◌, refl}
use mathlib.Core.Bool.{Bool, true, false}
use mathlib.Core.Option.{Option, none, some}
use mathlib.Core.List.{List, [], ◌∷◌, map}
use lib.IntN.{pos}
use lib.Ieee.{Float, fin}
use Rattle.mesh.specs.Place.{Place, kids}
use Rattle.mesh.specs.State.{Cell, Value, measured, carried, plus_zero}
use Rattle.mesh.specs.Deed.{Deed, Contents, refined, sentenced, removed, killed, set_rule}
use Rattle.mesh.proofs.References.{rules}

abbrev one : Float
one = fin false 1 (pos 0)

abbrev cell : Bool → Value → Option Cell
cell b w = some (record { sentenced = b; value = w })

abbrev here : Place
here = record { depth = 1; i = 0; j = 0 }

abbrev full : Contents
full q = cell false (measured one)

abbrev after : Deed → List (Option Cell)
after d = map (set_rule d full) (here ∷ kids here)

-- a cell, and its four kids
abbrev family : Option Cell → Option Cell → List (Option Cell)
family x y = x ∷ y ∷ y ∷ y ∷ y ∷ []

pub set-rules-worked : (after (refined here) ≡ family (cell false (measured one)) (cell false (carried one)))
    × (after (sentenced here) ≡ family (cell true (measured one)) (cell false (measured one)))
    × (after (removed here) ≡ family (cell false (measured one)) none)
    × (after (killed here) ≡ family none (cell false (measured one)))
    × (after (Deed.measured here plus_zero) ≡ family (cell false (measured plus_zero)) (cell false (measured one)))
unfolding rules set_rule
set-rules-worked = (refl, refl, refl, refl, refl)
