-- What the code reads at a place of the table of winds: the words of the wind there and of its opposite.
-- Assumes nothing.
use mathlib.Core.Path.{◌≡◌, ap, subst, sym, ◌∙◌}
use Prim.Native.Nat.{ℕ, ◌+◌, ◌<◌}
use lib.ListN.{get_or, get_or-map}
use Rattle.mesh.specs.Place.{NE, compass}
use Rattle.mesh.specs.Winds.{winds, position, word_of_wind}
use Rattle.winds.specs.WindTable.{compass_of, compass_at}
use Rattle.winds.specs.declared.Compass.{Compass}
use Rattle.mesh.proofs.Winds.{rule}
use Rattle.worked.proofs.Offsets.{at}
use Rattle.std.proofs.lemmas.List.{get_or_default}
use mathlib.Core.List.{map}

compass-at : (i : ℕ) → i < 8 → compass_at i ≡ compass_of (get_or winds i NE)
compass-at i h = get_or_default (map compass_of winds) i _ (compass_of NE) h ∙ get_or-map compass_of winds i NE

pub own-word : (i : ℕ) → i < 8 → i + 1 ≡ word_of_wind (get_or winds i NE)
own-word i h = (at i h).word

module _ (x : Compass) (i : ℕ) (h : i < 8) (e : x ≡ compass_at i) where
  opposite : x.opposite ≡ position (compass (get_or winds i NE)).opposite
  opposite = ap (λ c. c.opposite) (e ∙ compass-at i h)

  pub opposite-word : x.opposite + 1 ≡ word_of_wind (compass (get_or winds i NE)).opposite
  opposite-word = ap (λ k. k + 1) opposite

  pub opposite-below : x.opposite < 8
  opposite-below = subst (λ k. k < 8) (sym opposite) (rule (compass (get_or winds i NE)).opposite).below
