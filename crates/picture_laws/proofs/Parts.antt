-- What is lent is the picture of a state exactly if each part of it is.
-- Assumes nothing.
use mathlib.Core.Path.{◌≡◌, ap}
use Rattle.mesh.specs.State.{State}
use Rattle.mesh.specs.Picture.{table, amounts, Lent, picture}

module _ {l : Lent} (s : State) where
  pub picture-header : l ≡ picture s → l.header ≡ s.header
  picture-header e = ap (λ (x : Lent). x.header) e

  pub picture-words : l ≡ picture s → l.words ≡ table s
  picture-words e = ap (λ (x : Lent). x.words) e

  pub picture-values : l ≡ picture s → l.values ≡ amounts s
  picture-values e = ap (λ (x : Lent). x.values) e

  pub parts-picture : l.header ≡ s.header → l.words ≡ table s → l.values ≡ amounts s → l ≡ picture s
  parts-picture h t v = λ i. record { header = h i; words = t i; values = v i }
