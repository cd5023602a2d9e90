-- What a row carries, by its word and its value.
-- Assumes nothing.
use Prim.Native.Nat.{ℕ}
use mathlib.Core.Path.{◌≡◌, refl}
use mathlib.Core.List.{List}
use lib.ListN.{get_or}
use lib.IntN.{ℤ}
use lib.Ieee.{Float}
use Rattle.mesh.specs.State.{plus_zero}
use Rattle.mesh.specs.Picture.{status_word}
use Rattle.table.specs.Words.{word_of}
use Rattle.carried.specs.Carried.{carried_of, status_of}

module _ (t : List ℤ) (v : List Float) (n : ℕ) where
  pub status-word : word_of t n status_word ≡ status_of (carried_of t v n)
  unfolding word_of carried_of
  status-word = refl

  pub value-listed : get_or v n plus_zero ≡ (carried_of t v n).value
  unfolding carried_of
  value-listed = refl
