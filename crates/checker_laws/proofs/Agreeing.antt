-- The test by rows and links says the same as the definition of a sound table, on lists of the right lengths: the one way by the picture of a
-- valid state, the other by the decoded state.
-- Assumes nothing.
use Prim.Native.Nat.{ℕ}
use mathlib.Core.Path.{◌≡◌}
use mathlib.Core.Bool.{Bool}
use lib.Dec.{T}
use Rattle.table.specs.Words.{Fits}
use Rattle.mesh.specs.Call.{Sizes, Rectangle}
use Rattle.mesh.specs.Picture.{Lent, Sound}
use Rattle.mesh.specs.Test.{sound}
use Rattle.checker_laws.specs.Rowwise.{rowwise}
use Rattle.place_laws.proofs.Bools.{bool-ext}
use Rattle.picture_laws.proofs.Accepted.{sound-capacity}
use Rattle.picture_laws.proofs.Soundness.{sound-test, test-sound}
use Rattle.checker_laws.proofs.Passing.{sound-rowwise}
use Rattle.checker_laws.proofs.Accepting.{rowwise-sound}

module _ (cap : ℕ) (l : Lent) where
  abbrev by_rows : Bool
  by_rows = rowwise l.header.grid l.words cap l.values

  -- what is sound passes
  passes : Sizes cap l → Sound l → T by_rows
  passes z o = rw (o.is-picture, ← sound-capacity cap l z o) (sound-rowwise o.state o.valid)

  pub rowwise-is-sound : Sizes cap l → Rectangle l.header.grid → Fits l.words → rowwise l.header.grid l.words cap l.values ≡ sound l
  rowwise-is-sound z r f = bool-ext by_rows (sound l) (λ x. sound-test (rowwise-sound cap l z r f x)) (λ x. passes z (test-sound x))
