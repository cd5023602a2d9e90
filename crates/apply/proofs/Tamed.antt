-- What the code asks for, and that it holds of every picture: lists of the right lengths, and words that are small.
-- Assumes nothing.
use Prim.Native.Nat.{ℕ, ◌+◌, ◌*◌, ◌≤◌, ◌<◌}
use native.Mathlib.Omega.{arith}
use mathlib.Core.Path.{◌≡◌, ap, ◌∙◌}
use mathlib.Core.List.{List}
use lib.ListN.{length}
use lib.IntN.{ℤ}
use lib.Ieee.{Float}
use Rattle.table_laws.proofs.PlainPicture.{flags-small, plain-picture}
use Rattle.mesh.specs.Place.{base}
use Rattle.mesh.specs.State.{State, grid_of, capacity}
use Rattle.mesh.specs.Valid.{Valid}
use Rattle.mesh.specs.Picture.{row_words, flags_word, table}
use Rattle.place_laws.proofs.Base.{base-range}
use Rattle.picture_laws.proofs.Rows.{table-length, amounts-length}
use Rattle.table.specs.Words.{word_of}
use Rattle.table.specs.Plain.{Plain}
use Rattle.patch.specs.Small.{AllSmall}
use Rattle.refine.proofs.Meeting.{picture-small}
use Rattle.apply.specs.Drawn.{lists, Drawn}
use Rattle.apply.proofs.Drawing.{drawn-words, drawn-values, from-picture}

-- the lengths of the lists and the ranges of the numbers
pub record Ranged (t : List ℤ) (v : List Float) (cap d : ℕ) : Type 0 where
  pub words : length t ≡ row_words * (cap + 1)
  pub values : length v ≡ cap + 1
  pub cap-from : 5 ≤ cap
  pub cap-to : cap ≤ 4095
  pub depth : d ≤ 6

-- the words of every row are small enough for sums with them to fit, and its links and flags are read as they stand
pub record Tame (t : List ℤ) (cap d : ℕ) : Type 0 where
  pub indices : AllSmall 1048576 t cap d
  pub flags : (n : ℕ) → word_of t n flags_word < 16384
  pub plain : Plain t cap

picture-tame : (s : State) → Valid s → Tame (table s) (capacity s) (base (grid_of s))
picture-tame s v = record { indices = picture-small v; flags = flags-small s; plain = plain-picture s v }

-- ---- of every picture

module _ {s : State} {cap d : ℕ} {t : List ℤ} {v : List Float} {c : List ℕ} (p : Drawn s cap d (lists t v c)) where
  pub drawn-tame : Tame t cap d
  drawn-tame = from-picture p Tame (picture-tame s p.valid)

  pub drawn-ranged : Ranged t v cap d
  drawn-ranged =
      let (least, most) = base-range (grid_of s) p.valid.rectangle in
      let x : length t ≡ length s.entries * row_words = ap length (drawn-words p) ∙ table-length s in
      let y : length v ≡ length s.entries = ap length (drawn-values p) ∙ amounts-length s in
      let size = p.valid.sizes in
      let same = p.is-capacity in
      let deep = p.is-depth in
      record { words = omega arith; values = omega arith; cap-from = omega arith; cap-to = omega arith; depth = omega arith }
