-- A row that is written as a part of the table.
-- Assumes nothing.
use mathlib.Core.Path.{◌≡◌, sym}
use mathlib.Core.List.{List}
use Prim.Native.Nat.{ℕ, ◌+◌, ◌-◌, ◌*◌}
use native.Mathlib.Omega.{arith}
use borrow.Rule.Slice.PartMut.{put_mid}
use Rattle.std.proofs.lemmas.List.{drop-drop, append_assoc}
use lib.ListN.{drop, take}
use lib.IntN.{ℤ}
use Rattle.mesh.specs.Picture.{row_words}
use Rattle.table.specs.Writes.{put_row}

pub part-put : (t : List ℤ) (n : ℕ) (x y : List ℤ) → y ≡ x → put_mid (n * row_words) (n * row_words + row_words - n * row_words) t y ≡ put_row t n x
unfolding put_row
part-put t n x y e =
    let width : n * 14 + 14 - n * 14 ≡ 14 = omega arith in
    rw (e, width, drop-drop 14 (n * 14) t) (sym (append_assoc (take (n * 14) t) x (drop (n * 14 + 14) t)))
