-- A row with its walls anew, and then with the flags that the walls around it make: of a linked table one place's flags change, and become the
-- mesh's with the row's own mark Sentenced.
-- Assumes nothing.
use Prim.Native.Nat.{ℕ, ◌≤◌}
use mathlib.Core.Path.{◌≡◌}
use mathlib.Core.Logic.{◌≢◌}
use mathlib.Core.Bool.{Bool}
use mathlib.Core.Option.{some}
use mathlib.Core.List.{List}
use borrow.Author.Tests.{ne_eqb}
use Rattle.edit_laws.specs.Rooted.{Rooted}
use Rattle.mesh.specs.Tools.{digits}
use Rattle.mesh.specs.Place.{Place, Grid, base}
use Rattle.mesh.specs.Mesh.{flags}
use Rattle.mesh.specs.State.{Entry, place_of, entry}
use Rattle.table.specs.Words.{flag_of}
use Rattle.edit_laws.specs.Linked.{Flags, table_with, with_flags}
use Rattle.edit_laws.specs.Anew.{wall_row, point_row}
use Rattle.edit_laws.proofs.Setting.{put-flags}
use Rattle.edit_laws.proofs.FlagsAnew.{bit, Ready, Walled, wall_flags, flag-bit, walls-anew, points-anew}

pub wall-linked : {g : Grid} {cap : ℕ} {es : List Entry} → Rooted g cap es → (f : Flags) (c : Place → Bool) (n : ℕ) (p : Place) → n ≢ 0 → place_of (entry es n) ≡ some p
    → base g ≤ p.depth → Ready g es f c p.depth
    → wall_row cap (base g) (table_with g es f) n ≡ table_with g es (with_flags p (digits (wall_flags g c p (bit 12 (f p)))) f)
unfolding wall_row
wall-linked {g} {cap} {es} r f c n p z h l ready =
    rw (ne_eqb n 0 z, walls-anew r f c n p h l ready (flag_of (table_with g es f) 12 n), flag-bit r f n p h 12)
    (put-flags g es r.numbered f n p h (digits (wall_flags g c p (bit 12 (f p)))))

pub point-linked : {g : Grid} {cap : ℕ} {es : List Entry} → Rooted g cap es → (f : Flags) (c : Place → Bool) (n : ℕ) (p : Place) → n ≢ 0 → place_of (entry es n) ≡ some p
    → base g ≤ p.depth → Walled g es f c p.depth
    → point_row cap (table_with g es f) n ≡ table_with g es (with_flags p (digits (flags g c p (bit 12 (f p)))) f)
unfolding point_row
point-linked {g} {cap} {es} r f c n p z h l walled =
    rw (ne_eqb n 0 z, points-anew r f c n p h l walled)
    (put-flags g es r.numbered f n p h (digits (flags g c p (bit 12 (f p)))))
