-- The two steps that give a row its flags: its walls first, and then what the walls around it make.
-- Assumes nothing.
use Prim.Native.Nat.{ℕ, ◌≤◌}
use mathlib.Core.Path.{◌≡◌, refl}
use mathlib.Core.Bool.{Bool, true, false, cond}
use mathlib.Core.Option.{Option, some}
use mathlib.Core.List.{List, [], ◌∷◌}
use Rattle.edit_laws.specs.Rooted.{Rooted}
use Rattle.mesh.specs.Tools.{digits}
use Rattle.mesh.specs.Place.{Place, Grid, base}
use Rattle.mesh.specs.Mesh.{flags}
use Rattle.mesh.specs.State.{Entry}
use Rattle.table_laws.proofs.Pictured.{digit_at}
use Rattle.edit_laws.specs.Linked.{Flags}
use Rattle.edit_laws.specs.Anew.{wall_row, point_row}
use Rattle.edit_laws.proofs.FlagsAnew.{bit, Ready, Walled, wall_flags, complete-bit, wall_h-bit, wall_v-bit, boundary_h-bit, boundary_v-bit, green_h-bit, green_v-bit, sentenced-bit}
use Rattle.edit_laws.proofs.Refreshing.{wall-linked, point-linked}
use Rattle.edit_laws.proofs.PassingRows.{among, new_at, among_one, ready-new, RowStep}

module _ (g : Grid) (c : Place → Bool) where
  -- the flags of a place that are its own walls
  abbrev pub walls_of : Place → Bool → ℕ
  walls_of q b = digits (wall_flags g c q b)

  -- all flags of a place
  abbrev pub mesh_of : Place → Bool → ℕ
  mesh_of q b = digits (flags g c q b)

  pub walls-cell : (q : Place) (b : Bool) → bit 0 (walls_of q b) ≡ c q
  unfolding wall_flags
  walls-cell q b = digit_at (wall_flags g c q b) 0

  pub walls-point : (q : Place) (b : Bool) → bit 12 (walls_of q b) ≡ b
  unfolding wall_flags
  walls-point q b = digit_at (wall_flags g c q b) 12

module _ {g : Grid} {es : List Entry} (c : Place → Bool) (e : ℕ) where
  -- all flags of a place have its walls in them
  walled-kept : (f : Flags) → Walled g es f c e → (q : Option Place) → ((p : Place) → q ≡ some p → p.depth ≡ e) → Walled g es (new_at (mesh_of g c) (q ∷ []) f) c e
  walled-kept f w q level = record {
    ready = ready-new (mesh_of g c) (complete-bit g c) w.ready (q ∷ []) (among_one q level);
    walls_h = λ o d t. either 1 o (among o (q ∷ [])) (wall_h-bit g c o _) (w.walls_h o d t);
    walls_v = λ o d t. either 2 o (among o (q ∷ [])) (wall_v-bit g c o _) (w.walls_v o d t);
    boundary_h = λ o d t. either 4 o (among o (q ∷ [])) (boundary_h-bit g c o _) (w.boundary_h o d t);
    boundary_v = λ o d t. either 5 o (among o (q ∷ [])) (boundary_v-bit g c o _) (w.boundary_v o d t);
    green_h = λ o d t. either 8 o (among o (q ∷ [])) (green_h-bit g c o _) (w.green_h o d t);
    green_v = λ o d t. either 9 o (among o (q ∷ [])) (green_v-bit g c o _) (w.green_v o d t);
  }
    where
      either : (k : ℕ) (o : Place) {y : Bool} (b : Bool) → bit k (mesh_of g c o (bit 12 (f o))) ≡ y → bit k (f o) ≡ y → bit k (cond b (mesh_of g c o (bit 12 (f o))) (f o)) ≡ y
      either k o true x y = x
      either k o false x y = y

module _ {g : Grid} {cap : ℕ} {es : List Entry} (r : Rooted g cap es) (c : Place → Bool) (e : ℕ) (low : base g ≤ e) where
  pub wall-step : RowStep g es (wall_row cap (base g)) (walls_of g c) (λ f. Ready g es f c e) e
  unfolding wall_row
  wall-step = record {
    mark = walls-point g c;
    nil = λ t. refl;
    one-row = λ f w n q z h d. wall-linked r f c n q z h (rw d low) (rw d w);
    kept = λ f w q level. ready-new (walls_of g c) (walls-cell g c) w (q ∷ []) (among_one q level);
  }

  pub point-step : RowStep g es (point_row cap) (mesh_of g c) (λ f. Walled g es f c e) e
  unfolding point_row
  point-step = record {
    mark = sentenced-bit g c;
    nil = λ t. refl;
    one-row = λ f w n q z h d. point-linked r f c n q z h (rw d low) (rw d w);
    kept = walled-kept c e;
  }
