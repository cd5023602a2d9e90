-- Flags in two passes over the places of one depth: walls anew at some of them, and then points and cells at those and more. If the walls elsewhere
-- are those of the cells before, and elsewhere than at both the other flags are too, then all flags of the depth are the mesh's.
-- Assumes nothing.
use Prim.Native.Nat.{ℕ}
use mathlib.Core.Path.{◌≡◌, refl, ap, ◌∙◌, subst}
use mathlib.Core.Bool.{Bool, true, false, cond}
use mathlib.Core.Option.{Option, some}
use mathlib.Core.List.{List}
use lib.Dec.{T}
use lib.ListN.{get_or}
use Rattle.mesh.specs.Tools.{any, digits}
use Rattle.mesh.specs.Place.{Place, Grid}
use Rattle.mesh.specs.Mesh.{Wall, is_wall, is_boundary, is_green, wall_h, wall_v, derived, flags}
use Rattle.mesh.specs.State.{Entry, stands}
use Rattle.place_laws.proofs.Bools.{no-is}
use Rattle.table_laws.proofs.Pictured.{digit_at}
use Rattle.edit_laws.specs.Linked.{Flags}
use Rattle.edit_laws.proofs.FlagsAnew.{bit, Ready, Walled, wall_flags, wall_h-bit, wall_v-bit, boundary_h-bit, boundary_v-bit, green_h-bit, green_v-bit}
use Rattle.edit_laws.proofs.PassingRows.{among, Level, new_at, ready-new}
use Rattle.edit_laws.proofs.Walling.{walls_of, mesh_of, walls-cell, walls-point}

-- Before the first pass, at the depth e: c are the cells and m the marks, d the cells before; ws are the places whose walls are worked out, and ps
-- those whose points and cells are.
pub record Stale (g : Grid) (es : List Entry) (c d m : Place → Bool) (e : ℕ) (ws ps : List (Option Place)) (f : Flags) : Type 0 where
  pub ready : Ready g es f c e
  pub wall-level : Level e ws
  pub point-level : Level e ps
  pub marked : (q : Place) → q.depth ≡ e → T (any (stands q) es) → bit 12 (f q) ≡ m q
  pub away : (q : Place) → q.depth ≡ e → T (any (stands q) es) → (T (among q ws) → ⊥) → f q ≡ digits (flags g d q (m q))
  pub same-walls : (q : Place) → q.depth ≡ e → (T (among q ws) → ⊥) → (wall_h g d (some q) ≡ wall_h g c (some q)) × (wall_v g d (some q) ≡ wall_v g c (some q))
  pub same_flags : (q : Place) → q.depth ≡ e → (T (among q ws) → ⊥) → (T (among q ps) → ⊥) → derived g d q ≡ derived g c q

module _ {g : Grid} {es : List Entry} {c d m : Place → Bool} {e : ℕ} {ws ps : List (Option Place)} {f : Flags} (s : Stale g es c d m e ws ps f) where
  abbrev pub walls : Flags
  walls = new_at (walls_of g c) ws f

  abbrev pub twice : Flags
  twice = new_at (mesh_of g c) ps walls

  outside : (q : Place) (qs : List (Option Place)) → among q qs ≡ false → T (among q qs) → ⊥
  outside q qs i t = let u : T false = subst T i t in u

  -- the walls are worked out, or did not change
  first : (k : ℕ) (y : Bool) (q : Place) → q.depth ≡ e → T (any (stands q) es) → get_or (wall_flags g c q (bit 12 (f q))) k false ≡ y
      → ((T (among q ws) → ⊥) → bit k (digits (flags g d q (m q))) ≡ y) → bit k (walls q) ≡ y
  first k y q i t own other = go (among q ws) refl
    where
      go : (b : Bool) → among q ws ≡ b → bit k (cond (among q ws) (walls_of g c q (bit 12 (f q))) (f q)) ≡ y
      go true j = rw j (digit_at (wall_flags g c q (bit 12 (f q))) k ∙ own)
      go false j = rw j (ap (bit k) (s.away q i t (outside q ws j)) ∙ other (outside q ws j))

  pub walled : Walled g es walls c e
  unfolding wall_flags
  walled = record {
    ready = ready-new (walls_of g c) (walls-cell g c) s.ready ws s.wall-level;
    walls_h = λ q i t. first 1 (is_wall (hor q)) q i t refl (λ o. wall_h-bit g d q (m q) ∙ ap is_wall (s.same-walls q i o).0);
    walls_v = λ q i t. first 2 (is_wall (ver q)) q i t refl (λ o. wall_v-bit g d q (m q) ∙ ap is_wall (s.same-walls q i o).1);
    boundary_h = λ q i t. first 4 (is_boundary (hor q)) q i t refl (λ o. boundary_h-bit g d q (m q) ∙ ap is_boundary (s.same-walls q i o).0);
    boundary_v = λ q i t. first 5 (is_boundary (ver q)) q i t refl (λ o. boundary_v-bit g d q (m q) ∙ ap is_boundary (s.same-walls q i o).1);
    green_h = λ q i t. first 8 (is_green (hor q)) q i t refl (λ o. green_h-bit g d q (m q) ∙ ap is_green (s.same-walls q i o).0);
    green_v = λ q i t. first 9 (is_green (ver q)) q i t refl (λ o. green_v-bit g d q (m q) ∙ ap is_green (s.same-walls q i o).1);
  }
    where
      hor : Place → Wall
      hor q = wall_h g c (some q)

      ver : Place → Wall
      ver q = wall_v g c (some q)

  -- all flags of the depth are right then
  pub twice-right : ((q : Place) → T (among q ws) → T (among q ps)) → (q : Place) → q.depth ≡ e → T (any (stands q) es) → twice q ≡ digits (flags g c q (m q))
  unfolding flags
  twice-right more q i t = go (among q ps) refl
    where
      kept : (b : Bool) → bit 12 (cond b (walls_of g c q (bit 12 (f q))) (f q)) ≡ m q
      kept true = walls-point g c q (bit 12 (f q)) ∙ s.marked q i t
      kept false = s.marked q i t

      go : (b : Bool) → among q ps ≡ b → cond (among q ps) (mesh_of g c q (bit 12 (walls q))) (walls q) ≡ digits (flags g c q (m q))
      go true j = rw j (ap (mesh_of g c q) (kept (among q ws)))
      go false j =
          let o : T (among q ws) → ⊥ = λ u. outside q ps j (more q u) in
          rw (j, no-is (among q ws) o) (s.away q i t o ∙ rw (s.same_flags q i o (outside q ps j)))

  -- and those of another depth stay
  pub twice-else : (q : Place) → (q.depth ≡ e → ⊥) → twice q ≡ f q
  twice-else q o = rw (no-is (among q ps) (λ t. o (s.point-level q t)), no-is (among q ws) (λ t. o (s.wall-level q t)))
