-- A row is touched, by the marks of the rows around it, exactly if its place is by the cells.
-- Assumes nothing.
use Prim.Native.Nat.{ℕ, ◌≤◌}
use mathlib.Core.Path.{◌≡◌, refl, sym, ap, ◌∙◌}
use mathlib.Core.Bool.{Bool}
use mathlib.Core.Option.{Option, none, some}
use mathlib.Core.List.{List}
use lib.IntN.{ℤ}
use Rattle.worked.specs.Worked.{touched_in}
use Rattle.edit_laws.specs.Rooted.{Rooted}
use Rattle.mesh.specs.Place.{Place, Grid, S, W, SW, base, step, then}
use Rattle.mesh.specs.Mesh.{on, touched}
use Rattle.mesh.specs.State.{Entry, place_of, entry, number_of}
use Rattle.table.specs.Words.{link_of, flag_of}
use Rattle.place_laws.proofs.Bools.{or_right}
use Rattle.place_laws.proofs.Steps.{southwest}
use Rattle.place_laws.proofs.Walls.{wall_h-cells, wall_h-touched}
use Rattle.edit_laws.specs.Linked.{Flags, table_with}
use Rattle.edit_laws.proofs.FlagsAnew.{Ready, zero_flag, zero-link, link-side, by_place, cell-of, cell-side, beside}

module _ {g : Grid} {cap : ℕ} {es : List Entry} (r : Rooted g cap es) (f : Flags) (c : Place → Bool) (e : ℕ) (low : base g ≤ e) (ready : Ready g es f c e) where
  abbrev t : List ℤ
  t = table_with g es f

  -- the cell south of a place that may be missing: where there is one, the place is touched and has a row
  cell-south : (o : Option Place) → ((q : Place) → o ≡ some q → q.depth ≡ e) → flag_of t 0 (link_of t cap (number_of es o) 7) ≡ on g c (then (step g S) o)
  cell-south none l = ap (flag_of t 0) (zero-link r f S tt) ∙ zero_flag r f 0
  cell-south (some q) l =
      by_place r f c e low ready (λ n. flag_of t 0 (link_of t cap n 7)) (λ q. on g c (step g S q)) (ap (flag_of t 0) (zero-link r f S tt) ∙ zero_flag r f 0)
      (λ q u. wall_h-touched g c q (rw (wall_h-cells g c q) (or_right (c q) (on g c (step g S q)) u)))
      (λ n q h d. cell-side r f c e low ready S tt n q h d) q (l q refl)

  pub touched-row : (n : ℕ) (q : Place) → place_of (entry es n) ≡ some q → q.depth ≡ e → touched_in t cap n ≡ touched g c q
  unfolding touched_in touched
  touched-row n q h d =
      let here : flag_of t 0 n ≡ c q = cell-of r f c e low ready n q h d in
      let west : flag_of t 0 (link_of t cap n 8) ≡ on g c (step g W q) = cell-side r f c e low ready W tt n q h d in
      let south : flag_of t 0 (link_of t cap n 7) ≡ on g c (step g S q) = cell-side r f c e low ready S tt n q h d in
      let both : flag_of t 0 (link_of t cap (link_of t cap n 8) 7) ≡ on g c (step g SW q) =
      ap (λ (k : ℕ). flag_of t 0 (link_of t cap k 7)) (link-side r f n q h W tt)
      ∙ cell-south (step g W q) (beside r f c e low ready W tt q d)
      ∙ ap (on g c) (sym (southwest g q)) in
      rw (here, west, south, both)
