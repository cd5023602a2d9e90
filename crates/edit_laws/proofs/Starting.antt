-- Where a request starts: the picture of a state, with no flag at a place where no patch stands. The marks that the flags hold are the entries'.
-- Assumes nothing.
use Prim.Native.Nat.{ℕ, ◌/◌, ◌%◌, ◌^◌}
use native.Mathlib.Omega.{arith}
use native.Mathlib.Decide.{ℕ_discrete}
use mathlib.Core.Path.{◌≡◌, refl, sym, ap, ◌∙◌}
use mathlib.Core.Logic.{◌≢◌}
use mathlib.Core.Bool.{Bool, true, false, cond}
use mathlib.Core.Option.{Option}
use mathlib.Core.List.{List}
use lib.Dec.{eqb}
use lib.ListN.{get_or}
use borrow.Author.Tests.{eq-eqb, ne_eqb}
use Rattle.number_laws.specs.Numbered.{Numbered}
use Rattle.mesh.specs.Tools.{digits, or_else, is_some}
use Rattle.mesh.specs.Place.{Place, Grid}
use Rattle.mesh.specs.Mesh.{derived, flags}
use Rattle.mesh.specs.State.{State, Entry, nil, Cell, cell_of, entry, cells, number, grid_of, with_entries, contents}
use Rattle.mesh.specs.Picture.{table}
use Rattle.mesh.specs.Request.{fill}
use Rattle.number_laws.proofs.Filling.{fill-numbered}
use Rattle.table.specs.Words.{free_at}
use Rattle.number_laws.proofs.NumberedPlaces.{cells-contents, place-number, not-zero}
use Rattle.table_laws.proofs.Pictured.{digit_at}
use Rattle.edit_laws.specs.Linked.{Flags, table_with, flags_of}
use Rattle.edit_laws.proofs.Linked.{picture-linked}
use Rattle.edit_laws.proofs.Setting.{flags-same}
use Rattle.edit_laws.proofs.FreeNumbers.{free_entries, free-at, fill-frees}
use Rattle.edit_laws.proofs.FlagsAnew.{bit, complete-bit, sentenced-bit}

-- a row without the flag Dead is not free
pub digits-alive : (bs : List Bool) → get_or bs 13 false ≡ false → digits bs ≢ 8192
digits-alive bs h e =
    let dead : eqb (digits bs / 2 ^ 13 % 2) 1 ≡ false = digit_at bs 13 ∙ h in
    let alive : true ≡ false = rw e at dead in
    let z : ◌≡◌ {A = ℕ} 0 1 = cc in
    omega arith

pub flags-alive : (g : Grid) (c : Place → Bool) (p : Place) (b : Bool) → digits (flags g c p b) ≢ 8192
unfolding flags derived
flags-alive g c p b = digits-alive (flags g c p b) refl

-- the mark Sentenced of what stands at a place
abbrev pub mark_of : List Entry → Place → Bool
mark_of es p = or_else false (λ x. x.sentenced) (contents es p)

module _ (g : Grid) (es : List Entry) where
  abbrev pub start_flags : Flags
  start_flags p = cond (eqb (number es p) 0) 0 (flags_of g es p)

  pub start-stands : (p : Place) → number es p ≢ 0 → start_flags p ≡ flags_of g es p
  start-stands p z = rw (ne_eqb (number es p) 0 z)

  pub start-blank : (p : Place) → number es p ≡ 0 → start_flags p ≡ 0
  start-blank p z = rw (eq-eqb (number es p) 0 z)

  pub start-alive : (p : Place) → start_flags p ≢ 8192
  unfolding flags_of
  start-alive p = go (eqb (number es p) 0)
    where
      go : (b : Bool) → cond b 0 (flags_of g es p) ≢ 8192
      go true = λ e. omega arith
      go false = flags-alive g (cells es) p (mark_of es p)

  module _ (u : Numbered es) where
    empty : (p : Place) → number es p ≡ 0 → contents es p ≡ cell_of nil
    empty p z = ap cell_of (ap (entry es) z ∙ u.zeroth)

    -- the cells and the marks, where a patch stands and where none does
    pub start-complete : (p : Place) → bit 0 (start_flags p) ≡ cells es p
    unfolding flags_of
    start-complete p = go (ℕ_discrete (number es p) 0)
      where
        go : Dec (number es p ≡ 0) → bit 0 (start_flags p) ≡ cells es p
        go (yes z) = rw (eq-eqb (number es p) 0 z) (sym (cells-contents es u p ∙ ap is_some (empty p z)))
        go (no z) = rw (ne_eqb (number es p) 0 z) (complete-bit g (cells es) p (mark_of es p))

    pub start-sentenced : (p : Place) → bit 12 (start_flags p) ≡ mark_of es p
    unfolding flags_of
    start-sentenced p = go (ℕ_discrete (number es p) 0)
      where
        go : Dec (number es p ≡ 0) → bit 12 (start_flags p) ≡ mark_of es p
        go (yes z) = rw (eq-eqb (number es p) 0 z) (sym (ap (λ (o : Option Cell). or_else false (λ x. x.sentenced) o) (empty p z)))
        go (no z) = rw (ne_eqb (number es p) 0 z) (sentenced-bit g (cells es) p (mark_of es p))

pub picture-start : (s : State) → Numbered s.entries → table s ≡ table_with (grid_of s) s.entries (start_flags (grid_of s) s.entries)
picture-start s u =
    picture-linked s u
    ∙ flags-same (grid_of s) s.entries (flags_of (grid_of s) s.entries) (start_flags (grid_of s) s.entries)
    (λ n p h. sym (start-stands (grid_of s) s.entries p (λ z. not-zero s.entries u n p h (sym (place-number s.entries u n p h) ∙ z))))

-- ---- the free numbers

-- are those of the free entries
pub free-numbers : (s : State) → Numbered s.entries → free_at (table s) ≡ free_entries s.entries
free-numbers s u = ap free_at (picture-start s u) ∙ free-at (grid_of s) s.entries (start_flags (grid_of s) s.entries) (start-alive (grid_of s) s.entries)

-- a cell that changes leaves them as they are
pub free-kept : (s : State) → Numbered s.entries → (ps : List Place) (x : Option Cell) → free_at (table (with_entries s (fill ps x s.entries))) ≡ free_at (table s)
free-kept s u ps x = free-numbers (with_entries s (fill ps x s.entries)) (fill-numbered ps x s.entries u) ∙ fill-frees ps x s.entries ∙ sym (free-numbers s u)
