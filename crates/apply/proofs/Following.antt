-- The free numbers after each kind of request: on a picture those of the table between its steps are those of the table before it, and then those of
-- the table after it.
-- Assumes nothing.
use Prim.Native.Nat.{ℕ}
use mathlib.Core.Path.{◌≡◌, refl, sym, ap, ◌∙◌}
use mathlib.Core.Bool.{Bool, false}
use mathlib.Core.List.{List, [], ◌∷◌}
use lib.IntN.{ℤ}
use lib.Ieee.{Float}
use Rattle.mesh.specs.Place.{base}
use Rattle.mesh.specs.State.{State, is_free, place_at, grid_of, capacity}
use Rattle.mesh.specs.Picture.{table}
use Rattle.mesh.specs.Carrying.{sentenced_cell, measured_cell}
use Rattle.mesh.specs.Request.{Request, refine, sentence, remove, kill, set_value, effect, marked, new_cell}
use Rattle.number_laws.specs.Numbered.{Numbered}
use Rattle.number_laws.proofs.NumberedPlaces.{valid-numbered}
use Rattle.table.specs.Words.{free_at}
use Rattle.free.specs.FreeMap.{FreeNumbers, total, IsMapOf}
use Rattle.free.specs.Free.{free_total}
use Rattle.edit_laws.specs.Tables.{supplied_near, emptied, dropped_near, cleared, dropped_corners}
use Rattle.edit_laws.proofs.Starting.{free-numbers, free-kept}
use Rattle.edit_laws.proofs.Refined.{refine-free}
use Rattle.edit_laws.proofs.Removal as Removal
use Rattle.edit_laws.proofs.Killing as Killing
use Rattle.apply.specs.Drawn.{lists, Pictured}
use Rattle.apply.specs.Applied.{Applied}
use Rattle.apply.proofs.Drawing.{drawn-words, from-picture}
use Rattle.apply.proofs.Deciding.{Decides, passed}

-- the number 0 is not free
pub nil-taken : {cap d : ℕ} {t : List ℤ} {v : List Float} {c : List ℕ} → Pictured cap d (lists t v c) → free_at t 0 ≡ false
nil-taken p = rw (drawn-words p.drawn, free-numbers p.state (valid-numbered p.drawn.valid)) (ap is_free p.drawn.valid.zeroth)

module _ {cap d : ℕ} {t : List ℤ} {v : List Float} {c : List ℕ} (h : Pictured cap d (lists t v c)) where
  abbrev s : State
  s = h.state

  numbered : Numbered s.entries
  numbered = valid-numbered h.drawn.valid

  on-picture : (P : List ℤ → ℕ → ℕ → Type 0) → P (table s) (capacity s) (base (grid_of s)) → P t cap d
  on-picture P = from-picture h.drawn P

  module _ {t' : List ℤ} {v' : List Float} {c' : List ℕ} where
    after : (q : Request) → Applied q cap d (lists t v c) (lists t' v' c') 0 → t' ≡ table (effect s q)
    unfolding marked table
    after q a = drawn-words (a.done s h.drawn refl)

    module _ (n : ℕ) where
      -- ---- a cell that changes

      pub sentence-free : Applied (sentence n) cap d (lists t v c) (lists t' v' c') 0 → free_at t' ≡ free_at t
      unfolding effect
      sentence-free a = ap free_at (after (sentence n) a) ∙ free-kept s numbered (place_at s.entries n ∷ []) (new_cell s n sentenced_cell) ∙ ap free_at (sym (drawn-words h.drawn))

      pub set_free : (x : Float) → Applied (set_value n x) cap d (lists t v c) (lists t' v' c') 0 → free_at t' ≡ free_at t
      unfolding effect
      set_free x a = ap free_at (after (set_value n x) a) ∙ free-kept s numbered (place_at s.entries n ∷ []) (new_cell s n (measured_cell x)) ∙ ap free_at (sym (drawn-words h.drawn))

      -- ---- patches that come and go

      pub refine-left : Applied (refine n) cap d (lists t v c) (lists t' v' c') 0 → free_at t' ≡ free_at (supplied_near t cap d n)
      refine-left a = ap free_at (after (refine n) a) ∙ sym (on-picture (λ t cap d. free_at (supplied_near t cap d n) ≡ free_at (table (effect s (refine n)))) (refine-free s h.drawn.valid n (passed h (refine n) a.decided)))

      pub remove-left : Applied (remove n) cap d (lists t v c) (lists t' v' c') 0 → free_at t' ≡ free_at (dropped_near t cap n)
      remove-left a = ap free_at (after (remove n) a) ∙ sym (on-picture (λ t cap d. free_at (dropped_near t cap n) ≡ free_at (table (effect s (remove n)))) (Removal.dropped-free s h.drawn.valid n (passed h (remove n) a.decided)))

      pub kill-left : Applied (kill n) cap d (lists t v c) (lists t' v' c') 0 → free_at t' ≡ free_at (dropped_corners t cap d n)
      kill-left a = ap free_at (after (kill n) a) ∙ sym (on-picture (λ t cap d. free_at (dropped_corners t cap d n) ≡ free_at (table (effect s (kill n)))) (Killing.dropped-free s h.drawn.valid n (passed h (kill n) a.decided)))

  module _ (n : ℕ) where
    pub remove_first : Decides (remove n) cap d (lists t v c) 0 → free_at (emptied t cap n) ≡ free_at t
    remove_first x = on-picture (λ t cap d. free_at (emptied t cap n) ≡ free_at t) (Removal.emptied-free s h.drawn.valid n (passed h (remove n) x))

    pub kill-first : Decides (kill n) cap d (lists t v c) 0 → free_at (cleared t n) ≡ free_at t
    kill-first x = on-picture (λ t cap d. free_at (cleared t n) ≡ free_at t) (Killing.cleared-free s h.drawn.valid n (passed h (kill n) x))

-- ---- the map

pub total-count : (t : List ℤ) {m : FreeNumbers} {n : ℕ} → IsMapOf m (free_at t) → ((f : ℕ → Bool) → IsMapOf m f → n ≡ total f 4096) → n ≡ free_total t
unfolding free_total
total-count t maps counts = counts (free_at t) maps

pub same-mapped : {f g : ℕ → Bool} {m : FreeNumbers} → g ≡ f → IsMapOf m f → IsMapOf m g
same-mapped e x = rw e x
