-- The place of a cell's row in the picture of a state: that of its level and its status, and so one of the 39.
-- Assumes nothing.
use Prim.Native.Nat.{ℕ, ◌+◌, ◌*◌, ◌≤◌, ◌<◌}
use native.Mathlib.Omega.{arith}
use native.Mathlib.Decide.{ℕ_discrete}
use mathlib.Core.Path.{◌≡◌, refl, sym, ap, ◌∙◌}
use mathlib.Core.Bool.{◌&&◌, cond}
use mathlib.Core.Option.{some}
use lib.Dec.{eqb}
use borrow.Author.Tests.{eq-eqb, ne_eqb}
use Rattle.mesh.specs.Place.{Place, base}
use Rattle.mesh.specs.State.{State, used, Cell, Value, blank, measured, carried, status, value_of, place_of, entry, grid_of}
use Rattle.mesh.specs.Carrying.{inherited}
use Rattle.mesh.specs.Valid.{Valid}
use Rattle.mesh.specs.Picture.{level_word, table, amounts}
use Rattle.mesh.specs.LeafCounts.{count_places, count_place}
use Rattle.table.specs.Words.{word_of, depth_of}
use Rattle.carried.specs.Carried.{status_of, carried_of, carried_for, passed_down}
use Rattle.table_laws.proofs.Pictured.{carried-there}
use Rattle.table_laws.proofs.LevelWords.{level-is}
use Rattle.table_laws.proofs.LinkedRows.{depth-of}
use Rattle.tally_laws.specs.Moves.{spot}
use Rattle.tally_laws.proofs.FullCounts.{leaf-placed}
use Rattle.tally.specs.TallyRows.{row_place, Placed}

-- ---- levels and statuses by their places

-- a level and a status have no place in common with another
pub place-apart : (l k a b : ℕ) → k ≤ 2 → b ≤ 2 → eqb (count_place l k) (count_place a b) ≡ (eqb a l && eqb b k)
place-apart l k a b x y = go (ℕ_discrete a l) (ℕ_discrete b k)
  where
    go : Dec (a ≡ l) → Dec (b ≡ k) → eqb (count_place l k) (count_place a b) ≡ (eqb a l && eqb b k)
    go (yes e) (yes f) = rw (e, f, eq-eqb l l refl, eq-eqb k k refl) (eq-eqb (3 * l + k) (3 * l + k) refl)
    go (yes e) (no f) = rw (e, eq-eqb l l refl, ne_eqb b k f) (ne_eqb (3 * l + k) (3 * l + b) (λ z. f (omega arith)))
    go (no e) f = rw (ne_eqb a l e) (ne_eqb (3 * l + k) (3 * a + b) (λ z. e (omega arith)))

same-level : (d a l : ℕ) → eqb (d + a) (d + l) ≡ eqb a l
same-level d a l = go (ℕ_discrete a l)
  where
    go : Dec (a ≡ l) → eqb (d + a) (d + l) ≡ eqb a l
    go (yes e) = rw (e, eq-eqb l l refl) (eq-eqb (d + l) (d + l) refl)
    go (no e) = rw (ne_eqb a l e) (ne_eqb (d + a) (d + l) (λ z. e (omega arith)))

pub status-passed : (w : Value) → status_of (passed_down (carried_for w)) ≡ status (inherited w)
status-passed blank = refl
status-passed (measured x) = refl
status-passed (carried x) = refl

pub place_inside : (s : State) (n : ℕ) → Placed (table s) (amounts s) n → row_place (table s) (amounts s) n < count_places
unfolding row_place
place_inside s n p = omega (arith, p.level, p.status)

module _ (s : State) (v : Valid s) where
  -- a leaf of this depth and status is counted at its place
  pub spot-at : (l k a b : ℕ) → k ≤ 2 → b ≤ 2 → spot (grid_of s) l k (base (grid_of s) + a) b ≡ cond (eqb (count_place l k) (count_place a b)) 1 0
  spot-at l k a b x y = rw (place-apart l k a b x y, same-level (base (grid_of s)) a l)

  module _ (n : ℕ) (p : Place) (x : Cell) (e : entry s.entries n ≡ used p (some x)) where
    pub row-depth : p.depth ≡ base (grid_of s) + word_of (table s) n level_word
    unfolding depth_of
    row-depth =
        let d = depth-of s v n p (ap place_of e) in
        let (low, high, _) = leaf-placed s v n p x e in
        sym d ∙ level-is (base (grid_of s)) (word_of (table s) n level_word) (omega (arith, d)) (omega (arith, d))

    pub row-status : status_of (carried_of (table s) (amounts s) n) ≡ status x.value
    row-status = ap status_of (carried-there s n) ∙ ap (λ w. status (value_of w)) e

    pub row-placed : Placed (table s) (amounts s) n
    row-placed =
        let (low, high, few) = leaf-placed s v n p x e in
        record { level = omega (arith, row-depth); status = omega (arith, row-status) }

    -- the row is at the place of a level and a status exactly if its cell is of them
    pub row-spot : (l k : ℕ) → k ≤ 2 → cond (eqb (count_place l k) (row_place (table s) (amounts s) n)) 1 0 ≡ spot (grid_of s) l k p.depth (status x.value)
    unfolding row_place
    row-spot l k low =
        sym (spot-at l k (word_of (table s) n level_word) (status_of (carried_of (table s) (amounts s) n)) low row-placed.status)
        ∙ (λ i. spot (grid_of s) l k (sym row-depth i) (row-status i))
