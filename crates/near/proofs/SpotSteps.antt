-- Steps over a list of kids' places, one after the other.
-- Assumes nothing.
use mathlib.Core.Path.{◌≡◌, refl, sym, ap, ap₂, ◌∙◌}
use mathlib.Core.Logic.{◌≢◌}
use mathlib.Core.List.{List, [], ◌∷◌, ◌++◌}
use Prim.Native.Nat.{ℕ}
use borrow.Author.Tests.{eq-eqb, ne_eqb}
use lib.IntN.{ℤ}
use lib.Ieee.{Float}
use Rattle.table.specs.Words.{link_of}
use Rattle.carried.specs.Carried.{put_status, put_amount}
use Rattle.carried.specs.declared.Carried.{Carried}
use Rattle.edit_laws.specs.PatchSteps.{put_word}
use Rattle.edit_laws.specs.Anew.{wall_row, point_row}
use Rattle.edit_laws.specs.Tables.{Spot, spot, kid_at, kid_spots, wanted_spots, outside_spots, over_spots, at_kid, each_at, refresh_near, put_cell, put_cell_amount, put_amounts}
use Rattle.worked.specs.declared.around.Around.{Around}
use Rattle.worked.specs.Around.{IsAround}
use Rattle.near.specs.NearSpots.{corner_spots, side_spots}

-- ---- a cell

module _ (f : ℕ) (c : Carried) (t : List ℤ) (v : List Float) (n : ℕ) {k : ℕ} (e : k ≡ n) where
  pub cell-none : k ≡ 0 → (t ≡ put_cell f c t n) × (v ≡ put_cell_amount c v n)
  cell-none z = (rw (← e, eq-eqb k 0 z), rw (← e, eq-eqb k 0 z))

  pub cell-put : {u r : List ℤ} {w : List Float} → k ≢ 0 → u ≡ put_word t k 12 f → r ≡ put_status u k c → w ≡ put_amount v k c → (r ≡ put_cell f c t n) × (w ≡ put_cell_amount c v n)
  cell-put z a b h = (rw (← e, ne_eqb k 0 z, b, a), rw (← e, ne_eqb k 0 z) h)

-- ---- one place more

pub over-more : (step : Spot → List ℤ → List ℤ) (x : Spot) (xs : List Spot) (t : List ℤ) {u r : List ℤ} → u ≡ step x t → r ≡ over_spots step xs u → r ≡ over_spots step (x ∷ xs) t
unfolding over_spots
over-more step x xs t e h = h ∙ ap (over_spots step xs) e

module _ (f : ℕ) (c : Carried) (cap : ℕ) (t : List ℤ) (v : List Float) where
  pub amounts-more : (x : Spot) (xs : List Spot) {u : List ℤ} {w r : List Float} →
      u ≡ put_cell f c t (kid_at t cap x) →
      w ≡ put_cell_amount c v (kid_at t cap x) →
      r ≡ put_amounts f c cap xs u w →
      r ≡ put_amounts f c cap (x ∷ xs) t v
  unfolding put_amounts
  amounts-more x xs e h i = i ∙ ap₂ (put_amounts f c cap xs) e h

  pub amounts-none : v ≡ put_amounts f c cap [] t v
  unfolding put_amounts
  amounts-none = refl

pub over_none : (step : Spot → List ℤ → List ℤ) (t : List ℤ) → t ≡ over_spots step [] t
unfolding over_spots
over_none step t = refl

-- ---- two lists

module _ (step : Spot → List ℤ → List ℤ) where
  over-append : (xs ys : List Spot) (t : List ℤ) → over_spots step (xs ++ ys) t ≡ over_spots step ys (over_spots step xs t)
  unfolding over_spots
  over-append [] ys t = refl
  over-append (x ∷ xs) ys t = over-append xs ys (step x t)

  pub over-both : (xs ys : List Spot) (t : List ℤ) {u r : List ℤ} → u ≡ over_spots step xs t → r ≡ over_spots step ys u → r ≡ over_spots step (xs ++ ys) t
  over-both xs ys t e h = h ∙ ap (over_spots step ys) e ∙ sym (over-append xs ys t)

-- ---- the places near a cell

module _ (t : List ℤ) (cap n : ℕ) where
  -- a step at each place that the kids want, the last outermost
  pub over-wanted : (step : Spot → List ℤ → List ℤ) {a : Around} → IsAround t cap n a →
      step (spot a.both 0 0) (step (spot a.east 0 0) (step (spot a.east 0 1) (step (spot a.north 1 0) (step (spot a.north 0 0) (step (spot n 1 1) (step (spot n 0 1) (step (spot n 1 0) (step (spot n 0 0) t))))))))
      ≡ over_spots step (wanted_spots t cap n) t
  unfolding over_spots wanted_spots
  over-wanted step i = rw (i.both, i.east, i.north)

  pub wanted-is : {north east both : ℕ} → north ≡ link_of t cap n 5 → east ≡ link_of t cap n 6 → both ≡ link_of t cap east 5 → wanted_spots t cap n ≡ kid_spots t cap n ++ corner_spots north east both
  unfolding wanted_spots
  wanted-is a b e = rw (e, a, b)

  module _ {a : Around} (i : IsAround t cap n a) where
    abbrev wanted : List Spot
    wanted = kid_spots t cap n ++ corner_spots a.north a.east a.both

    outside-is : outside_spots t cap n ≡ side_spots a.south a.west
    unfolding outside_spots
    outside-is = rw (i.south, i.west)

    pub near-refreshed : (d : ℕ) {u v r : List ℤ} →
        u ≡ each_at (wall_row cap d) cap wanted t →
        v ≡ each_at (point_row cap) cap wanted u →
        r ≡ each_at (point_row cap) cap (side_spots a.south a.west) v →
        r ≡ refresh_near t cap d n
    unfolding refresh_near
    near-refreshed d {u} e f g =
        rw (g, f, wanted-is i.north i.east i.both, outside-is, ← e) (sym (over-append (at_kid (point_row cap) cap) wanted (side_spots a.south a.west) u))
