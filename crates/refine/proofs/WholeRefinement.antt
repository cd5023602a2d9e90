-- A refinement whole: each table is the one before with what a step does, and the places are those of the table at the start.
-- Assumes nothing.
use mathlib.Core.Path.{◌≡◌}
use mathlib.Core.List.{List}
use Prim.Native.Nat.{ℕ}
use lib.IntN.{ℤ}
use lib.Ieee.{Float}
use Rattle.carried.specs.Carried.{carried_of, passed_down}
use Rattle.carried.specs.declared.Carried.{Carried}
use Rattle.edit_laws.specs.Tables.{kid_spots, supplied_near, put_cells, put_amounts, refresh_near, refine_table, refine_values}

module _ (t : List ℤ) (v : List Float) (cap d n : ℕ) {t₁ : List ℤ} {own kid : Carried} (h1 : t₁ ≡ supplied_near t cap d n) (h2 : own ≡ carried_of t v n) (h3 : kid ≡ passed_down own) where
  pub refined : {t₂ t₃ : List ℤ} → t₂ ≡ put_cells 1 kid cap (kid_spots t₁ cap n) t₁ → t₃ ≡ refresh_near t₂ cap d n → t₃ ≡ refine_table t v cap d n
  unfolding refine_table
  refined h4 h5 = rw (← h1, ← h2, ← h3, ← h4, h5)

  pub refined-values : {u : List Float} → u ≡ put_amounts 1 kid cap (kid_spots t₁ cap n) t₁ v → u ≡ refine_values t v cap d n
  unfolding refine_values
  refined-values h4 = rw (← h1, ← h2, ← h3, h4)
