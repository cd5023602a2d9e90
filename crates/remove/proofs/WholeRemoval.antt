-- A removal whole: each table is the one before with what a step does, and the places are those of the table at the start.
-- Assumes nothing.
use mathlib.Core.Path.{◌≡◌, ap, ◌∙◌}
use mathlib.Core.List.{List}
use Prim.Native.Nat.{ℕ}
use lib.IntN.{ℤ}
use Rattle.edit_laws.specs.Tables.{wanted_spots, each_at, refresh_near, drop_untouched, emptied, dropped_near, remove_table}

module _ (t : List ℤ) (cap n : ℕ) {t₁ t₂ : List ℤ} (h1 : t₁ ≡ emptied t cap n) (h2 : t₂ ≡ each_at (drop_untouched cap) cap (wanted_spots t₁ cap n) t₁) where
  pub near-dropped : t₂ ≡ dropped_near t cap n
  near-dropped = h2 ∙ ap (λ u. each_at (drop_untouched cap) cap (wanted_spots u cap n) u) h1

  pub removed : (d : ℕ) {t₃ : List ℤ} → t₃ ≡ refresh_near t₂ cap d n → t₃ ≡ remove_table t cap d n
  unfolding remove_table
  removed d h3 = rw (← near-dropped) h3
