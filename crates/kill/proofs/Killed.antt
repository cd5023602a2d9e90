-- A kill whole: its corners as they were read, and each table the one before with what a step does.
-- Assumes nothing.
use mathlib.Core.Path.{◌≡◌}
use mathlib.Core.List.{List}
use Prim.Native.Nat.{ℕ}
use lib.IntN.{ℤ}
use Rattle.mesh.specs.Picture.{flags_word}
use Rattle.carried.specs.Carried.{put_status, nothing}
use Rattle.edit_laws.specs.PatchSteps.{put_word}
use Rattle.edit_laws.specs.Tables.{Border, refresh_levels, cleared, dropped_corners, kill_table}
use Rattle.worked.specs.declared.around.Around.{Around}
use Rattle.worked.specs.Around.{IsAround}
use Rattle.border.specs.Borders.{border_of}
use Rattle.kill.specs.KilledCell.{corners_gone, still_border}

pub cell-cleared : (t : List ℤ) (n : ℕ) {t₁ t₂ : List ℤ} → t₁ ≡ put_word t n flags_word 0 → t₂ ≡ put_status t₁ n nothing → t₂ ≡ cleared t n
cell-cleared t n h1 h2 = rw (h2, h1)

module _ {t : List ℤ} {cap n : ℕ} {a : Around} (i : IsAround t cap n a) (d : ℕ) where
  abbrev around : Border
  around = border_of (record { own = n; around = a })

  pub corners-dropped : {t₁ t₂ : List ℤ} → t₁ ≡ cleared t n → t₂ ≡ corners_gone t₁ cap d around → t₂ ≡ dropped_corners t cap d n
  corners-dropped h1 h2 = rw (h2, h1, i.both, i.east, i.north)

  pub killed : {t₁ t₂ : List ℤ} (b : Border) → t₁ ≡ dropped_corners t cap d n → b ≡ still_border t₁ around → t₂ ≡ refresh_levels 13 b 0 t₁ cap d → t₂ ≡ kill_table t cap d n
  unfolding kill_table
  killed b h1 h2 h3 = rw (h3, h2, h1, i.both, i.east, i.north, i.south, i.west)
