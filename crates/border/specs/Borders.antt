-- The rows along the border of a level-0 cell, as the code goes through them, and that none stands there.
-- Assumes nothing.
use Rattle.std.specs.Prelude.{ℕ, zero, suc, ◌≤◌, Bool, ◌||◌, List, [], ◌∷◌, T, eqb, ltb, ℤ}
use Rattle.mesh.specs.Tools.{all}
use Rattle.mesh.specs.Picture.{link_words, ne_word, se_word, sw_word, nw_word}
use Rattle.table.specs.Words.{link_of}
use Rattle.worked.specs.Around as Around
use Rattle.edit_laws.specs.Tables as Tables
use Rattle.border.specs.declared.Border.{Border}

-- a word of a row that is a link
abbrev pub is_link : ℕ → Bool
is_link w = ltb w link_words

-- ---- where no row stands

-- so many levels down from n, by kids that these words name
unfoldable pub bare_down : List ℤ → ℕ → List ℕ → ℕ → ℕ → Bool
bare_down t cap ws zero n = eqb n 0
bare_down t cap ws (suc e) n = eqb n 0 || all (λ w. bare_down t cap ws e (link_of t cap n w)) ws

-- along the border, e levels above level 0: where the cell can be a side of walls
pub record BareCorners (t : List ℤ) (cap : ℕ) (b : Tables.Border) (e : ℕ) : Type 0 where
  pub own : T (bare_down t cap (sw_word ∷ se_word ∷ nw_word ∷ ne_word ∷ []) e b.own)
  pub north : T (bare_down t cap (sw_word ∷ se_word ∷ []) e b.north)
  pub east : T (bare_down t cap (sw_word ∷ nw_word ∷ []) e b.east)
  pub both : T (bare_down t cap (sw_word ∷ []) e b.both)

-- and beside
pub record BareBorder (t : List ℤ) (cap : ℕ) (b : Tables.Border) (e : ℕ) : Type 0 where
  pub corners : BareCorners t cap b e
  pub south : T (bare_down t cap (nw_word ∷ ne_word ∷ []) e b.south)
  pub west : T (bare_down t cap (se_word ∷ ne_word ∷ []) e b.west)

-- ---- the border as the code has it

pub record Within (cap : ℕ) (b : Border) : Type 0 where
  pub own : b.own ≤ cap
  pub around : Around.Within cap b.around

abbrev pub border_of : Border → Tables.Border
border_of b = record { own = b.own; north = b.around.north; east = b.around.east; both = b.around.both; south = b.around.south; west = b.around.west }
