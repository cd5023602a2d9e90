-- What the checks ask of a row, where the table is the picture of a valid state: the row under a number says what its entry does.
-- Assumes nothing.
use Prim.Native.Nat.{ℕ, ◌≤◌}
use mathlib.Core.Path.{◌≡◌, refl, ap, ◌∙◌}
use mathlib.Core.Bool.{Bool}
use mathlib.Core.Option.{some}
use mathlib.Core.List.{List}
use lib.Dec.{lit<}
use lib.IntN.{ℤ}
use Rattle.mesh.specs.Tools.{all}
use Rattle.mesh.specs.Place.{Place, Grid, base, kids}
use Rattle.mesh.specs.Mesh.{has_kids}
use Rattle.mesh.specs.State.{State, Entry, nil, free, used, place_of, is_sentenced, entry, cells, number, grid_of, capacity}
use Rattle.mesh.specs.Valid.{Valid}
use Rattle.mesh.specs.Picture.{table}
use Rattle.table.specs.Words.{flag_of}
use Rattle.table_laws.proofs.Pictured.{nil-words, free-flags, sentenced-flag}
use Rattle.table_laws.proofs.LinkedRows.{kids_every}
use Rattle.table_laws.proofs.KidRows.{kids-row}
use Rattle.asks.specs.Asks.{parental, kids_sentenced}

module _ (s : State) (v : Valid s) where
  abbrev g : Grid
  g = grid_of s

  abbrev es : List Entry
  es = s.entries

  abbrev c : Place → Bool
  c = cells s.entries

  abbrev t : List ℤ
  t = table s

  -- ---- every number

  pub sentenced-row : (n : ℕ) → flag_of t 12 n ≡ is_sentenced (entry es n)
  unfolding flag_of
  sentenced-row n = go (entry es n) refl
    where
      go : (e : Entry) → entry es n ≡ e → flag_of t 12 n ≡ is_sentenced e
      go nil h = rw (nil-words s n 12 h (lit< tt))
      go free h = rw (free-flags s n h)
      go (used p x) h = sentenced-flag s n p (ap place_of h) ∙ ap is_sentenced h

  -- ---- the number of a patch

  module _ (n : ℕ) (p : Place) (h : place_of (entry es n) ≡ some p) where
    pub kids-sentenced-row : kids_sentenced t (capacity s) n ≡ all (λ q. is_sentenced (entry es (number es q))) (kids p)
    unfolding kids_sentenced
    kids-sentenced-row = kids_every s v n p h (flag_of t 12) ∙ simp sentenced-row

    pub parental-row : base g ≤ p.depth → parental t (capacity s) n ≡ has_kids g c p
    unfolding parental
    parental-row low = kids-row s v n p h low
