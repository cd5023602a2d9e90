-- Scans in the picture of a valid state: the row under a place's number links to the numbers of its kids, and its words say of which kinds the
-- place is, so that a walk over the rows gives what the walk over the places gives.
-- Assumes nothing.
use Prim.Native.Nat.{ℕ, zero, suc}
use native.Mathlib.Omega.{arith}
use native.Mathlib.Decide.{ℕ_discrete}
use mathlib.Core.Path.{◌≡◌, refl, sym, ap, ◌∙◌}
use mathlib.Core.Logic.{◌≢◌}
use mathlib.Core.Bool.{Bool, ◌&&◌, cond}
use mathlib.Core.Option.{some}
use mathlib.Core.List.{List, [], ◌∷◌, ◌++◌, map}
use lib.Dec.{T, leb, leb→le}
use lib.IntN.{ℤ, ◌-ℤ◌, nat_abs}
use lib.Signed.{le_z}
use borrow.Author.Tests.{ne_eqb}
use Rattle.mesh.specs.Tools.{all, flat, or_else}
use Rattle.mesh.specs.Place.{Place, Grid, kid_winds, root, base, level, kid}
use Rattle.mesh.specs.Winds.{word_of_wind, ◌of◌}
use Rattle.mesh.specs.Mesh.{leaf, derived, flags, wall_h, wall_v, is_wall}
use Rattle.mesh.specs.State.{State, Entry, place_of, is_used, entry, cells, number, place_at, grid_of, capacity}
use Rattle.mesh.specs.Valid.{Valid}
use Rattle.mesh.specs.Picture.{table}
use Rattle.mesh.specs.Scan.{listed, standing, own, walk, wind_of, permutation, scan}
use Rattle.table.specs.Words.{link_of, flag_of}
use Rattle.walk.specs.WalkRows.{kids_word, leaf_row, row_walk}
use Rattle.listing.specs.ListedRows.{listed_row, from_level, scans}
use Rattle.place_laws.proofs.Bools.{and_left, and_right}
use Rattle.scan.proofs.OrderWords.{permutation-words}
use Rattle.number_laws.proofs.Entries.{used-is}
use Rattle.number_laws.proofs.NumberedPlaces.{valid-numbered, number-place, place-number, not-zero}
use Rattle.table_laws.proofs.Pictured.{level-word, flag-of}
use Rattle.table_laws.proofs.LinkedRows.{depth-of, link-kid}
use Rattle.table_laws.proofs.KidRows as KidRows

-- ---- the words of the kids

-- the word is that of the wind that it stands for
word-wind : (w : ℕ) → T (kids_word w) → (word_of_wind (wind_of w) ≡ w) × T (wind_of w of kid_winds)
word-wind zero t = absurd t
word-wind (suc zero) t = (refl, tt)
word-wind (suc (suc zero)) t = (refl, tt)
word-wind (suc (suc (suc zero))) t = (refl, tt)
word-wind (suc (suc (suc (suc zero)))) t = (refl, tt)
word-wind (suc (suc (suc (suc (suc w))))) t =
    let n = suc (suc (suc (suc (suc w)))) in
    absurd (omega (arith, leb→le n 4 (and_right (leb 1 n) (leb n 4) t)))

module _ (s : State) (v : Valid s) where
  abbrev g : Grid
  g = grid_of s

  abbrev es : List Entry
  es = s.entries

  abbrev c : Place → Bool
  c = cells s.entries

  -- the kid that a word leads to
  pub link-word-kid : (p : Place) (w : ℕ) → T (kids_word w) → link_of (table s) (capacity s) (number es p) w ≡ number es (kid (wind_of w) p)
  link-word-kid p w t =
      let (e, h) = word-wind w t in
      ap (link_of (table s) (capacity s) (number es p)) (sym e) ∙ link-kid s v (wind_of w) h (some p)

  -- ---- walks

  -- the parts of the kids by their words are the parts of those that stand
  parts-standing : (by_Row : ℕ → List ℕ) (by_place : Place → List ℕ) → by_Row 0 ≡ [] → ((q : Place) → number es q ≢ 0 → by_Row (number es q) ≡ by_place q)
      → (p : Place) (o : List ℕ) → T (all kids_word o) → flat (map (λ w. by_Row (link_of (table s) (capacity s) (number es p) w)) o) ≡ flat (map by_place (standing es (map wind_of o) p))
  parts-standing by_Row by_place nothing agree p [] t = refl
  parts-standing by_Row by_place nothing agree p (w ∷ o) t =
      let ih = parts-standing by_Row by_place nothing agree p o (and_right (kids_word w) (all kids_word o) t) in
      rw (link-word-kid p w (and_left (kids_word w) (all kids_word o) t), ih) (go (ℕ_discrete (number es (kid (wind_of w) p)) 0))
    where
      go : Dec (number es (kid (wind_of w) p) ≡ 0) → by_Row (number es (kid (wind_of w) p)) ++ flat (map by_place (standing es (map wind_of o) p)) ≡ flat (map by_place (standing es (wind_of w ∷ map wind_of o) p))
      go (yes z) = rw (z, nothing)
      go (no z) = rw (ne_eqb (number es (kid (wind_of w) p)) 0 z, agree (kid (wind_of w) p) z)

  module _ (d : ℕ) (f' : ℕ → Bool) (f : Place → Bool) (agree : (q : Place) → number es q ≢ 0 → f' (number es q) ≡ f q) (o : List ℕ) (ws : T (all kids_word o)) where
    -- nothing hangs under row 0
    walk-nil : (l : ℕ) → row_walk (table s) (capacity s) f' o l 0 ≡ []
    unfolding row_walk
    walk-nil zero = refl
    walk-nil (suc l) = refl

    own_row : (p : Place) → number es p ≢ 0 → cond (f' (number es p)) (number es p ∷ []) [] ≡ own es f p
    own_row p h = rw (agree p h)

    -- a walk over the rows from a place's number is the walk from the place
    pub row-walk : (l : ℕ) (p : Place) → number es p ≢ 0 → row_walk (table s) (capacity s) f' o l (number es p) ≡ walk es f (map wind_of o) l p
    unfolding row_walk walk
    row-walk zero p h = rw (ne_eqb (number es p) 0 h) (own_row p h)
    row-walk (suc l) p h =
        rw (ne_eqb (number es p) 0 h, own_row p h)
        (ap (λ (xs : List ℕ). own es f p ++ xs) (parts-standing (row_walk (table s) (capacity s) f' o l) (walk es f (map wind_of o) l) (walk-nil l) (row-walk l) p o ws))

  -- ---- kinds

  module _ (p : Place) (h : number es p ≢ 0) where
    is-place : place_of (entry es (number es p)) ≡ some p
    is-place = number-place es p h

    complete-row : flag_of (table s) 0 (number es p) ≡ c p
    unfolding flags derived
    complete-row = flag-of s (number es p) p is-place 0

    wall-row : flag_of (table s) 1 (number es p) ≡ is_wall (wall_h g c (some p))
    unfolding flags derived
    wall-row = flag-of s (number es p) p is-place 1

    side-row : flag_of (table s) 2 (number es p) ≡ is_wall (wall_v g c (some p))
    unfolding flags derived
    side-row = flag-of s (number es p) p is-place 2

    pub leaf-row : leaf_row (table s) (capacity s) (number es p) ≡ leaf g c p
    leaf-row = KidRows.leaf-row s v (number es p) p is-place

    pub from_row : (z : ℤ) → from_level (table s) z (number es p) ≡ le_z z (level g p)
    unfolding from_level
    from_row z = ap (le_z z) (level-word s (number es p) p is-place)

    -- of each kind the row is exactly if the place is
    pub listed-row : (k : ℕ) → listed_row (table s) (capacity s) (base g) k (number es p) ≡ listed s k p
    unfolding listed_row listed
    listed-row k = rw (complete-row, KidRows.leaf-row s v (number es p) p is-place, wall-row, side-row, depth-of s v (number es p) p is-place)

  -- ---- scans

  -- the scan by rows is the scan
  pub row-scan : (n : ℕ) (o : List ℕ) (k : ℕ) (from to : ℤ) → T (is_used (entry es n)) → T (permutation o)
      → scan s n o k from to
      ≡ row_walk (table s) (capacity s) (scans (table s) (capacity s) (base g) from k) o (nat_abs (to -ℤ level g (place_at es n))) n
  unfolding scan
  row-scan n o k from to t u =
      let (p, e) = used-is (entry es n) t in
      let i : place_at es n ≡ p = ap (or_else root (λ p. p)) e in
      let j : number es p ≡ n = place-number es (valid-numbered v) n p e in
      let z : number es p ≢ 0 = λ z. not-zero es (valid-numbered v) n p e (sym j ∙ z) in
      let f = scans (table s) (capacity s) (base g) from k in
      let l = nat_abs (to -ℤ level g p) in
      rw i
      (sym (row-walk (base g) f (λ q. le_z from (level g q) && listed s k q) (λ q h. rw (from_row q h from, listed-row q h k)) o (permutation-words o u) l p z)
      ∙ ap (row_walk (table s) (capacity s) f o l) j)
