-- What the checks of 01 and of 02, No. 1, ask of the rows of a table, each of one row or a few.
-- Assumes nothing.
use Rattle.std.specs.Prelude.{ℕ, zero, suc, Bool, not, ◌&&◌, List, [], ◌∷◌, eqb, ℤ}
use Rattle.mesh.specs.Tools.{any, every, count}
use Rattle.mesh.specs.Picture.{east_word, ne_word, north_word, nw_word, se_word, sw_word}
use Rattle.mesh.specs.Mesh.{complete_bit, sentenced_bit}
use Rattle.table.specs.Words.{link_of, flag_of}

module _ (t : List ℤ) (cap : ℕ) where
  -- a cell has kids exactly if its NE kid word is not 0: the point in its middle is a corner of its kids alone
  unfoldable pub parental : ℕ → Bool
  parental n = not (eqb (link_of t cap n ne_word) 0)

  unfoldable pub kids_sentenced : ℕ → Bool
  kids_sentenced n = every (flag_of t sentenced_bit (link_of t cap n ne_word) ∷ flag_of t sentenced_bit (link_of t cap n se_word) ∷ flag_of t sentenced_bit (link_of t cap n sw_word) ∷ flag_of t sentenced_bit (link_of t cap n nw_word) ∷ [])

  -- the rows of the nine places that a refinement wants: "kids SW, SE, NW, NE; then of the patch north SW, SE; of the patch east NW, SW; of the
  -- patch north-east SW"
  abbrev pub wanted_rows : ℕ → List ℕ
  wanted_rows n =
      let north = link_of t cap n north_word in
      let east = link_of t cap n east_word in
      link_of t cap n sw_word ∷
      link_of t cap n se_word ∷
      link_of t cap n nw_word ∷
      link_of t cap n ne_word ∷
      link_of t cap north sw_word ∷
      link_of t cap north se_word ∷
      link_of t cap east nw_word ∷
      link_of t cap east sw_word ∷
      link_of t cap (link_of t cap east north_word) sw_word ∷
      []

  -- how many of them are missing
  unfoldable pub lacking : ℕ → ℕ
  lacking n = count (λ k. eqb k 0) (wanted_rows n)

  -- what lies beside a kid of the row n: the word k of the row names the kid, and the word w of the kid's row its neighbour
  abbrev pub beside_kid : ℕ → ℕ → ℕ → ℕ
  beside_kid n k w = link_of t cap (link_of t cap n k) w

  -- the rows beside the kids of the row n: of NE, SE, SW and NW the two neighbours each that lie outside the four
  abbrev pub outer_rows : ℕ → List ℕ
  outer_rows n = beside_kid n 1 5 ∷ beside_kid n 1 6 ∷ beside_kid n 2 6 ∷ beside_kid n 2 7 ∷ beside_kid n 3 7 ∷ beside_kid n 3 8 ∷ beside_kid n 4 5 ∷ beside_kid n 4 8 ∷ []

  -- one of them has kids
  unfoldable pub finer_round : ℕ → Bool
  finer_round n = any parental (outer_rows n)

  -- whether a cell other than n lies so many levels under the row m: the walk ends at the first one
  unfoldable pub other_under : ℕ → ℕ → ℕ → Bool
  other_under n zero m = not (eqb m 0) && (flag_of t complete_bit m && not (eqb m n))
  other_under n (suc l) m = not (eqb m 0) && any (λ w. other_under n l (link_of t cap m w)) (sw_word ∷ se_word ∷ nw_word ∷ ne_word ∷ [])
