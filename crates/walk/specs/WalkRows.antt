-- A walk as the code meets the rows: down kid by kid, one level less left at each step.
-- Assumes nothing.
use Rattle.std.specs.Prelude.{ℕ, zero, suc, ◌-◌, Bool, ◌&&◌, ◌||◌, cond, List, [], ◌∷◌, ◌++◌, map, eqb, leb, ℤ}
use Rattle.mesh.specs.Tools.{flat}
use Rattle.mesh.specs.Picture.{ne_word, nw_word, se_word, sw_word}
use Rattle.mesh.specs.Mesh.{complete_bit}
use Rattle.table.specs.Words.{word_of, link_of, flag_of}

-- the word of a kid: NE 1, SE 2, SW 3, NW 4
abbrev pub kids_word : ℕ → Bool
kids_word w = leb 1 w && leb w 4

-- a row whose kid words are all 0
abbrev pub bare_row : List ℤ → ℕ → Bool
bare_row t n = eqb (word_of t n ne_word) 0 && (eqb (word_of t n se_word) 0 && (eqb (word_of t n sw_word) 0 && eqb (word_of t n nw_word) 0))

-- nothing hangs under the row n with l levels left: none is, or no kid word names a row
abbrev pub is_end : List ℤ → ℕ → ℕ → Bool
is_end t l n = eqb l 0 || bare_row t n

module _ (t : List ℤ) (cap : ℕ) where
  -- a cell has kids exactly if its NE kid word is not 0
  unfoldable pub leaf_row : ℕ → Bool
  leaf_row n = flag_of t complete_bit n && eqb (link_of t cap n ne_word) 0

  -- the rows from n on that f lists, so many levels down, each before its kids, kids by their words in the given order
  unfoldable pub row_walk : (ℕ → Bool) → List ℕ → ℕ → ℕ → List ℕ
  row_walk f o zero n = cond (eqb n 0) [] (cond (f n) (n ∷ []) [])
  row_walk f o (suc l) n = cond (eqb n 0) [] (cond (f n) (n ∷ []) [] ++ flat (map (λ w. row_walk f o l (link_of t cap n w)) o))

  -- those below n alone
  abbrev pub rows_below : (ℕ → Bool) → List ℕ → ℕ → ℕ → List ℕ
  rows_below f o l n = flat (map (λ w. row_walk f o (l - 1) (link_of t cap n w)) o)
