-- The steps of a request on the words of a table: a new patch is linked in, and a patch that goes is taken out.
-- Assumes nothing.
use Rattle.std.specs.Prelude.{ℕ, ◌+◌, ◌*◌, ◌%◌, cond, List, eqb, set, ℤ, pos}
use Rattle.std.proofs.Math.IntN.{sub_ℕ}
use Rattle.mesh.specs.Place.{Wind, N, E, S, W, compass}
use Rattle.mesh.specs.Winds.{word_of_wind}
use Rattle.mesh.specs.Picture.{row_words, flags_word, i_word, j_word, parent_word, level_word}
use Rattle.table.specs.Words.{word_of, link_of, depth_of}
use Rattle.worked.specs.Worked.{kid_word, side_of}
use Rattle.table.specs.Writes.{put_row, free_row}

abbrev pub put_word : List ℤ → ℕ → ℕ → ℕ → List ℤ
put_word t n w x = set t (n * row_words + w) (pos x)

-- a word of the row n, unless n is 0
abbrev pub put_unless_nil : List ℤ → ℕ → ℕ → ℕ → List ℤ
put_unless_nil t n w x = cond (eqb n 0) t (put_word t n w x)

-- ---- a new patch

-- the row k and the row x to the wind w of it, if that is not 0, name each other
abbrev pub name_each : List ℤ → ℕ → Wind → ℕ → List ℤ
name_each t k w x = put_unless_nil (put_word t k (word_of_wind w) x) x (word_of_wind (compass w).opposite) k

-- the row k and its neighbour
unfoldable pub link_side : List ℤ → ℕ → ℕ → Wind → List ℤ
link_side t cap k w = name_each t k w (side_of t cap k w)

-- the free row k becomes the kid of the row p whose digits are l and m, without a kid, a cell or a flag
unfoldable pub place_in : List ℤ → ℕ → ℕ → ℕ → ℕ → ℕ → List ℤ
place_in t d p l m k =
    let e = depth_of t d p in
    let i = word_of t p i_word in
    let j = word_of t p j_word in
    let t₁ = put_word t k parent_word p in
    let t₂ = set t₁ (k * row_words + level_word) (sub_ℕ (e + 1) d) in
    let t₃ = put_word t₂ k i_word (2 * i + l) in
    let t₄ = put_word t₃ k j_word (2 * j + m) in
    let t₅ = put_word t₄ k flags_word 0 in
    put_word t₅ p (kid_word l m) k

unfoldable pub link_in : List ℤ → ℕ → ℕ → ℕ → ℕ → ℕ → ℕ → List ℤ
link_in t cap d p l m k = link_side (link_side (link_side (link_side (place_in t d p l m k) cap k N) cap k E) cap k S) cap k W

-- ---- a patch that goes

-- the neighbour to the wind w, if there is one, does not name the row k any more
unfoldable pub drop_side : List ℤ → ℕ → ℕ → Wind → List ℤ
drop_side t cap k w = put_unless_nil t (link_of t cap k (word_of_wind w)) (word_of_wind (compass w).opposite) 0

-- the row k, which has no kids, is free
unfoldable pub take_out : List ℤ → ℕ → ℕ → List ℤ
take_out t cap k =
    let t₁ = put_word t (link_of t cap k parent_word) (kid_word (word_of t k i_word % 2) (word_of t k j_word % 2)) 0 in
    put_row (drop_side (drop_side (drop_side (drop_side t₁ cap k N) cap k E) cap k S) cap k W) k free_row
