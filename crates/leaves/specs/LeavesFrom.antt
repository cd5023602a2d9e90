-- The leaves of a table in the order of the page, by its rows.
-- Assumes nothing.
use Rattle.std.specs.Prelude.{ℕ, cond, List, [], ◌∷◌, ℤ}
use Rattle.mesh.specs.Picture.{ne_word, nw_word, se_word, sw_word}
use Rattle.walk.specs.WalkRows.{leaf_row, row_walk}

-- "one line for each leaf in order SW, NW, SE, NE": the leaves from the row n on, so many levels down
unfoldable pub leaves_from : List ℤ → ℕ → ℕ → ℕ → List ℕ
leaves_from t cap l n = row_walk t cap (leaf_row t cap) (sw_word ∷ nw_word ∷ se_word ∷ ne_word ∷ []) l n

-- the row itself, if it is a leaf
unfoldable pub own_leaf : List ℤ → ℕ → ℕ → List ℕ
own_leaf t cap n = cond (leaf_row t cap n) (n ∷ []) []
