-- The leaves that a lookup finds in a tree.
-- Assumes nothing.
use Rattle.std.specs.Prelude.{ℕ, ◌/◌, ◌%◌, ◌^◌}
use Rattle.mesh.specs.Place.{Grid}
use Rattle.table.specs.Words.{link_of}
use Rattle.worked.specs.Worked.{kid_word}
use Rattle.lookup.specs.LookupRows.{row_at, row_found, row_lookup}
use Rattle.lookup.specs.declared.trees.Tree.{Tree}

-- the kid of the row n in which a point lies, by the digits of its coordinates at the place l
abbrev pub kid_toward : Tree → ℕ → ℕ → ℕ → ℕ → ℕ
kid_toward tree n l u v = link_of tree.rows.t.now tree.rows.cap n (kid_word (u / 2 ^ l % 2) (v / 2 ^ l % 2))

-- the leaf that holds a point
abbrev pub leaf_holding : Tree → ℕ → ℕ → ℕ
leaf_holding tree u v = row_at tree.rows.t.now tree.rows.cap tree.rows.d u v

-- the first that the tries find
abbrev pub leaf_found : Tree → ℕ → ℕ → ℕ
leaf_found tree u v = row_found tree.rows.t.now tree.rows.cap tree.rows.d u v

-- the one that a lookup on a grid answers with
abbrev pub leaf_looked_up : Grid → Tree → ℕ → ℕ → ℕ
leaf_looked_up grid tree u v = row_lookup grid tree.rows.t.now tree.rows.cap tree.rows.d u v
