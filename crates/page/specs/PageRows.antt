-- The dossier page as the code makes it from the rows of a table and the values.
-- Assumes nothing.
use Rattle.std.specs.Prelude.{ℕ, ◌+◌, ◌%◌, ◌^◌, List, ◌++◌, length, ℤ, Float}
use Rattle.mesh.specs.State.{Header}
use Rattle.mesh.specs.Page.{head_line, foot_line, total}
use Rattle.mesh.specs.Call.{Wrote, writing}
use Rattle.leaves.specs.LeavesFrom.{leaves_from}
use Rattle.lines.specs.LineRows.{lines_of}

-- all lines but the last, for the leaves ns
unfoldable pub body_of : Header → List ℤ → List Float → List ℕ → List ℕ
body_of h t v ns = head_line h ++ lines_of t v ns

unfoldable pub page_of : Header → List ℤ → List Float → List ℕ → List ℕ
page_of h t v ns =
    let b = body_of h t v ns in
    b ++ foot_line (length ns) (total b % 2 ^ 32)

-- from the root down to level 12, with level 0 at depth d
unfoldable pub row_page : Header → List ℤ → List Float → ℕ → ℕ → List ℕ
row_page h t v cap d = page_of h t v (leaves_from t cap (d + 12) 1)

-- what a call answers that passes the first checks
unfoldable pub row_out : Header → List ℤ → List Float → ℕ → ℕ → List ℕ → Wrote
row_out h t v cap d out = writing (row_page h t v cap d) out
