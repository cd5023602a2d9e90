-- The rows that a scan lists.
-- Assumes nothing.
use Rattle.std.specs.Prelude.{ℕ, Bool, List}
use Rattle.walk.specs.WalkRows.{row_walk, rows_below}
use Rattle.listing.specs.ListedRows.{scans}
use Rattle.listing.specs.Kinds.{number_of}
use Rattle.listing.specs.declared.scans.Scan.{Scan}

abbrev pub lists : Scan → ℕ → Bool
lists s n = scans s.rows.t.now s.rows.cap s.rows.d s.from (number_of s.kind) n

-- from the row n on, so many levels down
abbrev pub rows_from : Scan → ℕ → ℕ → List ℕ
rows_from s left n = row_walk s.rows.t.now s.rows.cap (lists s) s.order left n

-- those below the row n alone
abbrev pub rows_under : Scan → ℕ → ℕ → List ℕ
rows_under s left n = rows_below s.rows.t.now s.rows.cap (lists s) s.order left n
