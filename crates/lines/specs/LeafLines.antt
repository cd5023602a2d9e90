-- The lines of listed leaves.
-- Assumes nothing.
use Rattle.std.specs.Prelude.{ℕ, List}
use Rattle.lines.specs.LineRows.{row_line, lines_of}
use Rattle.lines.specs.declared.listed.Leaves.{Leaves}

abbrev pub line_of_row : Leaves → ℕ → List ℕ
line_of_row s n = row_line s.t.now s.v.now n

abbrev pub all_lines : Leaves → List ℕ
all_lines s = lines_of s.t.now s.v.now s.rows.now
