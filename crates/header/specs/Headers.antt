-- The header as the code has it, and what is lent with it, as the rules' definitions take them.
-- Assumes nothing.
use Rattle.std.specs.Prelude.{ℕ, List, ℤ, Float}
use Rattle.mesh.specs.State as State
use Rattle.mesh.specs.Picture.{Lent}
use Rattle.mesh.specs.LeafCounts.{Counted}
use Rattle.header.specs.declared.Header.{Header}

-- "columns, rows, and a 16-bit edit mark"; "the header gains the mode" (02, No. 4)
abbrev pub header_of : Header → State.Header
header_of h = record { grid = record { columns = h.columns; rows = h.rows; mode = h.mode }; mark = h.mark }

abbrev pub lent_of : Header → List ℤ → List Float → Lent
lent_of h t v = record { header = header_of h; words = t; values = v }

-- what build, tape and checker are lent (02, No. 5)
abbrev pub counted_of : Header → List ℤ → List Float → List ℕ → Counted
counted_of h t v c = record { lent = lent_of h t v; counts = c }

-- what a build puts there
abbrev pub fresh_header : ℕ → ℕ → ℕ → Header
fresh_header columns rows mode = record { columns = columns; rows = rows; mode = mode; mark = 0 }

abbrev pub with_mark : Header → ℕ → Header
with_mark h mark = record { columns = h.columns; rows = h.rows; mode = h.mode; mark = mark }
