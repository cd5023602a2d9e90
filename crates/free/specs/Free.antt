-- The free numbers of a table: which is the next, and how many there are.
-- Assumes nothing.
use Rattle.std.specs.Prelude.{ℕ, List, ℤ}
use Rattle.table.specs.Words.{free_at}
use Rattle.free.specs.FreeMap.{first_from, total}

-- "each new patch takes the smallest free number", 0 if there is none: the one place that says it of a table
unfoldable pub next_in : List ℤ → ℕ → ℕ
next_in t cap = first_from (free_at t) cap 1

-- how many rows are free
unfoldable pub free_total : List ℤ → ℕ
free_total t = total (free_at t) 4096
