-- What is put on a sheet.
-- Assumes nothing.
use Rattle.std.specs.Prelude.{ℕ, ◌+◌, ◌≤◌, ◌≡◌, List, length}
use Rattle.lines.specs.Puts.{Put}
use Rattle.lines.specs.declared.sheets.Sheet.{Sheet}

-- n bytes more fit
abbrev pub HasRoom : Sheet → ℕ → Type 0
HasRoom s n = s.at + n ≤ length s.out.now

-- xs put on the same sheet from its place on
pub record PutOn (s : Sheet) (xs : List ℕ) (e : Sheet) : Type 0 where
  pub same : e.out.ghost_name ≡ s.out.ghost_name
  pub put : Put s.out.now s.at xs e.out.now e.at
