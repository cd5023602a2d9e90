-- What a public call lends and answers, as the definitions of `mesh` take it. Each contract is one equation with one of them.
-- Assumes nothing.
use Rattle.std.specs.Prelude.{ℕ, ◌≡◌, List, Result}
use Rattle.mesh.specs.Place.{Grid}
use Rattle.mesh.specs.LeafCounts.{Counted}
use Rattle.mesh.specs.Call as Call
use Rattle.answer.specs.declared.Refusal.{Refusal}
use Rattle.answer.specs.Answered.{refusal_of, value_or, stop_of}
use Rattle.grid.specs.declared.Taped.{Taped}

-- ---- build

-- the number in use, 0 if it is refused
abbrev pub built_of : Result ℕ Refusal → Counted → Call.Built
built_of r l = record { refusal = refusal_of r; in_use = value_or 0 r; lent = l }

-- the grid that it is asked for
abbrev pub asked : ℕ → ℕ → ℕ → Grid
asked columns rows mode = record { columns = columns; rows = rows; mode = mode }

-- what a build may do: what is lent, the capacity, columns, rows and mode at entry; what is lent and the answer at exit
pub record Builds (l : Counted) (cap columns rows mode : ℕ) (l' : Counted) (r : Result ℕ Refusal) : Type 0 where
  pub is : built_of r l' ≡ Call.build_call cap l (asked columns rows mode)

-- ---- tape

abbrev pub taped_of : Taped → Counted → Call.Taped
taped_of r l = record { done = r.done; refusal = stop_of r.refusal; offset = r.offset; lent = l }

-- what a tape may do: what is lent, the capacity and the bytes at entry; what is lent and the answer at exit
pub record Tapes (l : Counted) (cap : ℕ) (bytes : List ℕ) (l' : Counted) (r : Taped) : Type 0 where
  pub is : taped_of r l' ≡ Call.tape_call cap l bytes

-- ---- the question

-- the number, 0 if it is refused
abbrev pub count_of : Result ℕ Refusal → Call.Count
count_of r = record { refusal = refusal_of r; count = value_or 0 r }
