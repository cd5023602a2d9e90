-- The answer and the output, as the definition of a call puts them together.
-- Assumes nothing.
use Rattle.std.specs.Prelude.{ℕ, List, Result}
use Rattle.mesh.specs.Call as Call
use Rattle.answer.specs.declared.Refusal.{Refusal}
use Rattle.answer.specs.Answered.{refusal_of, value_or}

-- how many places it wrote, 0 if it is refused
abbrev pub wrote_of : Result ℕ Refusal → List ℕ → Call.Wrote
wrote_of r out = record { refusal = refusal_of r; count = value_or 0 r; out = out }
