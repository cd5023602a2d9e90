-- The invariant: as far as the loop came, that many lines are measured.
use Rattle.std.proofs.Common.{◌≡◌, ◌*◌, ◌≤◌, length, take}
use Rattle.lines.specs.LineRows.{lines_of}
use Rattle.lines.proofs.listed.Leaves.lines_size.Given as goal

abbrev pub invariant-loop-n : goal.invariant-loop-n
invariant-loop-n l = record { short : l.size ≤ 63 * l.n-index; measured : l.size ≡ length (lines_of l.self.t.now l.self.v.now (take l.n-index l.self.rows.now)) }
