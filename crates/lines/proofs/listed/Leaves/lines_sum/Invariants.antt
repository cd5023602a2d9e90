-- The invariant: as far as the loop came, that many lines are summed.
use Rattle.std.proofs.Common.{◌≡◌, ◌+◌, ◌%◌, ◌^◌, take}
use Rattle.mesh.specs.Page.{total}
use Rattle.lines.specs.LineRows.{lines_of}
use Rattle.lines.proofs.listed.Leaves.lines_sum.Given as goal

abbrev pub invariant-loop-n : goal.invariant-loop-n
invariant-loop-n l = l.sum ≡ (l.s + total (lines_of l.self.t.now l.self.v.now (take l.n-index l.self.rows.now))) % 2 ^ 32
