-- The invariant: as far as the loop came, that many lines are put.
use Rattle.std.proofs.Common.{take}
use Rattle.lines.specs.Sheets.{PutOn}
use Rattle.lines.specs.LineRows.{lines_of}
use Rattle.lines.proofs.listed.Leaves.put_lines.Given as goal

abbrev pub invariant-loop-n : goal.invariant-loop-n
invariant-loop-n l = PutOn l.fn.sheet (lines_of l.self.t.now l.self.v.now (take l.n-index l.self.rows.now)) l.sheet
