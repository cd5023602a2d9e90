-- `build::seam::seam_rows` meets its contract. The invariant: the rows left make of the table what all make of the one at the start, and it is plain.
use Rattle.std.proofs.Common.{◌≡◌, ◌-◌}
use Rattle.header.specs.Headers.{header_of}
use Rattle.edit_laws.specs.Built.{each_row, seam_row}
use Rattle.table.specs.Plain.{Plain}
use Rattle.build.proofs.seam.seam_rows.Given as goal

abbrev pub invariant-loop-n : goal.invariant-loop-n
invariant-loop-n l = let step = seam_row (header_of l.header).grid l.cap l.d in
    record {
      left : each_row step (l.b - l.a) l.a l.initial.t ≡ each_row step (l.b - l.n) l.n l.t;
      plain : Plain l.t l.cap;
    }
