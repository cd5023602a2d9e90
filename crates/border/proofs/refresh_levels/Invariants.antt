-- `border::refresh_levels` meets its contract. The invariant: the levels left from here make of the table what all make of the one at the start.
use Rattle.std.proofs.Common.{◌≡◌, ◌-◌}
use Rattle.table.specs.Plain.{Plain}
use Rattle.edit_laws.specs.Tables.{refresh_levels}
use Rattle.border.specs.Borders.{border_of}
use Rattle.border.proofs.refresh_levels.Given as goal

abbrev pub invariant-loop-e : goal.invariant-loop-e
invariant-loop-e l = record {
  left : refresh_levels 13 (border_of l.b) 0 l.initial.t l.cap l.d ≡ refresh_levels (13 - l.e) (border_of l.b) l.e l.t l.cap l.d;
  plain : Plain l.t l.cap;
}
