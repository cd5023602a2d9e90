-- `build::grow::grow_level` meets its contract. The invariant: the rows left make of the table what all make of the one at the start, and there is room for their kids.
use Rattle.std.proofs.Common.{◌≡◌, ◌-◌}
use Rattle.edit_laws.specs.BuildSoFar.{LevelToGrow}
use Rattle.header.specs.Headers.{header_of}
use Rattle.edit_laws.specs.Built.{grow_level}
use Rattle.build.specs.BuildSteps.{growth}
use Rattle.build.proofs.grow.grow_level.Given as goal

abbrev pub invariant-loop-q : goal.invariant-loop-q
invariant-loop-q l =
    let grid = (header_of l.plan.header).grid in
    record {
      left : grow_level grid l.plan.cap l.plan.d l.up (l.next - l.p) l.p (growth l.initial.t l.next) ≡ grow_level grid l.plan.cap l.plan.d l.up (l.next - l.q) l.q (growth l.t l.k);
      room : LevelToGrow grid l.plan.cap l.up (l.next - l.q) l.q (growth l.t l.k);
    }
