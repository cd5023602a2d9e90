-- `build::grow::grow_levels` meets its contract. The invariant: the levels left make of the table what all make of the one at the start, and there is room for them.
use Rattle.std.proofs.Common.{◌≡◌}
use Rattle.edit_laws.specs.BuildSoFar.{LevelsToGrow}
use Rattle.header.specs.Headers.{header_of}
use Rattle.edit_laws.specs.Built.{grow_levels, ground_from}
use Rattle.build.specs.BuildSteps.{growth}
use Rattle.build.proofs.grow.grow_levels.Given as goal

abbrev pub invariant-loop-up : goal.invariant-loop-up
invariant-loop-up l =
    let grid = (header_of l.plan.header).grid in
    let start = growth l.initial.t 2 in
    let now = growth l.t l.r.next in
    record {
      left : grow_levels grid l.plan.cap l.plan.d l.plan.d 1 start ≡ grow_levels grid l.plan.cap l.plan.d l.up l.r.ground now;
      from : ground_from grid l.plan.cap l.plan.d l.plan.d 1 start ≡ ground_from grid l.plan.cap l.plan.d l.up l.r.ground now;
      room : LevelsToGrow grid l.plan.cap l.up l.r.ground now;
    }
