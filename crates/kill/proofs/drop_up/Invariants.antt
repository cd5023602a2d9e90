-- The invariant: what is left to do is the same from here as from the start.
use Rattle.std.proofs.Common.{◌≡◌, ◌≤◌, ◌-◌}
use Rattle.edit_laws.specs.Tables.{drop_up}
use Rattle.patch.specs.NextPatches.{Same}
use Rattle.kill.proofs.drop_up.Given as goal

abbrev pub invariant-loop-level : goal.invariant-loop-level
invariant-loop-level l =
    record {
      same : Same l.initial.p l.p;
      within : l.k ≤ l.p.cap;
      left : drop_up l.levels l.initial.p.t.now l.initial.p.cap l.n ≡ drop_up (l.levels - l._level) l.p.t.now l.p.cap l.k;
    }
