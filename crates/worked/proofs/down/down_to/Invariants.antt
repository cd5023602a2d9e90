-- `worked::down::down_to` meets its contract: n is the row so far, when the digits below the place e are to come.
use Rattle.std.proofs.Common.{◌≡◌, ◌≤◌}
use Rattle.worked.proofs.Downs.{sofar}
use Rattle.worked.proofs.down.down_to.Given as goal

abbrev pub invariant-loop-e : goal.invariant-loop-e
invariant-loop-e l = record {
  within : l.n ≤ l.cap;
  row : l.n ≡ sofar l.t l.cap l.d l.i l.j l.e;
}
