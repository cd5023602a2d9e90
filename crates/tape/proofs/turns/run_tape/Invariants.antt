-- `tape::turns::run_tape` meets its contract: the invariant is that the rules' run goes on from the state that is pictured now and that the map is of
-- its free numbers, and the measure how much of the tape is left.
use Prim.Native.Nat.{◌-◌}
use mathlib.Core.Path.{◌≡◌}
use lib.ListN.{length}
use Rattle.std.specs.Prelude.{None}
use Rattle.apply.specs.Edited.{held, Kept}
use Rattle.tape.proofs.Running.{Ongoing}
use Rattle.tape.proofs.turns.run_tape.Given as goal

abbrev pub invariant-loop-run : goal.invariant-loop-run
invariant-loop-run l =
    let i = l.initial in
    Ongoing l.tape l.cap l.d l.mark (held i.edited) (held l.edited) l.run.offset l.run.done l.run.mark × Kept i.edited l.edited × (l.run.refusal ≡ None)

abbrev pub decreases-loop-run : goal.decreases-loop-run
decreases-loop-run l = length l.tape - l.run.offset
