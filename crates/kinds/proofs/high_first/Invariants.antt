-- `kinds::high_first` meets its contract: the invariant is that the number is that of the bytes read so far.
use Prim.Native.Nat.{◌*◌, ◌^◌, ◌<◌}
use mathlib.Core.Path.{◌≡◌}
use lib.ListN.{take, drop}
use Rattle.mesh.specs.Tape.{high_first}
use Rattle.kinds.proofs.high_first.Given as goal

abbrev pub invariant-loop-byte : goal.invariant-loop-byte
invariant-loop-byte l = (l.n < 2 ^ (8 * l.byte-index)) × (l.n ≡ high_first 0 (take l.byte-index (drop l.at l.s)))
