-- `count::patches_in` meets its contract. The invariant: the patches of the levels passed are counted.
use Prim.Native.Nat.{◌*◌, ◌≤◌}
use mathlib.Core.Path.{◌≡◌}
use Rattle.number_laws.specs.Sizes.{levels_size}
use Rattle.header.specs.Headers.{header_of}
use Rattle.count.proofs.patches_in.Given as goal

abbrev pub invariant-loop-up : goal.invariant-loop-up
invariant-loop-up l = (l.d ≤ 6) × (l.sum ≤ 1089 * l.up) × (l.sum ≡ levels_size (header_of l.header).grid l.up)
