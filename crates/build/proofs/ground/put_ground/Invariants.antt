-- `build::ground::put_ground` meets its contract. The invariant: the rows left make of the table what all make of the one at the start.
use Rattle.std.proofs.Common.{◌≡◌, ◌-◌}
use Rattle.header.specs.Headers.{header_of}
use Rattle.edit_laws.specs.Built.{each_row, ground_row}
use Rattle.build.proofs.ground.put_ground.Given as goal

abbrev pub invariant-loop-n : goal.invariant-loop-n
invariant-loop-n l =
    let step = ground_row (header_of l.header).grid in
    each_row step (l.b - l.a) l.a l.initial.t ≡ each_row step (l.b - l.n) l.n l.t
