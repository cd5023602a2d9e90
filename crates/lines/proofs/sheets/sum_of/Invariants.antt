-- The invariant: as far as the loop came, that much is summed.
use Rattle.std.proofs.Common.{◌≡◌, ◌%◌, ◌^◌, take}
use Rattle.mesh.specs.Page.{total}
use Rattle.lines.proofs.sheets.sum_of.Given as goal

abbrev pub invariant-loop-b : goal.invariant-loop-b
invariant-loop-b l = l.sum ≡ total (take l.b-index l.s) % 2 ^ 32
