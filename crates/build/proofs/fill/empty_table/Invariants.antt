-- `build::fill::empty_table` meets its contract. The invariant: row 0 and the n rows after it are written.
use Rattle.std.proofs.Common.{◌≡◌, ◌+◌, ◌*◌, take}
use Rattle.mesh.specs.Picture.{row_words}
use Rattle.edit_laws.specs.Built.{empty_table}
use Rattle.build.proofs.fill.empty_table.Given as goal

abbrev pub invariant-loop-n : goal.invariant-loop-n
invariant-loop-n l = take ((l.n + 1) * row_words) l.t ≡ empty_table l.n
