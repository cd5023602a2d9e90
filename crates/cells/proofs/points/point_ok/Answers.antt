-- `cells::points::point_ok` meets its contract: the tests of a cell in turn; the others are found.
use mathlib.Core.Bool.{and-true}
use Rattle.checker_laws.specs.Rowwise.{point_ok}
use Rattle.worked.specs.Worked.{touched_in}
use Rattle.cells.proofs.points.point_ok.Goals as goal

pub returns-then-flag : goal.returns-then-flag
unfolding point_ok touched_in
returns-then-flag c =
    rw (← c.flag.ensures, c.if-flag.true, ← c.cell_ok.ensures, c.if-not-cell_ok.false, ← c.flag-sentenced.ensures, ← c.sentence_if.ensures, c.if-not-sentence_if.false, ← c.cell_flags.ensures.1, and-true) c.says.ensures
