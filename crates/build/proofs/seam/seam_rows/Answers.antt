-- `build::seam::seam_rows` meets its contract.
use Rattle.std.proofs.Common.{arith, sym, ◌∙◌}
use Rattle.build.proofs.RowTurns.{rows_on, rows-done}
use Rattle.build.proofs.seam.seam_rows.Goals as goal

pub loop-n-preserved : goal.loop-n-preserved
loop-n-preserved c =
    let l = c.loop-n in
    record {
      left = l.invariant.left ∙ rows_on _ l.n _ l.t _ (omega arith) c.seam_row.ensures.0;
      plain = c.seam_row.ensures.1;
    }

pub returns : goal.returns
returns c =
    let l = c.loop-n in
    rw (sym c.is_ring.ensures ∙ c.if-not-is_ring.false) (sym (l.invariant.left ∙ rows-done _ l.n _ l.t (omega arith)))
