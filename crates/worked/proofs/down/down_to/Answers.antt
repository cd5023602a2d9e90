-- `worked::down::down_to` meets its contract.
use Rattle.std.proofs.Common.{arith}
use Rattle.worked.proofs.Downs.{down-start, down-again}
use Rattle.worked.proofs.down.down_to.Goals as goal

pub loop-e-init : goal.loop-e-init
loop-e-init c = record { within = omega arith; row = down-start _ _ _ _ _ _ c.root_at-n.ensures.1 }

pub loop-e-preserved : goal.loop-e-preserved
loop-e-preserved c =
    let l = c.loop-e in
    record {
      within = c.named_by-n.ensures.0;
      row = down-again _ _ _ _ _ l.e l.n _ _ c.loop-e-test.true l.auto.e l.invariant.row c.kid_word.ensures.1 c.named_by-n.ensures.1;
    }
