-- `cells::flags::internal_flags` meets its contract: the sum with its own walls left out.
use Rattle.cells.proofs.FlagSums.{internal-sum}
use native.Mathlib.Omega.{arith}
use Rattle.cells.proofs.flags.internal_flags.Goals as goal

pub returns : goal.returns
returns c =
    let s = c.args.levels.now in (
      omega (arith, c.corner-near.ensures.0, c.corner-far.ensures.0, c.weigh.ensures.0),
      internal-sum s.t.now s.cap s.d c.args.n c.args.sentenced c.requires.1 c.requires.2 c.requires.3 c.corner-near.ensures.1 c.corner-far.ensures.1 c.weigh.ensures.1,
    )
