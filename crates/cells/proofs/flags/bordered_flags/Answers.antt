-- `cells::flags::bordered_flags` meets its contract: the walls of both kinds at once.
use Rattle.cells.proofs.FlagSums.{bordered-sum}
use native.Mathlib.Omega.{arith}
use Rattle.cells.proofs.flags.bordered_flags.Goals as goal

pub returns : goal.returns
returns c =
    let s = c.args.levels.now in (
      omega (arith, c.own_wall-h.ensures.0, c.own_wall-v.ensures.0, c.join-near.ensures.0, c.join-far.ensures.0, c.weigh.ensures.0),
      bordered-sum s.t.now s.cap s.d c.args.n c.args.sentenced c.requires.1
          c.link.ensures.1 c.flag-south.ensures c.link-2.ensures.1 c.flag-west.ensures (c.own_wall-h.ensures.1 s.d) (c.own_wall-v.ensures.1 s.d) c.join-x.ensures.1 c.corner.ensures.1 c.join-near.ensures.1 c.corner-2.ensures.1 c.join-far.ensures.1 c.weigh.ensures.1,
    )
