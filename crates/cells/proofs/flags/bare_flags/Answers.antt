-- `cells::flags::bare_flags` meets its contract: the walls of both kinds at once.
use Rattle.cells.proofs.FlagSums.{bare-walls}
use native.Mathlib.Omega.{arith}
use Rattle.cells.proofs.flags.bare_flags.Goals as goal

pub returns : goal.returns
returns c =
    let s = c.args.levels.now in (
      omega (arith, c.own_wall-h.ensures.0, c.own_wall-v.ensures.0, c.join-near.ensures.0, c.weigh.ensures.0, c.weigh-2.ensures.0),
      bare-walls s.t.now s.cap s.d c.args.n c.requires.1
          c.link.ensures.1 c.flag-south.ensures c.link-2.ensures.1 c.flag-west.ensures (c.own_wall-h.ensures.1 s.d) (c.own_wall-v.ensures.1 s.d) c.join-x.ensures.1 c.corner.ensures.1 c.join-near.ensures.1 c.weigh.ensures.1 c.weigh-2.ensures.1,
    )
