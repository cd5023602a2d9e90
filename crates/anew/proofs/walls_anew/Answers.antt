-- `anew::walls_anew` meets its contract.
use native.Mathlib.Omega.{arith}
use Rattle.anew.proofs.FlagRows.{walls-sum}
use Rattle.anew.proofs.walls_anew.Goals as goal

pub returns : goal.returns
returns c = (
  omega arith,
  λ d. walls-sum _ _ _ _ c.args.sentenced c.flag-c.ensures c.link.ensures.1 c.flag-a.ensures c.link-2.ensures.1 c.flag-b.ensures (c.own_wall-h.ensures.1 d) (c.own_wall-v.ensures.1 d) c.digits_of_four.ensures.1 c.weigh.ensures.1,
)
