-- `anew::points_anew` meets its contract: the walls of both kinds at once.
use native.Mathlib.Omega.{arith}
use Rattle.anew.proofs.FlagRows.{points-sum}
use Rattle.anew.proofs.points_anew.Goals as goal

pub overflow_add-result-5 : goal.overflow_add-result-5
overflow_add-result-5 c =
    omega (arith, c.wall-h.ensures.0, c.wall-v.ensures.0, c.join-near.ensures.0, c.join-far.ensures.0, c.digits_of_four.ensures.0, c.weigh.ensures.0, c.weigh-2.ensures.0)

pub returns : goal.returns
returns c = (
  omega (arith, c.wall-h.ensures.0, c.wall-v.ensures.0, c.join-near.ensures.0, c.join-far.ensures.0, c.digits_of_four.ensures.0, c.weigh.ensures.0, c.weigh-2.ensures.0),
  points-sum _ _ 0 _ c.wall-h.ensures.1 c.wall-v.ensures.1 c.join-own.ensures.1 c.corner.ensures.1 c.join-near.ensures.1 c.corner-2.ensures.1 c.join-far.ensures.1 c.flag-c.ensures c.flag-south.ensures c.flag-west.ensures c.digits_of_four.ensures.1 c.weigh.ensures.1 c.flag.ensures c.weigh-2.ensures.1,
)
