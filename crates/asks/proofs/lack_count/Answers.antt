-- `asks::lack_count` meets its contract: the nine rows in the order of 01.
use Rattle.asks.proofs.AskedArms.{lacking-sum}
use Rattle.asks.proofs.lack_count.Goals as goal

pub returns : goal.returns
returns c =
    lacking-sum _ _ _ _ _ _ _ _ _ _ _ _ _ _ _ c.link-north.ensures.1 c.link-east.ensures.1 c.link-far.ensures.1
    c.lacks.ensures.1 c.lacks-2.ensures.1 c.lacks-3.ensures.1 c.lacks-4.ensures.1 c.lacks-5.ensures.1 c.lacks-6.ensures.1 c.lacks-7.ensures.1 c.lacks-8.ensures.1 c.lacks-9.ensures.1
