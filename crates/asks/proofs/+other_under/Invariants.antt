-- One level less is left at each kid.
use Rattle.asks.proofs.+other_under.Given as goal

abbrev pub decreases-other_under : goal.decreases-other_under
decreases-other_under l = l.l
