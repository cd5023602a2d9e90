-- `refusals::one_row::sentence_at` meets its contract.
use mathlib.Core.Path.{◌∙◌}
use Rattle.refusals.proofs.Arms.{sentence-written}
use Rattle.refusals.proofs.one_row.sentence_at.Goals as goal

pub returns : goal.returns
returns c =
    c.put.ensures ∙ sentence-written _ _ _ _ _ c.word.ensures c.flag.ensures c.sentence_weight.ensures.1
