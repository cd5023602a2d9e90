-- `near::spots::put_cell` meets its contract.
use Rattle.near.proofs.SpotSteps.{cell-none, cell-put}
use Rattle.edit_laws.proofs.PlainKept.{plain_cell}
use Rattle.near.proofs.spots.put_cell.Goals as goal

pub returns-then-k-eq0 : goal.returns-then-k-eq0
returns-then-k-eq0 c =
    let (words, values) = cell-none _ _ _ _ _ c.kid-k.ensures.1 c.if-k-eq0.true in
    (words, values, c.requires.0)

pub returns : goal.returns
returns c =
    let (carried, amount) = c.put_carried.ensures in
    let (words, values) = cell-put _ _ _ _ _ c.kid-k.ensures.1 c.if-k-eq0.false c.put.ensures carried amount in
    (words, values, plain_cell _ _ c.args.c c.requires.0 c.put.ensures carried c.requires.4)
