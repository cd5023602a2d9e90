-- `near::spots::put_cells` meets its contract.
use native.Mathlib.Omega.{arith}
use Rattle.edit_laws.specs.Tables.{at_kid, put_cell}
use Rattle.near.proofs.SpotSteps.{over-more, over_none, amounts-more, amounts-none}
use Rattle.near.proofs.spots.put_cells.Goals as goal

pub put_cell-requires-3 : goal.put_cell-requires-3
put_cell-requires-3 c =
    let pre = c.requires in
    (c.put_cell-2.ensures.2, omega (arith, c.put_cell-2.auto.v, c.put_cell.auto.v, pre.1), pre.2, omega arith, pre.3)

pub put_cell-requires-4 : goal.put_cell-requires-4
put_cell-requires-4 c =
    let pre = c.requires in
    (c.put_cell-3.ensures.2, omega (arith, c.put_cell-3.auto.v, c.put_cell-2.auto.v, c.put_cell.auto.v, pre.1), pre.2, omega arith, pre.3)

pub returns : goal.returns
returns c =
    let given = c.args in
    let one = put_cell given.f given.c in
    let (e₁, h₁, _) = c.put_cell.ensures in
    let (e₂, h₂, _) = c.put_cell-2.ensures in
    let (e₃, h₃, _) = c.put_cell-3.ensures in
    let (e₄, h₄, plain) = c.put_cell-4.ensures in (
      over-more (at_kid one _) _ _ _ e₁ (over-more (at_kid one _) _ _ _ e₂ (over-more (at_kid one _) _ _ _ e₃ (over-more (at_kid one _) _ _ _ e₄ (over_none _ _)))),
      amounts-more _ _ _ _ _ _ _ e₁ h₁ (amounts-more _ _ _ _ _ _ _ e₂ h₂ (amounts-more _ _ _ _ _ _ _ e₃ h₃ (amounts-more _ _ _ _ _ _ _ e₄ h₄ (amounts-none _ _ _ _ _)))),
      plain,
    )
