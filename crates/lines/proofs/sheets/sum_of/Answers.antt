-- `lines::sheets::sum_of` meets its contract.
use Rattle.std.proofs.Common.{◌%◌, ◌^◌, ap, ◌∙◌, arith, take_all}
use Rattle.mesh.specs.Page.{total}
use Rattle.lines.proofs.Puts.{total-more}
use Rattle.lines.proofs.sheets.sum_of.Goals as goal

pub loop-b-preserved : goal.loop-b-preserved
loop-b-preserved c = omega (arith, total-more c.args.s.now c.loop-b.b-index c.loop-b-test.true, c.loop-b.invariant)

pub returns : goal.returns
returns c = c.loop-b.invariant ∙ ap (λ z. total z % 2 ^ 32) (take_all _ _ c.loop-b-test.false)
