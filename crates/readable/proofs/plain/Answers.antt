-- `readable::plain` meets its contract: every row of 0 to the capacity passes.
use Prim.Native.Nat.{suc, ◌+◌}
use native.Mathlib.Omega.{arith}
use borrow.Author.Rules.{rules}
use mathlib.Core.Path.{refl, ◌∙◌}
use Rattle.std.proofs.lemmas.Iterator.{YieldsList-from_range}
use Rattle.std.proofs.lemmas.Iterator.Search.{all_from_yields_List}
use Rattle.readable.specs.Readable.{plain_row}
use Rattle.readable.proofs.CountingUp.{all_below}
use Rattle.readable.proofs.plain.Goals as goal

pub returns : goal.returns
returns c =
    let a = c.args in
    let f = plain_row a.t.now a.cap a.d in
    all_from_yields_List f _ _ _ c.all.ensures.ran (YieldsList-from_range 0 (a.cap + 1) (a.cap + 1) refl (omega arith)) (λ x b q k. search rules)
    ∙ all_below f (a.cap + 1) (suc a.cap) (omega arith)
