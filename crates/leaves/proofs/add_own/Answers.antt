-- `leaves::add_own` meets its contract: a leaf is added.
use native.Mathlib.Omega.{arith}
use mathlib.Core.Path.{refl, sym, ap, ◌∙◌}
use lib.ListN.{length}
use Rattle.leaves.proofs.LeafRows.{own-one, own-none, none_also, also_as}
use Rattle.leaves.proofs.add_own.Goals as goal

pub bounds-found-found : goal.bounds-found-found
bounds-found-found c = omega (arith, c.requires, ap length (own-one _ _ _ (sym c.leaf_row.ensures ∙ c.if-leaf_row.true)))

pub returns-then-leaf_row : goal.returns-then-leaf_row
returns-then-leaf_row c =
    also_as (own-one _ _ _ (sym c.leaf_row.ensures ∙ c.if-leaf_row.true)) (record { same = refl; put = record { stored = refl; next = refl } })

pub returns-else-leaf_row : goal.returns-else-leaf_row
returns-else-leaf_row c = also_as (own-none _ _ _ (sym c.leaf_row.ensures ∙ c.if-leaf_row.false)) (none_also _)
