-- `lookup::trees::Tree::leaf_at` meets its contract. A point whose coordinate has digits left lies outside the root's square. The invariant: what the
-- way down from the row n finds with l digits left is what the way from the root finds.
use Prim.Native.Nat.{◌+◌, ◌≤◌}
use mathlib.Core.Path.{◌≡◌}
use Rattle.lookup.specs.LookupRows.{row_find, row_at}
use Rattle.lookup.proofs.trees.Tree.leaf_at.Given as goal

abbrev pub invariant-loop-u : goal.invariant-loop-u
invariant-loop-u l = (l.l ≤ l.self.rows.d + 12) × (l.n ≤ l.self.rows.cap) × (row_find l.self.rows.t.now l.self.rows.cap l.u l.v l.l l.n ≡ row_at l.self.rows.t.now l.self.rows.cap l.self.rows.d l.u l.v)

abbrev pub decreases-loop-u : goal.decreases-loop-u
decreases-loop-u l = l.l
