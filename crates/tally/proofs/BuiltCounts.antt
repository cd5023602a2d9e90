-- The counts of a build are those of the built state.
-- Assumes nothing.
use Prim.Native.Nat.{ℕ, zero, suc, ◌+◌, ◌*◌, ◌≤◌}
use native.Mathlib.Omega.{arith}
use mathlib.Core.Path.{◌≡◌, refl, sym, ap, ◌∙◌}
use mathlib.Core.Bool.{◌&&◌, cond}
use lib.Dec.{eqb}
use lib.ListN.{get_or, get_or-replicate, length-replicate}
use borrow.Author.Tests.{ne_eqb}
use Rattle.mesh.specs.Place.{Grid}
use Rattle.mesh.specs.Build.{built}
use Rattle.mesh.specs.LeafCounts.{count_place, leaf_counts}
use Rattle.mesh.specs.Call.{Rectangle}
use Rattle.tally_laws.proofs.BuildLeaves.{built-counts}
use Rattle.tally_laws.proofs.Listed.{counts-are}
use Rattle.tally.specs.TallyRows.{built_counts}

-- the first place, and every other
at_place : (n l k : ℕ) → l ≤ 12 → k ≤ 2 → get_or (built_counts n) (count_place l k) 0 ≡ cond (eqb l 0 && eqb k 0) n 0
unfolding built_counts
at_place n zero zero a b = refl
at_place n zero (suc k) a b =
    let e : count_place zero (suc k) ≡ suc k = omega arith in
    rw (e, ne_eqb (suc k) 0 (λ z. omega arith)) (get_or-replicate {A = ℕ} 38 k 0 0 (omega arith))
at_place n (suc l) k a b =
    let e : count_place (suc l) k ≡ suc (3 * l + 2 + k) = omega arith in
    rw (e, ne_eqb (suc l) 0 (λ z. omega arith)) (get_or-replicate {A = ℕ} 38 (3 * l + 2 + k) 0 0 (omega arith))

pub built-listed : (g : Grid) → Rectangle g → (cap : ℕ) → built_counts (g.columns * g.rows) ≡ leaf_counts (built g cap)
unfolding built_counts
built-listed g r cap = counts-are (built g cap) (built_counts (g.columns * g.rows)) (ap suc (length-replicate {A = ℕ} 38 0)) (λ l k a b. at_place (g.columns * g.rows) l k a b ∙ sym (built-counts g r l k cap))
