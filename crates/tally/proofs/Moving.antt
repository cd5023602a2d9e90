-- Counts that move as those of a state do become the counts of the state after: place by place, what comes is added and what goes is there.
-- Assumes nothing.
use Prim.Native.Nat.{ℕ, ◌+◌, ◌/◌, ◌%◌, ◌≤◌, ◌<◌}
use native.Mathlib.Omega.{arith}
use native.Mathlib.Decide.{dec_lt}
use mathlib.Core.Path.{◌≡◌, ap, ◌∙◌}
use mathlib.Core.Bool.{cond}
use mathlib.Core.List.{List}
use lib.Dec.{eqb}
use lib.ListN.{length, get_or}
use Rattle.mesh.specs.Tools.{count}
use Rattle.mesh.specs.State.{State}
use Rattle.mesh.specs.LeafCounts.{count_places, count_place, leaf_count, leaf_counts}
use Rattle.tally_laws.proofs.Listed.{counts-length, counts-at, counts-are, count_most}
use Rattle.tally.specs.CountSteps.{more, lesses, Move, moved, Movable}
use Rattle.tally.proofs.CountLaws.{more-at, more-length, lesses-at, lesses-length}

-- every place is that of a level and a status
by_place : (P : ℕ → Type 0) → ((l k : ℕ) → l ≤ 12 → k ≤ 2 → P (count_place l k)) → (j : ℕ) → j < count_places → P j
by_place P h j l =
    let e : count_place (j / 3) (j % 3) ≡ j = omega arith in
    rw e at (h (j / 3) (j % 3) (omega arith) (omega arith))

pub record Balanced (s s' : State) (m : Move) : Type 0 where
  pub inside : m.into < count_places
  pub within : (j : ℕ) → count_places ≤ j → count (eqb j) m.from ≡ 0
  pub few : m.many ≤ 4
  pub balance : (l k : ℕ) → l ≤ 12 → k ≤ 2 → leaf_count s' l k + count (eqb (count_place l k)) m.from ≡ leaf_count s l k + cond (eqb (count_place l k) m.into) m.many 0

module _ (s s' : State) (m : Move) (b : Balanced s s' m) where
  abbrev come : List ℕ
  come = more (leaf_counts s) m.into m.many

  come-at : (l k : ℕ) → l ≤ 12 → k ≤ 2 → get_or come (count_place l k) 0 ≡ leaf_count s l k + cond (eqb (count_place l k) m.into) m.many 0
  come-at l k x y =
      more-at (leaf_counts s) m.into m.many (count_place l k) (omega (arith, counts-length s, b.inside))
      ∙ ap (λ (a : ℕ). a + cond (eqb (count_place l k) m.into) m.many 0) (counts-at s l k x y)

  each : (j : ℕ) → count (eqb j) m.from ≤ get_or come j 0
  each j = go (dec_lt j count_places)
    where
      go : Dec (j < count_places) → count (eqb j) m.from ≤ get_or come j 0
      go (yes l) = by_place (λ j. count (eqb j) m.from ≤ get_or come j 0) (λ l k x y. omega (arith, come-at l k x y, b.balance l k x y)) j l
      go (no l) = omega (arith, b.within j (omega arith))

  pub can-move : length s.entries ≤ 4096 → Movable (leaf_counts s) m
  can-move few = record {
    inside = omega (arith, counts-length s, b.inside);
    small = by_place (λ j. get_or (leaf_counts s) j 0 + m.many < 4294967296) (λ l k x y. omega (arith, counts-at s l k x y, count_most s l k, b.few)) m.into b.inside;
    there = record { each = each };
  }

  pub moves-on : moved (leaf_counts s) m ≡ leaf_counts s'
  unfolding moved
  moves-on =
      counts-are s' (lesses come m.from) (lesses-length m.from come ∙ more-length (leaf_counts s) m.into m.many ∙ counts-length s) (λ l k x y.
      omega (arith, lesses-at m.from come (count_place l k), come-at l k x y, b.balance l k x y))
