-- Demand 3 as a statement about a state of a grid and the deeds that led to it: over the mesh rules, and of the table only its words.
-- Assumes nothing.
use Rattle.std.specs.Prelude.{ℕ, zero, suc, ◌+◌, ◌%◌, ◌≤◌, ◌<◌, ◌≡◌, ◌≢◌, ◌↔◌, ◌⊎◌, cond, List, T, eqb, length, get_or, ℤ, pos}
use Rattle.std.proofs.Math.Option.{none, some}
use Rattle.std.specs.Int.Signed.{le_z}
use Rattle.mesh.specs.Picture.{parent_word, link_word}
use Rattle.mesh.specs.Tools.{count}
use Rattle.mesh.specs.LeafCounts.{count_place, leaf_counts}
use Rattle.mesh.specs.Place.{Place, Grid, Wind, compass, kid_winds, side_winds, root, level}
use Rattle.mesh.specs.Winds.{word_of_wind, ◌of◌}
use Rattle.mesh.specs.Mesh.{leaf}
use Rattle.mesh.specs.State.{State, place_of, is_used, entry, cells, number, in_use, grid_of, capacity, contents}
use Rattle.mesh.specs.Valid.{Valid}
use Rattle.mesh.specs.Build.{full, numbered, blank_cell, built}
use Rattle.mesh.specs.Scan.{permutation, scan}
use Rattle.mesh.specs.Holding.{holds, leaf_at, ground_of}
use Rattle.level_laws.specs.Beside.{NoJump}
use Rattle.walk_laws.specs.Points.{total}
use Rattle.tally_laws.specs.LeavesOn.{leaves_on}
use Rattle.demand_laws.specs.Adjacent.{Adjacent}
use Rattle.mesh.specs.Deed.{Deed, Contents}
use Rattle.demand_laws.specs.Deeds.{set_rules}
use Rattle.demand_laws.specs.Numbers.{NumberedAs}
use Rattle.demand_laws.specs.History.{History}

-- the mark after so many accepted requests
abbrev pub raised : ℕ → ℕ → ℕ
raised zero m = m
raised (suc n) m = raised n ((m + 1) % 65536)

-- every level-0 cell of the rectangle, blank
abbrev pub full_contents : Grid → Contents
full_contents g q = cond (full g q) (some blank_cell) none

-- what holds of a state s of the grid g that the deeds ds lead to
pub record Demand3 (g : Grid) (ds : List Deed) (s : State) : Type 0 where
  pub same-grid : grid_of s ≡ g
  pub mark : s.header.mark ≡ raised (length ds) 0
  -- one mesh under one numbering
  pub valid : Valid s
  -- "the mesh that the accepted requests give by the set rules alone"
  pub by-set-rules : contents s.entries ≡ set_rules ds (full_contents g)
  -- "with the numbers those rules give": at the build of the same capacity those of its order, and from there by one deed after the other
  pub first-numbers : NumberedAs (numbered g) (built g (capacity s))
  pub numbers : History (built g (capacity s)) ds s
  -- "links exactly between adjacent patches": the word w of the row of n names m exactly if m's place is adjacent to n's in the word's direction
  pub linked : (n m w : ℕ) (p q : Place) → w < 9 → place_of (entry s.entries n) ≡ some p → place_of (entry s.entries m) ≡ some q
      → (link_word s n w ≡ pos m) ↔ Adjacent (grid_of s) w p q
  -- "and returned": by the opposite wind, and between parent and kid
  pub returned : (w : Wind) → T (w of side_winds) → (n m : ℕ) → m ≢ 0 → link_word s n (word_of_wind w) ≡ pos m → link_word s m (word_of_wind (compass w).opposite) ≡ pos n
  pub parents : (n m : ℕ)
      → ((w : Wind) → T (w of kid_winds) → m ≢ 0 → link_word s n (word_of_wind w) ≡ pos m → link_word s m parent_word ≡ pos n)
      × (n ≢ 0 → link_word s m parent_word ≡ pos n → (w : Wind) × T (w of kid_winds) × (link_word s n (word_of_wind w) ≡ pos m))
  -- "every point of the remaining area in one leaf"; no leaf holds any other point
  pub tiled : (u v : ℕ) → T (cells s.entries (ground_of (grid_of s) u v))
      → (p : Place) × T (leaf (grid_of s) (cells s.entries) p) × T (holds (grid_of s) p u v) × (leaf_at s u v ≡ number s.entries p) × (number s.entries p ≢ 0)
  pub one-leaf : (u v : ℕ) (p q : Place) → T (leaf (grid_of s) (cells s.entries) p) → T (holds (grid_of s) p u v) → T (leaf (grid_of s) (cells s.entries) q) → T (holds (grid_of s) q u v) → p ≡ q
  pub no-leaf : (u v : ℕ) → (T (cells s.entries (ground_of (grid_of s) u v)) → ⊥) → leaf_at s u v ≡ 0
  -- "a walk meets each patch once": from the root over all levels, in any order of the kids
  pub walked : (o : List ℕ) → T (permutation o) → (from to : ℤ) → T (le_z (pos 12) to) → T (le_z from (level (grid_of s) root))
      → (k : ℕ) → count (eqb k) (scan s 1 o 1 from to) ≡ cond (is_used (entry s.entries k)) 1 0
  -- "the number in use is ghosts plus distinct corner points of each level"
  pub counted : in_use s.entries ≡ total (grid_of s) (cells s.entries)
  -- 02, No. 1: "From a fresh build, leaves that share part of an edge then differ by one level at most"
  pub no_jump : NoJump (grid_of s) (cells s.entries)
  -- 02, No. 5: the list beside the table "equals a full count", of the cells that the set rules give; and no leaf is of another level or status
  pub leaf-counts : (l k : ℕ) → l ≤ 12 → k ≤ 2 → get_or (leaf_counts s) (count_place l k) 0 ≡ leaves_on g (set_rules ds (full_contents g)) l k
  pub no-other-leaf : (l k : ℕ) → (12 < l) ⊎ (2 < k) → leaves_on g (set_rules ds (full_contents g)) l k ≡ 0
