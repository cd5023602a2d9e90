-- What 02, No. 4, says of a ring, read off the rules over both modes: the last row lies south of row 0, the wall between them is internal, no
-- horizontal wall of a ring just built is boundary; no patch stands past the last row; and the number in use of a ring just built.
-- Assumes nothing.
use Prim.Native.Nat.{ℕ, zero, suc, ◌-◌, ◌*◌, ◌/◌, ◌%◌, ◌+◌, ◌^◌, ◌≤◌, ◌<◌}
use native.Mathlib.Nat.{mod_self}
use native.Mathlib.Omega.{arith}
use mathlib.Core.Path.{◌≡◌, refl, sym, ap, ◌∙◌, subst}
use mathlib.Core.Logic.{inl, inr}
use mathlib.Core.Bool.{Bool, true, false}
use mathlib.Core.Option.{Option, none, some}
use mathlib.Core.List.{List}
use lib.Dec.{T}
use lib.IntN.{pos}
use Rattle.mesh.specs.Picture.{link_word}
use Rattle.number_laws.specs.Sizes.{level_size, levels_size}
use Rattle.mesh.specs.Call.{Rectangle}
use Rattle.mesh.specs.Place.{Place, Grid, is_ring, at, base, lap, to_north, step, N, S}
use Rattle.mesh.specs.Mesh.{leaf, internal, is_boundary, wall_of, on, in_area, wall_h}
use Rattle.mesh.specs.State.{State, place_of, entry, cells, in_use, grid_of}
use Rattle.mesh.specs.Valid.{Valid}
use Rattle.mesh.specs.Holding.{west_edge, east_edge, south_edge, north_edge, leaf_at, ground_of}
use Rattle.mesh.specs.Build.{full, built}
use Rattle.place_laws.proofs.Bools.{yes-is, bool-ext}
use Rattle.place_laws.proofs.Places.{place-path}
use Rattle.place_laws.proofs.Steps.{lap-ring, north-depth, north-i, north-j, south-on, south-anew, south-north, step_back}
use Rattle.place_laws.proofs.Laps.{lap-base, after-within}
use Rattle.place_laws.proofs.Base.{patch-ring}
use Rattle.place_laws.proofs.Full.{full-cell, cell_full}
use Rattle.number_laws.proofs.Sizes.{numbered-size}
use Rattle.number_laws.proofs.Building.{built-in-use}
use Rattle.level_laws.specs.Beside.{Overlap}
use Rattle.mesh.specs.Deed.{Deed}
use Rattle.demand_laws.specs.Demand.{Demand3}

module _ (g : Grid) (in-range : Rectangle g) (ring : T (is_ring g)) where
  rows_of : lap g (base g) ≡ g.rows
  rows_of = lap-base g (yes-is (is_ring g) ring)

  -- ---- the seam

  -- "row index on level k counts modulo rows × 2^k": south of row 0 lies the last row
  pub seam-south : (i : ℕ) → step g S (at (base g) i 0) ≡ some (at (base g) i (g.rows - 1))
  seam-south i = south-anew g (base g) i (g.rows - 1) (omega (arith, rows_of, in-range.2))

  pub seam-north : (i : ℕ) → step g N (at (base g) i (g.rows - 1)) ≡ some (at (base g) i 0)
  seam-north i = step_back g S (at (base g) i 0) (at (base g) i (g.rows - 1)) (seam-south i)

  -- ---- a ring just built

  -- there is a cell on both sides of a wall or on none
  both-sides : (p : Place) → on g (full g) (step g S p) ≡ full g p
  both-sides p = bool-ext (on g (full g) (step g S p)) (full g p) (back (step g S p) refl) (λ t. there (full-cell g p t) p.j refl)
    where
      back : (o : Option Place) → step g S p ≡ o → T (on g (full g) o) → T (full g p)
      back none e t = absurd t
      back (some q) e t =
          let (d, x, y) = full-cell g q t in
          let l : (to_north g q).j < g.rows = rw (north-j g q, d, rows_of) (after-within g.rows q.j y) in
          subst (λ (r : Place). T (full g r)) (south-north g p q e) (cell_full g (to_north g q) (north-depth g q ∙ d) (rw (north-i g q) x) l)

      -- p by its row
      by_row : p.depth ≡ base g → (j : ℕ) → p.j ≡ j → p ≡ at (base g) p.i j
      by_row d j e = place-path p (at (base g) p.i j) d refl e

      there : (p.depth ≡ base g) × (p.i < g.columns) × (p.j < g.rows) → (j : ℕ) → p.j ≡ j → T (on g (full g) (step g S p))
      there (d, x, y) zero e = rw (ap (step g S) (by_row d 0 e) ∙ south-anew g (base g) p.i (g.rows - 1) (omega (arith, rows_of))) (cell_full g (at (base g) p.i (g.rows - 1)) refl x (omega arith))
      there (d, x, y) (suc j) e = rw (ap (step g S) (by_row d (suc j) e) ∙ south-on g (base g) p.i j (λ k. omega (arith, rows_of))) (cell_full g (at (base g) p.i j) refl x (omega arith))

  pub seam-internal : (i : ℕ) → i < g.columns → wall_h g (full g) (some (at (base g) i 0)) ≡ internal
  unfolding wall_h
  seam-internal i l =
      let here = yes-is (full g (at (base g) i 0)) (cell_full g (at (base g) i 0) refl l in-range.2) in
      rw (both-sides (at (base g) i 0), here)

  pub no-boundary : (p : Place) → is_boundary (wall_h g (full g) (some p)) ≡ false
  unfolding wall_h
  no-boundary p = rw (both-sides p) (go (full g p) (in_area g (full g) (step g S p)) (in_area g (full g) (some p)))
    where
      go : (b x y : Bool) → is_boundary (wall_of b b x y) ≡ false
      go true x y = refl
      go false x y = refl

  -- the number in use: of n levels from level 0 down, those of each
  pub ring-in-use : (cap : ℕ) → in_use (built g cap).entries ≡ levels_size g (suc (base g))
  ring-in-use cap = built-in-use g cap ∙ numbered-size g in-range

  pub ring-level : (n : ℕ) → level_size g n ≡ (g.columns / 2 ^ n + 1) * ((g.rows - 1) / 2 ^ n + 1)
  unfolding level_size
  ring-level n = rw (yes-is (is_ring g) ring)

-- ---- any ring

-- every patch has its row below rows × 2^k
pub ring-rows : (s : State) → Valid s → T (is_ring (grid_of s)) → (n : ℕ) (p : Place) → place_of (entry s.entries n) ≡ some p → base (grid_of s) ≤ p.depth
    → p.j < (grid_of s).rows * 2 ^ (p.depth - base (grid_of s))
ring-rows s v ring n p h l = patch-ring (grid_of s) (cells s.entries) v.mesh p l (v.each n p h) (yes-is (is_ring (grid_of s)) ring)

-- ---- demand 3, over the seam

module _ {g : Grid} {ds : List Deed} {s : State} (d : Demand3 g ds s) (ring : T (is_ring (grid_of s))) where
  -- a patch of the last row names that of row 0 as its neighbour to the north
  pub seam-linked : (n m : ℕ) (p q : Place) → place_of (entry s.entries n) ≡ some p → place_of (entry s.entries m) ≡ some q
      → base (grid_of s) ≤ p.depth → p.j + 1 ≡ (grid_of s).rows * 2 ^ (p.depth - base (grid_of s)) → q ≡ at p.depth p.i 0 → link_word s n 5 ≡ pos m
  seam-linked n m p q a b l e h =
      let n' : lap (grid_of s) p.depth ≡ p.j + 1 = lap-ring (grid_of s) p.depth (yes-is (is_ring (grid_of s)) ring) l ∙ sym e in
      let round : (p.j + 1) % lap (grid_of s) p.depth ≡ 0 = rw (n', mod_self (p.j + 1)) in
      (d.linked n m 5 p q (omega arith) a b).1 (rw h (refl, refl, sym round))

  -- leaves that meet at the seam differ by one level at most
  pub seam-no-jump : (p q : Place) → T (leaf (grid_of s) (cells s.entries) p) → T (leaf (grid_of s) (cells s.entries) q)
      → north_edge (grid_of s) p ≡ (grid_of s).rows * 4096 → south_edge (grid_of s) q ≡ 0
      → Overlap (west_edge (grid_of s) p) (east_edge (grid_of s) p) (west_edge (grid_of s) q) (east_edge (grid_of s) q) → (p.depth ≤ suc q.depth) × (q.depth ≤ suc p.depth)
  seam-no-jump p q a b north south o =
      let z : base (grid_of s) + 12 - base (grid_of s) ≡ 12 = omega arith in
      let top : lap (grid_of s) (base (grid_of s) + 12) ≡ (grid_of s).rows * 4096 = lap-ring (grid_of s) (base (grid_of s) + 12) (yes-is (is_ring (grid_of s)) ring) (omega arith) ∙ rw z in
      d.no_jump p q a b (inr (inl (inr (north ∙ sym top, south)), o))

-- no leaf holds a point with a load of rows × 4096 or more
pub none-past : {g : Grid} {ds : List Deed} {s : State} → Demand3 g ds s → (u v : ℕ) → (grid_of s).rows * 4096 ≤ v → leaf_at s u v ≡ 0
none-past {s = s} d u v l = d.no-leaf u v (λ t. omega (arith, (d.valid.mesh.inside (ground_of (grid_of s) u v) t refl).1))
