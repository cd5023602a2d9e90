-- The leaf counts of a build: its leaves are the cells of the rectangle, on level 0 and blank.
-- Assumes nothing.
use Prim.Native.Nat.{ℕ, ◌*◌}
use native.Mathlib.Omega.{arith}
use mathlib.Core.Path.{◌≡◌, refl, sym, ◌∙◌, subst, fun_ext}
use mathlib.Core.Bool.{Bool, true, false, ◌&&◌, cond}
use mathlib.Core.Option.{none, some}
use lib.Dec.{T, eqb, eqb→eq}
use borrow.Author.Tests.{eq-eqb}
use Rattle.mesh.specs.Tools.{keep, count, or_else}
use Rattle.mesh.specs.Place.{Place, Grid, base}
use Rattle.mesh.specs.Mesh.{Mesh}
use Rattle.mesh.specs.State.{blank, status, contents}
use Rattle.mesh.specs.Deed.{Contents, held}
use Rattle.mesh.specs.Call.{Rectangle}
use Rattle.mesh.specs.Build.{full, blank_cell, built}
use Rattle.mesh.specs.LeafCounts.{leaf_count}
use Rattle.tally_laws.specs.LeavesOn.{status_at}
use Rattle.place_laws.proofs.Bools.{is-yes, and_left, and_right}
use Rattle.place_laws.proofs.Places.{any-in}
use Rattle.place_laws.proofs.Counting.{length-keep, count_none}
use Rattle.place_laws.proofs.Distinct.{keep-in, in-keep, keep-distinct}
use Rattle.place_laws.proofs.Kids.{parent-depth, is_leaf}
use Rattle.place_laws.proofs.Full.{full-cell, cell_full, full-mesh}
use Rattle.place_laws.proofs.Blocks.{block_size}
use Rattle.number_laws.proofs.ByPlace.{cells-held}
use Rattle.number_laws.proofs.Building.{built-numbered, built-contents, built-cells}
use Rattle.tally_laws.proofs.FullCounts.{level_places, level-distinct, counts, counts-is, is-counts, counts-cell, counts-in, leaves-on, leaf-count}

module _ (g : Grid) (in-range : Rectangle g) (l k cap : ℕ) where
  abbrev c : Contents
  c = contents (built g cap).entries

  held-full : held c ≡ full g
  held-full = sym (cells-held (built g cap).entries (built-numbered g cap in-range)) ∙ fun_ext (built-cells g cap in-range)

  mesh : Mesh g (held c)
  mesh = rw held-full (full-mesh g in-range)

  blank-there : (q : Place) → status_at c q ≡ 0
  blank-there q = rw (built-contents g cap in-range q) (go (full g q))
    where
      go : (b : Bool) → status (or_else blank (λ x. x.value) (cond b (some blank_cell) none)) ≡ 0
      go true = refl
      go false = refl

  -- every cell is a leaf
  full-counted : (q : Place) → l ≡ 0 → k ≡ 0 → T (full g q) → T (counts g c l k q)
  full-counted q x y t =
      let d = (full-cell g q t).0 in
      is-counts g c l k q (rw held-full (is_leaf g (full g) q t (λ r f w. omega (arith, (full-cell g r w).0, parent-depth r q f)))) (omega arith) (blank-there q ∙ sym y)

  counted-full : (q : Place) → T (counts g c l k q) → T (full g q) × (l ≡ 0) × (k ≡ 0)
  counted-full q t =
      let there : T (full g q) = subst (λ (h : Place → Bool). T (h q)) held-full (counts-cell g c l k q t) in
      let (_, d, e) = counts-is g c l k q t in
      (there, omega (arith, (full-cell g q there).0), sym e ∙ blank-there q)

  level-counts : (b : Bool) → (eqb l 0 && eqb k 0) ≡ b → count (counts g c l k) (level_places g l) ≡ cond b (g.columns * g.rows) 0
  level-counts true e =
      let x : l ≡ 0 = eqb→eq l 0 (and_left (eqb l 0) (eqb k 0) (is-yes (eqb l 0 && eqb k 0) e)) in
      let y : k ≡ 0 = eqb→eq k 0 (and_right (eqb l 0) (eqb k 0) (is-yes (eqb l 0 && eqb k 0) e)) in
      sym (length-keep (counts g c l k) (level_places g l))
      ∙ block_size (base g) g.columns g.rows (keep (counts g c l k) (level_places g l)) (keep-distinct (counts g c l k) (level_places g l) (level-distinct g l))
      (λ q i. full-cell g q (counted-full q (keep-in (counts g c l k) (level_places g l) q i).1).0)
      (λ q d i j. let t = full-counted q x y (cell_full g q d i j) in in-keep (counts g c l k) (level_places g l) q (counts-in g c l k mesh q t) t)
  level-counts false e = count_none (counts g c l k) (level_places g l) (λ t.
      let (q, i, u) = any-in (counts g c l k) (level_places g l) t in
      let (there, x, y) = counted-full q u in
      is-yes false (sym e ∙ rw (eq-eqb l 0 x, eq-eqb k 0 y)))

  pub built-counts : leaf_count (built g cap) l k ≡ cond (eqb l 0 && eqb k 0) (g.columns * g.rows) 0
  unfolding built
  built-counts = leaf-count (built g cap) (built-numbered g cap in-range) mesh l k ∙ leaves-on g c l k ∙ level-counts (eqb l 0 && eqb k 0) refl
