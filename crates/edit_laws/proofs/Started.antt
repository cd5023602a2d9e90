-- The first table of a build: the root under number 1, which has neither a kid nor a neighbour yet, and free rows behind.
-- Assumes nothing.
use Prim.Native.Nat.{ℕ, zero, suc, ◌-◌, ◌≤◌}
use native.Mathlib.Omega.{arith}
use mathlib.Core.Path.{◌≡◌, refl, sym, ap, ap₂, ◌∙◌}
use mathlib.Core.Logic.{◌≢◌}
use mathlib.Core.Option.{none, some, none-ne-some}
use mathlib.Core.List.{List, [], ◌∷◌, ◌++◌, map}
use lib.Dec.{T}
use lib.IntN.{ℤ, pos, sub_ℕ}
use lib.ListN.{replicate}
use Rattle.edit_laws.specs.Rooted.{Rooted}
use Rattle.edit_laws.specs.BuildSoFar.{dark, bare, Grown}
use Rattle.mesh.specs.Call.{Rectangle}
use Rattle.mesh.specs.Tools.{flat}
use Rattle.mesh.specs.Place.{Place, Grid, root, base, level, step, kid, around, Wind, N, E, S, W, NE, SE, SW, NW}
use Rattle.mesh.specs.State.{Entry, free, used, place_of, entry, number, number_of}
use Rattle.mesh.specs.Seam.{opened}
use Rattle.place_laws.proofs.Places.{in_one}
use Rattle.place_laws.proofs.Kids.{kid-depth, no-parent}
use Rattle.place_laws.proofs.SideDigits.{aside}
use Rattle.place_laws.proofs.Base.{base-range, lap-many}
use Rattle.number_laws.proofs.NumberedPlaces.{beside-root}
use Rattle.number_laws.proofs.WrittenPlaces.{written-unnumbered, written-numbered, written-length, written_entry}
use Rattle.table.specs.Writes.{free_row, nil_row}
use Rattle.edit_laws.specs.Linked.{row_with, fields_with, table_with}
use Rattle.edit_laws.specs.Built.{empty_table, root_table, start}
use Rattle.edit_laws.proofs.Linked.{row-nil, row-free}

-- the level, and every other word 0
abbrev root_row : Grid → List ℤ
root_row g = replicate 9 (pos 0) ++ (sub_ℕ 0 (base g) ∷ pos 0 ∷ pos 0 ∷ pos 0 ∷ pos 0 ∷ [])

module _ (g : Grid) (cap : ℕ) where
  abbrev es : List Entry
  es = bare cap (root ∷ [])

  is-root : (n : ℕ) (p : Place) → place_of (entry es n) ≡ some p → p ≡ root
  is-root n p h = in_one p root (written_entry (λ p. none) (cap - 1) (root ∷ []) (λ t. t, tt) n p h).0

  -- no other place has a number
  alone : (q : Place) → q ≢ root → number es q ≡ 0
  alone q h = written-unnumbered (λ p. none) (cap - 1) (root ∷ []) q (λ i. h (in_one q root i))

  no-kid : (w : Wind) → number es (kid w root) ≡ 0
  no-kid w = alone (kid w root) (λ e. omega (arith, kid-depth w root, ap (λ (p : Place). p.depth) e))

  no-side : Rectangle g → (w : Wind) → T (aside w) → number_of es (step g w root) ≡ 0
  no-side in-range = beside-root es (λ n p h d. is-root n p h) g (lap-many g in-range 0)

  root-row : Rectangle g → row_with g es dark (used root none) ≡ root_row g
  unfolding row_with fields_with around level
  root-row i = rw (no-parent root refl, no-kid NE, no-kid SE, no-kid SW, no-kid NW, no-side i N tt, no-side i E tt, no-side i S tt, no-side i W tt)

  free-rows : (n : ℕ) → map (row_with g es dark) (replicate n free) ≡ replicate n free_row
  free-rows zero = refl
  free-rows (suc n) = ap₂ ◌∷◌ (row-free g es dark) (free-rows n)

  root-table : Rectangle g → 1 ≤ cap → root_table cap (base g) ≡ table_with g (bare cap (root ∷ [])) dark
  unfolding root_table empty_table table_with
  root-table i l = rw (row-nil g es dark, root-row i, free-rows (cap - 1)) (go cap l)
    where
      go : (n : ℕ) → 1 ≤ n → root_table n (base g) ≡ nil_row ++ (root_row g ++ flat (replicate (n - 1) free_row))
      go zero l = absurd (omega arith)
      go (suc n) l = let e : suc n - 1 ≡ n = omega arith in rw e

  root-rooted : Rectangle g → 1 ≤ cap → cap ≤ 4095 → Rooted g cap es
  root-rooted in-range low high = record {
    numbered = written-numbered (λ p. none) (cap - 1) (root ∷ []) (λ t. t, tt);
    long = omega (arith, written-length (λ p. none) (cap - 1) (root ∷ []));
    sizes = ((base-range g in-range).1, high);
    laps = lap-many g in-range;
    first-root = refl;
    top = λ n p h e. is-root n p h;
    deepest = λ n p h. rw (is-root n p h) (omega arith);
    parents = λ n q p h e. absurd (none-ne-some _ (sym (no-parent q (ap (λ (x : Place). x.depth) (is-root n q h))) ∙ e));
  }

pub started : (g : Grid) (cap : ℕ) → Rectangle g → 1 ≤ cap → cap ≤ 4095 → Grown g cap (root ∷ []) (start g cap (base g))
unfolding start base
started g cap (a, b, c, d, m, k) low high = record {
  rooted = root-rooted (opened g) cap open-range low high;
  words_are = root-table (opened g) cap open-range low;
  next-is = refl;
}
  where
    open-range : Rectangle (opened g)
    open-range = (a, b, c, d, omega arith, λ t. absurd t)
