-- Cells, kids and leaves by the words of a picture: the row under a number is a cell's if its entry is, and the NE kid word says whether a cell has kids,
-- for the point in the middle of a cell is a corner of its kids alone.
-- Assumes nothing.
use Prim.Native.Nat.{ℕ, ◌≤◌}
use native.Mathlib.Omega.{arith}
use mathlib.Core.Path.{◌≡◌, refl, ap, ◌∙◌}
use mathlib.Core.Logic.{◌≢◌}
use mathlib.Core.Bool.{Bool, true, false, not, ◌&&◌}
use mathlib.Core.Option.{some}
use mathlib.Core.List.{List}
use lib.Dec.{T, eqb, lit<, T_not}
use lib.IntN.{ℤ}
use borrow.Author.Tests.{ne_eqb}
use Rattle.mesh.specs.Tools.{is_some}
use Rattle.mesh.specs.Place.{Place, Grid, Wind, NE, base, kid}
use Rattle.mesh.specs.Mesh.{has_kids, leaf}
use Rattle.mesh.specs.State.{State, Entry, nil, free, used, place_of, is_cell, entry, cells, number, grid_of, capacity}
use Rattle.mesh.specs.Valid.{Valid}
use Rattle.mesh.specs.Picture.{ne_word, table}
use Rattle.table.specs.Words.{link_of, flag_of}
use Rattle.walk.specs.WalkRows.{leaf_row}
use Rattle.place_laws.proofs.Bools.{bool-ext, is-yes, is-no}
use Rattle.place_laws.proofs.SideDigits.{kid_by}
use Rattle.place_laws.proofs.Kids.{parent-kid, kid-depth, kid-has, all-kids}
use Rattle.place_laws.proofs.Near.{touched-corner}
use Rattle.place_laws.proofs.Tree.{patch-touched, cell-patch, kids-cell}
use Rattle.place_laws.proofs.Wanted.{middle-kid}
use Rattle.number_laws.proofs.NumberedPlaces.{valid-numbered, number-place, numbered-not-zero, cells-contents, entry-contents}
use Rattle.table_laws.proofs.Pictured.{nil-words, free-flags}
use Rattle.table_laws.proofs.LinkedRows.{link-kid-of}
use Rattle.table_laws.proofs.FlaggedRows.{cell-of}

module _ (s : State) (v : Valid s) where
  abbrev g : Grid
  g = grid_of s

  abbrev es : List Entry
  es = s.entries

  abbrev c : Place → Bool
  c = cells s.entries

  abbrev t : List ℤ
  t = table s

  pub cell_row : (n : ℕ) → flag_of t 0 n ≡ is_cell (entry es n)
  unfolding flag_of
  cell_row n = go (entry es n) refl
    where
      go : (e : Entry) → entry es n ≡ e → flag_of t 0 n ≡ is_cell e
      go nil h = rw (nil-words s n 12 h (lit< tt))
      go free h = rw (free-flags s n h)
      go (used p x) h = cell-of s v n p (ap place_of h) ∙ cells-contents es (valid-numbered v) p ∙ ap is_some (entry-contents es (valid-numbered v) n p x h)

  pub cell-numbered : (p : Place) → T (c p) → number es p ≢ 0
  cell-numbered p here = numbered-not-zero es (valid-numbered v) p (v.every p (cell-patch g c v.mesh p here))

  pub kid-numbered : (p : Place) → T (c p) → T (has_kids g c p) → (w : Wind) → number es (kid w p) ≢ 0
  kid-numbered p here k w = cell-numbered (kid w p) (all-kids c p (v.mesh.four p here k) (kid w p) (parent-kid w p))

  module _ (n : ℕ) (p : Place) (h : place_of (entry es n) ≡ some p) where
    -- a place of level 0 or above has kids exactly if the point in its middle is a patch
    pub kids-row : base g ≤ p.depth → not (eqb (link_of t (capacity s) n ne_word) 0) ≡ has_kids g c p
    unfolding kid kid_by
    kids-row low = rw (link-kid-of s v n p h 1 1 (omega arith) (omega arith)) (bool-ext (not (eqb (number es (kid NE p)) 0)) (has_kids g c p) down up)
      where
        up : T (has_kids g c p) → T (not (eqb (number es (kid NE p)) 0))
        up k = is-no (eqb (number es (kid NE p)) 0) (ne_eqb _ _ (kid-numbered p (kids-cell g c v.mesh p low k) k NE))

        down : T (not (eqb (number es (kid NE p)) 0)) → T (has_kids g c p)
        down k =
            let there = v.each _ (kid NE p) (number-place es (kid NE p) (λ z. T_not (eqb (number es (kid NE p)) 0) k (rw z tt))) in
            let (r, near, u) = touched-corner g c (kid NE p) (patch-touched g c (kid NE p) (omega (arith, kid-depth NE p)) there) in
            kid-has g c p r (middle-kid g r p low near) u

    pub leaf-row : leaf_row t (capacity s) n ≡ leaf g c p
    unfolding leaf_row leaf
    leaf-row = rw (cell-of s v n p h) (go (c p) refl)
      where
        twice : (b : Bool) → b ≡ not (not b)
        twice true = refl
        twice false = refl

        go : (b : Bool) → c p ≡ b → (b && eqb (link_of t (capacity s) n ne_word) 0) ≡ (b && not (has_kids g c p))
        go false e = refl
        go true e = twice (eqb (link_of t (capacity s) n ne_word) 0) ∙ ap not (kids-row (v.mesh.low p (is-yes (c p) e)))
