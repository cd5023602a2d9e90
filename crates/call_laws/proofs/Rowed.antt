-- In the picture of a valid state the page that is made row by row is the dossier page: the walk over the rows lists the leaves, and the words
-- of a leaf's row are its place's, its status and its value. There are no more leaves than the table has numbers.
-- Assumes nothing.
use Prim.Native.Nat.{ℕ, ◌+◌, ◌≤◌}
use native.Mathlib.Omega.{arith}
use borrow.Author.Tests.{le-ltb, eq-eqb}
use mathlib.Core.Path.{◌≡◌, refl, sym, ap, ◌∙◌}
use mathlib.Core.Logic.{◌≢◌}
use mathlib.Core.Bool.{Bool}
use mathlib.Core.Option.{some}
use mathlib.Core.List.{List, [], ◌∷◌, map}
use lib.Dec.{T, eqb}
use lib.IntN.{nat_abs, sub_ℕ}
use lib.ListN.{length}
use lib.Ieee.{to_bits, binary64}
use Rattle.mesh.specs.Tools.{any, flat, or_else}
use Rattle.mesh.specs.Place.{Place, Grid, SW, NW, SE, NE, base, level, root}
use Rattle.mesh.specs.Mesh.{leaf}
use Rattle.mesh.specs.State.{State, Entry, place_of, value_of, amount, entry, cells, number, place_at, grid_of, capacity}
use Rattle.mesh.specs.Valid.{Valid, finite}
use Rattle.mesh.specs.Picture.{table, amounts}
use Rattle.mesh.specs.Page.{leaves, leaf_line, body, page, foot_line}
use Rattle.table.specs.Words.{code, word_of}
use Rattle.walk.specs.WalkRows.{leaf_row, row_walk}
use Rattle.lines.specs.LineRows.{bits_of, row_line, lines_of}
use Rattle.leaves.specs.LeavesFrom.{leaves_from}
use Rattle.page.specs.PageRows.{body_of, page_of, row_page}
use Rattle.place_laws.proofs.Bools.{yes-is, or_left, or_right}
use Rattle.place_laws.proofs.Kids.{leaf-cell}
use Rattle.number_laws.proofs.NumberedPlaces.{valid-numbered, place-number}
use Rattle.table_laws.proofs.Pictured.{carried-there, word-i, word-j, level-word}
use Rattle.picture_laws.proofs.Soundness.{finite-amount}
use Rattle.walk_laws.proofs.Walks.{walk-met, root_stands}
use Rattle.walk_laws.proofs.Few.{walk-few}
use Rattle.walk_laws.proofs.Orders.{permutation-order}
use Rattle.call_laws.proofs.WalkedRows.{row-walk, leaf-row}

-- two functions that agree on a list's numbers map it alike
map-where : {A : Type 0} (f h : ℕ → A) (ns : List ℕ) → ((n : ℕ) → T (any (eqb n) ns) → f n ≡ h n) → map f ns ≡ map h ns
map-where f h [] k = refl
map-where f h (n ∷ ns) k =
    let here : f n ≡ h n = k n (or_left (eqb n n) (any (eqb n) ns) (rw (eq-eqb n n refl) tt)) in
    let there : map f ns ≡ map h ns = map-where f h ns (λ m t. k m (or_right (eqb m n) (any (eqb m) ns) t)) in
    rw (here, there)

-- from level 0 up the level's word is the level
level-code : (d e : ℕ) → d ≤ e → code (sub_ℕ e d) ≡ nat_abs (sub_ℕ e d)
level-code d e h = rw (le-ltb e d h)

module _ (s : State) (v : Valid s) where
  abbrev g : Grid
  g = grid_of s

  abbrev es : List Entry
  es = s.entries

  abbrev c : Place → Bool
  c = cells s.entries

  -- ---- leaves

  root-number : number es root ≡ 1
  root-number = place-number es (valid-numbered v) 1 root v.first-root

  leaf-agrees : (q : Place) → number es q ≢ 0 → leaf_row (table s) (capacity s) (number es q) ≡ leaf g c q
  unfolding leaf_row
  leaf-agrees q h = leaf-row s v q h

  row-leaves : leaves_from (table s) (capacity s) (base g + 12) 1 ≡ leaves s
  unfolding leaves_from leaves
  row-leaves =
      ap (row_walk (table s) (capacity s) (leaf_row (table s) (capacity s)) (3 ∷ 4 ∷ 2 ∷ 1 ∷ []) (base g + 12)) (sym root-number)
      ∙ row-walk s v 0 (leaf_row (table s) (capacity s)) (leaf g c) leaf-agrees (3 ∷ 4 ∷ 2 ∷ 1 ∷ []) tt (base g + 12) root (root_stands s v)

  -- a walk meets each number of the table at most once
  pub leaves-few : length (leaves s) ≤ length es
  unfolding leaves
  leaves-few = walk-few s v (leaf g c) (SW ∷ NW ∷ SE ∷ NE ∷ []) (permutation-order (3 ∷ 4 ∷ 2 ∷ 1 ∷ []) tt) (base g + 12) root (root_stands s v)

  pub row-few : length (leaves_from (table s) (capacity s) (base g + 12) 1) ≤ capacity s + 1
  row-few = omega (arith, leaves-few, ap length row-leaves)

  -- ---- lines

  row-bits : (n : ℕ) → bits_of (amount (value_of (entry es n))) ≡ to_bits binary64 (amount (value_of (entry es n)))
  unfolding bits_of
  row-bits n = rw (yes-is (finite (amount (value_of (entry es n)))) (finite-amount s v n))

  row-level : (n : ℕ) (p : Place) → place_of (entry es n) ≡ some p → base g ≤ p.depth → word_of (table s) n 9 ≡ nat_abs (level g p)
  unfolding word_of level
  row-level n p h deep = ap code (level-word s n p h) ∙ level-code (base g) p.depth deep

  leaf-line : (n : ℕ) (p : Place) → place_of (entry es n) ≡ some p → T (leaf g c p) → row_line (table s) (amounts s) n ≡ leaf_line s n
  unfolding row_line leaf_line
  leaf-line n p h t =
      let i : place_at es n ≡ p = ap (or_else root (λ (q : Place). q)) h in
      let deep : base g ≤ p.depth = v.mesh.low p (leaf-cell g c p t) in
      rw (i, row-level n p h deep, word-i s n p h, word-j s n p h, carried-there s n, row-bits n)

  row-line : (n : ℕ) → T (any (eqb n) (leaves s)) → row_line (table s) (amounts s) n ≡ leaf_line s n
  unfolding leaves
  row-line n t =
      let m = walk-met es (leaf g c) (SW ∷ NW ∷ SE ∷ NE ∷ []) (base g + 12) root n (root_stands s v) t in
      leaf-line n m.there m.its m.lists

  row-lines : lines_of (table s) (amounts s) (leaves_from (table s) (capacity s) (base g + 12) 1) ≡ flat (map (leaf_line s) (leaves s))
  unfolding lines_of
  row-lines = rw row-leaves (ap flat (map-where (row_line (table s) (amounts s)) (leaf_line s) (leaves s) row-line))

  row-body : body_of s.header (table s) (amounts s) (leaves_from (table s) (capacity s) (base g + 12) 1) ≡ body s
  unfolding body_of body
  row-body = rw row-lines

  -- the page by rows is the page
  pub row-page : row_page s.header (table s) (amounts s) (capacity s) (base g) ≡ page s
  unfolding row_page page_of foot_line page
  row-page = rw (row-body, row-leaves)
