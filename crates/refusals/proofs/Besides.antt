-- What 21 and 22 ask of the rows, where the table is the picture of a valid state: 21 the flag GrnCell of the cell's row, 22 the NE kid word of
-- eight rows, two links of each kid's row.
-- Assumes nothing.
use Prim.Native.Nat.{ℕ, ◌≤◌}
use native.Mathlib.Omega.{arith}
use native.Mathlib.Decide.{ℕ_discrete}
use mathlib.Core.Path.{◌≡◌, refl, sym, ◌∙◌}
use mathlib.Core.Bool.{Bool, false}
use mathlib.Core.Option.{Option, none, some}
use mathlib.Core.List.{List}
use lib.Dec.{T, lit<}
use lib.IntN.{ℤ}
use Rattle.mesh.specs.Tools.{or_else}
use Rattle.mesh.specs.Place.{Place, Grid, Wind, NE, SE, SW, NW, N, E, S, W, kid_winds, side_winds, base, step, kid}
use Rattle.mesh.specs.Winds.{word_of_wind, ◌of◌}
use Rattle.mesh.specs.Mesh.{has_kids, derived, flags}
use Rattle.mesh.specs.Jump.{coarse_beside, finer_beside}
use Rattle.mesh.specs.State.{State, Entry, place_of, entry, cells, number, number_of, grid_of, capacity}
use Rattle.mesh.specs.Valid.{Valid}
use Rattle.mesh.specs.Picture.{table}
use Rattle.table.specs.Words.{flag_of, link_of}
use Rattle.place_laws.proofs.Bools.{no-is}
use Rattle.place_laws.proofs.SideDigits.{step-depth}
use Rattle.place_laws.proofs.Kids.{kid-depth}
use Rattle.place_laws.proofs.Tree.{kids-cell}
use Rattle.level_laws.proofs.Green.{green-is-coarse}
use Rattle.level_laws.proofs.Eight.{finer-eight}
use Rattle.number_laws.proofs.NumberedPlaces.{valid-numbered, number-place, place-number}
use Rattle.table_laws.proofs.Pictured.{flag-of}
use Rattle.table_laws.proofs.LinkedRows.{link-side, link-nil, link-kid}
use Rattle.asks.specs.Asks.{parental, beside_kid, finer_round}
use Rattle.table_laws.proofs.KidRows.{cell-numbered, kid-numbered}
use Rattle.refusals.proofs.AskedRows.{parental-row}

module _ (s : State) (v : Valid s) where
  abbrev g : Grid
  g = grid_of s

  abbrev es : List Entry
  es = s.entries

  abbrev c : Place → Bool
  c = cells s.entries

  abbrev t : List ℤ
  t = table s

  -- what a link leads to, a patch or none, of level 0 or above: it has kids exactly if its NE kid word is not 0
  parental-at : (o : Option Place) → ((q : Place) → o ≡ some q → base g ≤ q.depth) → parental t (capacity s) (number_of es o) ≡ or_else false (has_kids g c) o
  unfolding parental
  parental-at none h = rw (link-nil s v 1 (lit< tt))
  parental-at (some q) h = go (ℕ_discrete (number es q) 0)
    where
      low : base g ≤ q.depth
      low = h q refl

      go : Dec (number es q ≡ 0) → parental t (capacity s) (number es q) ≡ has_kids g c q
      go (yes z) = rw (z, link-nil s v 1 (lit< tt)) (sym (no-is (has_kids g c q) (λ k. cell-numbered s v q (kids-cell g c v.mesh q low k) z)))
      go (no z) = parental-row s v (number es q) q (number-place es q z) low

  module _ (n : ℕ) (p : Place) (h : place_of (entry es n) ≡ some p) (here : T (c p)) where
    pub coarse-row : flag_of t 10 n ≡ coarse_beside g c p
    unfolding flags derived
    coarse-row = flag-of s n p h 10 ∙ green-is-coarse g c v.mesh p here

    module _ (k : T (has_kids g c p)) where
      -- the neighbour of a kid, by the link of the kid's row
      side-row : (x w : Wind) → T (x of kid_winds) → T (w of side_winds) → parental t (capacity s) (beside_kid t (capacity s) n (word_of_wind x) (word_of_wind w)) ≡ or_else false (has_kids g c) (step g w (kid x p))
      side-row x w a b =
          let e : link_of t (capacity s) n (word_of_wind x) ≡ number es (kid x p) = rw (place-number es (valid-numbered v) n p h) at (link-kid s v x a (some p)) in
          rw (e, link-side s v (number es (kid x p)) (kid x p) (number-place es (kid x p) (kid-numbered s v p here k x)) w b)
          (parental-at (step g w (kid x p)) (λ q f. omega (arith, step-depth g w b (kid x p) q f, kid-depth x p, v.mesh.low p here)))

      pub finer-row : finer_round t (capacity s) n ≡ finer_beside g c p
      unfolding finer_round
      finer-row =
          rw (
            side-row NE N tt tt,
            side-row NE E tt tt,
            side-row SE E tt tt,
            side-row SE S tt tt,
            side-row SW S tt tt,
            side-row SW W tt tt,
            side-row NW N tt tt,
            side-row NW W tt tt,
          )
          (sym (finer-eight g c v.mesh v.rectangle p (v.mesh.low p here)))
