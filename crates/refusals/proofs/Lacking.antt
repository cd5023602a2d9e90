-- The nine rows that a refinement of a cell asks for are those of the nine places that it wants, so that as many are missing.
-- Assumes nothing.
use Prim.Native.Nat.{ℕ, ◌≤◌}
use mathlib.Core.Path.{◌≡◌, sym, ap, ◌∙◌}
use mathlib.Core.Option.{some}
use mathlib.Core.List.{List, [], ◌∷◌, map}
use lib.Dec.{T, eqb, lit≤}
use lib.ListN.{length}
use Rattle.mesh.specs.Tools.{count}
use Rattle.mesh.specs.Place.{Place, Grid, N, E, to_north, to_east, kid}
use Rattle.mesh.specs.State.{State, Entry, place_of, entry, cells, number, number_of, grid_of, capacity}
use Rattle.mesh.specs.Valid.{Valid}
use Rattle.mesh.specs.Picture.{table}
use Rattle.mesh.specs.Request.{wanted, missing}
use Rattle.table.specs.Words.{link_of}
use Rattle.worked.specs.Worked.{kid_word}
use Rattle.place_laws.proofs.Lists.{count_map}
use Rattle.place_laws.proofs.Steps.{step-north, step-east}
use Rattle.place_laws.proofs.SideDigits.{kid_by}
use Rattle.place_laws.proofs.Near.{c-east}
use Rattle.place_laws.proofs.Tree.{corner-patch}
use Rattle.place_laws.proofs.Counting.{length-keep}
use Rattle.table_laws.proofs.LinkedRows.{patch-numbered, link-side, link-kid-of, kid-link}
use Rattle.asks.specs.Asks.{wanted_rows, lacking}

module _ (s : State) (v : Valid s) (n : ℕ) (p : Place) (h : place_of (entry s.entries n) ≡ some p) (here : T (cells s.entries p)) where
  abbrev g : Grid
  g = grid_of s

  abbrev es : List Entry
  es = s.entries

  abbrev row : ℕ → ℕ → ℕ
  row = link_of (table s) (capacity s)

  -- a kid of the row of a place
  kid-row : (l m : ℕ) → l ≤ 1 → m ≤ 1 → (k : ℕ) (q : Place) → k ≡ number es q → row k (kid_word l m) ≡ number es (kid_by l m q)
  kid-row l m a b k q e = ap (λ (x : ℕ). row x (kid_word l m)) e ∙ kid-link s v l m a b (some q)

  east-there : place_of (entry es (number es (to_east g p))) ≡ some (to_east g p)
  east-there = patch-numbered s v (to_east g p) (corner-patch g (cells es) (v.mesh.low p here) c-east here)

  wanted-rows : wanted_rows (table s) (capacity s) n ≡ map (number es) (wanted g p)
  unfolding wanted kid kid_by
  wanted-rows =
      let north : row n 5 ≡ number es (to_north g p) = link-side s v n p h N tt ∙ ap (number_of es) (step-north g p) in
      let east : row n 6 ≡ number es (to_east g p) = link-side s v n p h E tt ∙ ap (number_of es) (step-east g p) in
      let far : row (row n 6) 5 ≡ number es (to_north g (to_east g p)) = ap (λ (k : ℕ). row k 5) east ∙ link-side s v (number es (to_east g p)) (to_east g p) east-there N tt ∙ ap (number_of es) (step-north g (to_east g p)) in
      λ i. link-kid-of s v n p h 0 0 (lit≤ tt) (lit≤ tt) i
      ∷ link-kid-of s v n p h 1 0 (lit≤ tt) (lit≤ tt) i
      ∷ link-kid-of s v n p h 0 1 (lit≤ tt) (lit≤ tt) i
      ∷ link-kid-of s v n p h 1 1 (lit≤ tt) (lit≤ tt) i
      ∷ kid-row 0 0 (lit≤ tt) (lit≤ tt) (row n 5) (to_north g p) north i
      ∷ kid-row 1 0 (lit≤ tt) (lit≤ tt) (row n 5) (to_north g p) north i
      ∷ kid-row 0 1 (lit≤ tt) (lit≤ tt) (row n 6) (to_east g p) east i
      ∷ kid-row 0 0 (lit≤ tt) (lit≤ tt) (row n 6) (to_east g p) east i
      ∷ kid-row 0 0 (lit≤ tt) (lit≤ tt) (row (row n 6) 5) (to_north g (to_east g p)) far i
      ∷ []

  pub lacking-row : lacking (table s) (capacity s) n ≡ length (missing s p)
  unfolding lacking missing
  lacking-row =
      ap (count (λ k. eqb k 0)) wanted-rows
      ∙ count_map (λ k. eqb k 0) (number es) (wanted g p)
      ∙ sym (length-keep (λ q. eqb (number es q) 0) (wanted g p))
