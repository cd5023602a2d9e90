-- The refusals that are decided on the rows of a valid state's picture are the rules'.
-- Assumes nothing.
use Prim.Native.Nat.{ℕ, ◌+◌, ◌≤◌}
use native.Mathlib.Omega.{arith}
use mathlib.Core.Path.{◌≡◌, refl, sym, ap, ◌∙◌}
use mathlib.Core.Bool.{Bool, true, false, not, cond}
use mathlib.Core.Option.{Option, some}
use mathlib.Core.List.{List, [], ◌∷◌}
use lib.Dec.{eqb}
use lib.Ieee.{Float}
use borrow.Author.Tests.{not-false}
use Rattle.mesh.specs.Tools.{or_else, is_some}
use Rattle.mesh.specs.Place.{Place, Grid, base}
use Rattle.mesh.specs.Mesh.{has_kids, sentenced_bit}
use Rattle.mesh.specs.Jump.{coarse_beside, finer_beside}
use Rattle.mesh.specs.State.{State, Entry, Cell, place_of, is_used, entry, cells, place_at, grid_of, capacity, contents}
use Rattle.mesh.specs.Valid.{Valid}
use Rattle.mesh.specs.Picture.{level_word, table}
use Rattle.mesh.specs.Refusal.{Check, ◌if◌, refusal}
use Rattle.mesh.specs.Deed.{held, held_sentenced, no7}
use Rattle.mesh.specs.Request.{refine, sentence, remove, kill, set_value, loose_checks, checks, no6}
use Rattle.table.specs.Words.{word_of, depth_of, flag_of}
use Rattle.place_laws.proofs.Bools.{is-yes}
use Rattle.number_laws.proofs.NumberedPlaces.{valid-numbered}
use Rattle.number_laws.proofs.ByPlace.{cells-held}
use Rattle.number_laws.proofs.Naming.{Named, named, contents-under}
use Rattle.table_laws.proofs.LinkedRows.{depth-of}
use Rattle.table_laws.proofs.TakenRows.{taken-row}
use Rattle.asks.specs.Asks.{parental}
use Rattle.refusals.specs.Decide.{row6, row7, refine_rows, sentence_rows, remove_rows, kill_rows, set_rows, refine_refusal, sentence_refusal, remove_refusal, kill_refusal, set_refusal}
use Rattle.table_laws.proofs.KidRows.{cell_row}
use Rattle.refusals.proofs.AskedRows.{sentenced-row, parental-row, kids-sentenced-row}
use Rattle.refusals.proofs.Besides.{coarse-row, finer-row}
use Rattle.refusals.proofs.Lacking.{lacking-row}
use Rattle.refusals.proofs.CountedFree.{free-total}
use Rattle.refusals.proofs.OtherGround.{other_row}
use Rattle.table_laws.proofs.LevelWords.{level-says}

-- ---- one check after the other

-- two lists of checks ask the same, each check where those before it pass
data Alike : List Check → List Check → Type 0 where
  rest : {cs : List Check} → Alike cs cs
  next : {k : ℕ} {a b : Bool} {cs ds : List Check} → a ≡ b → (b ≡ false → Alike cs ds) → Alike ((k if a) ∷ cs) ((k if b) ∷ ds)

alike-refusal : (cs ds : List Check) → Alike cs ds → refusal cs ≡ refusal ds
unfolding refusal
alike-refusal cs ds rest = refl
alike-refusal _ _ (next {k} {a} {b} {cs} {ds} e f) = rw e (go b refl (λ h. alike-refusal cs ds (f h)))
  where
    go : (x : Bool) → b ≡ x → (b ≡ false → refusal cs ≡ refusal ds) → cond b k (refusal cs) ≡ cond b k (refusal ds)
    go true h r = rw h
    go false h r = rw h (r h)

module _ (s : State) (v : Valid s) (n : ℕ) where
  abbrev g : Grid
  g = grid_of s

  abbrev es : List Entry
  es = s.entries

  -- a test of the set of cells is one of the cells by place
  by_place : (f : (Place → Bool) → Bool) → f (cells es) ≡ f (held (contents es))
  by_place f = ap f (cells-held es (valid-numbered v))

  -- "number 0, above capacity, or free", "patch is no cell": past these two the number is that of a cell
  opened : {cs ds : List Check} → (Named s n → Alike cs ds) → Alike (row6 (table s) (capacity s) n ∷ row7 (table s) (capacity s) n ∷ cs) (no6 s n ∷ no7 g (contents es) (place_at es n) ∷ ds)
  unfolding refusal
  opened f = next (ap not (taken-row s v n)) (λ a. next (ap not (cell_row s v n ∙ sym (ap is_some (contents-under s v n (not-false _ a))))) (λ b. f (named s v n [] (rw (a, b))).0))

  -- ---- what is asked of a cell's number

  module _ (d : Named s n) where
    stands-there : place_of (entry es n) ≡ some (place_at es n)
    stands-there = ap place_of d.is-entry

    kids-there : parental (table s) (capacity s) n ≡ has_kids g (held (contents es)) (place_at es n)
    kids-there = parental-row s v n (place_at es n) stands-there (v.mesh.low (place_at es n) d.is-there) ∙ by_place (λ c. has_kids g c (place_at es n))

    sentenced-there : flag_of (table s) sentenced_bit n ≡ held_sentenced (contents es) (place_at es n)
    sentenced-there = sentenced-row s v n ∙ sym (ap (λ (o : Option Cell). or_else false (λ x. x.sentenced) o) (contents-under s v n (ap is_used d.is-entry)))

    level-there : (k : ℕ) → k ≤ 12 → eqb (word_of (table s) n level_word) k ≡ eqb (place_at es n).depth (base g + k)
    unfolding depth_of
    level-there k l = level-says (base g) (word_of (table s) n level_word) k l ∙ ap (λ (e : ℕ). eqb e (base g + k)) (depth-of s v n (place_at es n) stands-there)

    ground-there : eqb (word_of (table s) n level_word) 0 ≡ eqb (place_at es n).depth (base g)
    ground-there = let e : base g + 0 ≡ base g = omega arith in level-there 0 (omega arith) ∙ ap (eqb (place_at es n).depth) e

  -- ---- the five kinds

  pub refine-refusal : refine_refusal (table s) (capacity s) n ≡ refusal (checks s (refine n))
  unfolding refine_refusal loose_checks checks
  refine-refusal =
      alike-refusal (refine_rows (table s) (capacity s) n) (checks s (refine n)) (opened (λ d.
      next (kids-there d) (λ _.
      next (level-there d 12 (omega arith)) (λ _.
      next (sentenced-there d) (λ _.
      next (coarse-row s v n (place_at es n) (stands-there d) d.is-there ∙ by_place (λ c. coarse_beside g c (place_at es n))) (λ _.
      next (rw (free-total s v, lacking-row s v n (place_at es n) (stands-there d) d.is-there)) (λ _. rest)))))))

  pub sentence-refusal : sentence_refusal (table s) (capacity s) n ≡ refusal (checks s (sentence n))
  unfolding sentence_refusal loose_checks checks
  sentence-refusal =
      alike-refusal (sentence_rows (table s) (capacity s) n) (checks s (sentence n)) (opened (λ d.
      next (kids-there d) (λ _.
      next (ground-there d) (λ _. rest))))

  pub remove-refusal : remove_refusal (table s) (capacity s) n ≡ refusal (checks s (remove n))
  unfolding remove_refusal loose_checks checks
  remove-refusal =
      alike-refusal (remove_rows (table s) (capacity s) n) (checks s (remove n)) (opened (λ d.
      next (ap not (kids-there d)) (λ k.
      next (ap not (kids-sentenced-row s v n (place_at es n) (stands-there d))) (λ _.
      next (finer-row s v n (place_at es n) (stands-there d) d.is-there (is-yes (has_kids g (cells es) (place_at es n)) (by_place (λ c. has_kids g c (place_at es n)) ∙ not-false _ k)) ∙ by_place (λ c. finer_beside g c (place_at es n))) (λ _. rest)))))

  pub kill-refusal : kill_refusal (table s) (capacity s) (base (grid_of s)) n ≡ refusal (checks s (kill n))
  unfolding kill_refusal loose_checks checks
  kill-refusal =
      alike-refusal (kill_rows (table s) (capacity s) (base g) n) (checks s (kill n)) (opened (λ d.
      next (ap not (ground-there d)) (λ _.
      next (kids-there d) (λ _.
      next (ap not (other_row s v n d)) (λ _. rest)))))

  pub set-refusal : (x : Float) → set_refusal (table s) (capacity s) n x ≡ refusal (checks s (set_value n x))
  unfolding set_refusal loose_checks checks
  set-refusal x = alike-refusal (set_rows (table s) (capacity s) n x) (checks s (set_value n x)) (opened (λ d. next (kids-there d) (λ _. rest)))
