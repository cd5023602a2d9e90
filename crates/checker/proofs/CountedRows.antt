-- The counts that the test of the rows takes on its way: a leaf row that passes has one of the 39 places, so that it can be counted, and the counts of
-- all rows of a table that passes are those of the state that it pictures.
-- Assumes nothing.
use Prim.Native.Nat.{ℕ, ◌+◌, ◌≤◌, ◌<◌}
use native.Mathlib.Omega.{arith}
use native.Mathlib.Decide.{ℕ_discrete, dec_lt}
use native.Mathlib.Numerals.{add-one}
use mathlib.Core.Path.{◌≡◌, refl, sym, ap, ap₂, ◌∙◌}
use mathlib.Core.Bool.{Bool, true, false, cond}
use mathlib.Core.List.{List}
use lib.Dec.{T, eqb, leb, leb→le}
use lib.IntN.{ℤ}
use lib.Ieee.{Float}
use lib.ListN.{length}
use borrow.Author.Tests.{eqb-true, lt-ltb}
use Rattle.mesh.specs.Tools.{same_list}
use Rattle.mesh.specs.Place.{Grid, base}
use Rattle.mesh.specs.Mesh.{complete_bit}
use Rattle.mesh.specs.Picture.{ne_word, level_word, flags_word, free_flags, Lent}
use Rattle.mesh.specs.Decode.{decode}
use Rattle.mesh.specs.LeafCounts.{count_places, leaf_counts, Counted}
use Rattle.mesh.specs.Call.{lent_refusal, check_call}
use Rattle.place_laws.proofs.Bools.{and_left, is-yes}
use Rattle.place_laws.proofs.Lists.{every-at}
use Rattle.picture_laws.proofs.Accepted.{lent-sizes, lent-sound, sound-capacity}
use Rattle.picture_laws.proofs.Decoding.{decode-back}
use Rattle.tally_laws.proofs.CountedChecks.{lent-passed}
use Rattle.table_laws.proofs.LevelWords.{level-is}
use Rattle.table.specs.Words.{word_of, link_of, flag_of, free_at, depth_of}
use Rattle.carried.specs.Carried.{carried_of, status_of}
use Rattle.walk.specs.WalkRows.{leaf_row}
use Rattle.tally.specs.TallyRows.{Placed, with_row, row_counts}
use Rattle.tally.proofs.RowCounting.{rows-counted}
use Rattle.checker_laws.specs.Rowwise.{root_ok, child_ok, place_ok, empty_ok, used_tests, used_ok, row_ok}
use Rattle.checker_laws.proofs.WordsBack.{flag-zero}
use Rattle.checker_laws.proofs.Patches.{held_small, ghost-facts, value-facts}

-- ---- one row

module _ (g : Grid) (t : List ℤ) (cap : ℕ) (v : List Float) (n : ℕ) where
  -- "A free row has flags 8192", so it is no cell
  free-flag : free_at t n ≡ true → flag_of t complete_bit n ≡ false
  unfolding free_at flag_of
  free-flag e = rw (eqb-true (word_of t n flags_word) free_flags e)

  module _ (ok : T (used_ok g t cap v n)) (cell : T (flag_of t complete_bit n)) where
    -- a cell is no ghost
    used_high : base g ≤ depth_of t (base g) n
    unfolding used_ok
    used_high = go (dec_lt (depth_of t (base g) n) (base g))
      where
        go : Dec (depth_of t (base g) n < base g) → base g ≤ depth_of t (base g) n
        go (yes l) =
            let ghost = ghost-facts cap t n (rw (lt-ltb (depth_of t (base g) n) (base g) l) at (every-at (used_tests g t cap v n) ok 3)) in
            let z : T false = rw (flag-zero t n complete_bit ghost.flags) at cell in
            absurd z
        go (no l) = omega (arith, l)

    used-deep : depth_of t (base g) n ≤ base g + 12
    unfolding used_ok place_ok
    used-deep = leb→le _ _ (and_left (leb (depth_of t (base g) n) (base g + 12)) (cond (eqb n 1) (root_ok t (base g) n) (child_ok t cap (base g) n)) (every-at (used_tests g t cap v n) ok 0))

    used-level : word_of t n level_word ≤ 12
    unfolding depth_of
    used-level = omega (arith, used-deep, level-is (base g) (word_of t n level_word) used_high used-deep)

    used-status : status_of (carried_of t v n) ≤ 2
    unfolding used_ok
    used-status = go (ℕ_discrete (status_of (carried_of t v n)) 0)
      where
        go : Dec (status_of (carried_of t v n) ≡ 0) → status_of (carried_of t v n) ≤ 2
        go (yes e) = omega (arith, e)
        go (no e) = held_small ((value-facts cap t v n (every-at (used_tests g t cap v n) ok 4)).1 e)

  pub row-placed : {x : Bool} → x ≡ row_ok g t cap v n → x ≡ true → leaf_row t cap n ≡ true → Placed t v n
  unfolding row_ok leaf_row
  row-placed e ok leaf = go (free_at t n) refl (is-yes (row_ok g t cap v n) (sym e ∙ ok))
    where
      cell : T (flag_of t complete_bit n)
      cell = and_left (flag_of t complete_bit n) (eqb (link_of t cap n ne_word) 0) (is-yes (leaf_row t cap n) leaf)

      go : (b : Bool) → free_at t n ≡ b → T (cond b (empty_ok t v n) (used_ok g t cap v n)) → Placed t v n
      go true e h = let z : T false = rw (free-flag e) at cell in absurd z
      go false e h = record { level = used-level h cell; status = used-status h cell }

-- ---- all rows

-- a row more
pub rows-added : (t : List ℤ) (v : List Float) (cap k : ℕ) {c d : List ℕ} → c ≡ row_counts t v cap k → d ≡ with_row t v cap c (k + 1) → d ≡ row_counts t v cap (k + 1)
unfolding row_counts
rows-added t v cap k e f = f ∙ rw (e, add-one k)

-- a table that every call takes is a picture, and its rows count to the counts of the state
lent-counts : (cap : ℕ) (l : Lent) → lent_refusal cap l ≡ 0 → row_counts l.words l.values cap cap ≡ leaf_counts (decode l)
lent-counts cap l e =
    let o = lent-sound cap l e in
    let same : decode l ≡ o.state = ap decode o.is-picture ∙ decode-back o.state o.valid in
    ap₂ (λ (x : Lent) (n : ℕ). row_counts x.words x.values n n) o.is-picture (sym (sound-capacity cap l (lent-sizes cap l e) o)) ∙ rows-counted o.state o.valid ∙ ap leaf_counts (sym same)

-- ---- the checker's answer, once the table is sound

module _ (cap : ℕ) (l : Counted) (long : length l.counts ≡ count_places) {r : ℕ} (e : r ≡ lent_refusal cap l.lent) (ok : r ≡ 0)
    {own : List ℕ} (o : own ≡ row_counts l.lent.words l.lent.values cap cap) {b : Bool} (s : b ≡ same_list eqb l.counts own) where
  by-counts : check_call cap l ≡ cond b 0 3
  by-counts =
      let z : lent_refusal cap l.lent ≡ 0 = sym e ∙ ok in
      lent-passed cap l long z ∙ ap (λ (x : List ℕ). cond (same_list eqb l.counts x) 0 3) (sym (o ∙ lent-counts cap l.lent z)) ∙ ap (λ (x : Bool). cond x 0 3) (sym s)

  pub counts_same : b ≡ true → 0 ≡ check_call cap l
  counts_same h = sym (by-counts ∙ rw h)

  pub counts-differ : b ≡ false → 3 ≡ check_call cap l
  counts-differ h = sym (by-counts ∙ rw h)
