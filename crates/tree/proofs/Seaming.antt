-- The neighbours that the checker asks of a row: by its parent, and across the seam of a ring from the root down.
-- Assumes nothing.
use Prim.Native.Nat.{ℕ, suc, ◌+◌, ◌-◌, ◌%◌, ◌≤◌}
use native.Mathlib.Omega.{arith}
use native.Mathlib.Decide.{ℕ_discrete}
use mathlib.Core.Path.{◌≡◌, refl, sym, ap, ◌∙◌}
use mathlib.Core.Bool.{Bool, true, false, not, ◌&&◌, ◌||◌, cond, and-false}
use mathlib.Core.Option.{Option}
use mathlib.Core.List.{List}
use lib.Dec.{eqb, ltb}
use lib.IntN.{ℤ}
use borrow.Author.Tests.{eq-eqb, ne_eqb, eqb-true, lt-ltb}
use Rattle.mesh.specs.Tools.{or_else}
use Rattle.mesh.specs.Place.{Place, Grid, is_ring, at, base, lap, step, Wind, NE, SE, SW, NW, N, E, S, W}
use Rattle.mesh.specs.Seam.{seam, crosses}
use Rattle.mesh.specs.Picture.{parent_word, i_word, j_word}
use Rattle.table.specs.Words.{word_of, link_of, depth_of}
use Rattle.worked.specs.Worked.{side_of, down_to, side_in, side_by}
use Rattle.worked.proofs.Offsets.{side-digits}
use Rattle.place_laws.proofs.Bools.{neither, both_true}
use Rattle.place_laws.proofs.Steps.{north-anew, south-anew, south-end, step-north}
use Rattle.place_laws.proofs.Laps.{lap-base, crosses-open}
use Rattle.checker_laws.specs.Rowwise.{sides_ok}
use Rattle.tree.specs.SideTests.{sides_by, sides_of, on_seam, seam_north, seam_south, sides_over}

-- ---- by the parent

module _ (t : List ℤ) (cap n : ℕ) where
  pub sides-of-is : (l m : ℕ) {p i j : ℕ} {r : Bool} → p ≡ link_of t cap n parent_word → i ≡ word_of t n i_word → j ≡ word_of t n j_word → i % 2 ≡ l → j % 2 ≡ m → r ≡ sides_by t cap n p l m → r ≡ sides_of t cap n
  unfolding sides_by
  sides-of-is l m up col row a b q = rw (side-digits t cap n N, side-digits t cap n E, side-digits t cap n S, side-digits t cap n W, ← up, ← col, ← row, a, b) q

  module _ (g : Grid) where
    -- in an open grid there is no seam
    open-sides : is_ring g ≡ false → sides_of t cap n ≡ sides_ok g t cap n
    unfolding sides_ok side_in
    open-sides o = rw (no-seam N, no-seam E, no-seam S, no-seam W)
      where
        no-seam : (w : Wind) → crosses g w (at (depth_of t (base g) n) (word_of t n i_word) (word_of t n j_word)) ≡ false
        no-seam w = crosses-open g w (at (depth_of t (base g) n) (word_of t n i_word) (word_of t n j_word)) o

    module _ (ring : is_ring g ≡ true) where
      abbrev i : ℕ
      i = word_of t n i_word

      abbrev j : ℕ
      j = word_of t n j_word

      abbrev d : ℕ
      d = base g

      rows_of : lap g (base g) ≡ g.rows
      rows_of = lap-base g ring

      -- ---- off the seam

      off : on_seam t g.rows (base g) n ≡ false → (w : Wind) → crosses g w (at (depth_of t (base g) n) (word_of t n i_word) (word_of t n j_word)) ≡ false
      unfolding crosses
      off h w = go (ℕ_discrete (depth_of t d n) d) w
        where
          clear : depth_of t d n ≡ d → (eqb j 0 || (eqb (j + 1) g.rows || eqb j g.rows)) ≡ false
          clear e = rw (eq-eqb (depth_of t d n) d e) at h

          on-level : depth_of t d n ≡ d → (w : Wind) → seam w (lap g (depth_of t d n)) j ≡ false
          on-level e N = let s : j + 1 ≡ suc j = omega arith in rw (e, rows_of) (rw s at (neither (eqb (j + 1) g.rows) (eqb j g.rows) (neither (eqb j 0) (eqb (j + 1) g.rows || eqb j g.rows) (clear e)).1).0)
          on-level e S =
              let (a, b) = neither (eqb j 0) (eqb (j + 1) g.rows || eqb j g.rows) (clear e) in
              rw (e, rows_of, a, (neither (eqb (j + 1) g.rows) (eqb j g.rows) b).1) (go (ltb 0 g.rows))
            where
              go : (b : Bool) → (b && false) ≡ false
              go true = refl
              go false = refl
          on-level e E = refl
          on-level e W = refl
          on-level e NE = refl
          on-level e SE = refl
          on-level e SW = refl
          on-level e NW = refl

          go : Dec (depth_of t d n ≡ d) → (w : Wind) → (eqb (depth_of t d n) d && seam w (lap g (depth_of t d n)) j) ≡ false
          go (yes e) w = rw (eq-eqb (depth_of t d n) d e) (on-level e w)
          go (no e) w = rw (ne_eqb (depth_of t d n) d e)

      off-seam : on_seam t g.rows (base g) n ≡ false → sides_of t cap n ≡ sides_ok g t cap n
      unfolding sides_ok side_in
      off-seam h = rw (off h N, off h E, off h S, off h W)

      -- ---- on the seam

      -- the row at a place, from the root down
      abbrev found : Option Place → ℕ
      found o = or_else 0 (λ q. down_to t cap q.depth q.i q.j) o

      module _ (level : depth_of t (base g) n ≡ base g) where
        north : side_in g t cap n N ≡ seam_north t cap g.rows d (link_of t cap n parent_word) i j
        unfolding side_in crosses
        north = rw (level, rows_of, eq-eqb d d refl, ← side-digits t cap n N) (go (ℕ_discrete (suc j) g.rows))
          where
            go : Dec (suc j ≡ g.rows) → cond (eqb (suc j) g.rows) (found (step g N (at d i j))) (side_of t cap n N) ≡ cond (eqb (j + 1) g.rows) (down_to t cap d i 0) (side_of t cap n N)
            go (yes e) = rw (eq-eqb (suc j) g.rows e, eq-eqb (j + 1) g.rows (omega arith), step-north g (at d i j), north-anew g d i j (e ∙ sym rows_of))
            go (no e) = rw (ne_eqb (suc j) g.rows e, ne_eqb (j + 1) g.rows (λ k. e (omega arith)))

        south : 1 ≤ g.rows → side_in g t cap n S ≡ seam_south t cap g.rows d (link_of t cap n parent_word) i j
        unfolding side_in crosses
        south tall = rw (level, rows_of, eq-eqb d d refl, lt-ltb 0 g.rows (omega arith), ← side-digits t cap n S) (go (ℕ_discrete j 0) (ℕ_discrete j g.rows))
          where
            go : Dec (j ≡ 0) → Dec (j ≡ g.rows) → cond (eqb j 0 || eqb j g.rows) (found (step g S (at d i j))) (side_of t cap n S)
                ≡ cond (eqb j 0) (down_to t cap d i (g.rows - 1)) (cond (eqb j g.rows) 0 (side_of t cap n S))
            go (yes e) k = rw (eq-eqb j 0 e, e, south-anew g d i (g.rows - 1) (omega (arith, rows_of)))
            go (no e) (yes k) = rw (ne_eqb j 0 e, eq-eqb j g.rows k, south-end g d i j (k ∙ sym rows_of))
            go (no e) (no k) = rw (ne_eqb j 0 e, ne_eqb j g.rows k)

        beside : (w : Wind) → seam w (lap g (depth_of t (base g) n)) j ≡ false → side_in g t cap n w ≡ side_by t cap (link_of t cap n parent_word) (i % 2) (j % 2) w
        unfolding side_in crosses
        beside w e = rw (e, and-false (eqb (depth_of t (base g) n) (base g))) (side-digits t cap n w)

      over-seam : 1 ≤ g.rows → on_seam t g.rows (base g) n ≡ true → sides_over t cap g.rows (base g) n ≡ sides_ok g t cap n
      unfolding sides_ok
      over-seam tall h =
          let e = eqb-true _ _ (both_true (eqb (depth_of t (base g) n) (base g)) _ (ap not h)).0 in
          rw (north e, south e tall, beside e E refl, beside e W refl)

-- with the depth of level 0 as it is lent, from what was asked and answered
module _ (t : List ℤ) (cap n : ℕ) (g : Grid) (d : ℕ) (ground : d ≡ base g) where
  pub sides-off : {b r : Bool} → b ≡ (is_ring g && on_seam t g.rows d n) → b ≡ false → r ≡ sides_of t cap n → r ≡ sides_ok g t cap n
  sides-off asked off answer = answer ∙ go (is_ring g) refl
    where
      go : (b : Bool) → is_ring g ≡ b → sides_of t cap n ≡ sides_ok g t cap n
      go false o = open-sides t cap n g o
      go true o = off-seam t cap n g o (rw (o, ground) at (sym asked ∙ off))

  pub sides-on : 1 ≤ g.rows → {b r : Bool} → b ≡ (is_ring g && on_seam t g.rows d n) → b ≡ true → r ≡ sides_over t cap g.rows d n → r ≡ sides_ok g t cap n
  sides-on tall asked over answer =
      let (o, k) = both_true (is_ring g) (on_seam t g.rows d n) (ap not (sym asked ∙ over)) in
      answer ∙ rw ground (over-seam t cap n g o tall (rw ground at k))
