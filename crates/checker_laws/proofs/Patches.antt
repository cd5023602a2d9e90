-- What the row-by-row test says of a ghost, of a patch from level 0 up, of a cell and of a value, by names.
-- Assumes nothing.
use Prim.Native.Nat.{ℕ, zero, suc, ◌≤◌, ◌<◌}
use native.Mathlib.Omega.{arith}
use native.Mathlib.Decide.{ℕ_discrete}
use mathlib.Core.Path.{◌≡◌}
use mathlib.Core.Logic.{◌≢◌, ◌⊎◌, inl, inr}
use mathlib.Core.Bool.{Bool, true, false, not, ◌&&◌, ◌||◌}
use mathlib.Core.List.{List}
use lib.Dec.{T, T_not, eqb, ltb, eqb→eq, ltb→lt}
use lib.ListN.{get_or}
use lib.IntN.{ℤ}
use lib.Ieee.{Float}
use borrow.Author.Tests.{eq-eqb, ne_eqb}
use Rattle.mesh.specs.Tools.{every, digits}
use Rattle.mesh.specs.Place.{Grid, base}
use Rattle.mesh.specs.State.{plus_zero}
use Rattle.mesh.specs.Valid.{finite}
use Rattle.mesh.specs.Picture.{parent_word, ne_word, se_word, sw_word, nw_word, north_word, east_word, i_word, j_word, flags_word}
use Rattle.mesh.specs.Mesh.{complete_bit, sentenced_bit}
use Rattle.table.specs.Words.{word_of, link_of, flag_of, depth_of}
use Rattle.carried.specs.Carried.{carried_of, status_of, is_blank, is_measured, is_zero}
use Rattle.carried.specs.declared.Carried.{Carried}
use Rattle.worked.specs.Worked.{kid_word, kidless, flags_from, touched_in}
use Rattle.checker_laws.specs.Rowwise.{ghost_ok, kid_cell_tests, kid_cells_are, cell_tests, cell_ok, sentence_tests, sentence_ok, point_tests, point_ok, carried_above, blank_ok, carried_tests, held_tests, held_ok, value_ok}
use Rattle.place_laws.proofs.Bools.{and_left, and_right, or_cases, implied, beq-is}
use Rattle.place_laws.proofs.Lists.{every-at}
use Rattle.picture_laws.proofs.Equal.{float_is}
use Rattle.checker_laws.proofs.Facts.{unequal}

-- ---- the four kids, by their digits

-- a law of the four kids' words
pub by-kid : (P : ℕ → Type 0) → P 1 → P 2 → P 3 → P 4 → (l m : ℕ) → l ≤ 1 → m ≤ 1 → P (kid_word l m)
by-kid P a b c d zero zero x y = c
by-kid P a b c d zero (suc zero) x y = d
by-kid P a b c d (suc zero) zero x y = b
by-kid P a b c d (suc zero) (suc zero) x y = a
by-kid P a b c d (suc (suc l)) m x y = absurd (omega arith)
by-kid P a b c d zero (suc (suc m)) x y = absurd (omega arith)
by-kid P a b c d (suc zero) (suc (suc m)) x y = absurd (omega arith)

-- ---- the facts

-- "A ghost has flags 0", and it has a kid
pub record Ghost (cap : ℕ) (t : List ℤ) (n : ℕ) : Type 0 where
  pub flags : word_of t n flags_word ≡ 0
  pub kid : (l : ℕ) × (m : ℕ) × (l ≤ 1) × (m ≤ 1) × (link_of t cap n (kid_word l m) ≢ 0)

-- a cell stands, or none stands, under every kid's word
abbrev pub KidCells : ℕ → List ℤ → ℕ → Bool → Type 0
KidCells cap t n b = (l m : ℕ) → l ≤ 1 → m ≤ 1 → flag_of t complete_bit (link_of t cap n (kid_word l m)) ≡ b

pub record CellRow (g : Grid) (cap : ℕ) (t : List ℤ) (n : ℕ) : Type 0 where
  pub east : link_of t cap n east_word ≢ 0
  pub north : link_of t cap n north_word ≢ 0
  pub both : link_of t cap (link_of t cap n east_word) north_word ≢ 0
  pub inside : depth_of t (base g) n ≡ base g → (word_of t n i_word < g.columns) × (word_of t n j_word < g.rows)
  pub above : depth_of t (base g) n ≢ base g → T (flag_of t complete_bit (link_of t cap n parent_word))
  pub kids : KidCells cap t n true ⊎ KidCells cap t n false

pub record Sentence (g : Grid) (cap : ℕ) (t : List ℤ) (n : ℕ) : Type 0 where
  pub cell : T (flag_of t complete_bit n)
  pub high : depth_of t (base g) n ≢ base g
  pub kidless : KidCells cap t n false

pub record Point (g : Grid) (cap : ℕ) (t : List ℤ) (n : ℕ) : Type 0 where
  pub touched : T (touched_in t cap n)
  pub cell : T (flag_of t complete_bit n) → CellRow g cap t n
  pub sentence : T (flag_of t sentenced_bit n) → Sentence g cap t n
  pub flags : word_of t n flags_word ≡ digits (flags_from t cap (base g) n (flag_of t sentenced_bit n))

-- measured, or carried down from a parent that is not blank and has the same value
abbrev pub HeldAs : Carried → Carried → Type 0
HeldAs own above = (status_of own ≡ 1) ⊎ ((status_of own ≡ 2) × (status_of above ≢ 0) × (above.value ≡ own.value))

-- a value that is not blank
pub record Held (cap : ℕ) (t : List ℤ) (v : List Float) (n : ℕ) : Type 0 where
  pub cell : T (flag_of t complete_bit n)
  pub is_finite : T (finite (carried_of t v n).value)
  pub status : HeldAs (carried_of t v n) (carried_above t cap v n)

pub held_small : {cap : ℕ} {t : List ℤ} {v : List Float} {n : ℕ} → Held cap t v n → status_of (carried_of t v n) ≤ 2
held_small {cap} {t} {v} {n} f = go f.status
  where
    go : HeldAs (carried_of t v n) (carried_above t cap v n) → status_of (carried_of t v n) ≤ 2
    go (inl e) = omega arith
    go (inr (e, r, s)) = omega arith

pub record Blank (cap : ℕ) (t : List ℤ) (v : List Float) (n : ℕ) : Type 0 where
  pub zero-value : (carried_of t v n).value ≡ plus_zero
  pub above : T (flag_of t complete_bit n) → status_of (carried_above t cap v n) ≡ 0

-- ---- from the tests

module _ (cap : ℕ) (t : List ℤ) where
  pub ghost-facts : (n : ℕ) → T (ghost_ok t cap n) → Ghost cap t n
  unfolding ghost_ok
  ghost-facts n h = record { flags = eqb→eq _ _ (and_left a (not (kidless t cap n)) h); kid = go (ℕ_discrete (k ne_word) 0) (ℕ_discrete (k se_word) 0) (ℕ_discrete (k sw_word) 0) (ℕ_discrete (k nw_word) 0) }
    where
      k : ℕ → ℕ
      k w = link_of t cap n w

      a : Bool
      a = eqb (word_of t n flags_word) 0

      none : k ne_word ≡ 0 → k se_word ≡ 0 → k sw_word ≡ 0 → k nw_word ≡ 0 → T (kidless t cap n)
      none e₁ e₂ e₃ e₄ = rw (e₁, e₂, e₃, e₄) tt

      go : Dec (k ne_word ≡ 0) → Dec (k se_word ≡ 0) → Dec (k sw_word ≡ 0) → Dec (k nw_word ≡ 0) → (l : ℕ) × (m : ℕ) × (l ≤ 1) × (m ≤ 1) × (k (kid_word l m) ≢ 0)
      go (no e₁) d₂ d₃ d₄ = (1, 1, omega arith, omega arith, e₁)
      go (yes e₁) (no e₂) d₃ d₄ = (1, 0, omega arith, omega arith, e₂)
      go (yes e₁) (yes e₂) (no e₃) d₄ = (0, 0, omega arith, omega arith, e₃)
      go (yes e₁) (yes e₂) (yes e₃) (no e₄) = (0, 1, omega arith, omega arith, e₄)
      go (yes e₁) (yes e₂) (yes e₃) (yes e₄) = absurd (T_not (kidless t cap n) (and_right a (not (kidless t cap n)) h) (none e₁ e₂ e₃ e₄))

  kid-cells : (n : ℕ) (b : Bool) → T (kid_cells_are t cap n b) → KidCells cap t n b
  kid-cells n b h =
      let nth = every-at (kid_cell_tests t cap n b) h in
      by-kid (λ w. flag_of t complete_bit (link_of t cap n w) ≡ b) (beq-is _ b (nth 0)) (beq-is _ b (nth 1)) (beq-is _ b (nth 2)) (beq-is _ b (nth 3))

module _ (g : Grid) (cap : ℕ) (t : List ℤ) where
  cell-facts : (n : ℕ) → T (cell_ok g t cap (base g) n) → CellRow g cap t n
  unfolding cell_ok
  cell-facts n h =
      let d = depth_of t (base g) n in
      let x = ltb (word_of t n i_word) g.columns in
      let y = ltb (word_of t n j_word) g.rows in
      let nth = every-at (cell_tests g t cap (base g) n) h in
      record {
        east = unequal _ _ (nth 0);
        north = unequal _ _ (nth 1);
        both = unequal _ _ (nth 2);
        inside = λ e. let b : T (x && y) = rw (eq-eqb d (base g) e) at (nth 3) in (ltb→lt _ _ (and_left x y b), ltb→lt _ _ (and_right x y b));
        above = λ e. rw (ne_eqb d (base g) e) at (nth 3);
        kids = go (or_cases (kid_cells_are t cap n true) (kid_cells_are t cap n false) (nth 4));
      }
    where
      go : T (kid_cells_are t cap n true) ⊎ T (kid_cells_are t cap n false) → KidCells cap t n true ⊎ KidCells cap t n false
      go (inl a) = inl (kid-cells cap t n true a)
      go (inr a) = inr (kid-cells cap t n false a)

  sentence-facts : (n : ℕ) → T (sentence_ok t cap (base g) n) → Sentence g cap t n
  unfolding sentence_ok
  sentence-facts n h =
      let nth = every-at (sentence_tests t cap (base g) n) h in
      record { cell = nth 0; high = unequal _ _ (nth 1); kidless = kid-cells cap t n false (nth 2) }

  pub point-facts : (n : ℕ) → T (point_ok g t cap (base g) n) → Point g cap t n
  unfolding point_ok
  point-facts n h =
      let nth = every-at (point_tests g t cap (base g) n) h in
      record {
        touched = nth 0;
        cell = λ c. cell-facts n (implied (flag_of t complete_bit n) (cell_ok g t cap (base g) n) (nth 1) c);
        sentence = λ c. sentence-facts n (implied (flag_of t sentenced_bit n) (sentence_ok t cap (base g) n) (nth 2) c);
        flags = eqb→eq _ _ (nth 3);
      }

module _ (cap : ℕ) (t : List ℤ) (v : List Float) where
  blank-facts : (n : ℕ) → T (blank_ok t cap v n) → Blank cap t v n
  unfolding blank_ok
  blank-facts n h =
      let a = is_zero (carried_of t v n) in
      let b = is_blank (carried_above t cap v n) in
      record { zero-value = float_is _ _ (and_left a (not (flag_of t complete_bit n) || b) h); above = λ c. eqb→eq _ _ (implied (flag_of t complete_bit n) b (and_right a (not (flag_of t complete_bit n) || b) h) c) }

  held-facts : (n : ℕ) → T (held_ok t cap v n) → Held cap t v n
  unfolding held_ok
  held-facts n h = record { cell = nth 0; is_finite = nth 1; status = go (or_cases (is_measured (carried_of t v n)) (every bs) (nth 2)) }
    where
      bs : List Bool
      bs = carried_tests t cap v n

      nth : (k : ℕ) → T (get_or (held_tests t cap v n) k true)
      nth = every-at (held_tests t cap v n) h

      go : T (is_measured (carried_of t v n)) ⊎ T (every bs) → HeldAs (carried_of t v n) (carried_above t cap v n)
      go (inl e) = inl (eqb→eq _ _ e)
      go (inr e) = let at = every-at bs e in inr (eqb→eq _ _ (at 0), unequal _ _ (at 1), float_is _ _ (at 2))

  pub value-facts : (n : ℕ) → T (value_ok t cap v n) → (status_of (carried_of t v n) ≡ 0 → Blank cap t v n) × (status_of (carried_of t v n) ≢ 0 → Held cap t v n)
  unfolding value_ok
  value-facts n h = (λ e. blank-facts n (rw (eq-eqb (status_of (carried_of t v n)) 0 e) at h), λ e. held-facts n (rw (ne_eqb (status_of (carried_of t v n)) 0 e) at h))
