-- The table of winds by place: what the code reads there is the wind's compass and word.
-- Assumes nothing.
use mathlib.Core.Path.{◌≡◌, refl, sym, ap, ◌∙◌}
use mathlib.Core.Bool.{Bool, true, false, ◌&&◌, cond}
use mathlib.Core.List.{List}
use Prim.Native.Nat.{ℕ, zero, suc, ◌+◌, ◌-◌, ◌%◌, ◌≤◌, ◌<◌}
use native.Mathlib.Omega.{arith}
use lib.Dec.{eqb, lit≤}
use lib.ListN.{get_or}
use lib.IntN.{ℤ}
use Rattle.mesh.specs.Place.{Wind, NE, compass}
use Rattle.mesh.specs.Picture.{i_word, j_word, parent_word}
use Rattle.mesh.specs.Winds.{winds, word_of_wind}
use Rattle.winds.specs.WindTable.{compass_at, kid_l, kid_m, KidWind}
use Rattle.winds.proofs.KidWinds.{each-kid}
use Rattle.table.specs.Words.{word_of, link_of}
use Rattle.worked.specs.Worked.{kid_word, stays_in, side_of, side_by}

pub record At (i : ℕ) : Type 0 where
  pub east : (compass_at i).east ≡ (compass (get_or winds i NE)).east
  pub north : (compass_at i).north ≡ (compass (get_or winds i NE)).north
  pub east-small : (compass_at i).east ≤ 2
  pub north-small : (compass_at i).north ≤ 2
  pub word : i + 1 ≡ word_of_wind (get_or winds i NE)

pub at : (i : ℕ) → i < 8 → At i
at zero h = record { east = refl; north = refl; east-small = lit≤ tt; north-small = lit≤ tt; word = refl }
at (suc zero) h = record { east = refl; north = refl; east-small = lit≤ tt; north-small = lit≤ tt; word = refl }
at (suc (suc zero)) h = record { east = refl; north = refl; east-small = lit≤ tt; north-small = lit≤ tt; word = refl }
at (suc (suc (suc zero))) h = record { east = refl; north = refl; east-small = lit≤ tt; north-small = lit≤ tt; word = refl }
at (suc (suc (suc (suc zero)))) h = record { east = refl; north = refl; east-small = lit≤ tt; north-small = lit≤ tt; word = refl }
at (suc (suc (suc (suc (suc zero))))) h = record { east = refl; north = refl; east-small = lit≤ tt; north-small = lit≤ tt; word = refl }
at (suc (suc (suc (suc (suc (suc zero)))))) h = record { east = refl; north = refl; east-small = lit≤ tt; north-small = lit≤ tt; word = refl }
at (suc (suc (suc (suc (suc (suc (suc zero))))))) h = record { east = refl; north = refl; east-small = lit≤ tt; north-small = lit≤ tt; word = refl }
at (suc (suc (suc (suc (suc (suc (suc (suc i)))))))) h = let no : ⊥ = omega arith in absurd no

-- the word of the kid in the wind at place i
pub kid-word-at : (i : ℕ) → i < 4 → kid_word (kid_l i) (kid_m i) ≡ i + 1
kid-word-at = each-kid (λ i. kid_word (kid_l i) (kid_m i) ≡ i + 1) refl refl refl refl

-- by the kid's digits
pub kid-word-wind : {l m i : ℕ} → KidWind l m i → kid_word l m ≡ i + 1
kid-word-wind {l} {m} {i} h = ap (λ x. kid_word x m) (sym h.l-is) ∙ ap (kid_word (kid_l i)) (sym h.m-is) ∙ kid-word-at i h.is-kid

-- so there is one kid wind for two digits
pub kid-wind-one : {l m i j : ℕ} → KidWind l m i → KidWind l m j → i ≡ j
kid-wind-one h k = omega (arith, kid-word-wind h, kid-word-wind k)

-- "1 to 4 kids"
pub kid-word-range : (l m : ℕ) → m ≤ 1 → (1 ≤ kid_word l m) × (kid_word l m < 5)
kid-word-range l m h = go (eqb l 1)
  where
    go : (b : Bool) → (1 ≤ cond b (2 - m) (3 + m)) × (cond b (2 - m) (3 + m) < 5)
    go true = (omega arith, omega arith)
    go false = (omega arith, omega arith)

module _ (t : List ℤ) (cap p l m : ℕ) where
  -- the row of a neighbour, by offsets and by the word of the parent's neighbour
  abbrev pub across : ℕ → ℕ → ℕ → ℕ
  across east north w =
      let a = l + east in
      let b = m + north in
      link_of t cap (cond (stays_in a && stays_in b) p (link_of t cap p w)) (kid_word ((a + 1) % 2) ((b + 1) % 2))

  pub side-at : (i : ℕ) → i < 8 → across (compass_at i).east (compass_at i).north (i + 1) ≡ side_by t cap p l m (get_or winds i NE)
  unfolding side_by
  side-at i h =
      ap (λ e. across e (compass_at i).north (i + 1)) (at i h).east
      ∙ ap (λ m. across (compass (get_or winds i NE)).east m (i + 1)) (at i h).north
      ∙ ap (across (compass (get_or winds i NE)).east (compass (get_or winds i NE)).north) (at i h).word

-- of a row
pub side-digits : (t : List ℤ) (cap n : ℕ) (w : Wind) → side_of t cap n w ≡ side_by t cap (link_of t cap n parent_word) (word_of t n i_word % 2) (word_of t n j_word % 2) w
unfolding side_of
side-digits t cap n w = refl
