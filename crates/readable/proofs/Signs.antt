-- Words that are read as they stand: what the test of a sign says, and what depth a level is.
-- Assumes nothing.
use mathlib.Core.Path.{◌≡◌, sym, ◌∙◌}
use mathlib.Core.Bool.{true, not, cond}
use mathlib.Core.List.{List}
use Prim.Native.Nat.{ℕ, ◌+◌, ◌-◌, ◌*◌, ◌≤◌, ◌<◌}
use native.Mathlib.Omega.{arith}
use native.Mathlib.Decide.{dec_lt, ℕ_discrete}
use lib.Dec.{eqb, ltb}
use lib.IntN.{ℤ, pos, negsuc}
use lib.ListN.{length}
use lib.Signed.{le_z}
use mir.Syntax.{w32}
use mir.Val.{SFits, to_z, of_z}
use mir.Facts.{to_z-of_z}
use borrow.Author.Tests.{eq-eqb, ne_eqb, le-leb, lt-ltb, le-ltb}
use Rattle.mesh.specs.Picture.{level_word, row_words}
use Rattle.table.specs.Words.{code, word_of, depth_from, depth_of}
use Rattle.table.proofs.LinkRanges.{level-from}
use Rattle.readable.specs.Readable.{Readable, Levelled}

-- a test of a sign
pub sign-is : {z : ℤ} → SFits w32 z → le_z (pos 0) (to_z w32 (of_z w32 z)) ≡ ltb (code z) 2147483648
sign-is {z} f = rw (to_z-of_z f) (go z f)
  where
    go : (z : ℤ) → SFits w32 z → le_z (pos 0) z ≡ ltb (code z) 2147483648
    go (pos n) f = le-leb 0 n (omega arith) ∙ sym (lt-ltb n 2147483648 f.sfits)
    go (negsuc n) f = sym (le-ltb (2147483648 + n) 2147483648 (omega arith))

-- ---- levels that are not past the deepest

module _ (t : List ℤ) (d n : ℕ) (deep : depth_of t d n ≤ d + 12) where
  -- below level 0 the sign says so
  pub level-sign : ltb (depth_of t d n) d ≡ not (ltb (word_of t n level_word) 2147483648)
  unfolding depth_of
  level-sign = go (word_of t n level_word) (dec_lt (word_of t n level_word) 2147483648) deep
    where
      go : (c : ℕ) → Dec (c < 2147483648) → depth_from d c ≤ d + 12 → ltb (depth_from d c) d ≡ not (ltb c 2147483648)
      go c (yes h) l = rw (lt-ltb c 2147483648 h) (le-ltb (c + d) d (omega arith))
      go c (no h) l = rw (le-ltb c 2147483648 (omega (arith, h))) (under (dec_lt (c - 2147483648) d) (rw (le-ltb c 2147483648 (omega (arith, h))) at l))
        where
          under : Dec (c - 2147483648 < d) → cond (ltb (c - 2147483648) d) (d - 1 - (c - 2147483648)) (d + 13) ≤ d + 12 → ltb (cond (ltb (c - 2147483648) d) (d - 1 - (c - 2147483648)) (d + 13)) d ≡ true
          under (yes x) l = rw (lt-ltb (c - 2147483648) d x) (lt-ltb (d - 1 - (c - 2147483648)) d (omega arith))
          under (no x) l = let z : d + 13 ≤ d + 12 = rw (le-ltb (c - 2147483648) d (omega (arith, x))) at l in absurd (omega (arith, z))

  -- a depth counted from another depth of level 0
  pub level-lift : d ≤ 32 → depth_of t 32 n ≡ depth_of t d n + (32 - d)
  unfolding depth_of
  level-lift b = go (word_of t n level_word) (dec_lt (word_of t n level_word) 2147483648) deep
    where
      go : (c : ℕ) → Dec (c < 2147483648) → depth_from d c ≤ d + 12 → depth_from 32 c ≡ depth_from d c + (32 - d)
      go c (yes h) l = rw (lt-ltb c 2147483648 h) (omega arith)
      go c (no h) l = rw (le-ltb c 2147483648 (omega (arith, h))) (under (dec_lt (c - 2147483648) d) (rw (le-ltb c 2147483648 (omega (arith, h))) at l))
        where
          under : Dec (c - 2147483648 < d) → cond (ltb (c - 2147483648) d) (d - 1 - (c - 2147483648)) (d + 13) ≤ d + 12 → cond (ltb (c - 2147483648) 32) (32 - 1 - (c - 2147483648)) (32 + 13) ≡ cond (ltb (c - 2147483648) d) (d - 1 - (c - 2147483648)) (d + 13) + (32 - d)
          under (yes x) l = rw (lt-ltb (c - 2147483648) d x, lt-ltb (c - 2147483648) 32 (omega arith)) (omega arith)
          under (no x) l = let z : d + 13 ≤ d + 12 = rw (le-ltb (c - 2147483648) d (omega (arith, x))) at l in absurd (omega (arith, z))

pub levelled-high : {t : List ℤ} {cap d : ℕ} → Levelled t cap d → Levelled t cap 32
levelled-high {t} {cap} {d} h = record { shallow = omega arith; deep = λ n l. omega (arith, h.deep n l, h.shallow, level-lift t d n (h.deep n l) h.shallow) }

-- what the depth of a row is read by: a level that says a depth is not below that of depth 0
pub depth-read : {t : List ℤ} {cap d n : ℕ} → Readable t cap → Levelled t cap d → n ≤ cap
    → (n * row_words + row_words ≤ length t) × (d ≤ 32) × (word_of t n level_word < 2147483648 + d) × (depth_of t d n < 2147483648)
depth-read {t} {cap} {d} {n} r l h =
    let deep = l.deep n h in
    (omega (arith, r.plain.sized.words), l.shallow, level-from t d n (omega (arith, deep)), omega (arith, deep, l.shallow))

-- one level above, counted from either depth
pub above-is : {t : List ℤ} {cap d p n : ℕ} → Levelled t cap d → p ≤ cap → n ≤ cap → {x y : ℕ} → x ≡ depth_of t 32 p → y ≡ depth_of t 32 n → eqb (x + 1) y ≡ eqb (depth_of t d p + 1) (depth_of t d n)
above-is {t} {cap} {d} {p} {n} h a b {x} {y} e f = go (ℕ_discrete (depth_of t d p + 1) (depth_of t d n))
  where
    i : x ≡ depth_of t d p + (32 - d)
    i = e ∙ level-lift t d p (h.deep p a) h.shallow

    j : y ≡ depth_of t d n + (32 - d)
    j = f ∙ level-lift t d n (h.deep n b) h.shallow

    go : Dec (depth_of t d p + 1 ≡ depth_of t d n) → eqb (x + 1) y ≡ eqb (depth_of t d p + 1) (depth_of t d n)
    go (yes q) = eq-eqb (x + 1) y (omega (arith, i, j)) ∙ sym (eq-eqb _ _ q)
    go (no q) = ne_eqb (x + 1) y (λ r. q (omega (arith, i, j))) ∙ sym (ne_eqb _ _ q)
