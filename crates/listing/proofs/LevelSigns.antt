-- The sign of a level says on which side of 0 it is.
-- Assumes nothing.
use Prim.Native.Nat.{ℕ, ◌+◌, ◌-◌, ◌*◌, ◌≤◌, ◌<◌}
use native.Mathlib.Omega.{arith}
use native.Mathlib.Decide.{dec_lt}
use mathlib.Core.Path.{◌≡◌, sym, ◌∙◌}
use mathlib.Core.Bool.{false, cond}
use mathlib.Core.List.{List}
use lib.Dec.{leb, ltb}
use lib.ListN.{get_or}
use lib.IntN.{ℤ, pos, negsuc}
use lib.Signed.{le_z}
use mir.Syntax.{w32}
use mir.Val.{SFits, to_z, of_z}
use mir.Facts.{to_z-of_z}
use borrow.Author.Tests.{le-leb, lt-leb, lt-ltb, le-ltb}
use Rattle.mesh.specs.Picture.{row_words, level_word}
use Rattle.table.specs.Words.{code, word_of, depth_from, depth_of}
use Rattle.listing.specs.ListedRows.{from_level}

-- a level of the table is not below 0 exactly if its depth is not below that of level 0
level-sign : (d : ℕ) (z : ℤ) → SFits w32 z → depth_from d (code z) ≤ d + 12 → le_z (pos 0) z ≡ leb d (depth_from d (code z))
level-sign d (pos n) f l = rw (lt-ltb n 2147483648 f.sfits) (le-leb 0 n (omega arith) ∙ sym (le-leb d (n + d) (omega arith)))
level-sign d (negsuc n) f l =
    rw (le-ltb (2147483648 + n) 2147483648 (omega arith))
    (go (dec_lt (2147483648 + n - 2147483648) d) (rw (le-ltb (2147483648 + n) 2147483648 (omega arith)) at l))
  where
    x : ℕ
    x = 2147483648 + n - 2147483648

    go : Dec (x < d) → cond (ltb x d) (d - 1 - x) (d + 13) ≤ d + 12 → false ≡ leb d (cond (ltb x d) (d - 1 - x) (d + 13))
    go (yes h) k = rw (lt-ltb x d h) (sym (lt-leb d (d - 1 - x) (omega arith)))
    go (no h) k = let y : d + 13 ≤ d + 12 = rw (le-ltb x d (omega (arith, h))) at k in absurd (omega (arith, y))

pub grounded-is : (t : List ℤ) (d n : ℕ) {z : ℤ} → SFits w32 z → z ≡ get_or t (n * row_words + 9) (pos 0) → depth_of t d n ≤ d + 12
    → le_z (pos 0) (to_z w32 (of_z w32 z)) ≡ leb d (depth_of t d n)
unfolding depth_of word_of
grounded-is t d n {z} f e l = rw (to_z-of_z f, ← e) (level-sign d z f (rw (← e) at l))

pub level-test : (t : List ℤ) (n : ℕ) {a z x : ℤ} → a ≡ z → x ≡ get_or t (n * row_words + level_word) (pos 0) → le_z a x ≡ from_level t z n
unfolding from_level
level-test t n h e = rw (h, e)
