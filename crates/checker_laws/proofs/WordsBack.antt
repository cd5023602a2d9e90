-- The words of a table as they stand there, from the numbers that the test reads: a small code is the word itself, a level is the depth less that
-- of level 0, and the flags are the binary digits.
-- Assumes nothing.
use Prim.Native.Nat.{ℕ, zero, suc, ◌+◌, ◌-◌, ◌*◌, ◌/◌, ◌%◌, ◌^◌, ◌≤◌, ◌<◌}
use native.Mathlib.Nat.{div-one, zero-div, pow-suc}
use native.Mathlib.Omega.{arith}
use native.Mathlib.Decide.{dec_lt}
use mathlib.Core.Path.{◌≡◌, refl, sym, ap, ◌∙◌}
use mathlib.Core.Bool.{Bool, true, false, cond}
use mathlib.Core.List.{List, [], ◌∷◌}
use lib.Dec.{eqb, ltb}
use lib.IntN.{ℤ, pos, negsuc, sub_ℕ}
use lib.ListN.{length, get_or}
use borrow.Author.Tests.{lt-ltb, le-ltb}
use Rattle.mesh.specs.Tools.{digits}
use Rattle.mesh.specs.Decode.{digits_of}
use Rattle.mesh.specs.Picture.{flags_word}
use Rattle.table.specs.Words.{code, word_of, flag_of, depth_from}
use Rattle.place_laws.proofs.Walls.{half_pow}
use Rattle.picture_laws.proofs.Decoding.{digits-back}

-- ---- one word

pub code-pos : (z : ℤ) → code z < 2147483648 → z ≡ pos (code z)
code-pos (pos n) h = refl
code-pos (negsuc n) h = absurd (omega arith)

-- "the root level is minus d"
pub level-read : (d : ℕ) (z : ℤ) → ((n : ℕ) → z ≡ pos n → n < 2147483648) → depth_from d (code z) ≤ d + 12 → z ≡ sub_ℕ (depth_from d (code z)) d
level-read d (pos n) f h = rw (lt-ltb n 2147483648 (f n refl)) (rw (le-ltb (n + d) d (omega arith)) (ap pos (let e : n ≡ n + d - d = omega arith in e)))
level-read d (negsuc n) f h = go (dec_lt (2147483648 + n - 2147483648) d)
  where
    e : 2147483648 + n - 2147483648 ≡ n
    e = omega arith

    c : depth_from d (2147483648 + n) ≡ cond (ltb (2147483648 + n - 2147483648) d) (d - 1 - (2147483648 + n - 2147483648)) (d + 13)
    c = rw (le-ltb (2147483648 + n) 2147483648 (omega arith))

    go : Dec (2147483648 + n - 2147483648 < d) → negsuc n ≡ sub_ℕ (depth_from d (2147483648 + n)) d
    go (yes l) =
        let k : depth_from d (2147483648 + n) ≡ d - 1 - n = c ∙ rw (lt-ltb (2147483648 + n - 2147483648) d l, e) in
        rw k (rw (lt-ltb (d - 1 - n) d (omega arith)) (ap negsuc (let r : n ≡ d - suc (d - 1 - n) = omega arith in r)))
    go (no l) =
        let k : depth_from d (2147483648 + n) ≡ d + 13 = c ∙ rw (le-ltb (2147483648 + n - 2147483648) d (omega (arith, l))) in
        absurd (omega arith)

-- ---- flags

-- a binary digit, by division
pub digit_at : (k f b : ℕ) → b < k → get_or (digits_of k f) b false ≡ eqb (f / 2 ^ b % 2) 1
digit_at zero f b l = absurd (omega arith)
digit_at (suc k) f zero l = rw (div-one f)
digit_at (suc k) f (suc b) l = digit_at k (f / 2) b (omega arith) ∙ ap (λ (n : ℕ). eqb (n % 2) 1) (half_pow f b)

pub digits-below : (bs : List Bool) → digits bs < 2 ^ length bs
digits-below [] = omega arith
digits-below (b ∷ bs) = rw (pow-suc 2 (length bs)) (go b (digits-below bs))
  where
    go : (b : Bool) → digits bs < 2 ^ length bs → cond b 1 0 + 2 * digits bs < 2 ^ length bs * 2
    go true h = omega arith
    go false h = omega arith

-- the flags of a row whose flags' word has these digits
pub flag-of : (t : List ℤ) (n : ℕ) (bs : List Bool) → length bs ≡ 14 → word_of t n flags_word ≡ digits bs → (k : ℕ) → k < 14 → flag_of t k n ≡ get_or bs k false
unfolding flag_of
flag-of t n bs e d k l = rw d (sym (digit_at 14 (digits bs) k l) ∙ ap (λ (xs : List Bool). get_or xs k false) (rw e at (digits-back bs)))

pub flag-zero : (t : List ℤ) (n k : ℕ) → word_of t n flags_word ≡ 0 → flag_of t k n ≡ false
unfolding flag_of
flag-zero t n k e = rw (e, zero-div (2 ^ k))
