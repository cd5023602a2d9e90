-- A signed word and its code: each law goes by the two signs.
-- Assumes nothing.
use mathlib.Core.Path.{◌≡◌, refl, ap, sym, ◌∙◌}
use mathlib.Core.Bool.{true, false, ◌&&◌, cond}
use Prim.Native.Nat.{ℕ, suc, ◌+◌, ◌-◌, ◌<◌, ◌≤◌}
use native.Mathlib.Omega.{arith}
use lib.Dec.{eqb, leb}
use borrow.Author.Tests.{leb-true, lt-ltb, le-ltb, le-leb, lt-leb, ne_eqb}
use lib.IntN.{ℤ, pos, negsuc, nat_abs, ◌+ℤ◌}
use lib.Signed.{le_z}
use mir.Syntax.{w32}
use mir.Val.{SFits, to_z, of_z}
use mir.Facts.{to_z-of_z, to_z_pos}
use Rattle.table.specs.Words.{code, depth_from}

-- ---- a word without a sign

pub record Plus (z : ℤ) : Type 0 where
  pub size : ℕ
  pub is : z ≡ pos size
  pub small : size < 2147483648

-- ---- what is known of a word by comparisons of the signed word

-- at most a number below 2 ^ 31
most : (m : ℕ) → m < 2147483648 → (z : ℤ) → le_z z (to_z w32 m) ≡ le_z z (pos m)
most m h z = ap (le_z z) (to_z_pos w32 h)

-- a word of a row is the number of a row or 0
pub within-is : (m : ℕ) → m ≤ 4095 → {z : ℤ} → SFits w32 z → (le_z (pos 0) (to_z w32 (of_z w32 z)) && le_z (to_z w32 (of_z w32 z)) (to_z w32 m)) ≡ leb (code z) m
within-is m h {z} f = rw (to_z-of_z f, most m (omega arith) z) (go z f)
  where
    go : (z : ℤ) → SFits w32 z → (le_z (pos 0) z && le_z z (pos m)) ≡ leb (code z) m
    go (pos n) f = rw (le-leb 0 n (omega arith))
    go (negsuc n) f = sym (lt-leb (2147483648 + n) m (omega arith))

-- a word that is compared with a number below 2 ^ 31, by their bits
pub same-is : (k : ℕ) → k < 2147483648 → {z : ℤ} → SFits w32 z → eqb (of_z w32 z) k ≡ eqb (code z) k
same-is k h {z} f = go z f
  where
    go : (z : ℤ) → SFits w32 z → eqb (of_z w32 z) k ≡ eqb (code z) k
    go (pos n) f = refl
    go (negsuc n) f =
        let s : n < 2147483648 = f.sfits in
        ne_eqb (4294967296 - suc n) k (λ e. omega arith) ∙ sym (ne_eqb (2147483648 + n) k (λ e. omega arith))

-- the row that a word names, in each arm of the test
pub link-kept : (m : ℕ) → m ≤ 4095 → (z : ℤ) → leb (code z) m ≡ true → (nat_abs z ≤ m) × (nat_abs z ≡ cond (leb (code z) m) (code z) 0)
link-kept m h (pos n) e = (leb-true n m e, rw e)
link-kept m h (negsuc n) e = absurd (omega (arith, leb-true (2147483648 + n) m e))

pub link-none : (m : ℕ) (z : ℤ) → leb (code z) m ≡ false → (0 ≤ m) × (0 ≡ cond (leb (code z) m) (code z) 0)
link-none m z e = (omega arith, rw e)

-- the depth that a level from that of depth 0 on says, as a sum
pub depth-sum : (d : ℕ) {z : ℤ} → SFits w32 z → d ≤ 32 → code z < 2147483648 + d → to_z w32 (of_z w32 z) +ℤ to_z w32 d ≡ pos (depth_from d (code z))
depth-sum d {z} f h l = rw (to_z-of_z f, to_z_pos w32 {n = d} (omega arith)) (go z f l)
  where
    go : (z : ℤ) → SFits w32 z → code z < 2147483648 + d → z +ℤ pos d ≡ pos (depth_from d (code z))
    go (pos n) f l = rw (lt-ltb n 2147483648 f.sfits)
    go (negsuc n) f l =
        let e : 2147483648 + n - 2147483648 ≡ n = omega arith in
        let s : 2147483648 ≤ 2147483648 + n = omega arith in
        rw (le-ltb d (suc n) (omega arith), le-ltb (2147483648 + n) 2147483648 s, e, lt-ltb n d (omega arith)) (ap pos (omega arith))
