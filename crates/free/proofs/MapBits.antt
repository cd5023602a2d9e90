-- The bits of a word, one by one: after `|`, `^` and a shift, of a power of two, and below the lowest that is set.
-- Assumes nothing.
use Prim.Native.Nat.{ℕ, zero, suc, ◌+◌, ◌-◌, ◌*◌, ◌/◌, ◌%◌, ◌^◌, ◌≤◌, ◌<◌}
use native.Mathlib.Omega.{arith}
use native.Mathlib.Nat.{mod-lt, div-one, zero-div, div_self, div-eq_of_lt, mul-div_cancel, mul-mod_left, div-div-eq-div-mul, mul_comm, one-mul, pow-suc, lt_of_lt_of_le}
use native.Mathlib.Decide.{dec_lt}
use mathlib.Core.Path.{◌≡◌, refl, sym, ap, ap₂, ◌∙◌, subst}
use lib.Bits.{bit_or, bit_xor, or_shr, or_mod, xor_shr, xor_mod, or_zero_r, xor_zero_r, xor_self}
use lib.Dec.{lit<}
use lib.Pow.{pow_pos, pow_mono, pow-lt, pow-add, shl_exact, shr-shr, shr_lt}
use lib.Count.{count_trailing_zeros}
use Rattle.free.specs.FreeMap.{bit, on, off, Low}

pub bit-lt : (x n : ℕ) → bit x n < 2
unfolding bit
bit-lt x n = mod-lt (x / 2 ^ n) (omega arith)

pub bit-of-zero : (n : ℕ) → bit 0 n ≡ 0
unfolding bit
bit-of-zero n = ap (λ (x : ℕ). x % 2) (zero-div (2 ^ n))

pub bit-pos : (x n : ℕ) → bit x n ≡ 1 → 0 < x
bit-pos zero n h = let z = bit-of-zero n in omega arith
bit-pos (suc x) n h = omega arith

-- no bit is set from the number's length on
pub bit_high : (x k n : ℕ) → x < 2 ^ k → k ≤ n → bit x n ≡ 0
unfolding bit
bit_high x k n h l = ap (λ (y : ℕ). y % 2) (div-eq_of_lt (lt_of_lt_of_le h (pow_mono l)))

-- so a bit that is set is below it
pub bit_below : (x k n : ℕ) → x < 2 ^ k → bit x n ≡ 1 → n < k
bit_below x k n h b = by (dec_lt n k)
  where
    by : Dec (n < k) → n < k
    by (yes l) = l
    by (no l) = let z = bit_high x k n h (omega arith) in omega arith

-- the bits of x >> k
pub bit-shr : (x k j : ℕ) → bit (x / 2 ^ k) j ≡ bit x (k + j)
unfolding bit
bit-shr x k j = ap (λ (y : ℕ). y % 2) (shr-shr x k j)

pub bit-first : (x : ℕ) → bit x 0 ≡ x % 2
unfolding bit
bit-first x = ap (λ (y : ℕ). y % 2) (div-one x)

pub bit-rest : (x j : ℕ) → bit x (suc j) ≡ bit (x / 2) j
unfolding bit
bit-rest x j = sym (ap (λ (y : ℕ). y % 2) (div-div-eq-div-mul x 2 (2 ^ j) ∙ ap (λ (y : ℕ). x / y) (mul_comm 2 (2 ^ j) ∙ sym (pow-suc 2 j))))

-- ---- a power of two

pow-here : (b : ℕ) → bit (2 ^ b) b ≡ 1
unfolding bit
pow-here b = ap (λ (y : ℕ). y % 2) (div_self (pow_pos b))

pow-under : (b n d : ℕ) → b ≡ suc d + n → bit (2 ^ b) n ≡ 0
unfolding bit
pow-under b n d e =
    ap (λ (y : ℕ). y % 2) (ap (λ (y : ℕ). 2 ^ y / 2 ^ n) e ∙ ap (λ (y : ℕ). y / 2 ^ n) (pow-add 2 (suc d) n) ∙ mul-div_cancel (2 ^ suc d) (pow_pos n) ∙ pow-suc 2 d)
    ∙ mul-mod_left (2 ^ d) 2

pow-there : (b n : ℕ) → (n ≡ b → ⊥) → bit (2 ^ b) n ≡ 0
pow-there b n h = by (dec_lt n b)
  where
    by : Dec (n < b) → bit (2 ^ b) n ≡ 0
    by (yes l) = pow-under b n (b - suc n) (omega arith)
    by (no l) = bit_high (2 ^ b) (suc b) n (pow-lt (omega arith)) (omega (arith, h))

-- `1 << b`
pub bit_at : (b : ℕ) → b < 64 → 1 * 2 ^ b % 2 ^ 64 ≡ 2 ^ b
bit_at b h = shl_exact {a = 1} 1 b 64 (lit< tt) (omega arith) ∙ one-mul (2 ^ b)

-- ---- a bit set and a bit cleared

or-one : (d : ℕ) → d < 2 → bit_or d 1 ≡ 1
or-one zero h = refl
or-one (suc zero) h = refl
or-one (suc (suc d)) h = absurd (omega arith)

bit-or : (a b n : ℕ) → bit (bit_or a b) n ≡ bit_or (bit a n) (bit b n)
unfolding bit
bit-or a b n = ap (λ (y : ℕ). y % 2) (or_shr a b n) ∙ or_mod (a / 2 ^ n) (b / 2 ^ n) 1

bit-xor : (a b n : ℕ) → bit (bit_xor a b) n ≡ bit_xor (bit a n) (bit b n)
unfolding bit
bit-xor a b n = ap (λ (y : ℕ). y % 2) (xor_shr a b n) ∙ xor_mod (a / 2 ^ n) (b / 2 ^ n) 1

pub on-here : (x b : ℕ) → bit (on x b) b ≡ 1
unfolding on
on-here x b = bit-or x (2 ^ b) b ∙ ap (bit_or (bit x b)) (pow-here b) ∙ or-one (bit x b) (bit-lt x b)

pub on-there : (x b n : ℕ) → (n ≡ b → ⊥) → bit (on x b) n ≡ bit x n
unfolding on
on-there x b n h = bit-or x (2 ^ b) n ∙ ap (bit_or (bit x n)) (pow-there b n h) ∙ or_zero_r (bit x n)

pub off-here : (x b : ℕ) → bit (off x b) b ≡ 0
unfolding on off
off-here x b = bit-xor (on x b) (2 ^ b) b ∙ ap₂ bit_xor (on-here x b) (pow-here b)

pub off-there : (x b n : ℕ) → (n ≡ b → ⊥) → bit (off x b) n ≡ bit x n
unfolding on off
off-there x b n h = bit-xor (on x b) (2 ^ b) n ∙ ap₂ bit_xor (on-there x b n h) (pow-there b n h) ∙ xor_zero_r (bit x n)

pub off-pos : (x b : ℕ) → 0 < off x b → 0 < x
unfolding on off
off-pos zero b h = let z = xor_self (2 ^ b) in omega arith
off-pos (suc x) b h = omega arith

-- ---- the lowest bit that is set

record Lowest (k x r : ℕ) : Type 0 where
  short : r < k
  here : bit x r ≡ 1
  under' : (j : ℕ) → j < r → bit x j ≡ 0

lowest-odd : (k x : ℕ) → x % 2 ≡ 1 → Lowest (suc k) x (count_trailing_zeros (suc k) x)
unfolding count_trailing_zeros
lowest-odd k x e = rw e (record { short = omega arith; here = bit-first x ∙ e; under' = λ j l. absurd (omega arith) })

lowest-even : (k x : ℕ) → x % 2 ≡ 0 → Lowest k (x / 2) (count_trailing_zeros k (x / 2)) → Lowest (suc k) x (count_trailing_zeros (suc k) x)
unfolding count_trailing_zeros
lowest-even k x e h =
    let under'' : (j : ℕ) → j < suc (count_trailing_zeros k (x / 2)) → bit x j ≡ 0 = λ j. below j in
    rw e (record { short = omega (arith, h.short); here = bit-rest x _ ∙ h.here; under' = under'' })
  where
    below : (j : ℕ) → j < suc (count_trailing_zeros k (x / 2)) → bit x j ≡ 0
    below zero l = bit-first x ∙ e
    below (suc j) l = bit-rest x j ∙ h.under' j (omega arith)

lowest-is : (k x : ℕ) → 0 < x → x < 2 ^ k → Lowest k x (count_trailing_zeros k x)
lowest-is zero x p h = absurd (omega arith)
lowest-is (suc k) x p h = by (λ q. lowest-is k (x / 2) q half) (dec_lt (x % 2) 1)
  where
    half : x / 2 < 2 ^ k
    half = shr_lt k 1 (subst (λ (y : ℕ). x < 2 ^ y) (omega arith) h)

    by : (0 < x / 2 → Lowest k (x / 2) (count_trailing_zeros k (x / 2))) → Dec (x % 2 < 1) → Lowest (suc k) x (count_trailing_zeros (suc k) x)
    by rest (yes l) = lowest-even k x (omega arith) (rest (omega arith))
    by rest (no l) = lowest-odd k x (omega arith)

pub low-is : (x : ℕ) → 0 < x → x < 2 ^ 64 → Low x (count_trailing_zeros 64 x)
low-is x p h = let l = lowest-is 64 x p h in record { short = l.short; here = l.here; under = l.under' }
