-- The free numbers from 1 to 4095 as a predicate, and as a map: a bit for each in 64 words, a word that says which of these are not 0, and how many
-- numbers are free.
-- Assumes nothing.
use Rattle.std.specs.Prelude.{ℕ, zero, suc, ◌+◌, ◌/◌, ◌%◌, ◌^◌, ◌≤◌, ◌<◌, ◌≡◌, Bool, true, false, cond, List, length, get_or, eqb}
use Rattle.std.specs.Int.Bits.{bit_or, bit_xor}

-- ---- the bits of a word

-- the bit n of the word x: 0 or 1
unfoldable pub bit : ℕ → ℕ → ℕ
bit x n = x / 2 ^ n % 2

-- x with the bit b set; with it cleared
unfoldable pub on : ℕ → ℕ → ℕ
on x b = bit_or x (2 ^ b)

unfoldable pub off : ℕ → ℕ → ℕ
off x b = bit_xor (on x b) (2 ^ b)

-- r is the place of the lowest bit of x that is set
pub record Low (x r : ℕ) : Type 0 where
  pub short : r < 64
  pub here : bit x r ≡ 1
  pub under : (j : ℕ) → j < r → bit x j ≡ 0

-- ---- some of the numbers

-- f, but for n, which is one of them or not as c says
unfoldable pub switched : (ℕ → Bool) → ℕ → Bool → ℕ → Bool
switched f n c k = cond (eqb k n) c (f k)

-- the first of them from k on, among the next n; 0 if there is none
unfoldable pub first_from : (ℕ → Bool) → ℕ → ℕ → ℕ
first_from f zero k = 0
first_from f (suc n) k = cond (f k) k (first_from f n (k + 1))

-- how many there are below n
unfoldable pub total : (ℕ → Bool) → ℕ → ℕ
total f zero = 0
total f (suc n) = total f n + cond (f n) 1 0

-- r is the first of them from s on, or 4096 if there is none
pub record First (f : ℕ → Bool) (s r : ℕ) : Type 0 where
  pub from : s ≤ r
  pub to : r ≤ 4096
  pub none : (n : ℕ) → s ≤ n → n < r → f n ≡ false
  pub hit : r < 4096 → f r ≡ true

-- ---- the map

-- the bit of the number n
unfoldable pub map_bit : List ℕ → ℕ → ℕ
map_bit m n = bit (get_or m (n / 64) 0) (n % 64)

-- there are 64 words, top says which are not 0, and the bit of the number 0 is not set
pub record Kept (m : List ℕ) (top : ℕ) : Type 0 where
  pub long : length m ≡ 64
  pub none : map_bit m 0 ≡ 0
  pub tops : (w : ℕ) → w < 64 → bit top w ≡ cond (eqb (get_or m w 0) 0) 0 1

-- the bits that are set are those of the numbers that f says
pub record Maps (m : List ℕ) (f : ℕ → Bool) : Type 0 where
  pub each : (n : ℕ) → n < 4096 → map_bit m n ≡ cond (f n) 1 0

pub record Mapped (f : ℕ → Bool) (m : List ℕ) (top count : ℕ) : Type 0 where
  pub kept : Kept m top
  pub maps : Maps m f
  pub counts : count ≡ total f 4096

-- what a map is made of: the words, the word over them, and a count
pub record FreeNumbers : Type 0 where
  pub words : List ℕ
  pub top : ℕ
  pub count : ℕ

-- it is the map of the numbers that f says: the bits are theirs, and so many are they
pub record IsMapOf (m : FreeNumbers) (f : ℕ → Bool) : Type 0 where
  pub bits : Maps m.words f
  pub counts : m.count ≡ total f 4096
