-- The words of a lent table as numbers, and its links as rows of the table, whatever stands in it.
-- Assumes nothing.
use Rattle.std.specs.Prelude.{ℕ, ◌+◌, ◌-◌, ◌*◌, ◌/◌, ◌%◌, ◌^◌, ◌<◌, Bool, not, ◌&&◌, cond, List, eqb, leb, ltb, get_or, ℤ, pos, negsuc, ◌≡◌}
use Rattle.mesh.specs.Picture.{row_words, flags_word, level_word, free_flags}

-- a signed word as a number: n as itself, -(n + 1) as 2 ^ 31 + n
abbrev pub code : ℤ → ℕ
code (pos n) = n
code (negsuc n) = 2147483648 + n

-- the word w of the row n
unfoldable pub word_of : List ℤ → ℕ → ℕ → ℕ
word_of t n w = code (get_or t (n * row_words + w) (pos 0))

-- the row that a word names, or 0 where it names none of 1 to the capacity
unfoldable pub link_of : List ℤ → ℕ → ℕ → ℕ → ℕ
link_of t cap n w = cond (leb (word_of t n w) cap) (word_of t n w) 0

-- the flag of bit k
unfoldable pub flag_of : List ℤ → ℕ → ℕ → Bool
flag_of t k n = eqb (word_of t n flags_word / 2 ^ k % 2) 1

-- "A free row has flags 8192"
unfoldable pub free_at : List ℤ → ℕ → Bool
free_at t n = eqb (word_of t n flags_word) free_flags

-- the number is that of a patch
unfoldable pub taken : List ℤ → ℕ → ℕ → Bool
taken t cap n = leb 1 n && (leb n cap && not (free_at t n))

-- the depth that a level's word says, with level 0 at depth d; past the deepest, d + 12, where it says none
abbrev pub depth_from : ℕ → ℕ → ℕ
depth_from d c = cond (ltb c 2147483648) (c + d) (cond (ltb (c - 2147483648) d) (d - 1 - (c - 2147483648)) (d + 13))

unfoldable pub depth_of : List ℤ → ℕ → ℕ → ℕ
depth_of t d n = depth_from d (word_of t n level_word)

-- no word is above 2 ^ 31 - 1: one of them, and all
abbrev pub FitsAt : List ℤ → ℕ → Type 0
FitsAt t i = (n : ℕ) → get_or t i (pos 0) ≡ pos n → n < 2147483648

abbrev pub Fits : List ℤ → Type 0
Fits t = (i : ℕ) → FitsAt t i
