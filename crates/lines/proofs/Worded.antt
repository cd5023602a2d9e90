-- Lines are put word by word, and the leaves of a row are itself and those of its four kids.
-- Assumes nothing.
use Rattle.std.proofs.Common.{◌≡◌, ℕ, ◌+◌, ◌<◌, ◌≤◌, Bool, true, false, cond, List, [], ◌∷◌, ◌++◌, length, get_or, take, drop, ℤ, sym, refl, ap, ◌∙◌, append_assoc, append-nil, arith, length-append, take-append-drop}
use lib.Ieee.{Float}
use Rattle.mesh.specs.Place.{Grid, is_ring}
use Rattle.mesh.specs.State.{Header}
use Rattle.mesh.specs.Page.{decimal, hex_in, letter, line, space, line_feed, mode_word, head_line, total, foot_line}
use Rattle.mesh.specs.Picture.{level_word, i_word, j_word}
use Rattle.table.specs.Words.{word_of}
use Rattle.carried.specs.Carried.{carried_of, status_of}
use Rattle.carried.specs.declared.Carried.{Carried}
use Rattle.lines.specs.LineRows.{bits_of, line_end, row_line, lines_of}
use Rattle.std.proofs.lemmas.List.{take_more}
use Rattle.lines.proofs.Puts.{total-append}
use Rattle.lines.proofs.Decimals.{hex-long, decimal-long}

-- ---- words of a line

two-words : (l h : List ℕ) → l ++ (space ∷ []) ++ h ++ (line_feed ∷ []) ≡ line (l ∷ h ∷ [])
unfolding line
two-words l h = simp append_assoc

pub value_line : (l b : ℕ) (c : Carried) → l ≡ letter (status_of c) → b ≡ bits_of c.value → (l ∷ []) ++ (space ∷ []) ++ hex_in 16 b [] ++ (line_feed ∷ []) ≡ line_end c
value_line l b c e h = two-words (l ∷ []) (hex_in 16 b []) ∙ rw (e, h)

line-words : (a b c e l h : List ℕ) → (a ++ (space ∷ [])) ++ (b ++ (space ∷ [])) ++ (c ++ (space ∷ [])) ++ (e ++ (space ∷ [])) ++ line (l ∷ h ∷ []) ≡ line (a ∷ b ∷ c ∷ e ∷ l ∷ h ∷ [])
unfolding line
line-words a b c e l h = simp append_assoc

pub leaf-line : (t : List ℤ) (v : List Float) (n k i j : ℕ) (x : Carried) → k ≡ word_of t n level_word → i ≡ word_of t n i_word → j ≡ word_of t n j_word → x ≡ carried_of t v n
    → (decimal n ++ (space ∷ [])) ++ (decimal k ++ (space ∷ [])) ++ (decimal i ++ (space ∷ [])) ++ (decimal j ++ (space ∷ [])) ++ line_end x ≡ row_line t v n
unfolding row_line
leaf-line t v n k i j x a b c e =
    line-words (decimal n) (decimal k) (decimal i) (decimal j) (letter (status_of x) ∷ []) (hex_in 16 (bits_of x.value) []) ∙ rw (a, b, c, e)

-- the word of the mode and the line's end, by what was tested
pub ring-word : (g : Grid) {b : Bool} → b ≡ true → b ≡ is_ring g → (114 ∷ 105 ∷ 110 ∷ 103 ∷ 10 ∷ []) ≡ mode_word g ++ (line_feed ∷ [])
ring-word g h e = rw (sym e ∙ h)

pub open-word : (g : Grid) {b : Bool} → b ≡ false → b ≡ is_ring g → (111 ∷ 112 ∷ 101 ∷ 110 ∷ 10 ∷ []) ≡ mode_word g ++ (line_feed ∷ [])
open-word g h e = rw (sym e ∙ h)

head-words : (a b c m : List ℕ)
    → (109 ∷ 97 ∷ 112 ∷ 32 ∷ []) ++ (a ++ (space ∷ [])) ++ (b ++ (space ∷ [])) ++ (c ++ (space ∷ [])) ++ (m ++ (line_feed ∷ [])) ≡ line ((109 ∷ 97 ∷ 112 ∷ []) ∷ a ∷ b ∷ c ∷ m ∷ [])
unfolding line
head-words a b c m = simp append_assoc

pub head-line : (h : Header)
    → (109 ∷ 97 ∷ 112 ∷ 32 ∷ []) ++ (decimal h.grid.columns ++ (space ∷ [])) ++ (decimal h.grid.rows ++ (space ∷ [])) ++ (decimal h.mark ++ (space ∷ [])) ++ (mode_word h.grid ++ (line_feed ∷ [])) ≡ head_line h
unfolding head_line
head-line h = head-words (decimal h.grid.columns) (decimal h.grid.rows) (decimal h.mark) (mode_word h.grid)

pub foot-line : (leaves sum : ℕ)
    → (99 ∷ 101 ∷ 108 ∷ 108 ∷ 115 ∷ 32 ∷ []) ++ (decimal leaves ++ (space ∷ [])) ++ (115 ∷ 117 ∷ 109 ∷ 32 ∷ []) ++ decimal sum ++ (line_feed ∷ []) ≡ foot_line leaves sum
unfolding foot_line line
foot-line leaves sum = simp append_assoc

-- ---- how long the lines are

pub line-size : (t : List ℤ) (v : List Float) (n : ℕ)
    → length (row_line t v n) ≡ length (decimal n) + length (decimal (word_of t n 9)) + length (decimal (word_of t n 10)) + length (decimal (word_of t n 11)) + 23
unfolding row_line line
line-size t v n = simp (length-append, hex-long) (omega arith)

-- the same by the numbers that the row's words are
pub words_size : (t : List ℤ) (v : List Float) (n k i j : ℕ) → k ≡ word_of t n 9 → i ≡ word_of t n 10 → j ≡ word_of t n 11
    → length (row_line t v n) ≡ length (decimal n) + length (decimal k) + length (decimal i) + length (decimal j) + 23
words_size t v n k i j a b c = rw (a, b, c) (line-size t v n)

pub line-short : (t : List ℤ) (v : List Float) (n : ℕ) → length (row_line t v n) ≤ 103
line-short t v n = omega (arith, line-size t v n, decimal-long n, decimal-long (word_of t n 9), decimal-long (word_of t n 10), decimal-long (word_of t n 11))

mode-size : (g : Grid) → length (mode_word g) ≡ 4
mode-size g = go (is_ring g)
  where
    go : (b : Bool) → length {A = ℕ} (cond b (114 ∷ 105 ∷ 110 ∷ 103 ∷ []) (111 ∷ 112 ∷ 101 ∷ 110 ∷ [])) ≡ 4
    go true = refl
    go false = refl

words_long : (a b c m : List ℕ) → length (line ((109 ∷ 97 ∷ 112 ∷ []) ∷ a ∷ b ∷ c ∷ m ∷ [])) ≡ length a + length b + length c + length m + 8
unfolding line
words_long a b c m = simp length-append (omega arith)

pub head-size : (h : Header) → length (head_line h) ≡ length (decimal h.grid.columns) + length (decimal h.grid.rows) + length (decimal h.mark) + 12
unfolding head_line
head-size h = words_long (decimal h.grid.columns) (decimal h.grid.rows) (decimal h.mark) (mode_word h.grid) ∙ rw (mode-size h.grid) (omega arith)

pub foot-size : (leaves sum : ℕ) → length (foot_line leaves sum) ≡ length (decimal leaves) + length (decimal sum) + 12
unfolding foot_line line
foot-size leaves sum = simp length-append (omega arith)

pub head-short : (h : Header) → length (head_line h) ≤ 72
head-short h = omega (arith, head-size h, decimal-long h.grid.columns, decimal-long h.grid.rows, decimal-long h.mark)

pub foot-short : (leaves sum : ℕ) → length (foot_line leaves sum) ≤ 52
foot-short leaves sum = omega (arith, foot-size leaves sum, decimal-long leaves, decimal-long sum)

-- ---- their lines

module _ (t : List ℤ) (v : List Float) where
  lines-append : (xs ys : List ℕ) → lines_of t v (xs ++ ys) ≡ lines_of t v xs ++ lines_of t v ys
  unfolding lines_of
  lines-append [] ys = refl
  lines-append (x ∷ xs) ys = rw (lines-append xs ys) (sym (append_assoc (row_line t v x) (lines_of t v xs) (lines_of t v ys)))

  lines-one : (n : ℕ) → lines_of t v (n ∷ []) ≡ row_line t v n
  unfolding lines_of
  lines-one n = append-nil (row_line t v n)

  -- the lines of some, and one line more
  pub lines_more : (ns : List ℕ) (i : ℕ) → i < length ns → lines_of t v (take i ns) ++ row_line t v (get_or ns i 0) ≡ lines_of t v (take (i + 1) ns)
  lines_more ns i h =
      sym (ap (lines_of t v) (take_more ns i 0 h) ∙ lines-append (take i ns) (get_or ns i 0 ∷ []) ∙ ap (λ (z : List ℕ). lines_of t v (take i ns) ++ z) (lines-one (get_or ns i 0)))

  pub lines-longer : (ns : List ℕ) (i : ℕ) → i < length ns → length (lines_of t v (take (i + 1) ns)) ≡ length (lines_of t v (take i ns)) + length (row_line t v (get_or ns i 0))
  lines-longer ns i h = ap length (sym (lines_more ns i h)) ∙ length-append (lines_of t v (take i ns)) (row_line t v (get_or ns i 0))

  pub lines-total : (ns : List ℕ) (i : ℕ) → i < length ns → total (lines_of t v (take (i + 1) ns)) ≡ total (lines_of t v (take i ns)) + total (row_line t v (get_or ns i 0))
  lines-total ns i h = ap total (sym (lines_more ns i h)) ∙ total-append (lines_of t v (take i ns)) (row_line t v (get_or ns i 0))

  -- and there is room for it
  pub lines-room : (ns : List ℕ) (i : ℕ) → i < length ns → length (lines_of t v (take i ns)) + length (row_line t v (get_or ns i 0)) ≤ length (lines_of t v ns)
  lines-room ns i h =
      let e : lines_of t v ns ≡ lines_of t v (take (i + 1) ns) ++ lines_of t v (drop (i + 1) ns) =
      sym (sym (lines-append (take (i + 1) ns) (drop (i + 1) ns)) ∙ ap (lines_of t v) (take-append-drop (i + 1) ns)) in
      omega (arith, ap length e, length-append (lines_of t v (take (i + 1) ns)) (lines_of t v (drop (i + 1) ns)), lines-longer ns i h)
