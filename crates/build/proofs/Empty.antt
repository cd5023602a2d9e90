-- A table of free rows, written row by row.
-- Assumes nothing.
use Prim.Native.Nat.{ℕ, zero, suc, ◌+◌, ◌*◌, ◌≤◌}
use native.Mathlib.Numerals.{add-one}
use native.Mathlib.Omega.{arith}
use mathlib.Core.Path.{◌≡◌, refl, sym, ap, ◌∙◌}
use mathlib.Core.List.{List, ◌++◌, append_assoc, append-nil}
use lib.ListN.{length, take, drop, set, replicate, length-append}
use lib.Seq.{take_all, take_at, length-take-le}
use lib.IntN.{ℤ, pos, sub_ℕ}
use Rattle.mesh.specs.Tools.{flat}
use Rattle.mesh.specs.Picture.{row_words}
use Rattle.table.specs.Writes.{put_row, free_row, nil_row}
use Rattle.edit_laws.specs.Built.{empty_table, root_table}

-- ---- rows

flat-more : {A : Type 0} (n : ℕ) (x : List A) → flat (replicate (suc n) x) ≡ flat (replicate n x) ++ x
flat-more zero x = append-nil x
flat-more {A = A} (suc n) x = ap (λ (ys : List A). x ++ ys) (flat-more n x) ∙ sym (append_assoc x (flat (replicate n x)) x)

empty-more : (n : ℕ) → empty_table (n + 1) ≡ empty_table n ++ free_row
unfolding empty_table
empty-more n = rw add-one (ap (λ (ys : List ℤ). nil_row ++ ys) (flat-more n free_row) ∙ sym (append_assoc nil_row (flat (replicate n free_row)) free_row))

-- a row written behind the first n
row-behind : (n : ℕ) (t x u : List ℤ) → u ≡ put_row t n x → length x ≡ row_words → n * row_words + row_words ≤ length t → take ((n + 1) * row_words) u ≡ take (n * row_words) t ++ x
unfolding put_row
row-behind n t x u p h k =
    let m : length (take (n * row_words) t ++ x) ≡ (n + 1) * row_words = length-append (take (n * row_words) t) x ∙ omega (arith, length-take-le (n * row_words) t (omega arith)) in
    ap (take ((n + 1) * row_words)) p ∙ take_at (take (n * row_words) t ++ x) (drop (n * row_words + row_words) t) ((n + 1) * row_words) m

pub empty-start : (t u : List ℤ) → u ≡ put_row t 0 nil_row → row_words ≤ length t → take ((0 + 1) * row_words) u ≡ empty_table 0
unfolding empty_table
empty-start t u p k = row-behind 0 t nil_row u p refl (omega arith)

pub empty-on : (n : ℕ) (t u : List ℤ) → u ≡ put_row t (n + 1) free_row → (n + 1) * row_words + row_words ≤ length t → take ((n + 1) * row_words) t ≡ empty_table n
    → take ((n + 1 + 1) * row_words) u ≡ empty_table (n + 1)
empty-on n t u p k e = row-behind (n + 1) t free_row u p refl k ∙ ap (λ (ys : List ℤ). ys ++ free_row) e ∙ sym (empty-more n)

pub empty-done : (n cap : ℕ) (t : List ℤ) → n ≡ cap → length t ≡ (cap + 1) * row_words → take ((n + 1) * row_words) t ≡ empty_table n → t ≡ empty_table cap
empty-done n cap t e h k =
    let l : length t ≤ (n + 1) * row_words = omega arith in
    sym (take_all ((n + 1) * row_words) t l) ∙ k ∙ ap empty_table e

-- ---- the root

pub rooted : (cap d : ℕ) (t u v : List ℤ) → t ≡ empty_table cap → u ≡ set t (1 * row_words + 9) (sub_ℕ 0 d) → v ≡ set u (1 * row_words + 12) (pos 0) → v ≡ root_table cap d
unfolding root_table
rooted cap d t u v h i j = j ∙ ap (λ (x : List ℤ). set x (1 * row_words + 12) (pos 0)) (i ∙ ap (λ (x : List ℤ). set x (1 * row_words + 9) (sub_ℕ 0 d)) h)
