-- Which numbers are free: on a table of entries those of the free entries; on any table a row that is linked in is free no longer, and one that is
-- taken out is.
-- Assumes nothing.
use Prim.Native.Nat.{ℕ, ◌+◌, ◌*◌, ◌%◌, ◌≤◌, ◌<◌}
use native.Mathlib.Omega.{arith}
use native.Mathlib.Decide.{ℕ_discrete}
use mathlib.Core.Path.{◌≡◌, refl, ap, ◌∙◌, fun_ext}
use mathlib.Core.Logic.{◌≢◌}
use mathlib.Core.Bool.{Bool, true, false, cond}
use mathlib.Core.Option.{Option}
use mathlib.Core.List.{List}
use lib.Dec.{eqb}
use lib.IntN.{ℤ, pos, sub_ℕ}
use lib.ListN.{length, get_or, set, length-set}
use borrow.Author.Tests.{eq-eqb, ne_eqb}
use Rattle.mesh.specs.Place.{Place, Grid, N, E, S, W}
use Rattle.mesh.specs.State.{Entry, nil, free, used, Cell, is_free, entry}
use Rattle.mesh.specs.Request.{fill}
use Rattle.number_laws.proofs.Filling.{filled-free, fill-entry}
use Rattle.mesh.specs.Picture.{row_words}
use Rattle.table.specs.Words.{code, word_of, link_of, depth_of, free_at}
use Rattle.worked.specs.Worked.{kid_word}
use Rattle.table.specs.Writes.{free_row}
use Rattle.table_laws.proofs.LinkedRows.{kid-word-lt}
use Rattle.free.specs.FreeMap.{switched}
use Rattle.edit_laws.specs.Linked.{Flags, fields_with, table_with}
use Rattle.edit_laws.specs.PatchSteps.{put_word, place_in, link_in, take_out}
use Rattle.edit_laws.proofs.Slots.{put_same, put_other}
use Rattle.edit_laws.proofs.Linked.{word-field}
use Rattle.edit_laws.proofs.Lengths.{unnamed, length-unnamed}
use Rattle.edit_laws.proofs.WrittenWord.{word-other, word-elsewhere, word-here, Keeps, keeps-put, keeps_then, keeps-side, keeps-drop}

-- ---- the rows of entries

abbrev pub free_entries : List Entry → ℕ → Bool
free_entries es n = is_free (entry es n)

-- no patch has the flags of a free row
abbrev pub Alive : Flags → Type 0
Alive f = (p : Place) → f p ≢ 8192

pub free-at : (g : Grid) (es : List Entry) (f : Flags) → Alive f → free_at (table_with g es f) ≡ free_entries es
unfolding free_at word_of fields_with
free-at g es f alive = fun_ext (λ n. ap (λ (x : ℤ). eqb (code x) 8192) (word-field g es f n 3 (omega arith)) ∙ go (entry es n))
  where
    go : (e : Entry) → eqb (code (get_or (fields_with g f e) 3 (pos 0))) 8192 ≡ is_free e
    go nil = refl
    go free = refl
    go (used p x) = ne_eqb (f p) 8192 (alive p)

-- a cell that comes or goes leaves its entry in use
pub fill-frees : (ps : List Place) (x : Option Cell) (es : List Entry) → free_entries (fill ps x es) ≡ free_entries es
fill-frees ps x es = fun_ext (λ n. ap is_free (fill-entry ps x es n) ∙ filled-free ps x (entry es n))

-- ---- a row's flags alone

abbrev flags_at : List ℤ → ℕ → ℕ
flags_at t n = word_of t n 12

module _ (t : List ℤ) (k : ℕ) (u : List ℤ) (others : (n : ℕ) → n ≢ k → flags_at u n ≡ flags_at t n) where
  switch : (b : Bool) → free_at u k ≡ b → free_at u ≡ switched (free_at t) k b
  unfolding free_at switched
  switch b e = fun_ext (λ n. go n (ℕ_discrete n k))
    where
      go : (n : ℕ) → Dec (n ≡ k) → eqb (flags_at u n) 8192 ≡ cond (eqb n k) b (eqb (flags_at t n) 8192)
      go n (yes i) = rw (eq-eqb n k i) (rw i e)
      go n (no i) = rw (ne_eqb n k i) (ap (λ (y : ℕ). eqb y 8192) (others n i))

-- ---- a row that is linked in

module _ (t : List ℤ) (cap d p l m k : ℕ) (digit : m < 2) (fits : k * row_words + row_words ≤ length t) where
  -- before its flags are written
  abbrev placed : List ℤ
  placed = put_word (put_word (set (put_word t k 0 p) (k * row_words + 9) (sub_ℕ (depth_of t d p + 1) d)) k 10 (2 * word_of t p 10 + l)) k 11 (2 * word_of t p 11 + m)

  same_flags : (n : ℕ) → flags_at placed n ≡ flags_at t n
  same_flags n =
      word-other _ k 11 _ n 12 (omega arith) (omega arith) (λ e. omega arith)
      ∙ word-other _ k 10 _ n 12 (omega arith) (omega arith) (λ e. omega arith)
      ∙ word-other _ k 9 _ n 12 (omega arith) (omega arith) (λ e. omega arith)
      ∙ word-other t k 0 _ n 12 (omega arith) (omega arith) (λ e. omega arith)

  links : Keeps (put_word placed k 12 0) (link_in t cap d p l m k)
  unfolding link_in place_in
  links =
      keeps_then (keeps-put _ p (kid_word l m) k (kid-word-lt l m (omega arith)))
      (keeps_then (keeps-side _ cap k N) (keeps_then (keeps-side _ cap k E) (keeps_then (keeps-side _ cap k S) (keeps-side _ cap k W))))

  pub link-in-free : free_at (link_in t cap d p l m k) ≡ switched (free_at t) k false
  unfolding free_at
  link-in-free =
      switch t k (link_in t cap d p l m k) (λ n h. links.same n 12 (omega arith) (omega arith) ∙ word-elsewhere placed k 12 (pos 0) n 12 (omega arith) (omega arith) h ∙ same_flags n) false
      (ap (λ (y : ℕ). eqb y 8192) (links.same k 12 (omega arith) (omega arith) ∙ word-here placed k 12 0 (simp length-set (omega arith))))

-- ---- a row that is taken out

module _ (t : List ℤ) (cap k : ℕ) (fits : k * row_words + row_words ≤ length t) where
  unnamed-keeps : Keeps t (unnamed t cap k)
  unnamed-keeps =
      keeps_then (keeps-put t (link_of t cap k 0) (kid_word (word_of t k 10 % 2) (word_of t k 11 % 2)) 0 (kid-word-lt (word_of t k 10 % 2) (word_of t k 11 % 2) (omega arith)))
      (keeps_then (keeps-drop _ cap k N) (keeps_then (keeps-drop _ cap k E) (keeps_then (keeps-drop _ cap k S) (keeps-drop _ cap k W))))

  pub take-out-free : free_at (take_out t cap k) ≡ switched (free_at t) k true
  unfolding take_out free_at word_of
  take-out-free =
      switch t k (take_out t cap k)
      (λ n h. ap code (put_other (unnamed t cap k) free_row k refl (omega (arith, length-unnamed t cap k)) n 12 (omega arith) h) ∙ unnamed-keeps.same n 12 (omega arith) (omega arith)) true
      (ap (λ (x : ℤ). eqb (code x) 8192) (put_same (unnamed t cap k) free_row k refl (omega (arith, length-unnamed t cap k)) 12 (omega arith)))
