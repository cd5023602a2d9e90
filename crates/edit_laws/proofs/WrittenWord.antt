-- The words of a table in which one was written: the one that was, and the others as they were.
-- Assumes nothing.
use Prim.Native.Nat.{ℕ, zero, suc, ◌+◌, ◌*◌, ◌≤◌, ◌<◌}
use native.Mathlib.Omega.{arith}
use mathlib.Core.Path.{◌≡◌, refl, ap, ◌∙◌}
use mathlib.Core.Logic.{◌≢◌}
use mathlib.Core.Bool.{Bool, true, false, cond}
use mathlib.Core.List.{List, [], ◌∷◌}
use lib.Dec.{eqb}
use lib.IntN.{ℤ, pos}
use lib.ListN.{length, get_or, set}
use lib.Seq.{get_or-set_same, get_or-set_other}
use Rattle.mesh.specs.Place.{Wind, compass}
use Rattle.mesh.specs.Winds.{word_of_wind}
use Rattle.mesh.specs.Picture.{row_words}
use Rattle.picture_laws.proofs.Links.{wind-lt}
use Rattle.table.specs.Words.{code, word_of, link_of}
use Rattle.worked.specs.Worked.{side_of}
use Rattle.edit_laws.specs.PatchSteps.{put_word, put_unless_nil, link_side, drop_side}

-- what is read after a write is what was written or what was there
set-either : {A : Type 0} (P : A → Type 0) (l : List A) (i j : ℕ) (a d : A) → P a → P (get_or l j d) → P (get_or (set l i a) j d)
set-either P [] i j a d h k = k
set-either P (x ∷ l) zero zero a d h k = h
set-either P (x ∷ l) zero (suc j) a d h k = k
set-either P (x ∷ l) (suc i) zero a d h k = k
set-either P (x ∷ l) (suc i) (suc j) a d h k = set-either P l i j a d h k

module _ (t : List ℤ) (k w : ℕ) (z : ℤ) (n i : ℕ) where
  pub word-other : w < row_words → i < row_words → w ≢ i → word_of (set t (k * row_words + w) z) n i ≡ word_of t n i
  unfolding word_of
  word-other a b h = ap code (get_or-set_other t (k * row_words + w) (n * row_words + i) z (pos 0) (λ e. h (same e)))
    where
      same : n * row_words + i ≡ k * row_words + w → w ≡ i
      same e = omega arith

  pub word-elsewhere : w < row_words → i < row_words → n ≢ k → word_of (set t (k * row_words + w) z) n i ≡ word_of t n i
  unfolding word_of
  word-elsewhere a b h = ap code (get_or-set_other t (k * row_words + w) (n * row_words + i) z (pos 0) (λ e. h (same e)))
    where
      same : n * row_words + i ≡ k * row_words + w → n ≡ k
      same e = omega arith

  pub word-either : (P : ℕ → Type 0) → P (code z) → P (word_of t n i) → P (word_of (set t (k * row_words + w) z) n i)
  unfolding word_of
  word-either P a b = set-either (λ y. P (code y)) t (k * row_words + w) (n * row_words + i) z (pos 0) a b

pub word-here : (t : List ℤ) (k w x : ℕ) → k * row_words + w < length t → word_of (put_word t k w x) k w ≡ x
unfolding word_of
word-here t k w x h = ap code (get_or-set_same t (k * row_words + w) (pos x) (pos 0) h)

-- ---- links

-- the words of a row past its links
pub record Keeps (t u : List ℤ) : Type 0 where
  pub same : (n i : ℕ) → 9 ≤ i → i < row_words → word_of u n i ≡ word_of t n i

pub keeps-put : (t : List ℤ) (k w x : ℕ) → w < 9 → Keeps t (put_word t k w x)
keeps-put t k w x h = record { same = λ n i a b. word-other t k w (pos x) n i (omega arith) b (λ e. omega arith) }

pub keeps-unless : (t : List ℤ) (k w x : ℕ) → w < 9 → Keeps t (put_unless_nil t k w x)
keeps-unless t k w x h = go (eqb k 0)
  where
    go : (b : Bool) → Keeps t (cond b t (put_word t k w x))
    go true = record { same = λ n i a b. refl }
    go false = keeps-put t k w x h

pub keeps_then : {t u v : List ℤ} → Keeps t u → Keeps u v → Keeps t v
keeps_then f g = record { same = λ n i a b. g.same n i a b ∙ f.same n i a b }

pub wind-word : (w : Wind) → word_of_wind w < 9
wind-word = wind-lt

module _ (t : List ℤ) (cap k : ℕ) (w : Wind) where
  pub keeps-side : Keeps t (link_side t cap k w)
  unfolding link_side
  keeps-side = keeps_then (keeps-put t k (word_of_wind w) (side_of t cap k w) (wind-word w)) (keeps-unless _ (side_of t cap k w) (word_of_wind (compass w).opposite) k (wind-word (compass w).opposite))

  pub keeps-drop : Keeps t (drop_side t cap k w)
  unfolding drop_side
  keeps-drop = keeps-unless t (link_of t cap k (word_of_wind w)) (word_of_wind (compass w).opposite) 0 (wind-word (compass w).opposite)
