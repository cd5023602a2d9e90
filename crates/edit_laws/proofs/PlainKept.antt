-- Links that name rows or none and flags without a sign stay so: a step writes numbers of rows and 0 as links, and flags below 2 ^ 31.
-- Assumes nothing.
use mathlib.Core.Path.{◌≡◌, refl, ap}
use mathlib.Core.Logic.{◌≢◌}
use mathlib.Core.Bool.{Bool, true, false, cond}
use mathlib.Core.Option.{none}
use mathlib.Core.List.{List}
use Prim.Native.Nat.{ℕ, zero, suc, ◌+◌, ◌*◌, ◌≤◌, ◌<◌}
use native.Mathlib.Omega.{arith}
use native.Mathlib.Decide.{ℕ_discrete}
use lib.Dec.{eqb}
use lib.ListN.{length, get_or, set, length-set}
use lib.IntN.{ℤ, pos, sub_ℕ}
use Rattle.edit_laws.specs.Rooted.{Rooted}
use Rattle.mesh.specs.Place.{Place, Grid, Wind, compass, around}
use Rattle.mesh.specs.Winds.{word_of_wind}
use Rattle.mesh.specs.Picture.{row_words, flags_word, status_word, link_words}
use Rattle.mesh.specs.State.{Entry, nil, free, used, place_of, entry}
use Rattle.table.specs.Words.{code, word_of, link_of, depth_of}
use Rattle.carried.specs.Carried.{put_status}
use Rattle.carried.specs.declared.Carried.{Carried}
use Rattle.worked.specs.Worked.{kid_word, side_by}
use Rattle.table.specs.Writes.{put_row, free_row}
use Rattle.table.proofs.LinkRanges.{link-within}
use Rattle.table_laws.proofs.LinkedRows.{kid-word-lt}
use Rattle.edit_laws.specs.PatchSteps.{put_word, place_in, drop_side}
use Rattle.edit_laws.specs.Linked.{Flags, table_with}
use Rattle.edit_laws.proofs.Slots.{put-length, put_same, put_other}
use Rattle.edit_laws.proofs.WrittenWord.{word-other, word-either, wind-word}
use Rattle.edit_laws.proofs.Linked.{linked-length, number-of, flags-of, word-free, word-nil}
use Rattle.edit_laws.proofs.Rooted.{number-le}
use Rattle.table.specs.Plain.{Sized, Plain}
use Rattle.edit_laws.specs.LinkBy.{link_by}

-- ---- one word

module _ {t : List ℤ} {cap : ℕ} (p : Plain t cap) where
  plain-set : (n w : ℕ) (z : ℤ) → w < row_words → (w < link_words → code z ≤ cap) → (w ≡ flags_word → code z < 2147483648) → Plain (set t (n * row_words + w) z) cap
  plain-set n w z l a b = record { sized = sized; links = λ m i h k. link m i h k (ℕ_discrete w i); flags = λ m h. flag m h (ℕ_discrete w 12) }
    where
      sized : Sized (set t (n * row_words + w) z) cap
      sized = record { words = rw length-set p.sized.words; small = p.sized.small }

      link : (m i : ℕ) → m ≤ cap → i < 9 → Dec (w ≡ i) → word_of (set t (n * row_words + w) z) m i ≤ cap
      link m i h k (yes e) = word-either t n w z m i (λ x. x ≤ cap) (a (omega arith)) (p.links m i h k)
      link m i h k (no e) = rw (word-other t n w z m i l (omega arith) e) (p.links m i h k)

      flag : (m : ℕ) → m ≤ cap → Dec (w ≡ flags_word) → word_of (set t (n * row_words + w) z) m flags_word < 2147483648
      flag m h (yes e) = word-either t n w z m 12 (λ x. x < 2147483648) (b e) (p.flags m h)
      flag m h (no e) = rw (word-other t n w z m 12 l (omega arith) e) (p.flags m h)

  plain-link : (n w x : ℕ) → w < 9 → x ≤ cap → Plain (put_word t n w x) cap
  plain-link n w x l h = plain-set n w (pos x) (omega arith) (λ k. h) (λ e. absurd (omega arith))

  plain-flags : (n x : ℕ) → x < 2147483648 → Plain (put_word t n flags_word x) cap
  plain-flags n x h = plain-set n 12 (pos x) (omega arith) (λ k. absurd (omega arith)) (λ e. h)

  plain-else : (n w : ℕ) (z : ℤ) → 8 < w → w ≢ flags_word → w < row_words → Plain (set t (n * row_words + w) z) cap
  plain-else n w z a b l = plain-set n w z l (λ k. absurd (omega arith)) (λ e. absurd (b e))

  plain-either : (b : Bool) {u : List ℤ} → Plain u cap → Plain (cond b t u) cap
  plain-either true q = p
  plain-either false q = q

-- a row is named
pub plain-named : {t u : List ℤ} {cap : ℕ} (n w x : ℕ) → Plain t cap → u ≡ put_word t n w x → w < 9 → x ≤ cap → Plain u cap
plain-named n w x p e l h = rw e (plain-link p n w x l h)

pub plain-put : {t u : List ℤ} {cap : ℕ} (n x : ℕ) → Plain t cap → u ≡ put_word t n flags_word x → x < 2147483648 → Plain u cap
plain-put {cap = cap} n x p e h = rw e (plain-flags p n x h)

-- a row gets other flags, and carries something else
pub plain_cell : {t u v : List ℤ} {cap : ℕ} (n x : ℕ) (c : Carried) → Plain t cap → u ≡ put_word t n flags_word x → v ≡ put_status u n c → x < 2147483648 → Plain v cap
plain_cell n x c p e h l = rw h (plain-else (plain-put n x p e l) n status_word c.status (omega arith) (λ e. omega arith) (omega arith))

-- ---- a patch that comes

module _ {t : List ℤ} {cap : ℕ} (p : Plain t cap) where
  pub plain-side : (r l m k : ℕ) (w : Wind) {u : List ℤ} → k ≤ cap → u ≡ link_by t cap r l m k w → Plain u cap
  unfolding link_by side_by
  plain-side r l m k w h e =
      let x = side_by t cap r l m w in
      let q : Plain (put_word t k (word_of_wind w) x) cap = plain-link p k (word_of_wind w) x (wind-word w) (link-within t cap _ _) in
      rw e (plain-either q (eqb x 0) (plain-link q x (word_of_wind (compass w).opposite) k (wind-word (compass w).opposite) h))

  pub plain-placed : (d r l m k : ℕ) {u : List ℤ} → r ≤ cap → k ≤ cap → m < 2 → u ≡ place_in t d r l m k → Plain u cap
  unfolding place_in
  plain-placed d r l m k a b c e =
      rw e
      (plain-link (plain-flags (plain-else (plain-else (plain-else (plain-link p k 0 r (omega arith) a)
      k 9 (sub_ℕ (depth_of t d r + 1) d) (omega arith) (λ e. omega arith) (omega arith))
      k 10 _ (omega arith) (λ e. omega arith) (omega arith))
      k 11 _ (omega arith) (λ e. omega arith) (omega arith))
      k 0 (omega arith))
      r (kid_word l m) k (kid-word-lt l m (omega arith)) b)

-- ---- a patch that goes

-- the parent does not name it any more
pub plain-unnamed : {t u : List ℤ} {cap : ℕ} (n w : ℕ) → Plain t cap → u ≡ put_word t n w 0 → w < 9 → Plain u cap
plain-unnamed n w p e h = plain-named n w 0 p e h (omega arith)

-- nor does a neighbour
pub plain-drop : {t u : List ℤ} {cap : ℕ} (k : ℕ) (w : Wind) → Plain t cap → u ≡ drop_side t cap k w → Plain u cap
unfolding drop_side
plain-drop {t} {cap = cap} k w p e =
    rw e
    (plain-either p (eqb (link_of t cap k (word_of_wind w)) 0) (plain-link p _ (word_of_wind (compass w).opposite) 0 (wind-word (compass w).opposite) (omega arith)))

free-link : (w : ℕ) → w < 9 → code (get_or free_row w (pos 0)) ≡ 0
free-link zero h = refl
free-link (suc zero) h = refl
free-link (suc (suc zero)) h = refl
free-link (suc (suc (suc zero))) h = refl
free-link (suc (suc (suc (suc zero)))) h = refl
free-link (suc (suc (suc (suc (suc zero))))) h = refl
free-link (suc (suc (suc (suc (suc (suc zero)))))) h = refl
free-link (suc (suc (suc (suc (suc (suc (suc zero))))))) h = refl
free-link (suc (suc (suc (suc (suc (suc (suc (suc zero)))))))) h = refl
free-link (suc (suc (suc (suc (suc (suc (suc (suc (suc w))))))))) h = let no : ⊥ = omega arith in absurd no

-- its row is free
pub plain-freed : {t u : List ℤ} {cap : ℕ} (k : ℕ) → Plain t cap → u ≡ put_row t k free_row → k * row_words + row_words ≤ length t → Plain u cap
unfolding word_of
plain-freed {t} {cap = cap} k p e fits =
    rw e (record { sized = sized; links = λ m i h l. link m i h l (ℕ_discrete m k); flags = λ m h. flag m h (ℕ_discrete m k) })
  where
    sized : Sized (put_row t k free_row) cap
    sized = record { words = rw (put-length t free_row k refl fits) p.sized.words; small = p.sized.small }

    link : (m i : ℕ) → m ≤ cap → i < 9 → Dec (m ≡ k) → word_of (put_row t k free_row) m i ≤ cap
    link m i h l (yes e) = rw (e, put_same t free_row k refl fits i (omega arith), free-link i l) (omega arith)
    link m i h l (no e) = rw (put_other t free_row k refl fits m i (omega arith) e) (p.links m i h l)

    flag : (m : ℕ) → m ≤ cap → Dec (m ≡ k) → word_of (put_row t k free_row) m flags_word < 2147483648
    flag m h (yes e) = rw (e, put_same t free_row k refl fits 12 (omega arith)) (omega arith)
    flag m h (no e) = rw (put_other t free_row k refl fits m 12 (omega arith) e) (p.flags m h)

-- ---- a linked table, and a picture

pub linked-plain : {g : Grid} {cap : ℕ} {es : List Entry} → Rooted g cap es → (f : Flags) → ((p : Place) → f p < 2147483648) → Plain (table_with g es f) cap
unfolding word_of
linked-plain {g} {cap} {es} r f small = record {
  sized = record { words = omega (arith, linked-length g es f, r.long); small = r.sizes.1 };
  links = λ n w h l. rw (number-of g es f n w l) (number-le r (get_or (around g (place_of (entry es n))) w none));
  flags = λ n h. flag n (entry es n) refl;
}
  where
    flag : (n : ℕ) (e : Entry) → entry es n ≡ e → word_of (table_with g es f) n flags_word < 2147483648
    flag n nil i = rw (word-nil g es f n 12 (omega arith) i) (omega arith)
    flag n free i = rw (word-free g es f n 12 (omega arith) i) (omega arith)
    flag n (used p x) i = rw (flags-of g es f n p (ap place_of i)) (small p)
