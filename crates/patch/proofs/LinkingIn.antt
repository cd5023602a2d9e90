-- A patch that is linked in or taken out, as the code does it: each table is the one before with what a step writes.
-- Assumes nothing.
use mathlib.Core.Path.{◌≡◌, refl, ap, ◌∙◌}
use mathlib.Core.Logic.{◌⊎◌, inl, inr}
use mathlib.Core.Bool.{Bool, true, false, cond}
use mathlib.Core.List.{List}
use Prim.Native.Nat.{ℕ, ◌+◌, ◌-◌, ◌*◌, ◌%◌, ◌<◌, ◌≤◌}
use native.Mathlib.Omega.{arith}
use borrow.Author.Tests.{le-leb}
use lib.Dec.{eqb}
use lib.ListN.{length, get_or, set, length-set}
use lib.IntN.{ℤ, pos, sub_ℕ}
use Rattle.mesh.specs.Place.{Wind, NE, N, E, S, W, compass}
use Rattle.mesh.specs.Winds.{winds, word_of_wind}
use Rattle.winds.specs.WindTable.{compass_at}
use Rattle.mesh.specs.Picture.{row_words, flags_word, i_word, j_word, parent_word}
use Rattle.winds.specs.declared.Compass.{Compass}
use Rattle.table.specs.Words.{word_of, link_of, depth_of}
use Rattle.worked.specs.Worked.{kid_word, side_by}
use Rattle.table.specs.Writes.{put_row, free_row}
use Rattle.worked.proofs.Offsets.{side-digits}
use Rattle.table_laws.proofs.LinkedRows.{kid-word-lt}
use Rattle.edit_laws.specs.PatchSteps.{put_word, put_unless_nil, link_side, place_in, link_in, drop_side, take_out}
use Rattle.edit_laws.proofs.WrittenWord.{word-other, word-here, wind-word}
use Rattle.edit_laws.specs.LinkBy.{link_by}
use Rattle.patch.proofs.Opposite.{own-word, opposite-word}

pub side-linked : (t : List ℤ) (cap p l m k i : ℕ) {u v : List ℤ} {x : ℕ} {c : Compass} → i < 8 →
    x ≡ side_by t cap p l m (get_or winds i NE) →
    c ≡ compass_at i →
    u ≡ put_word t k (i + 1) x →
    v ≡ put_unless_nil u x (c.opposite + 1) k →
    v ≡ link_by t cap p l m k (get_or winds i NE)
unfolding link_by
side-linked t cap p l m k i {c = c} h a e b d = cc (own-word i h, opposite-word c i h e)

module _ (t : List ℤ) (cap k : ℕ) where
  pub side-dropped : (i : ℕ) {u : List ℤ} {x : ℕ} {c : Compass} → i < 8 →
      x ≡ link_of t cap k (i + 1) →
      c ≡ compass_at i →
      u ≡ put_unless_nil t x (c.opposite + 1) 0 →
      u ≡ drop_side t cap k (get_or winds i NE)
  unfolding drop_side
  side-dropped i {c = c} h a e b = cc (own-word i h, opposite-word c i h e)

  pub taken_out : {t₁ t₂ t₃ t₄ t₅ t₆ : List ℤ} {p a b w : ℕ} →
      p ≡ link_of t cap k parent_word →
      a ≡ word_of t k i_word →
      b ≡ word_of t k j_word →
      w ≡ kid_word (a % 2) (b % 2) →
      t₁ ≡ put_word t p w 0 →
      t₂ ≡ drop_side t₁ cap k N →
      t₃ ≡ drop_side t₂ cap k E →
      t₄ ≡ drop_side t₃ cap k S →
      t₅ ≡ drop_side t₄ cap k W →
      t₆ ≡ put_row t₅ k free_row →
      t₆ ≡ take_out t cap k
  unfolding take_out
  taken_out a1 a2 a3 a4 a5 a6 a7 a8 a9 a10 = cc

module _ (t : List ℤ) (d p l m k : ℕ) where
  pub placed-in : {t₁ t₂ t₃ t₄ t₅ t₆ : List ℤ} {e i j w : ℕ} →
      e ≡ depth_of t d p →
      i ≡ word_of t p i_word →
      j ≡ word_of t p j_word →
      t₁ ≡ put_word t k parent_word p →
      t₂ ≡ set t₁ (k * row_words + 9) (sub_ℕ (e + 1) d) →
      t₃ ≡ put_word t₂ k i_word (2 * i + l) →
      t₄ ≡ put_word t₃ k j_word (2 * j + m) →
      t₅ ≡ put_word t₄ k flags_word 0 →
      w ≡ kid_word l m →
      t₆ ≡ put_word t₅ p w k →
      t₆ ≡ place_in t d p l m k
  unfolding place_in
  placed-in a1 a2 a3 a4 a5 a6 a7 a8 a9 a10 = cc

-- ---- a row that says its parent and its digits

record Under (t : List ℤ) (cap p l m k : ℕ) : Type 0 where
  parent : word_of t k parent_word ≡ p
  i : word_of t k i_word % 2 ≡ l
  j : word_of t k j_word % 2 ≡ m

under-side : {t : List ℤ} {cap p l m k : ℕ} → Under t cap p l m k → p ≤ cap → (w : Wind) → link_by t cap p l m k w ≡ link_side t cap k w
unfolding link_by link_side link_of
under-side {t} {cap} {p} {l} {m} {k} u h w = rw (side-digits t cap k w, u.parent, u.i, u.j, le-leb p cap h)

-- the words 0, 10 and 11 are not written
module _ {t : List ℤ} {cap p l m k : ℕ} (u : Under t cap p l m k) where
  under-put : (n w x : ℕ) → 0 < w → w < 9 → Under (put_word t n w x) cap p l m k
  under-put n w x a b = record {
    parent = word-other t n w (pos x) k 0 (omega arith) (omega arith) (λ e. omega arith) ∙ u.parent;
    i = ap (λ (y : ℕ). y % 2) (word-other t n w (pos x) k 10 (omega arith) (omega arith) (λ e. omega arith)) ∙ u.i;
    j = ap (λ (y : ℕ). y % 2) (word-other t n w (pos x) k 11 (omega arith) (omega arith) (λ e. omega arith)) ∙ u.j;
  }

  under-unless : (n w x : ℕ) → 0 < w → w < 9 → Under (put_unless_nil t n w x) cap p l m k
  under-unless n w x a b = go (eqb n 0)
    where
      go : (y : Bool) → Under (cond y t (put_word t n w x)) cap p l m k
      go true = u
      go false = under-put n w x a b

under-kept : {t : List ℤ} {cap p l m k : ℕ} → Under t cap p l m k → (w : Wind) → Under (link_by t cap p l m k w) cap p l m k
unfolding link_by
under-kept {t} {cap} {p} {l} {m} {k} u w =
    under-unless (under-put u k (word_of_wind w) (side_by t cap p l m w) (omega arith) (wind-word w)) (side_by t cap p l m w) (word_of_wind (compass w).opposite) k (omega arith) (wind-word (compass w).opposite)

module _ (t : List ℤ) (cap d p l m k : ℕ) (fits : k * row_words + row_words ≤ length t) (lh : l < 2) (mh : m < 2) where
  abbrev t₁ : List ℤ
  t₁ = put_word t k parent_word p

  abbrev t₂ : List ℤ
  t₂ = set t₁ (k * row_words + 9) (sub_ℕ (depth_of t d p + 1) d)

  abbrev t₃ : List ℤ
  t₃ = put_word t₂ k i_word (2 * word_of t p i_word + l)

  abbrev t₄ : List ℤ
  t₄ = put_word t₃ k j_word (2 * word_of t p j_word + m)

  abbrev t₅ : List ℤ
  t₅ = put_word t₄ k flags_word 0

  abbrev t₆ : List ℤ
  t₆ = put_word t₅ p (kid_word l m) k

  length₂ : length t₂ ≡ length t
  length₂ = simp length-set

  length₃ : length t₃ ≡ length t
  length₃ = simp length-set

  kid-word-from : 0 < kid_word l m
  kid-word-from = go (eqb l 1)
    where
      go : (x : Bool) → 0 < cond x (2 - m) (3 + m)
      go true = omega arith
      go false = omega arith

  -- the kid's word of p is none of 0, 10 and 11
  last : (i : ℕ) → (i ≡ 0) ⊎ ((9 < i) × (i < 12)) → word_of t₆ k i ≡ word_of t₄ k i
  last i h =
      let small = kid-word-lt l m (omega arith) in
      word-other t₅ p (kid_word l m) (pos k) k i (omega arith) (bound h) (λ e. other h e) ∙ word-other t₄ k 12 (pos 0) k i (omega arith) (bound h) (λ e. flags h e)
    where
      bound : (i ≡ 0) ⊎ ((9 < i) × (i < 12)) → i < row_words
      bound (inl e) = omega arith
      bound (inr e) = omega arith

      other : (i ≡ 0) ⊎ ((9 < i) × (i < 12)) → kid_word l m ≡ i → ⊥
      other (inl e) f = omega (arith, kid-word-from)
      other (inr e) f = omega (arith, kid-word-lt l m (omega arith))

      flags : (i ≡ 0) ⊎ ((9 < i) × (i < 12)) → 12 ≡ i → ⊥
      flags (inl e) f = omega arith
      flags (inr e) f = omega arith

  under-placed : Under (place_in t d p l m k) cap p l m k
  unfolding place_in
  under-placed = record {
    parent =
        last 0 (inl refl)
        ∙ word-other t₃ k 11 _ k 0 (omega arith) (omega arith) (λ e. omega arith)
        ∙ word-other t₂ k 10 _ k 0 (omega arith) (omega arith) (λ e. omega arith)
        ∙ word-other t₁ k 9 _ k 0 (omega arith) (omega arith) (λ e. omega arith)
        ∙ word-here t k 0 p (omega arith);
    i =
        ap (λ (y : ℕ). y % 2)
        (last 10 (inr (omega arith, omega arith))
        ∙ word-other t₃ k 11 _ k 10 (omega arith) (omega arith) (λ e. omega arith)
        ∙ word-here t₂ k 10 _ (omega (arith, length₂)))
        ∙ odd (word_of t p i_word) l lh;
    j = ap (λ (y : ℕ). y % 2) (last 11 (inr (omega arith, omega arith)) ∙ word-here t₃ k 11 _ (omega (arith, length₃))) ∙ odd (word_of t p j_word) m mh;
  }
    where
      odd : (i l : ℕ) → l < 2 → (2 * i + l) % 2 ≡ l
      odd i l h = omega arith

  pub linked-in : {t₁ t₂ t₃ t₄ t₅ : List ℤ} → p ≤ cap →
      t₁ ≡ place_in t d p l m k →
      t₂ ≡ link_by t₁ cap p l m k N →
      t₃ ≡ link_by t₂ cap p l m k E →
      t₄ ≡ link_by t₃ cap p l m k S →
      t₅ ≡ link_by t₄ cap p l m k W →
      t₅ ≡ link_in t cap d p l m k
  unfolding link_in
  linked-in {t₁} {t₂} {t₃} {t₄} h a1 a2 a3 a4 a5 =
      let u₁ : Under t₁ cap p l m k = rw a1 under-placed in
      let u₂ : Under t₂ cap p l m k = rw a2 (under-kept u₁ N) in
      let u₃ : Under t₃ cap p l m k = rw a3 (under-kept u₂ E) in
      let u₄ : Under t₄ cap p l m k = rw a4 (under-kept u₃ S) in
      let b₂ : t₂ ≡ link_side t₁ cap k N = a2 ∙ under-side u₁ h N in
      let b₃ : t₃ ≡ link_side t₂ cap k E = a3 ∙ under-side u₂ h E in
      let b₄ : t₄ ≡ link_side t₃ cap k S = a4 ∙ under-side u₃ h S in
      a5 ∙ under-side u₄ h W ∙ cc
