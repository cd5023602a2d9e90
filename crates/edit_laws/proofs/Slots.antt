-- A table that becomes another one word by word: each write puts the right word at one slot, and once no slot is left where the two may differ,
-- they are equal.
-- Assumes nothing.
use Prim.Native.Nat.{ℕ, ◌+◌, ◌-◌, ◌*◌, ◌/◌, ◌%◌, ◌≤◌, ◌<◌}
use native.Mathlib.Omega.{arith}
use native.Mathlib.Decide.{dec_lt, ℕ_discrete}
use mathlib.Core.Path.{◌≡◌, sym, ap, ◌∙◌}
use mathlib.Core.Logic.{◌≢◌, ◌⊎◌, inl, inr}
use mathlib.Core.List.{List, [], ◌∷◌, ◌++◌}
use lib.IntN.{ℤ, pos}
use lib.ListN.{length, get_or, set, take, drop, length-set, length-append, length-drop, get_or-append}
use lib.Seq.{length-take-le, get_or-set_same, get_or-set_other, get_or-append-add, get_or-take, get_or-drop, ext_get_or}
use borrow.Author.Tests.{eq-eqb, ne_eqb}
use Rattle.mesh.specs.Picture.{row_words}
use Rattle.table.specs.Writes.{put_row}
use Rattle.edit_laws.specs.PatchSteps.{put_unless_nil}

-- the word w of the row n, as it stands in the table
abbrev pub word : List ℤ → ℕ → ℕ → ℤ
word t n w = get_or t (n * row_words + w) (pos 0)

-- a row and one of its words
abbrev pub Slot : Type 0
Slot = ℕ × ℕ

abbrev pub Hit : ℕ → ℕ → List Slot → Type 0
Hit n w [] = ⊥
Hit n w (s ∷ ss) = ((n ≡ s.0) × (w ≡ s.1)) ⊎ Hit n w ss

pub hit-early : (n w : ℕ) (rs ss : List Slot) → Hit n w rs → Hit n w (rs ++ ss)
hit-early n w [] ss h = absurd h
hit-early n w (r ∷ rs) ss (inl e) = inl e
hit-early n w (r ∷ rs) ss (inr h) = inr (hit-early n w rs ss h)

pub hit_later : (n w : ℕ) (rs ss : List Slot) → Hit n w ss → Hit n w (rs ++ ss)
hit_later n w [] ss h = h
hit_later n w (r ∷ rs) ss h = inr (hit_later n w rs ss h)

pub hit-cases : (n w : ℕ) (rs ss : List Slot) → Hit n w (rs ++ ss) → Hit n w rs ⊎ Hit n w ss
hit-cases n w [] ss h = inr h
hit-cases n w (r ∷ rs) ss (inl e) = inl (inl e)
hit-cases n w (r ∷ rs) ss (inr h) = go (hit-cases n w rs ss h)
  where
    go : Hit n w rs ⊎ Hit n w ss → Hit n w (r ∷ rs) ⊎ Hit n w ss
    go (inl a) = inl (inr a)
    go (inr a) = inr a

-- ---- tables that differ at some slots

-- two tables differ at these slots alone, and not in the nil patch's row
pub record Off (t u : List ℤ) (ss : List Slot) : Type 0 where
  pub long : length t ≡ length u
  pub apart : (n w : ℕ) → w < row_words → ((n ≢ 0) × Hit n w ss) ⊎ (word t n w ≡ word u n w)

pub off_at : {t u : List ℤ} {ss : List Slot} → length t ≡ length u → ((w : ℕ) → w < row_words → word t 0 w ≡ word u 0 w)
    → ((n w : ℕ) → w < row_words → Hit n w ss ⊎ (word t n w ≡ word u n w)) → Off t u ss
off_at {t} {u} {ss} l z h = record { long = l; apart = λ n w k. go n w k (ℕ_discrete n 0) (h n w k) }
  where
    go : (n w : ℕ) → w < row_words → Dec (n ≡ 0) → Hit n w ss ⊎ (word t n w ≡ word u n w) → ((n ≢ 0) × Hit n w ss) ⊎ (word t n w ≡ word u n w)
    go n w k (yes e) c = inr (rw e (z w k))
    go n w k (no e) (inl c) = inl (e, c)
    go n w k (no e) (inr c) = inr c

-- a slot that is none of these
pub untouched : {t u : List ℤ} {ss : List Slot} → Off t u ss → (n w : ℕ) → w < row_words → (n ≢ 0 → Hit n w ss → ⊥) → word t n w ≡ word u n w
untouched {t} {u} {ss} o n w l f = go (o.apart n w l)
  where
    go : ((n ≢ 0) × Hit n w ss) ⊎ (word t n w ≡ word u n w) → word t n w ≡ word u n w
    go (inl (z, h)) = absurd (f z h)
    go (inr e) = e

-- to write the right word
pub write : {t u : List ℤ} {ss : List Slot} (n w : ℕ) (x : ℤ) → Off t u ((n, w) ∷ ss) → n * row_words + w < length u → w < row_words → word u n w ≡ x
    → Off (set t (n * row_words + w) x) u ss
write {t} {u} {ss} n w x o b l e = record { long = length-set t (n * row_words + w) x ∙ o.long; apart = λ m v h. go m v h (ℕ_discrete (m * row_words + v) (n * row_words + w)) }
  where
    t' : List ℤ
    t' = set t (n * row_words + w) x

    go : (m v : ℕ) → v < row_words → Dec (m * row_words + v ≡ n * row_words + w) → ((m ≢ 0) × Hit m v ss) ⊎ (word t' m v ≡ word u m v)
    go m v h (yes i) =
        inr (ap (λ (k : ℕ). get_or t' k (pos 0)) i ∙ get_or-set_same t (n * row_words + w) x (pos 0) (rw o.long b) ∙ sym e ∙ ap (λ (k : ℕ). get_or u k (pos 0)) (sym i))
    go m v h (no i) = one (o.apart m v h)
      where
        one : ((m ≢ 0) × Hit m v ((n, w) ∷ ss)) ⊎ (word t m v ≡ word u m v) → ((m ≢ 0) × Hit m v ss) ⊎ (word t' m v ≡ word u m v)
        one (inl (z, inl (a, c))) = absurd (i (rw (a, c)))
        one (inl (z, inr k)) = inl (z, k)
        one (inr k) = inr (get_or-set_other t (n * row_words + w) (m * row_words + v) x (pos 0) i ∙ k)

-- to write it unless the row is the nil patch's
pub write-unless : {t u : List ℤ} {ss : List Slot} (n w x : ℕ) → Off t u ((n, w) ∷ ss) → n * row_words + w < length u → w < row_words → (n ≢ 0 → word u n w ≡ pos x)
    → Off (put_unless_nil t n w x) u ss
write-unless {t} {u} {ss} n w x o b l e = go (ℕ_discrete n 0)
  where
    go : Dec (n ≡ 0) → Off (put_unless_nil t n w x) u ss
    go (yes z) = rw (eq-eqb n 0 z) (record { long = o.long; apart = λ m v h. one m v (o.apart m v h) })
      where
        one : (m v : ℕ) → ((m ≢ 0) × Hit m v ((n, w) ∷ ss)) ⊎ (word t m v ≡ word u m v) → ((m ≢ 0) × Hit m v ss) ⊎ (word t m v ≡ word u m v)
        one m v (inl (y, inl (a, c))) = absurd (y (a ∙ z))
        one m v (inl (y, inr k)) = inl (y, k)
        one m v (inr k) = inr k
    go (no z) = rw (ne_eqb n 0 z) (write n w (pos x) o b l (e z))

-- no slot is left
pub settled : {t u : List ℤ} → Off t u [] → t ≡ u
settled {t} {u} o = ext_get_or (pos 0) t u o.long (λ i l. let e : i / row_words * row_words + i % row_words ≡ i = omega arith in rw e at (untouched o (i / row_words) (i % row_words) (omega arith) (λ z h. h)))

-- ---- a row written whole

module _ (t x : List ℤ) (n : ℕ) (full : length x ≡ row_words) (inside : n * row_words + row_words ≤ length t) where
  front : length (take (n * row_words) t) ≡ n * row_words
  front = length-take-le (n * row_words) t (omega arith)

  front-row : length (take (n * row_words) t ++ x) ≡ n * row_words + row_words
  front-row = length-append (take (n * row_words) t) x ∙ omega (arith, front)

  pub put-length : length (put_row t n x) ≡ length t
  unfolding put_row
  put-length = length-append (take (n * row_words) t ++ x) (drop (n * row_words + row_words) t) ∙ omega (arith, front-row, length-drop (n * row_words + row_words) t)

  pub put_same : (w : ℕ) → w < row_words → word (put_row t n x) n w ≡ get_or x w (pos 0)
  unfolding put_row
  put_same w l =
      get_or-append (take (n * row_words) t ++ x) (drop (n * row_words + row_words) t) (pos 0) (n * row_words + w) (omega (arith, front-row))
      ∙ ap (λ (k : ℕ). get_or (take (n * row_words) t ++ x) (k + w) (pos 0)) (sym front)
      ∙ get_or-append-add (take (n * row_words) t) x w (pos 0)

  pub put_other : (m w : ℕ) → w < row_words → m ≢ n → word (put_row t n x) m w ≡ word t m w
  unfolding put_row
  put_other m w l h = go (dec_lt m n)
    where
      go : Dec (m < n) → word (put_row t n x) m w ≡ word t m w
      go (yes b) =
          get_or-append (take (n * row_words) t ++ x) (drop (n * row_words + row_words) t) (pos 0) (m * row_words + w) (omega (arith, front-row))
          ∙ get_or-append (take (n * row_words) t) x (pos 0) (m * row_words + w) (omega (arith, front))
          ∙ get_or-take (n * row_words) t (m * row_words + w) (pos 0) (omega arith)
      go (no b) =
          let c : n < m = later b in
          let i = m * row_words + w - (n * row_words + row_words) in
          let e : n * row_words + row_words + i ≡ m * row_words + w = omega arith in
          let e' : m * row_words + w ≡ length (take (n * row_words) t ++ x) + i = omega (arith, front-row) in
          ap (λ (k : ℕ). get_or (take (n * row_words) t ++ x ++ drop (n * row_words + row_words) t) k (pos 0)) e'
          ∙ get_or-append-add (take (n * row_words) t ++ x) (drop (n * row_words + row_words) t) i (pos 0)
          ∙ get_or-drop (n * row_words + row_words) t i (pos 0)
          ∙ ap (λ (k : ℕ). get_or t k (pos 0)) e
        where
          later : (m < n → ⊥) → n < m
          later b = pick (ℕ_discrete m n)
            where
              pick : Dec (m ≡ n) → n < m
              pick (yes z) = absurd (h z)
              pick (no z) = omega (arith, b, z)
