-- A new patch doubles the bound of indices and depths at most, since only its own row's are written, from its parent's.
-- Assumes nothing.
use mathlib.Core.Path.{◌≡◌, sym, subst, ◌∙◌}
use mathlib.Core.List.{List}
use Prim.Native.Nat.{ℕ, ◌+◌, ◌*◌, ◌≤◌, ◌<◌}
use native.Mathlib.Omega.{arith}
use lib.ListN.{set}
use lib.IntN.{ℤ, pos, sub_ℕ}
use Rattle.mesh.specs.Place.{N, E, S, W}
use Rattle.mesh.specs.Picture.{row_words}
use Rattle.table.specs.Words.{code, word_of, depth_from, depth_of}
use Rattle.worked.specs.Worked.{kid_word}
use Rattle.table.proofs.LinkRanges.{depth-back, level-of}
use Rattle.table_laws.proofs.LinkedRows.{kid-word-lt}
use Rattle.edit_laws.specs.PatchSteps.{put_word, place_in, link_in}
use Rattle.edit_laws.proofs.WrittenWord.{word-other, word-either, Keeps, keeps-put, keeps_then, keeps-side}
use Rattle.patch.specs.Small.{Small, AllSmall, Doubled}

-- ---- links

keeps-small : {b d n : ℕ} {t u : List ℤ} → Keeps t u → Small b t d n → Small b u d n
unfolding depth_of
keeps-small {b} {d} {n} f s = record { i = rw (f.same n 10 (omega arith) (omega arith)) s.i; j = rw (f.same n 11 (omega arith) (omega arith)) s.j; level = rw (f.same n 9 (omega arith) (omega arith)) s.level; depth = rw (f.same n 9 (omega arith) (omega arith)) s.depth }

-- ---- a new row

depth-as : (t : List ℤ) (d n : ℕ) {b : ℕ} → depth_from d (word_of t n 9) < b → depth_of t d n < b
unfolding depth_of
depth-as t d n h = h

deep : (t : List ℤ) (d n : ℕ) {b : ℕ} → depth_of t d n < b → depth_from d (word_of t n 9) < 2 * b
unfolding depth_of
deep t d n h = omega arith

module _ (b : ℕ) (t : List ℤ) (d p l m k : ℕ) (lh : l < 2) (mh : m < 2) (bh : b ≤ 1073741824) (s : Small b t d p) where
  abbrev t₁ : List ℤ
  t₁ = put_word t k 0 p

  abbrev t₂ : List ℤ
  t₂ = set t₁ (k * row_words + 9) (sub_ℕ (depth_of t d p + 1) d)

  abbrev t₃ : List ℤ
  t₃ = put_word t₂ k 10 (2 * word_of t p 10 + l)

  abbrev t₄ : List ℤ
  t₄ = put_word t₃ k 11 (2 * word_of t p 11 + m)

  abbrev t₅ : List ℤ
  t₅ = put_word t₄ k 12 0

  abbrev t₆ : List ℤ
  t₆ = put_word t₅ p (kid_word l m) k

  module _ (n : ℕ) (o : Small b t d n) where
    kid-last : (i : ℕ) → 9 ≤ i → i < row_words → word_of t₆ n i ≡ word_of t₅ n i
    kid-last = (keeps-put t₅ p (kid_word l m) k (kid-word-lt l m (omega arith))).same n

    col-placed : word_of t₆ n 10 < 2 * b
    col-placed =
        let after : word_of t₆ n 10 ≡ word_of t₃ n 10 = kid-last 10 (omega arith) (omega arith) ∙ word-other t₄ k 12 (pos 0) n 10 (omega arith) (omega arith) (λ e. omega arith) ∙ word-other t₃ k 11 _ n 10 (omega arith) (omega arith) (λ e. omega arith) in
        let before : word_of t₂ n 10 ≡ word_of t n 10 = word-other t₁ k 9 _ n 10 (omega arith) (omega arith) (λ e. omega arith) ∙ word-other t k 0 _ n 10 (omega arith) (omega arith) (λ e. omega arith) in
        let there : word_of t₂ n 10 < 2 * b = omega (arith, o.i) in
        let new : 2 * word_of t p 10 + l < 2 * b = omega (arith, s.i) in
        subst (λ x. x < 2 * b) (sym after) (word-either t₂ k 10 (pos (2 * word_of t p 10 + l)) n 10 (λ x. x < 2 * b) new there)

    row-placed : word_of t₆ n 11 < 2 * b
    row-placed =
        let after : word_of t₆ n 11 ≡ word_of t₄ n 11 = kid-last 11 (omega arith) (omega arith) ∙ word-other t₄ k 12 (pos 0) n 11 (omega arith) (omega arith) (λ e. omega arith) in
        let before : word_of t₃ n 11 ≡ word_of t n 11 = word-other t₂ k 10 _ n 11 (omega arith) (omega arith) (λ e. omega arith) ∙ word-other t₁ k 9 _ n 11 (omega arith) (omega arith) (λ e. omega arith) ∙ word-other t k 0 _ n 11 (omega arith) (omega arith) (λ e. omega arith) in
        let there : word_of t₃ n 11 < 2 * b = omega (arith, o.j) in
        let new : 2 * word_of t p 11 + m < 2 * b = omega (arith, s.j) in
        subst (λ x. x < 2 * b) (sym after) (word-either t₃ k 11 (pos (2 * word_of t p 11 + m)) n 11 (λ x. x < 2 * b) new there)

    after : word_of t₆ n 9 ≡ word_of t₂ n 9
    after = kid-last 9 (omega arith) (omega arith) ∙ word-other t₄ k 12 (pos 0) n 9 (omega arith) (omega arith) (λ e. omega arith) ∙ word-other t₃ k 11 _ n 9 (omega arith) (omega arith) (λ e. omega arith) ∙ word-other t₂ k 10 _ n 9 (omega arith) (omega arith) (λ e. omega arith)

    before : word_of t₁ n 9 ≡ word_of t n 9
    before = word-other t k 0 _ n 9 (omega arith) (omega arith) (λ e. omega arith)

    level-placed : word_of t₆ n 9 < 2147483648 + d
    level-placed =
        let there : word_of t₁ n 9 < 2147483648 + d = subst (λ x. x < 2147483648 + d) (sym before) o.level in
        let new : code (sub_ℕ (depth_of t d p + 1) d) < 2147483648 + d = level-of d (depth_of t d p + 1) (omega (arith, s.depth)) in
        subst (λ x. x < 2147483648 + d) (sym after) (word-either t₁ k 9 (sub_ℕ (depth_of t d p + 1) d) n 9 (λ x. x < 2147483648 + d) new there)

    depth-placed : depth_of t₆ d n < 2 * b
    depth-placed =
        let there : depth_from d (word_of t₁ n 9) < 2 * b = subst (λ x. depth_from d x < 2 * b) (sym before) (deep t d n o.depth) in
        let new : depth_from d (code (sub_ℕ (depth_of t d p + 1) d)) < 2 * b = subst (λ x. x < 2 * b) (sym (depth-back d (depth_of t d p + 1) (omega (arith, s.depth)))) (omega (arith, s.depth)) in
        depth-as t₆ d n (subst (λ x. depth_from d x < 2 * b) (sym after) (word-either t₁ k 9 (sub_ℕ (depth_of t d p + 1) d) n 9 (λ x. depth_from d x < 2 * b) new there))

    small-placed : Small (2 * b) (place_in t d p l m k) d n
    unfolding place_in
    small-placed = record { i = col-placed; j = row-placed; level = level-placed; depth = depth-placed }

  small-linked : (cap n : ℕ) → Small b t d n → Small (2 * b) (link_in t cap d p l m k) d n
  unfolding link_in
  small-linked cap n o = keeps-small (keeps_then (keeps_then (keeps_then (keeps-side _ cap k N) (keeps-side _ cap k E)) (keeps-side _ cap k S)) (keeps-side _ cap k W)) (small-placed n o)

-- ---- the rows of a table

small-more : {b e : ℕ} {t : List ℤ} {d n : ℕ} → b ≤ e → Small b t d n → Small e t d n
small-more h s = record { i = omega (arith, s.i); j = omega (arith, s.j); level = s.level; depth = omega (arith, s.depth) }

pub all_more : (b e : ℕ) (t : List ℤ) (cap d : ℕ) → AllSmall b t cap d → b ≤ e → AllSmall e t cap d
all_more b e t cap d s h n l = small-more h (s n l)

-- nothing is larger
pub doubled-same : (t : List ℤ) (cap d : ℕ) → Doubled t t cap d
doubled-same t cap d b h s n l = small-more (omega arith) (s n l)

pub doubled-new : {t u : List ℤ} (cap d p l m k : ℕ) → p ≤ cap → l < 2 → m < 2 → u ≡ link_in t cap d p l m k → Doubled t u cap d
doubled-new {t} cap d p l m k ph lh mh e b bh s n h = rw e (small-linked b t d p l m k lh mh bh (s p ph) cap n (s n h))
