-- The tests of a row's parent and kids, from the words that were read.
-- Assumes nothing.
use mathlib.Core.Path.{◌≡◌, refl, sym, ◌∙◌}
use mathlib.Core.Bool.{Bool, true, false, not, ◌&&◌, and-true, and_assoc}
use mathlib.Core.List.{List, [], ◌∷◌}
use Prim.Native.Nat.{ℕ, ◌+◌, ◌/◌, ◌%◌, ◌<◌}
use lib.Dec.{eqb}
use lib.IntN.{ℤ}
use borrow.Author.Tests.{eq-eqb, ne_eqb}
use native.Mathlib.Omega.{arith}
use Rattle.mesh.specs.Tools.{every}
use Rattle.mesh.specs.Picture.{parent_word, ne_word, se_word, sw_word, nw_word, i_word, j_word, link_words}
use Rattle.table.specs.Words.{word_of, link_of, free_at, depth_of}
use Rattle.worked.specs.Worked.{kid_word, kidless}
use Rattle.checker_laws.specs.Rowwise.{child_ok, kid_ok, kids_ok}
use Rattle.worked.proofs.KidlessRows.{bare-links}

-- ---- the place

module _ (t : List ℤ) (cap d n : ℕ) where
  module _ {p : ℕ} (up : p ≡ link_of t cap n parent_word) (kept : link_of t cap n parent_word ≡ word_of t n parent_word) where
    child-by : child_ok t cap d n ≡ every (
        not (eqb p 0) ∷
        eqb (word_of t n parent_word) p ∷
        not (free_at t p) ∷
        eqb (depth_of t d p + 1) (depth_of t d n) ∷
        eqb (word_of t p i_word) (word_of t n i_word / 2) ∷
        eqb (word_of t p j_word) (word_of t n j_word / 2) ∷
        eqb (word_of t p (kid_word (word_of t n i_word % 2) (word_of t n j_word % 2))) n ∷
        [])
    unfolding child_ok
    child-by = rw up

    named : eqb (word_of t n parent_word) p ≡ true
    named = eq-eqb (word_of t n parent_word) p (sym (up ∙ kept))

    -- past the other tests the word of the kid decides, for a place that ends in the digits l and m
    pub child-at : (p ≡ 0 → ⊥) → {f a x y r : Bool} {i j : ℕ} →
        f ≡ free_at t p →
        f ≡ false →
        a ≡ eqb (depth_of t d p + 1) (depth_of t d n) →
        a ≡ true →
        i ≡ word_of t n i_word →
        x ≡ eqb (word_of t p i_word) (i / 2) →
        x ≡ true →
        j ≡ word_of t n j_word →
        y ≡ eqb (word_of t p j_word) (j / 2) →
        y ≡ true →
        (l m : ℕ) →
        i % 2 ≡ l →
        j % 2 ≡ m →
        r ≡ eqb (word_of t p (kid_word l m)) n →
        r ≡ child_ok t cap d n
    child-at some frees used above next col half right row part h l m b c q = rw (child-by, ne_eqb p 0 some, named, ← frees, used, ← above, next, ← col, ← half, right, ← row, ← part, h, b, c, and-true) q

-- ---- kids

module _ (t : List ℤ) (cap n : ℕ) where
  module _ (l m : ℕ) {w k : ℕ} (word : w ≡ kid_word l m) (link : k ≡ link_of t cap n w) (kept : link_of t cap n w ≡ word_of t n w) where
    kid-link : k ≡ link_of t cap n (kid_word l m)
    kid-link = cc

    kid-names : eqb (word_of t n (kid_word l m)) k ≡ true
    kid-names = eq-eqb (word_of t n (kid_word l m)) k (rw (← word) (sym (link ∙ kept)))

    pub kid-none : k ≡ 0 → true ≡ kid_ok t cap n l m
    unfolding kid_ok
    kid-none z = rw (← kid-link, kid-names, eq-eqb k 0 z)

    pub kid-some : {i j a b : ℕ} {f o : Bool} →
        (k ≡ 0 → ⊥) →
        f ≡ free_at t k →
        o ≡ eqb (word_of t k parent_word) n →
        i ≡ word_of t k i_word →
        j ≡ word_of t k j_word →
        l ≡ a →
        m ≡ b →
        (not f && o && eqb (i % 2) a && eqb (j % 2) b) ≡ kid_ok t cap n l m
    unfolding kid_ok
    kid-some z f o i j x y = rw (← x, ← y, ← kid-link, kid-names, ne_eqb k 0 z, ← f, ← o, ← i, ← j) (simp (and-true, and_assoc))

  -- no kid word names a row
  pub kids-bare : {b : Bool} → ((w : ℕ) → w < link_words → link_of t cap n w ≡ word_of t n w) → b ≡ kidless t cap n → b ≡ true → true ≡ kids_ok t cap n
  unfolding kids_ok
  kids-bare kept e h =
      let (x, y, z, u) = bare-links t cap n (sym e ∙ h) in
      let a = kid-none 1 1 refl refl (kept ne_word (omega arith)) x in
      let b = kid-none 1 0 refl refl (kept se_word (omega arith)) y in
      let c = kid-none 0 0 refl refl (kept sw_word (omega arith)) z in
      let d = kid-none 0 1 refl refl (kept nw_word (omega arith)) u in
      rw (← a, ← b, ← c, ← d)
