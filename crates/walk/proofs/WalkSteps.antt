-- A walk over rows, as the code meets its cases: row 0, no level left, and one level less left.
-- Assumes nothing.
use Prim.Native.Nat.{ℕ, zero, suc, ◌+◌, ◌-◌, ◌≤◌, ◌<◌}
use native.Mathlib.Omega.{arith}
use native.Mathlib.Numerals.{add-one}
use mathlib.Core.Path.{◌≡◌, refl, sym, ap, ◌∙◌, subst}
use mathlib.Core.Logic.{◌≢◌}
use mathlib.Core.Bool.{Bool, true, false, not, ◌&&◌, cond}
use mathlib.Core.List.{List, [], ◌∷◌, ◌++◌, map, append-nil, append_assoc}
use lib.Dec.{T, eqb, leb, leb→le, eqb→eq}
use lib.IntN.{ℤ}
use lib.ListN.{length, get_or, take}
use lib.Seq.{take_all}
use borrow.Author.Tests.{eq-eqb, ne_eqb, le-leb, not-true, not-false}
use Rattle.mesh.specs.Tools.{all, flat}
use Rattle.table.specs.Words.{word_of, link_of}
use Rattle.place_laws.proofs.Bools.{is-yes, and_left, and_right}
use Rattle.walk.specs.WalkRows.{kids_word, is_end, row_walk}

-- ---- tests

-- a test that the code makes first, and the one it makes then
pub not_first : (a : Bool) {x : Bool} (y : Bool) → a ≡ x → not a ≡ true → false ≡ (x && y)
not_first a y e h = rw (← e, not-true a h)

pub then-second : (a : Bool) {x y b : Bool} → a ≡ x → not a ≡ false → b ≡ y → b ≡ (x && y)
then-second a e h i = rw (← e, not-false a h) i

-- ---- words

-- ---- parts, one for each element

module _ (part : ℕ → List ℕ) where
  abbrev pub parts : List ℕ → ℕ → List ℕ
  parts o q = flat (map part (take q o))

  one_more : (o : List ℕ) (q : ℕ) → q < length o → parts o q ++ part (get_or o q 0) ≡ parts o (suc q)
  one_more [] q l = absurd (omega arith)
  one_more (w ∷ o) zero l = sym (append-nil (part w))
  one_more (w ∷ o) (suc q) l = append_assoc (part w) (parts o q) (part (get_or o q 0)) ∙ ap (λ (xs : List ℕ). part w ++ xs) (one_more o q (omega arith))

  pub parts_more : (o : List ℕ) (q : ℕ) → q < length o → parts o q ++ part (get_or o q 0) ≡ parts o (q + 1)
  parts_more o q l = rw add-one (one_more o q l)

  pub parts_all : (o : List ℕ) (q : ℕ) → length o ≤ q → parts o q ≡ flat (map part o)
  parts_all o q l = ap (λ (xs : List ℕ). flat (map part xs)) (take_all q o l)

-- ---- walks

pub not_end : (t : List ℤ) (l n : ℕ) → is_end t l n ≡ false → l ≢ 0
not_end t zero n e z = absurd (subst T e tt)
not_end t (suc l) n e z = omega (arith, z)

module _ (t : List ℤ) (cap : ℕ) (f : ℕ → Bool) (o : List ℕ) where
  -- the part of the kid of a word
  abbrev pub kid_part : ℕ → ℕ → ℕ → List ℕ
  kid_part l n w = row_walk t cap f o (l - 1) (link_of t cap n w)

  pub walk_none : (l n : ℕ) → n ≡ 0 → [] ≡ row_walk t cap f o l n
  unfolding row_walk
  walk_none zero n e = rw (eq-eqb n 0 e)
  walk_none (suc l) n e = rw (eq-eqb n 0 e)

  -- b is whether n itself is listed
  pub walk-last : (l n : ℕ) {b : Bool} → b ≡ f n → n ≢ 0 → l ≡ 0 → cond b (n ∷ []) [] ≡ row_walk t cap f o l n
  unfolding row_walk
  walk-last l n h z e = rw (e, ne_eqb n 0 z, h)

  pub walk-on : (l n : ℕ) {b : Bool} → b ≡ f n → n ≢ 0 → l ≢ 0 → cond b (n ∷ []) [] ++ flat (map (kid_part l n) o) ≡ row_walk t cap f o l n
  unfolding row_walk
  walk-on l n h z e = rw h (go l refl)
    where
      go : (k : ℕ) → l ≡ k → cond (f n) (n ∷ []) [] ++ flat (map (kid_part k n) o) ≡ row_walk t cap f o k n
      go zero h = absurd (e h)
      go (suc k) h =
          let p : suc k - 1 ≡ k = omega arith in
          rw (ne_eqb n 0 z) (ap (λ (m : ℕ). cond (f n) (n ∷ []) [] ++ flat (map (λ w. row_walk t cap f o m (link_of t cap n w)) o)) p)

  -- where the row is an end, no kid word names a row
  module _ (n : ℕ) (h : (eqb (word_of t n 1) 0 && (eqb (word_of t n 2) 0 && (eqb (word_of t n 3) 0 && eqb (word_of t n 4) 0))) ≡ true) where
    abbrev z : ℕ → Bool
    z w = eqb (word_of t n w) 0

    all-zero : T (z 1 && (z 2 && (z 3 && z 4)))
    all-zero = is-yes (z 1 && (z 2 && (z 3 && z 4))) h

    from-2 : T (z 2 && (z 3 && z 4))
    from-2 = and_right (z 1) (z 2 && (z 3 && z 4)) all-zero

    from-3 : T (z 3 && z 4)
    from-3 = and_right (z 2) (z 3 && z 4) from-2

    no-kid : (w : ℕ) → T (kids_word w) → word_of t n w ≡ 0
    no-kid zero k = absurd k
    no-kid (suc zero) k = eqb→eq (word_of t n 1) 0 (and_left (z 1) (z 2 && (z 3 && z 4)) all-zero)
    no-kid (suc (suc zero)) k = eqb→eq (word_of t n 2) 0 (and_left (z 2) (z 3 && z 4) from-2)
    no-kid (suc (suc (suc zero))) k = eqb→eq (word_of t n 3) 0 (and_left (z 3) (z 4) from-3)
    no-kid (suc (suc (suc (suc zero)))) k = eqb→eq (word_of t n 4) 0 (and_right (z 3) (z 4) from-3)
    no-kid (suc (suc (suc (suc (suc w))))) k =
        let m = suc (suc (suc (suc (suc w)))) in
        absurd (omega (arith, leb→le m 4 (and_right (leb 1 m) (leb m 4) k)))

    none_below : (l : ℕ) (ws : List ℕ) → T (all kids_word ws) → flat (map (λ w. row_walk t cap f o l (link_of t cap n w)) ws) ≡ []
    unfolding link_of
    none_below l [] k = refl
    none_below l (w ∷ ws) k =
        let e : word_of t n w ≡ 0 = no-kid w (and_left (kids_word w) (all kids_word ws) k) in
        let i : link_of t cap n w ≡ 0 = rw (e, le-leb 0 cap (omega arith)) in
        rw (i, ← walk_none l 0 refl) (none_below l ws (and_right (kids_word w) (all kids_word ws) k))

  pub walk_end : (l n : ℕ) {b : Bool} → b ≡ f n → n ≢ 0 → T (all kids_word o) → is_end t l n ≡ true → cond b (n ∷ []) [] ≡ row_walk t cap f o l n
  unfolding row_walk
  walk_end zero n h z k e = rw (ne_eqb n 0 z, h)
  walk_end (suc l) n h z k e =
      let e' = rw (ne_eqb (suc l) 0 (λ y. omega arith)) at e in
      rw (ne_eqb n 0 z, h, none_below n e' l o k) (sym (append-nil _))

  -- one kid more
  pub kid-more : (l n q k : ℕ) → q < length o → k ≡ link_of t cap n (get_or o q 0) → parts (kid_part l n) o q ++ row_walk t cap f o (l - 1) k ≡ parts (kid_part l n) o (q + 1)
  kid-more l n q k h e = rw e (parts_more (kid_part l n) o q h)
