-- The way down to a leaf, as the code meets its cases.
-- Assumes nothing.
use Prim.Native.Nat.{ℕ, zero, suc, ◌+◌, ◌-◌, ◌*◌, ◌/◌, ◌%◌, ◌^◌, ◌<◌}
use native.Mathlib.Nat.{one-mul, one-le-pow, div-eq_of_lt, div-lt_iff_lt-mul}
use native.Mathlib.Omega.{arith}
use native.Mathlib.Decide.{dec_lt, ℕ_discrete}
use mathlib.Core.Path.{◌≡◌, refl, sym, ap, ◌∙◌}
use mathlib.Core.Logic.{◌≢◌}
use mathlib.Core.Bool.{true, false}
use mathlib.Core.List.{List}
use lib.Dec.{ltb}
use lib.IntN.{ℤ}
use borrow.Author.Tests.{ne_eqb, lt-ltb, le-ltb, le-leb}
use Rattle.table.specs.Words.{word_of, link_of}
use Rattle.worked.specs.Worked.{kid_word}
use Rattle.worked.proofs.Offsets.{kid-word-range}
use Rattle.place_laws.proofs.Bools.{cond_same}
use Rattle.walk.specs.WalkRows.{leaf_row}
use Rattle.lookup.specs.LookupRows.{row_find, row_at}

module _ (t : List ℤ) (cap u v : ℕ) where
  -- the word of the kid that the point lies in, by its digits at the place l
  abbrev word_at : ℕ → ℕ
  word_at l = kid_word (u / 2 ^ l % 2) (v / 2 ^ l % 2)

  pub find-leaf : (l n : ℕ) → leaf_row t cap n ≡ true → n ≡ row_find t cap u v l n
  unfolding row_find
  find-leaf zero n e = rw e
  find-leaf (suc l) n e = rw e

  pub find-nil : (l : ℕ) → 0 ≡ row_find t cap u v l 0
  unfolding row_find
  find-nil zero = sym (cond_same (leaf_row t cap 0) 0)
  find-nil (suc l) = sym (cond_same (leaf_row t cap 0) 0)

  pub find-last : (l n : ℕ) → leaf_row t cap n ≡ false → l ≡ 0 → 0 ≡ row_find t cap u v l n
  unfolding row_find
  find-last l n e z = rw (z, e)

  -- where row 0 has no kids, a step down finds what was to be found: from row 0 it leads to row 0
  module _ (nil : (w : ℕ) → w < 5 → word_of t 0 w ≡ 0) where
    nil-on : (l : ℕ) → link_of t cap 0 (word_at l) ≡ 0
    unfolding link_of
    nil-on l = rw (nil (word_at l) (kid-word-range (u / 2 ^ l % 2) (v / 2 ^ l % 2) (omega arith)).1, le-leb 0 cap (omega arith))

    pub find-on : (l n k : ℕ) → leaf_row t cap n ≡ false → l ≢ 0 → k ≡ link_of t cap n (word_at (l - 1)) → row_find t cap u v (l - 1) k ≡ row_find t cap u v l n
    unfolding row_find
    find-on zero n k e z h = absurd (z refl)
    find-on (suc l) n k e z h = go (ℕ_discrete n 0)
      where
        q : suc l - 1 ≡ l
        q = omega arith

        go : Dec (n ≡ 0) → row_find t cap u v (suc l - 1) k ≡ row_find t cap u v (suc l) n
        go (yes x) =
            let k-nil : k ≡ 0 = h ∙ ap (λ (m : ℕ). link_of t cap m (word_at (suc l - 1))) x ∙ nil-on (suc l - 1) in
            rw (k-nil, x) (sym (find-nil (suc l - 1)) ∙ find-nil (suc l))
        go (no x) = rw (e, ne_eqb n 0 x, h, q)

-- ---- from the root

-- a number is below a power of 2 exactly if nothing is left of it after so many digits
pub no-digits : (k x : ℕ) → x / 2 ^ k ≡ 0 → ltb x (2 ^ k) ≡ true
no-digits k x e =
    let h : x < 1 * 2 ^ k = (div-lt_iff_lt-mul (one-le-pow k 2 (omega arith))).0 (omega arith) in
    lt-ltb x (2 ^ k) (rw one-mul at h)

more-digits : (k x : ℕ) → x / 2 ^ k ≢ 0 → ltb x (2 ^ k) ≡ false
more-digits k x e = go (dec_lt x (2 ^ k))
  where
    go : Dec (x < 2 ^ k) → ltb x (2 ^ k) ≡ false
    go (yes h) = absurd (e (div-eq_of_lt h))
    go (no h) = le-ltb x (2 ^ k) (omega (arith, h))

module _ (t : List ℤ) (cap d u v : ℕ) where
  pub row-at-east : u / 2 ^ (d + 12) ≢ 0 → 0 ≡ row_at t cap d u v
  unfolding row_at
  row-at-east e = rw (more-digits (d + 12) u e)

  pub row-at-north : u / 2 ^ (d + 12) ≡ 0 → v / 2 ^ (d + 12) ≢ 0 → 0 ≡ row_at t cap d u v
  unfolding row_at
  row-at-north e h = rw (no-digits (d + 12) u e, more-digits (d + 12) v h)

  pub row-at-inside : {r : ℕ} → u / 2 ^ (d + 12) ≡ 0 → v / 2 ^ (d + 12) ≡ 0 → r ≡ row_find t cap u v (d + 12) 1 → r ≡ row_at t cap d u v
  unfolding row_at
  row-at-inside e h i = rw (no-digits (d + 12) u e, no-digits (d + 12) v h) i
