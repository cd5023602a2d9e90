-- Orders: a permutation of the words 1 to 4 has no other words, since it has four and each of the four is among them.
-- Assumes nothing.
use Prim.Native.Nat.{ℕ, zero, suc, ◌+◌, ◌≤◌}
use native.Mathlib.Omega.{arith}
use mathlib.Core.Path.{◌≡◌, refl}
use mathlib.Core.Bool.{Bool, true, false, ◌&&◌, cond}
use mathlib.Core.List.{List, [], ◌∷◌}
use lib.Dec.{T, eqb, eqb→eq}
use lib.ListN.{length}
use borrow.Author.Tests.{ne_eqb}
use Rattle.mesh.specs.Tools.{any, all, count}
use Rattle.mesh.specs.Scan.{permutation}
use Rattle.place_laws.proofs.Bools.{and_left, and_right}
use Rattle.place_laws.proofs.Counting.{count-some}
use Rattle.walk.specs.WalkRows.{kids_word}

-- a word is one of the four at most
one_word : (w : ℕ) → cond (eqb 1 w) 1 0 + cond (eqb 2 w) 1 0 + cond (eqb 3 w) 1 0 + cond (eqb 4 w) 1 0 ≤ cond (kids_word w) 1 0
one_word zero = omega arith
one_word (suc zero) = omega arith
one_word (suc (suc zero)) = omega arith
one_word (suc (suc (suc zero))) = omega arith
one_word (suc (suc (suc (suc zero)))) = omega arith
one_word (suc (suc (suc (suc (suc w))))) =
    let n = suc (suc (suc (suc (suc w)))) in
    rw (ne_eqb 1 n (λ z. omega arith), ne_eqb 2 n (λ z. omega arith), ne_eqb 3 n (λ z. omega arith), ne_eqb 4 n (λ z. omega arith)) (omega arith)

four-words : (o : List ℕ) → count (eqb 1) o + count (eqb 2) o + count (eqb 3) o + count (eqb 4) o ≤ count kids_word o
four-words [] = omega arith
four-words (w ∷ o) = omega (arith, one_word w, four-words o)

-- where as many pass as there are, all do
count-le : (f : ℕ → Bool) (o : List ℕ) → count f o ≤ length o
count-le f [] = omega arith
count-le f (w ∷ o) = go (f w) (count-le f o)
  where
    go : (b : Bool) → count f o ≤ length o → cond b 1 0 + count f o ≤ suc (length o)
    go true h = omega arith
    go false h = omega arith

count-all : (f : ℕ → Bool) (o : List ℕ) → length o ≤ count f o → T (all f o)
count-all f [] h = tt
count-all f (w ∷ o) h = go (f w) refl (count-all f o)
  where
    go : (b : Bool) → f w ≡ b → (length o ≤ count f o → T (all f o)) → T (b && all f o)
    go true e ih = ih (let h' : suc (length o) ≤ 1 + count f o = rw e at h in omega arith)
    go false e ih = absurd (let h' : suc (length o) ≤ 0 + count f o = rw e at h in omega (arith, count-le f o))

-- a permutation has four words
pub permutation-length : (o : List ℕ) → T (permutation o) → length o ≡ 4
permutation-length o t = eqb→eq (length o) 4 (and_left (eqb (length o) 4) (any (eqb 1) o && (any (eqb 2) o && (any (eqb 3) o && any (eqb 4) o))) t)

-- and no other
pub permutation-words : (o : List ℕ) → T (permutation o) → T (all kids_word o)
permutation-words o t =
    let a = any (eqb 1) o in
    let b = any (eqb 2) o in
    let c = any (eqb 3) o in
    let d = any (eqb 4) o in
    let l = permutation-length o t in
    let t₁ = and_right (eqb (length o) 4) (a && (b && (c && d))) t in
    let t₂ = and_right a (b && (c && d)) t₁ in
    let t₃ = and_right b (c && d) t₂ in
    let n₁ = count-some (eqb 1) o (and_left a (b && (c && d)) t₁) in
    let n₂ = count-some (eqb 2) o (and_left b (c && d) t₂) in
    let n₃ = count-some (eqb 3) o (and_left c d t₃) in
    let n₄ = count-some (eqb 4) o (and_right c d t₃) in
    count-all kids_word o (omega (arith, four-words o))

-- ---- as the code tests it

-- ---- an order of any length as four bytes
