-- The steps of a list of counts, place by place; and a leaf that can be had leaves the others to be had.
-- Assumes nothing.
use Prim.Native.Nat.{ℕ, zero, suc, ◌+◌, ◌-◌, ◌≤◌, ◌<◌}
use native.Mathlib.Omega.{arith}
use native.Mathlib.Decide.{ℕ_discrete, dec_lt}
use mathlib.Core.Path.{◌≡◌, refl, sym, ap, ◌∙◌, subst}
use mathlib.Core.Bool.{cond}
use mathlib.Core.List.{List, [], ◌∷◌}
use lib.Dec.{eqb}
use lib.ListN.{length, get_or, length-set, get_or-eq_default}
use lib.Seq.{get_or-set_same, get_or-set_other}
use borrow.Author.Tests.{eq-eqb, ne_eqb}
use Rattle.mesh.specs.Tools.{count}
use Rattle.tally.specs.CountSteps.{more, less, lesses, There, Move, moved, Movable}

-- a place that is not 0 is one of the list
pub held-inside : (c : List ℕ) (i : ℕ) → 1 ≤ get_or c i 0 → i < length c
held-inside c i h = go (dec_lt i (length c))
  where
    go : Dec (i < length c) → i < length c
    go (yes l) = l
    go (no l) = absurd (omega (arith, get_or-eq_default c 0 {n = i} (omega arith)))

pub more-at : (c : List ℕ) (i n j : ℕ) → i < length c → get_or (more c i n) j 0 ≡ get_or c j 0 + cond (eqb j i) n 0
unfolding more
more-at c i n j l = go (ℕ_discrete j i)
  where
    go : Dec (j ≡ i) → get_or (more c i n) j 0 ≡ get_or c j 0 + cond (eqb j i) n 0
    go (yes e) = rw (e, eq-eqb i i refl) (get_or-set_same c i (get_or c i 0 + n) 0 l)
    go (no d) = rw (ne_eqb j i d) (get_or-set_other c i j (get_or c i 0 + n) 0 d ∙ (let h : get_or c j 0 ≡ get_or c j 0 + 0 = omega arith in h))

-- past the list nothing is written
pub more-past : (c : List ℕ) (i n j : ℕ) → length c ≤ i → get_or (more c i n) j 0 ≡ get_or c j 0
unfolding more
more-past c i n j l = go (ℕ_discrete j i)
  where
    go : Dec (j ≡ i) → get_or (more c i n) j 0 ≡ get_or c j 0
    go (yes e) = get_or-eq_default (more c i n) 0 {n = j} (omega (arith, length-set c i (get_or c i 0 + n))) ∙ sym (get_or-eq_default c 0 {n = j} (omega arith))
    go (no d) = get_or-set_other c i j (get_or c i 0 + n) 0 d

less-at : (c : List ℕ) (i j : ℕ) → get_or (less c i) j 0 ≡ get_or c j 0 - cond (eqb j i) 1 0
unfolding less
less-at c i j = go (ℕ_discrete j i) (dec_lt i (length c))
  where
    go : Dec (j ≡ i) → Dec (i < length c) → get_or (less c i) j 0 ≡ get_or c j 0 - cond (eqb j i) 1 0
    go (yes e) (yes l) = rw (e, eq-eqb i i refl) (get_or-set_same c i (get_or c i 0 - 1) 0 l)
    go (yes e) (no l) =
        let a = get_or-eq_default (less c i) 0 {n = i} (omega (arith, length-set c i (get_or c i 0 - 1))) in
        let b = get_or-eq_default c 0 {n = i} (omega arith) in
        rw (e, eq-eqb i i refl, a, b)
    go (no d) l = rw (ne_eqb j i d) (get_or-set_other c i j (get_or c i 0 - 1) 0 d ∙ (let h : get_or c j 0 ≡ get_or c j 0 - 0 = omega arith in h))

pub lesses-at : (is c : List ℕ) (j : ℕ) → get_or (lesses c is) j 0 ≡ get_or c j 0 - count (eqb j) is
lesses-at [] c j = let h : get_or c j 0 ≡ get_or c j 0 - 0 = omega arith in h
lesses-at (i ∷ is) c j = omega (arith, lesses-at is (less c i) j, less-at c i j)

pub more-length : (c : List ℕ) (i n : ℕ) → length (more c i n) ≡ length c
unfolding more
more-length c i n = length-set c i (get_or c i 0 + n)

pub lesses-length : (is c : List ℕ) → length (lesses c is) ≡ length c
unfolding less
lesses-length [] c = refl
lesses-length (i ∷ is) c = lesses-length is (less c i) ∙ length-set c i (get_or c i 0 - 1)

module _ (c : List ℕ) (i : ℕ) (is : List ℕ) (there : There c (i ∷ is)) where
  pub there-first : 1 ≤ get_or c i 0
  there-first = let h : cond (eqb i i) 1 0 + count (eqb i) is ≤ get_or c i 0 = there.each i in omega (arith, ap (λ b. cond {A = ℕ} b 1 0) (eq-eqb i i refl))

  pub there-rest : There (less c i) is
  there-rest = record { each = λ j. omega (arith, there.each j, less-at c i j) }

-- none more is the list itself
pub more-none : (c : List ℕ) (i : ℕ) → c ≡ more c i 0
unfolding more
more-none [] i = refl
more-none (x ∷ xs) zero = let h : x ≡ x + 0 = omega arith in ap (λ (y : ℕ). y ∷ xs) h
more-none (x ∷ xs) (suc i) = ap (λ (ys : List ℕ). x ∷ ys) (more-none xs i)

-- ---- a move, step by step

module _ {c : List ℕ} {m : Move} (ok : Movable c m) where
  -- there is room for those that come
  pub room : {i : ℕ} → i ≡ m.into → (i < length c) × (get_or c i 0 + m.many < 4294967296)
  room e = rw e (ok.inside, ok.small)

  -- and then those that go are there
  pub come : {c₁ : List ℕ} {i : ℕ} → i ≡ m.into → c₁ ≡ more c i m.many → There c₁ m.from
  come {c₁} e f = subst (λ (x : List ℕ). There x m.from) (sym (f ∙ ap (λ (j : ℕ). more c j m.many) e)) ok.there

-- the first of them, at the place that was found for it
pub gone : {c is : List ℕ} {i j : ℕ} → There c (j ∷ is) → i ≡ j → (i < length c) × (1 ≤ get_or c i 0)
gone {c} {is} {i} {j} h e = let x = there-first c j is h in rw e (held-inside c j x, x)

-- and the others
pub onward : {c c₁ is : List ℕ} {i : ℕ} → There c (i ∷ is) → c₁ ≡ less c i → There c₁ is
onward {c} {c₁} {is} {i} h f = subst (λ (x : List ℕ). There x is) (sym f) (there-rest c i is h)

module _ (c : List ℕ) (m : Move) {c₁ : List ℕ} {i : ℕ} (e : i ≡ m.into) (f : c₁ ≡ more c i m.many) where
  came : c₁ ≡ more c m.into m.many
  came = f ∙ ap (λ (j : ℕ). more c j m.many) e

  pub moved-one : {c₂ : List ℕ} {j z : ℕ} → m.from ≡ z ∷ [] → j ≡ z → c₂ ≡ less c₁ j → c₂ ≡ moved c m
  unfolding moved
  moved-one g h k = rw g (k ∙ (λ i. less (came i) (h i)))

  pub moved-four : {c₂ c₃ c₄ c₅ : List ℕ} {w x y z : ℕ} → m.from ≡ w ∷ x ∷ y ∷ z ∷ [] → c₂ ≡ less c₁ w → c₃ ≡ less c₂ x → c₄ ≡ less c₃ y → c₅ ≡ less c₄ z → c₅ ≡ moved c m
  unfolding moved
  moved-four {w = w} {x} {y} {z} g f₂ f₃ f₄ f₅ =
      rw g (f₅ ∙ (λ i. less ((f₄ ∙ (λ j. less ((f₃ ∙ (λ k. less ((f₂ ∙ (λ l. less (came l) w)) k) x)) j) y)) i) z))
