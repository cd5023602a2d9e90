-- How often a test passes in a list: of lists put together, of the elements kept, and of a part for each place; and how long a list of numbers is
-- that has none twice.
-- Assumes nothing.
use Prim.Native.Nat.{ℕ, zero, suc, ◌+◌, ◌≤◌, ◌<◌}
use native.Mathlib.Omega.{arith}
use native.Mathlib.Decide.{dec_lt}
use mathlib.Core.Path.{◌≡◌, refl, ◌∙◌, subst}
use mathlib.Core.Logic.{◌⊎◌, inl, inr}
use mathlib.Core.Bool.{Bool, true, false, ◌||◌, cond}
use mathlib.Core.List.{List, [], ◌∷◌, ◌++◌, map}
use lib.Dec.{T, eqb}
use lib.ListN.{length, get_or}
use borrow.Author.Tests.{eq-eqb}
use Rattle.mesh.specs.Tools.{any, keep, count, flat}
use Rattle.mesh.specs.Place.{Place, same, In}
use Rattle.place_laws.proofs.Bools.{is-yes, or_left, or_right, or_cases}
use Rattle.place_laws.proofs.Lists.{any_append, any-hit}
use Rattle.place_laws.proofs.Places.{in-cases, in-here, in-there}

module _ {A : Type 0} (f : A → Bool) where
  -- ---- one list

  pub count-append : (xs ys : List A) → count f (xs ++ ys) ≡ count f xs + count f ys
  count-append [] ys = omega arith
  count-append (x ∷ xs) ys = rw (count-append xs ys) (let e : cond (f x) 1 0 + (count f xs + count f ys) ≡ cond (f x) 1 0 + count f xs + count f ys = omega arith in e)

  pub count_none : (xs : List A) → (T (any f xs) → ⊥) → count f xs ≡ 0
  count_none [] h = refl
  count_none (x ∷ xs) h = go (f x) refl (count_none xs (λ t. h (or_right (f x) (any f xs) t)))
    where
      go : (b : Bool) → f x ≡ b → count f xs ≡ 0 → cond (f x) 1 0 + count f xs ≡ 0
      go true e ih = absurd (h (or_left (f x) (any f xs) (is-yes (f x) e)))
      go false e ih = rw (e, ih)

  pub count-some : (xs : List A) → T (any f xs) → 0 < count f xs
  count-some [] t = absurd t
  count-some (x ∷ xs) t = go (f x) refl (count-some xs)
    where
      go : (b : Bool) → f x ≡ b → (T (any f xs) → 0 < count f xs) → 0 < cond (f x) 1 0 + count f xs
      go true e ih = rw e (omega arith)
      go false e ih = let l = ih (rw e at t) in rw e (omega arith)

  -- one place alone passes
  pub count-one : (d : A) (xs : List A) → ((i j : ℕ) → i < length xs → j < length xs → T (f (get_or xs i d)) → T (f (get_or xs j d)) → i ≡ j) → count f xs ≤ 1
  count-one d [] h = omega arith
  count-one d (x ∷ xs) h = go (f x) refl (count-one d xs (λ i j l m t u. let e : suc i ≡ suc j = h (suc i) (suc j) (omega (arith, l)) (omega (arith, m)) t u in omega arith))
    where
      go : (b : Bool) → f x ≡ b → count f xs ≤ 1 → cond b 1 0 + count f xs ≤ 1
      go true e ih =
          let n = count_none xs (λ t. let (k, l, u) = any-hit f d xs t in let z : suc k ≡ 0 = h (suc k) 0 (omega (arith, l)) (omega arith) u (is-yes (f x) e) in omega arith) in
          omega arith
      go false e ih = omega arith

  -- ---- the elements that another test keeps

  -- a test that is no stricter takes nothing away
  -- how many pass is how many are kept
  pub length-keep : (xs : List A) → length (keep f xs) ≡ count f xs
  length-keep [] = refl
  length-keep (x ∷ xs) = go (f x) refl (length-keep xs)
    where
      go : (b : Bool) → f x ≡ b → length (keep f xs) ≡ count f xs → length (keep f (x ∷ xs)) ≡ cond (f x) 1 0 + count f xs
      go true e ih = rw (e, ih) (omega arith)
      go false e ih = rw (e, ih) (omega arith)

  pub count-keep : (h : A → Bool) → ((x : A) → T (f x) → T (h x)) → (xs : List A) → count f (keep h xs) ≡ count f xs
  count-keep h w [] = refl
  count-keep h w (x ∷ xs) = go (h x) (f x) refl refl (count-keep h w xs)
    where
      go : (a b : Bool) → h x ≡ a → f x ≡ b → count f (keep h xs) ≡ count f xs → count f (keep h (x ∷ xs)) ≡ cond (f x) 1 0 + count f xs
      go true b y z ih = rw (y, ih)
      go false true y z ih = absurd (let t : T (h x) = w x (is-yes (f x) z) in let u : T false = rw y at t in u)
      go false false y z ih = rw (y, z) (omega arith)

-- ---- a list that is mapped to places

pub in_map : {A : Type 0} (h : A → Place) (q : Place) (xs : List A) → In q (map h xs) → (x : A) × (q ≡ h x)
in_map h q [] t = absurd t
in_map h q (x ∷ xs) t = go (in-cases q (h x) (map h xs) t) (in_map h q xs)
  where
    go : (q ≡ h x) ⊎ In q (map h xs) → (In q (map h xs) → (y : _) × (q ≡ h y)) → (y : _) × (q ≡ h y)
    go (inl e) ih = (x, e)
    go (inr a) ih = ih a

-- ---- parts put together, a part for each place of a list

module _ {A : Type 0} (f : A → Bool) (part : Place → List A) where
  pub any-parts : (ps : List Place) → T (any f (flat (map part ps))) → (r : Place) × In r ps × T (any f (part r))
  any-parts [] t = absurd t
  any-parts (p ∷ ps) t = go (or_cases (any f (part p)) (any f (flat (map part ps))) (rw (any_append f (part p) (flat (map part ps))) at t)) (any-parts ps)
    where
      go : T (any f (part p)) ⊎ T (any f (flat (map part ps))) → (T (any f (flat (map part ps))) → (r : Place) × In r ps × T (any f (part r))) → (r : Place) × In r (p ∷ ps) × T (any f (part r))
      go (inl a) ih = (p, in-here p p ps refl, a)
      go (inr a) ih = let (r, i, u) = ih a in (r, in-there r p ps i, u)

  pub parts-any : (r : Place) (ps : List Place) → In r ps → T (any f (part r)) → T (any f (flat (map part ps)))
  parts-any r [] i t = absurd i
  parts-any r (p ∷ ps) i t = rw (any_append f (part p) (flat (map part ps))) (go (in-cases r p ps i) (λ a. parts-any r ps a t))
    where
      go : (r ≡ p) ⊎ In r ps → (In r ps → T (any f (flat (map part ps)))) → T (any f (part p) || any f (flat (map part ps)))
      go (inl e) ih = or_left (any f (part p)) (any f (flat (map part ps))) (subst (λ (x : Place). T (any f (part x))) e t)
      go (inr a) ih = or_right (any f (part p)) (any f (flat (map part ps))) (ih a)

  -- where one alone of the places has what is counted in its part, and has it once, it is counted as often as that place stands in the list
  pub count-parts : (q : Place) (ps : List Place) → ((r : Place) → In r ps → count f (part r) ≡ cond (same q r) 1 0) → count f (flat (map part ps)) ≡ count (same q) ps
  count-parts q [] h = refl
  count-parts q (p ∷ ps) h =
      count-append f (part p) (flat (map part ps))
      ∙ rw (h p (in-here p p ps refl), count-parts q ps (λ r i. h r (in-there r p ps i)))

-- ---- numbers that stand in a list once

-- how often the numbers below m stand in a list
tally : ℕ → List ℕ → ℕ
tally zero ns = 0
tally (suc m) ns = count (eqb m) ns + tally m ns

tally-more : (m x : ℕ) (xs : List ℕ) → tally m xs ≤ tally m (x ∷ xs)
unfolding tally
tally-more zero x xs = omega arith
tally-more (suc m) x xs = omega (arith, tally-more m x xs)

tally-here : (m x : ℕ) (xs : List ℕ) → x < m → suc (tally m xs) ≤ tally m (x ∷ xs)
unfolding tally
tally-here zero x xs h = absurd (omega arith)
tally-here (suc m) x xs h = go (dec_lt x m) (tally-here m x xs)
  where
    go : Dec (x < m) → (x < m → suc (tally m xs) ≤ tally m (x ∷ xs)) → suc (count (eqb m) xs + tally m xs) ≤ cond (eqb m x) 1 0 + count (eqb m) xs + tally m (x ∷ xs)
    go (yes l) ih = omega (arith, ih l)
    go (no l) ih =
        let e : eqb m x ≡ true = eq-eqb m x (omega arith) in
        rw e (omega (arith, tally-more m x xs))

tally-once : (m : ℕ) (ns : List ℕ) → ((k : ℕ) → count (eqb k) ns ≤ 1) → tally m ns ≤ m
unfolding tally
tally-once zero ns once = omega arith
tally-once (suc m) ns once = omega (arith, once m, tally-once m ns once)

tally-all : (m : ℕ) (ns : List ℕ) → ((k : ℕ) → m ≤ k → count (eqb k) ns ≡ 0) → length ns ≤ tally m ns
tally-all m [] none = omega arith
tally-all m (x ∷ xs) none =
    let low : x < m = go (dec_lt x m) in
    omega (arith, tally-here m x xs low, tally-all m xs (λ k h. omega (arith, none k h)))
  where
    go : Dec (x < m) → x < m
    go (yes h) = h
    go (no h) = absurd (let z : cond (eqb x x) 1 0 + count (eqb x) xs ≡ 0 = none x (omega arith) in let e : eqb x x ≡ true = eq-eqb x x refl in omega (arith, rw e at z))

-- a list that has each number below m at most once, and no other, is at most m long
pub once-length : (m : ℕ) (ns : List ℕ) → ((k : ℕ) → count (eqb k) ns ≤ 1) → ((k : ℕ) → m ≤ k → count (eqb k) ns ≡ 0) → length ns ≤ m
once-length m ns once none = omega (arith, tally-all m ns none, tally-once m ns once)
