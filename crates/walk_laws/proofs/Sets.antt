-- Lists of places made of others: list upon list, each place once, and those that are there.
-- Assumes nothing.
use Prim.Native.Nat.{ℕ, zero, suc, ◌<◌}
use native.Mathlib.Omega.{arith}
use native.Mathlib.Decide.{ℕ_discrete}
use mathlib.Core.Path.{◌≡◌, refl, ◌∙◌, subst}
use mathlib.Core.Logic.{◌⊎◌, inl, inr}
use mathlib.Core.Bool.{Bool, true, false, ◌||◌, cond}
use mathlib.Core.Option.{Option, none, some}
use mathlib.Core.List.{List, [], ◌∷◌, ◌++◌}
use lib.ListN.{length, length-append}
use Rattle.mesh.specs.Tools.{any, count, is_some, or_else}
use Rattle.mesh.specs.Place.{Place, same, In, Distinct}
use Rattle.place_laws.proofs.Bools.{is-yes}
use Rattle.place_laws.proofs.Places.{same-is}
use Rattle.place_laws.proofs.Distinct.{in-append, append_left, append_right, distinct_append}
use Rattle.walk_laws.specs.Points.{distinct, somes, sum}

-- ---- one list after the other

-- the lists 0 to n - 1, the last first
abbrev pub stack : (ℕ → List Place) → ℕ → List Place
stack f zero = []
stack f (suc n) = f n ++ stack f n

module _ (f : ℕ → List Place) where
  pub stack-length : (n : ℕ) → length (stack f n) ≡ sum (λ i. length (f i)) n
  stack-length zero = refl
  stack-length (suc n) = length-append (f n) (stack f n) ∙ rw (stack-length n)

  pub in_stack : (n : ℕ) (q : Place) → In q (stack f n) → (i : ℕ) × (i < n) × In q (f i)
  in_stack zero q t = absurd t
  in_stack (suc n) q t = go (in-append q (f n) (stack f n) t) (in_stack n q)
    where
      go : In q (f n) ⊎ In q (stack f n) → (In q (stack f n) → (i : ℕ) × (i < n) × In q (f i)) → (i : ℕ) × (i < suc n) × In q (f i)
      go (inl a) ih = (n, omega arith, a)
      go (inr a) ih = let (i, l, b) = ih a in (i, omega (arith, l), b)

  pub stack-in : (n i : ℕ) (q : Place) → i < n → In q (f i) → In q (stack f n)
  stack-in zero i q l t = absurd (omega arith)
  stack-in (suc n) i q l t = go (ℕ_discrete i n) (stack-in n i q)
    where
      go : Dec (i ≡ n) → (i < n → In q (f i) → In q (stack f n)) → In q (f n ++ stack f n)
      go (yes e) ih = append_left q (f n) (stack f n) (subst (λ (j : ℕ). In q (f j)) e t)
      go (no d) ih = append_right q (f n) (stack f n) (ih (omega arith) t)

  -- lists that share no place
  pub stack-distinct : ((i : ℕ) → Distinct (f i)) → ((i j : ℕ) (q : Place) → In q (f i) → In q (f j) → i ≡ j) → (n : ℕ) → Distinct (stack f n)
  stack-distinct d h zero = tt
  stack-distinct d h (suc n) =
      distinct_append (f n) (stack f n) (d n) (stack-distinct d h n) (λ q a b.
      let (i, l, e) = in_stack n q b in
      omega (arith, l, h n i q a e))

-- ---- each place once

distinct-any : (q : Place) (ps : List Place) → any (same q) (distinct ps) ≡ any (same q) ps
distinct-any q [] = refl
distinct-any q (p ∷ ps) = go (any (same p) ps) (same q p) refl refl (distinct-any q ps)
  where
    go : (a b : Bool) → any (same p) ps ≡ a → same q p ≡ b → any (same q) (distinct ps) ≡ any (same q) ps → any (same q) (cond a (distinct ps) (p ∷ distinct ps)) ≡ (b || any (same q) ps)
    go true true y z ih = ih ∙ rw (same-is q p (is-yes (same q p) z)) y
    go true false y z ih = ih
    go false b y z ih = rw (z, ih)

pub in-distinct : (q : Place) (ps : List Place) → In q (distinct ps) → In q ps
in-distinct q ps t = rw (distinct-any q ps) at t

pub distinct-in : (q : Place) (ps : List Place) → In q ps → In q (distinct ps)
distinct-in q ps t = rw (distinct-any q ps) t

pub distinct-distinct : (ps : List Place) → Distinct (distinct ps)
distinct-distinct [] = tt
distinct-distinct (p ∷ ps) = go (any (same p) ps) refl (distinct-distinct ps)
  where
    go : (b : Bool) → any (same p) ps ≡ b → Distinct (distinct ps) → Distinct (cond b (distinct ps) (p ∷ distinct ps))
    go true e ih = ih
    go false e ih = (λ t. rw (distinct-any p ps, e) at t, ih)

-- ---- those that are there

pub somes-any : (q : Place) (os : List (Option Place)) → any (same q) (somes os) ≡ any (λ o. or_else false (same q) o) os
somes-any q [] = refl
somes-any q (none ∷ os) = somes-any q os
somes-any q (some p ∷ os) = rw (somes-any q os)

pub somes-count : (f : Place → Bool) (os : List (Option Place)) → count f (somes os) ≡ count (λ o. or_else false f o) os
somes-count f [] = refl
somes-count f (none ∷ os) = somes-count f os ∙ omega arith
somes-count f (some p ∷ os) = rw (somes-count f os)

pub somes-length : (os : List (Option Place)) → length (somes os) ≡ count is_some os
somes-length [] = refl
somes-length (none ∷ os) = somes-length os ∙ omega arith
somes-length (some p ∷ os) = rw (somes-length os) (omega arith)
