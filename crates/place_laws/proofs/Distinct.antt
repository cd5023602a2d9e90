-- Lists of places in which no place stands twice: their joins, their lengths, and the places of a list that pass a test.
-- Assumes nothing.
use Prim.Native.Nat.{suc, ◌+◌, ◌≤◌, ◌<◌}
use native.Mathlib.Omega.{arith}
use mathlib.Core.Path.{◌≡◌, refl, sym, ◌∙◌}
use mathlib.Core.Logic.{◌⊎◌, inl, inr}
use mathlib.Core.Bool.{Bool, true, false}
use mathlib.Core.List.{List, [], ◌∷◌, ◌++◌}
use lib.Dec.{T}
use lib.ListN.{length}
use Rattle.mesh.specs.Tools.{any, keep, count}
use Rattle.mesh.specs.Place.{Place, same, In, Distinct}
use Rattle.place_laws.proofs.Bools.{yes-is, or_left, or_right, or_cases}
use Rattle.place_laws.proofs.Lists.{any_append}
use Rattle.place_laws.proofs.Places.{in-cases, in-here, in-there, same_refl}
use Rattle.place_laws.proofs.Counting.{count-some}

-- a list that has each place at most once
pub once-distinct : (ps : List Place) → ((q : Place) → count (same q) ps ≤ 1) → Distinct ps
once-distinct [] h = tt
once-distinct (p ∷ ps) h = (λ i. twice (count-some (same p) ps i), once-distinct ps (λ q. omega (arith, h q)))
  where
    twice : 0 < count (same p) ps → ⊥
    twice l = let n : 1 + count (same p) ps ≤ 1 = rw (yes-is (same p p) (same_refl p)) at (h p) in omega arith

-- ---- one list after another

pub in-append : (q : Place) (ps rs : List Place) → In q (ps ++ rs) → In q ps ⊎ In q rs
in-append q ps rs t = or_cases (any (same q) ps) (any (same q) rs) (rw (any_append (same q) ps rs) at t)

pub append_left : (q : Place) (ps rs : List Place) → In q ps → In q (ps ++ rs)
append_left q ps rs t = rw (any_append (same q) ps rs) (or_left (any (same q) ps) (any (same q) rs) t)

pub append_right : (q : Place) (ps rs : List Place) → In q rs → In q (ps ++ rs)
append_right q ps rs t = rw (any_append (same q) ps rs) (or_right (any (same q) ps) (any (same q) rs) t)

-- the lists have no place in common
pub distinct_append : (ps rs : List Place) → Distinct ps → Distinct rs → ((q : Place) → In q ps → In q rs → ⊥) → Distinct (ps ++ rs)
distinct_append [] rs a b h = b
distinct_append (p ∷ ps) rs a b h = (λ t. go (in-append p ps rs t), distinct_append ps rs a.1 b (λ q i j. h q (in-there q p ps i) j))
  where
    go : In p ps ⊎ In p rs → ⊥
    go (inl i) = a.0 i
    go (inr j) = h p (in-here p p ps refl) j

pub append-distinct : (ps rs : List Place) → Distinct (ps ++ rs) → Distinct ps × Distinct rs × ((q : Place) → In q ps → In q rs → ⊥)
append-distinct [] rs d = (tt, d, λ q i j. i)
append-distinct (p ∷ ps) rs d =
    let (a, b, h) = append-distinct ps rs d.1 in
    ((λ i. d.0 (append_left p ps rs i), a), b, λ q i j. go q j (in-cases q p ps i) (h q))
  where
    go : (q : Place) → In q rs → (q ≡ p) ⊎ In q ps → (In q ps → In q rs → ⊥) → ⊥
    go q j (inl e) h = d.0 (append_right p ps rs (rw e at j))
    go q j (inr i) h = h i j

-- ---- lengths

pub in-length : (q : Place) (ps : List Place) → In q ps → 1 ≤ length ps
in-length q [] i = absurd i
in-length q (p ∷ ps) i = omega arith

-- a place taken out of a list that has it
without : (x : Place) (ys : List Place) → In x ys → (zs : List Place) × (length ys ≡ suc (length zs)) × ((q : Place) → (q ≡ x → ⊥) → In q ys → In q zs)
without x [] t = absurd t
without x (y ∷ ys) t = go (in-cases x y ys t) (without x ys)
  where
    go : (x ≡ y) ⊎ In x ys → (In x ys → (zs : List Place) × (length ys ≡ suc (length zs)) × ((q : Place) → (q ≡ x → ⊥) → In q ys → In q zs)) → (zs : List Place) × (length (y ∷ ys) ≡ suc (length zs)) × ((q : Place) → (q ≡ x → ⊥) → In q (y ∷ ys) → In q zs)
    go (inl e) ih = (ys, omega arith, λ q d i. rest q d (in-cases q y ys i))
      where
        rest : (q : Place) → (q ≡ x → ⊥) → (q ≡ y) ⊎ In q ys → In q ys
        rest q d (inl h) = absurd (d (h ∙ sym e))
        rest q d (inr i) = i
    go (inr a) ih = let (zs, l, h) = ih a in (y ∷ zs, omega (arith, l), λ q d i. rest zs h q d (in-cases q y ys i))
      where
        rest : (zs : List Place) → ((q : Place) → (q ≡ x → ⊥) → In q ys → In q zs) → (q : Place) → (q ≡ x → ⊥) → (q ≡ y) ⊎ In q ys → In q (y ∷ zs)
        rest zs h q d (inl e) = in-here q y zs e
        rest zs h q d (inr i) = in-there q y zs (h q d i)

fits : (xs ys : List Place) → Distinct xs → ((q : Place) → In q xs → In q ys) → length xs ≤ length ys
fits [] ys d h = omega arith
fits (x ∷ xs) ys d h =
    let (zs, l, r) = without x ys (h x (in-here x x xs refl)) in
    let i = fits xs zs d.1 (λ q i. r q (λ e. d.0 (rw e at i)) (h q (in-there q x xs i))) in
    omega (arith, l, i)

-- two lists of the same places, each once, are of one length
pub same_length : (xs ys : List Place) → Distinct xs → Distinct ys → ((q : Place) → In q xs → In q ys) → ((q : Place) → In q ys → In q xs) → length xs ≡ length ys
same_length xs ys d e h k = omega (arith, fits xs ys d h, fits ys xs e k)

-- ---- the places that pass a test

-- two tests that agree on a list's places keep the same
pub keep_same : (f h : Place → Bool) (ps : List Place) → ((q : Place) → In q ps → f q ≡ h q) → keep f ps ≡ keep h ps
keep_same f h [] e = refl
keep_same f h (p ∷ ps) e = rw (e p (in-here p p ps refl), keep_same f h ps (λ q i. e q (in-there q p ps i)))

module _ (f : Place → Bool) where
  pub keep-in : (ps : List Place) (q : Place) → In q (keep f ps) → In q ps × T (f q)
  keep-in [] q t = absurd t
  keep-in (p ∷ ps) q t = go (f p) refl (keep-in ps q)
    where
      there : In q ps × T (f q) → In q (p ∷ ps) × T (f q)
      there (i, h) = (in-there q p ps i, h)

      kept : f p ≡ true → (In q (keep f ps) → In q ps × T (f q)) → (q ≡ p) ⊎ In q (keep f ps) → In q (p ∷ ps) × T (f q)
      kept e ih (inl s) = (in-here q p ps s, rw (s, e) tt)
      kept e ih (inr i) = there (ih i)

      go : (b : Bool) → f p ≡ b → (In q (keep f ps) → In q ps × T (f q)) → In q (p ∷ ps) × T (f q)
      go true e ih = kept e ih (in-cases q p (keep f ps) (rw e at t))
      go false e ih = there (ih (rw e at t))

  pub in-keep : (ps : List Place) (q : Place) → In q ps → T (f q) → In q (keep f ps)
  in-keep [] q i h = absurd i
  in-keep (p ∷ ps) q i h = go (f p) refl (in-cases q p ps i) (in-keep ps q)
    where
      go : (b : Bool) → f p ≡ b → (q ≡ p) ⊎ In q ps → (In q ps → T (f q) → In q (keep f ps)) → In q (keep f (p ∷ ps))
      go true e (inl s) ih = rw e (in-here q p (keep f ps) s)
      go true e (inr j) ih = rw e (in-there q p (keep f ps) (ih j h))
      go false e (inl s) ih = absurd (let t : T (f p) = rw (← s) h in let u : T false = rw e at t in u)
      go false e (inr j) ih = rw e (ih j h)

  pub keep-distinct : (ps : List Place) → Distinct ps → Distinct (keep f ps)
  keep-distinct [] o = tt
  keep-distinct (p ∷ ps) o = go (f p) refl (keep-distinct ps o.1)
    where
      go : (b : Bool) → f p ≡ b → Distinct (keep f ps) → Distinct (keep f (p ∷ ps))
      go true e ih = rw e (λ t. o.0 (keep-in ps p t).0, ih)
      go false e ih = rw e ih
