-- Places: equality is the test, and membership in a list of places.
-- Assumes nothing.
use Prim.Native.Nat.{ℕ, zero, suc}
use mathlib.Core.Path.{◌≡◌, refl, sym, ap, subst}
use mathlib.Core.Logic.{◌⊎◌, inl, inr}
use mathlib.Core.Bool.{Bool, ◌&&◌}
use mathlib.Core.Option.{Option, none, some, map, none-ne-some, some-injective}
use mathlib.Core.List.{List, [], ◌∷◌}
use lib.Dec.{T, eqb, eqb→eq, eqb_refl}
use Rattle.mesh.specs.Tools.{any, all}
use Rattle.mesh.specs.Place.{Place, same, before, then, In}
use Rattle.place_laws.proofs.Bools.{yes-is, and_both, and_left, and_right, or_left, or_right, or_cases}

pub place-path : (p q : Place) → p.depth ≡ q.depth → p.i ≡ q.i → p.j ≡ q.j → p ≡ q
place-path p q a b c = λ i. record { depth = a i; i = b i; j = c i }

pub same_refl : (p : Place) → T (same p p)
unfolding same
same_refl p = rw (yes-is (eqb p.depth p.depth) (eqb_refl p.depth), yes-is (eqb p.i p.i) (eqb_refl p.i)) (eqb_refl p.j)

pub same-is : (p q : Place) → T (same p q) → p ≡ q
unfolding same
same-is p q t =
    let t₁ = eqb p.depth q.depth in
    let t₂ = eqb p.i q.i in
    let t₃ = eqb p.j q.j in
    let u = and_right t₁ (t₂ && t₃) t in
    place-path p q (eqb→eq _ _ (and_left t₁ (t₂ && t₃) t)) (eqb→eq _ _ (and_left t₂ t₃ u)) (eqb→eq _ _ (and_right t₂ t₃ u))

pub is_same : (p q : Place) → p ≡ q → T (same p q)
is_same p q e = rw e (same_refl q)

-- ---- a place is in a list

pub in-cases : (q p : Place) (ps : List Place) → In q (p ∷ ps) → (q ≡ p) ⊎ In q ps
in-cases q p ps t = go (or_cases (same q p) (any (same q) ps) t)
  where
    go : T (same q p) ⊎ In q ps → (q ≡ p) ⊎ In q ps
    go (inl a) = inl (same-is q p a)
    go (inr a) = inr a

pub in-here : (q p : Place) (ps : List Place) → q ≡ p → In q (p ∷ ps)
in-here q p ps e = or_left (same q p) (any (same q) ps) (is_same q p e)

pub in-there : (q p : Place) (ps : List Place) → In q ps → In q (p ∷ ps)
in-there q p ps t = or_right (same q p) (any (same q) ps) t

pub in_one : (q p : Place) → In q (p ∷ []) → q ≡ p
in_one q p t = go (in-cases q p [] t)
  where
    go : (q ≡ p) ⊎ In q [] → q ≡ p
    go (inl e) = e
    go (inr a) = absurd a

module _ (f : Place → Bool) where
  pub any-in : (ps : List Place) → T (any f ps) → (q : Place) × In q ps × T (f q)
  any-in [] t = absurd t
  any-in (p ∷ ps) t = go (or_cases (f p) (any f ps) t) (any-in ps)
    where
      go : T (f p) ⊎ T (any f ps) → (T (any f ps) → (q : Place) × In q ps × T (f q)) → (q : Place) × In q (p ∷ ps) × T (f q)
      go (inl a) r = (p, in-here p p ps refl, a)
      go (inr a) r = let (q, i, h) = r a in (q, in-there q p ps i, h)

  pub in-any : (ps : List Place) (q : Place) → In q ps → T (f q) → T (any f ps)
  in-any [] q i t = absurd i
  in-any (p ∷ ps) q i t = go (in-cases q p ps i) (in-any ps q)
    where
      go : (q ≡ p) ⊎ In q ps → (In q ps → T (f q) → T (any f ps)) → T (any f (p ∷ ps))
      go (inl e) r = or_left (f p) (any f ps) (subst (λ (x : Place). T (f x)) e t)
      go (inr a) r = or_right (f p) (any f ps) (r a t)

  pub all_in : (ps : List Place) → T (all f ps) → (q : Place) → In q ps → T (f q)
  all_in [] t q i = absurd i
  all_in (p ∷ ps) t q i = go (in-cases q p ps i) (all_in ps (and_right (f p) (all f ps) t) q)
    where
      go : (q ≡ p) ⊎ In q ps → (In q ps → T (f q)) → T (f q)
      go (inl e) r = subst (λ (x : Place). T (f x)) (sym e) (and_left (f p) (all f ps) t)
      go (inr a) r = r a

  pub in_all : (ps : List Place) → ((q : Place) → In q ps → T (f q)) → T (all f ps)
  in_all [] h = tt
  in_all (p ∷ ps) h = and_both (f p) (all f ps) (h p (in-here p p ps refl)) (in_all ps (λ q i. h q (in-there q p ps i)))

-- ---- what may be missing

pub before-is : (n j : ℕ) → before n ≡ some j → n ≡ suc j
before-is zero j e = absurd (none-ne-some _ e)
before-is (suc n) j e = ap suc (some-injective _ _ e)

pub mapped : {A B : Type 0} (f : A → B) (q : B) (m : Option A) → map f m ≡ some q → (a : A) × (m ≡ some a) × (f a ≡ q)
mapped f q none e = absurd (none-ne-some _ e)
mapped f q (some a) e = (a, refl, some-injective _ _ e)

pub then_some : (f : Place → Option Place) (o : Option Place) (q : Place) → then f o ≡ some q → (m : Place) × (o ≡ some m) × (f m ≡ some q)
then_some f none q e = absurd (none-ne-some _ e)
then_some f (some m) q e = (m, refl, e)
