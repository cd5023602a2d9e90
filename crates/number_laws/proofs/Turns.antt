-- New patches take their numbers in turn: a patch takes the smallest number that the patches before it left free, and keeps it.
-- Assumes nothing.
use Prim.Native.Nat.{◌≤◌, ◌<◌}
use native.Mathlib.Omega.{arith}
use mathlib.Core.Path.{◌≡◌, refl, sym, ◌∙◌}
use mathlib.Core.List.{List, [], ◌∷◌, ◌++◌}
use borrow.Author.Tests.{eq-eqb}
use Rattle.number_laws.specs.Numbered.{Numbered}
use Rattle.mesh.specs.Place.{Place, In, Distinct}
use Rattle.mesh.specs.State.{State, number, free_count, next_free}
use Rattle.mesh.specs.Request.{supply, give}
use Rattle.place_laws.proofs.Places.{in-here, in_one}
use Rattle.place_laws.proofs.Distinct.{append-distinct}
use Rattle.number_laws.proofs.Giving.{Next, next-free, lacking, lacking-append, lacking-after, gave, supply-gave, supply-number, kept-number}

-- one place after the other
pub give-append : (xs ys : List Place) (s : State) → give s (xs ++ ys) ≡ give (give s xs) ys
unfolding give
give-append [] ys s = refl
give-append (x ∷ xs) ys s = give-append xs ys (supply s x)

-- the first of several places
give-first : (q : Place) (ys : List Place) → Distinct (q ∷ ys) → (s : State) → Numbered s.entries → lacking s.entries (q ∷ ys) ≤ free_count s.entries → number s.entries q ≡ 0 → Next s × (number (give s (q ∷ ys)).entries q ≡ next_free s)
unfolding give
give-first q ys d s u l z =
    let one : lacking s.entries (q ∷ []) ≡ 1 = rw (eq-eqb (number s.entries q) 0 z) in
    let sum = lacking-append s.entries (q ∷ []) ys in
    let c : 0 < free_count s.entries = omega arith in
    let next = next-free s u.zeroth c in
    let e : number (supply s q).entries q ≡ next_free s = supply-number s u q z c in
    let first = supply-gave s u q (omega arith) in
    let apart : (r : Place) → In r (q ∷ []) → In r ys → ⊥ = λ r i j. d.0 (rw (in_one r q i) at j) in
    let rest = gave ys d.1 (supply s q) first.numbered (omega (arith, lacking-after (q ∷ []) ys first apart, first.free-fewer)) in
    (next, kept-number rest q (λ y. next.not-nil (sym e ∙ y)) ∙ e)

-- "each new patch takes the smallest free number": q at its turn, when the places before it have theirs
pub give-turn : (xs ys : List Place) (q : Place) → Distinct (xs ++ q ∷ ys) → (s : State) → Numbered s.entries → lacking s.entries (xs ++ q ∷ ys) ≤ free_count s.entries → number s.entries q ≡ 0
    → Next (give s xs) × (number (give s (xs ++ q ∷ ys)).entries q ≡ next_free (give s xs))
give-turn xs ys q d s u l z =
    let (a, b, h) = append-distinct xs (q ∷ ys) d in
    let sum = lacking-append s.entries xs (q ∷ ys) in
    let before = gave xs a s u (omega arith) in
    rw (give-append xs (q ∷ ys) s)
    (give-first q ys b (give s xs) before.numbered (omega (arith, lacking-after xs (q ∷ ys) before h, before.free-fewer)) (before.elsewhere q (λ i. h q i (in-here q q ys refl)) ∙ z))
