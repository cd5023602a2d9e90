-- A permutation of the words 1 to 4 names each kid once: it names all four, the four are different places, and there are only four names.
-- Assumes nothing.
use Prim.Native.Nat.{ℕ, zero, suc, ◌+◌, ◌*◌, ◌%◌, ◌≤◌, ◌<◌}
use native.Mathlib.Omega.{arith}
use mathlib.Core.Path.{◌≡◌, refl, sym, ap, ◌∙◌, subst}
use mathlib.Core.Bool.{Bool, true, false, ◌&&◌, cond}
use mathlib.Core.List.{List, [], ◌∷◌, map}
use lib.Dec.{T, eqb, eqb→eq, eqb_refl}
use lib.ListN.{length, length-map}
use Rattle.mesh.specs.Tools.{any, count}
use Rattle.mesh.specs.Place.{Place, Wind, NE, SE, SW, NW, same, kid, kids}
use Rattle.mesh.specs.Scan.{wind_of, permutation}
use Rattle.place_laws.proofs.Bools.{yes-is, is-yes, and_left, and_right}
use Rattle.place_laws.proofs.Lists.{at_every, any-map, any-weaken}
use Rattle.place_laws.proofs.Places.{same-is, same_refl}
use Rattle.place_laws.proofs.Counting.{count-some}
use Rattle.place_laws.proofs.Kids.{all-kids, turn, turn_of, turn-kid}
use Rattle.walk_laws.proofs.Walks.{Order}

-- ---- the four kids are different places

turn-of : (w : Wind) (p x : Place) → cond (same (kid w p) x) 1 0 ≤ cond (eqb (turn w) (turn_of x)) 1 0
turn-of w p x = go (same (kid w p) x) refl
  where
    go : (t : Bool) → same (kid w p) x ≡ t → cond t 1 0 ≤ cond (eqb (turn w) (turn_of x)) 1 0
    go true e =
        let d : turn w ≡ turn_of x = sym (turn-kid w p) ∙ ap turn_of (same-is (kid w p) x (is-yes (same (kid w p) x) e)) in
        rw (d, yes-is (eqb (turn_of x) (turn_of x)) (eqb_refl (turn_of x))) (omega arith)
    go false e = omega arith

turn-le : (x : Place) → turn_of x ≤ 3
unfolding turn_of
turn-le x = let h : 2 * (x.i % 2) + x.j % 2 ≤ 3 = omega arith in h

one-turn : (d : ℕ) → d ≤ 3 → cond (eqb 3 d) 1 0 + cond (eqb 2 d) 1 0 + cond (eqb 0 d) 1 0 + cond (eqb 1 d) 1 0 ≤ 1
one-turn zero h = omega arith
one-turn (suc zero) h = omega arith
one-turn (suc (suc zero)) h = omega arith
one-turn (suc (suc (suc zero))) h = omega arith
one-turn (suc (suc (suc (suc d)))) h = absurd (omega arith)

-- so no more of a list are kids than it is long
four-kids : (p : Place) (xs : List Place) → count (same (kid NE p)) xs + count (same (kid SE p)) xs + count (same (kid SW p)) xs + count (same (kid NW p)) xs ≤ length xs
four-kids p [] = omega arith
four-kids p (x ∷ xs) =
    omega (arith, four-kids p xs, one-turn (turn_of x) (turn-le x), turn-of NE p x, turn-of SE p x, turn-of SW p x, turn-of NW p x)

-- ---- permutations

pub permutation-order : (o : List ℕ) → T (permutation o) → Order (map wind_of o)
unfolding kids
permutation-order o t p r h = eqb→eq _ 1 (all-kids (λ q. eqb (count (same q) named) 1) p (at_every tests (rw ones.0 tt, (rw ones.1 tt, (rw ones.2 tt, (rw ones.3 tt, tt))))) r h)
  where
    named : List Place
    named = map (λ w. kid w p) (map wind_of o)

    tests : List Bool
    tests = map (λ w. eqb (count (same (kid w p)) named) 1) (NE ∷ SE ∷ SW ∷ NW ∷ [])

    names : (j : ℕ) → T (any (eqb j) o) → 0 < count (same (kid (wind_of j) p)) named
    names j u =
        count-some (same (kid (wind_of j) p)) named
        (rw (any-map (same (kid (wind_of j) p)) (λ w. kid w p) (map wind_of o), any-map (λ w. same (kid (wind_of j) p) (kid w p)) wind_of o)
        (any-weaken (eqb j) (λ x. same (kid (wind_of j) p) (kid (wind_of x) p)) (λ x e. subst (λ (y : ℕ). T (same (kid (wind_of j) p) (kid (wind_of y) p))) (eqb→eq j x e) (same_refl (kid (wind_of j) p))) o u))

    ones : (count (same (kid NE p)) named ≡ 1) × (count (same (kid SE p)) named ≡ 1) × (count (same (kid SW p)) named ≡ 1) × (count (same (kid NW p)) named ≡ 1)
    ones =
        let a = any (eqb 1) o in
        let b = any (eqb 2) o in
        let c = any (eqb 3) o in
        let d = any (eqb 4) o in
        let t₁ = and_right (eqb (length o) 4) (a && (b && (c && d))) t in
        let t₂ = and_right a (b && (c && d)) t₁ in
        let t₃ = and_right b (c && d) t₂ in
        let l : length named ≡ 4 = length-map (map wind_of o) (λ w. kid w p) ∙ length-map o wind_of ∙ eqb→eq (length o) 4 (and_left (eqb (length o) 4) (a && (b && (c && d))) t) in
        let n₁ = names 1 (and_left a (b && (c && d)) t₁) in
        let n₂ = names 2 (and_left b (c && d) t₂) in
        let n₃ = names 3 (and_left c d t₃) in
        let n₄ = names 4 (and_right c d t₃) in
        let f = four-kids p named in
        (omega arith, omega arith, omega arith, omega arith)
