-- What the checker asks, against what every call asks of what it is lent: the list of counts has its length, and agrees with the table. So it says yes
-- to exactly what is the picture of a state with its counts.
-- Assumes nothing.
use Prim.Native.Nat.{ℕ, zero, suc}
use native.Mathlib.Omega.{arith}
use mathlib.Core.Path.{◌≡◌, refl, sym, ap, ◌∙◌}
use mathlib.Core.Logic.{◌≢◌}
use mathlib.Core.Bool.{Bool, true, false, not, cond}
use mathlib.Core.List.{List}
use lib.Dec.{T, eqb, eqb→eq}
use lib.ListN.{length, get_or}
use borrow.Author.Tests.{eq-eqb, ne_eqb, not-false, eqb-true}
use Rattle.mesh.specs.Tools.{same_list}
use Rattle.mesh.specs.State.{State, capacity}
use Rattle.mesh.specs.Valid.{Valid}
use Rattle.mesh.specs.Picture.{Sound}
use Rattle.mesh.specs.Decode.{decode}
use Rattle.mesh.specs.LeafCounts.{count_places, leaf_counts, Counted, counted, SoundCounts}
use Rattle.mesh.specs.Test.{sound}
use Rattle.mesh.specs.Refusal.{refusal}
use Rattle.mesh.specs.Call.{missized, misfit, Sizes, lent_checks, lent_refusal, counted_checks, check_call}
use Rattle.place_laws.proofs.Bools.{is-yes, yes-is, cond_same}
use Rattle.picture_laws.proofs.Decoding.{decode-back}
use Rattle.picture_laws.proofs.Equal.{list-is, list-refl}
use Rattle.picture_laws.proofs.Accepted.{lent-sound, sound-accepted, picture-sizes}
use Rattle.number_laws.proofs.Checks.{passes}
use Rattle.tally_laws.proofs.Listed.{counts-length}

-- ---- lists of counts

pub same-is : (a b : List ℕ) → T (same_list eqb a b) → a ≡ b
same-is a b = list-is eqb eqb→eq a b

pub is_same : (a b : List ℕ) → a ≡ b → same_list eqb a b ≡ true
is_same a b e = rw e (yes-is (same_list eqb b b) (list-refl eqb 0 b (λ k. is-yes (eqb (get_or b k 0) (get_or b k 0)) (eq-eqb (get_or b k 0) (get_or b k 0) refl))))

module _ (cap : ℕ) (l : Counted) where
  -- ---- the list's length comes with 1

  pub miscounted : length l.counts ≢ count_places → 1 ≡ check_call cap l
  unfolding check_call counted_checks refusal
  miscounted h = rw (ne_eqb (length l.counts) count_places h) (sym (cond_same {A = ℕ} (missized cap l.lent) 1))

  -- ---- then what every call asks, and then whether the list agrees

  abbrev agrees : Bool
  agrees = same_list eqb l.counts (leaf_counts (decode l.lent))

  module _ (long : length l.counts ≡ count_places) where
    pub by-lent : check_call cap l ≡ cond (eqb (lent_refusal cap l.lent) 0) (cond agrees 0 3) (lent_refusal cap l.lent)
    unfolding check_call counted_checks lent_refusal lent_checks refusal
    by-lent = rw (eq-eqb (length l.counts) count_places long) (go (missized cap l.lent) (misfit l.lent.header.grid) (sound l.lent) agrees)
      where
        go : (a b c e : Bool) → cond {A = ℕ} a 1 (cond b 2 (cond (not c) 3 (cond (not e) 3 0)))
            ≡ cond (eqb (cond {A = ℕ} a 1 (cond b 2 (cond (not c) 3 0))) 0) (cond e 0 3) (cond {A = ℕ} a 1 (cond b 2 (cond (not c) 3 0)))
        go true b c e = refl
        go false true c e = refl
        go false false false e = refl
        go false false true true = refl
        go false false true false = refl

    pub lent-refused : {r : ℕ} → r ≡ lent_refusal cap l.lent → r ≢ 0 → r ≡ check_call cap l
    lent-refused {r} e h = sym (rw (by-lent, ← e, ne_eqb r 0 h))

    pub lent-passed : lent_refusal cap l.lent ≡ 0 → check_call cap l ≡ cond agrees 0 3
    lent-passed e = by-lent ∙ rw e

  -- ---- yes

  module _ (ok : check_call cap l ≡ 0) where
    long : length l.counts ≡ count_places
    unfolding check_call counted_checks
    long =
        let (_, h₁) = passes 1 _ _ (λ z. omega arith) ok in
        let (b, _) = passes 1 _ _ (λ z. omega arith) h₁ in
        eqb-true (length l.counts) count_places (not-false (eqb (length l.counts) count_places) b)

    passed : (eqb (lent_refusal cap l.lent) 0 ≡ true) × (agrees ≡ true)
    passed = go (lent_refusal cap l.lent) agrees (sym (by-lent long) ∙ ok)
      where
        go : (n : ℕ) (b : Bool) → cond (eqb n 0) (cond b 0 3) n ≡ 0 → (eqb n 0 ≡ true) × (b ≡ true)
        go zero true e = (refl, refl)
        go zero false e = let z : ◌≡◌ {A = ℕ} 3 0 = e in absurd (omega arith)
        go (suc n) b e = let z : suc n ≡ 0 = rw (ne_eqb (suc n) 0 (λ x. omega arith)) at e in absurd (omega arith)

    pub counted-lent : lent_refusal cap l.lent ≡ 0
    counted-lent = eqb-true (lent_refusal cap l.lent) 0 passed.0

    pub counts-agree : l.counts ≡ leaf_counts (decode l.lent)
    counts-agree = same-is l.counts (leaf_counts (decode l.lent)) (is-yes agrees passed.1)

    pub counted-sound : SoundCounts l
    counted-sound =
        let o = lent-sound cap l.lent counted-lent in
        let same : decode l.lent ≡ o.state = ap decode o.is-picture ∙ decode-back o.state o.valid in
        let counts : l.counts ≡ leaf_counts o.state = counts-agree ∙ ap leaf_counts same in
        record { state = o.state; valid = o.valid; is-counted = λ i. record { lent = o.is-picture i; counts = counts i } }

-- ---- what pictures a state, with its counts

abbrev pub lent_of : {l : Counted} → SoundCounts l → Sound l.lent
lent_of o = record { state = o.state; valid = o.valid; is-picture = ap (λ (x : Counted). x.lent) o.is-counted }

pub sound-counted : (cap : ℕ) (l : Counted) → Sizes cap l.lent → SoundCounts l → check_call cap l ≡ 0
sound-counted cap l z o =
    let counts : l.counts ≡ leaf_counts o.state = ap (λ (x : Counted). x.counts) o.is-counted in
    let same : decode l.lent ≡ o.state = ap (λ (x : Counted). decode x.lent) o.is-counted ∙ decode-back o.state o.valid in
    lent-passed cap l (ap length counts ∙ counts-length o.state) (sound-accepted cap l.lent z (lent_of o))
    ∙ ap (λ (b : Bool). cond b 0 3) (is_same l.counts (leaf_counts (decode l.lent)) (counts ∙ ap leaf_counts (sym same)))

pub counted-accepted : (s : State) → Valid s → check_call (capacity s) (counted s) ≡ 0
counted-accepted s v = sound-counted (capacity s) (counted s) (picture-sizes s v) (record { state = s; valid = v; is-counted = refl })
