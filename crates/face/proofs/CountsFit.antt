-- The counts of a build and of a scan fit 32 bits: neither is more than the numbers of a table.
-- Assumes nothing.
use Prim.Native.Nat.{ℕ, zero, suc, ◌≤◌, ◌<◌, ◌^◌}
use native.Mathlib.Omega.{arith}
use mathlib.Core.Path.{◌≡◌, refl, sym, ap, ◌∙◌}
use mathlib.Core.Logic.{◌≢◌}
use mathlib.Core.Bool.{not}
use mathlib.Core.List.{List, ◌++◌}
use lib.Dec.{T}
use lib.ListN.{length}
use lib.IntN.{ℤ}
use borrow.Author.Tests.{not-false}
use Rattle.mesh.specs.Place.{Grid}
use Rattle.mesh.specs.State.{State, is_used, entry}
use Rattle.mesh.specs.Valid.{Valid}
use Rattle.mesh.specs.Refusal.{Check, refusal}
use Rattle.mesh.specs.Scan.{permutation, scan, scan_checks}
use Rattle.mesh.specs.Picture.{Lent}
use Rattle.mesh.specs.LeafCounts.{Counted}
use Rattle.mesh.specs.Decode.{decode}
use Rattle.mesh.specs.Call.{lent_checks, lent_refusal, unless, Built, build_call, Wrote, scan_call}
use Rattle.place_laws.proofs.Bools.{is-yes, neither}
use Rattle.number_laws.proofs.Checks.{passes, kept}
use Rattle.number_laws.proofs.Building.{built-in-use}
use Rattle.picture_laws.proofs.Soundness.{sound-state, sound-valid}
use Rattle.picture_laws.proofs.Accepted.{lent-sizes, lent-sound, sound-capacity}
use Rattle.walk_laws.proofs.Few.{scan-few}
use Rattle.call_laws.proofs.Called.{checks-after}
use Rattle.demand_laws.proofs.PicturedCalls.{build-checked}

-- what holds of a refusal and of an answer holds of the call
bounded : {A : Type 0} (f : A → ℕ) (m r : ℕ) (refused : ℕ → A) (done : A) → ((n : ℕ) → f (refused n) ≤ m) → (r ≡ 0 → f done ≤ m) → f (unless r refused done) ≤ m
unfolding unless
bounded f m zero refused done h g = g refl
bounded f m (suc n) refused done h g = h (suc n)

-- checks that all pass: the first ones do
firsts : (cs ds : List Check) → refusal (cs ++ ds) ≡ 0 → refusal cs ≡ 0
firsts cs ds ok = go (refusal cs) refl
  where
    go : (r : ℕ) → refusal cs ≡ r → refusal cs ≡ 0
    go zero e = e
    go (suc n) e = let h : refusal cs ≢ 0 = λ z. omega (arith, e, z) in sym (kept cs ds h) ∙ ok

module _ (cap : ℕ) (l : Counted) where
  build-count : (g : Grid) → (build_call cap l g).in_use ≤ 4095
  unfolding build_call
  build-count g = bounded (λ (b : Built). b.in_use) 4095 _ _ _ (λ n. omega arith) (λ ok. let b = build-checked cap l g ok in omega (arith, b.room, b.sizes.1, built-in-use g cap))

  pub build-fits : (g : Grid) (b : Built) → b ≡ build_call cap l g → b.in_use < 2 ^ 32
  build-fits g b e = omega (arith, build-count g, ap (λ (x : Built). x.in_use) e)

module _ (cap : ℕ) (l : Lent) where
  -- the state that is lent, where the first checks pass
  module _ (ok : lent_refusal cap l ≡ 0) where
    lent-valid : Valid (decode l)
    lent-valid = sound-valid (lent-sound cap l ok)

    lent-few : length (decode l).entries ≤ 4096
    lent-few =
        let o = lent-sound cap l ok in
        let z = lent-sizes cap l ok in
        omega (arith, sound-capacity cap l z o, z.high, ap (λ (s : State). length s.entries) (sound-state o))

    listed-few : (n : ℕ) (o : List ℕ) (k : ℕ) (from to : ℤ) (room : ℕ) → refusal (scan_checks (decode l) room n o k from to) ≡ 0 → length (scan (decode l) n o k from to) ≤ 4096
    unfolding scan_checks
    listed-few n o k from to room h =
        let s = decode l in
        let (a, h₁) = passes 6 _ _ (λ z. omega arith) h in
        let (b, _) = passes 17 _ _ (λ z. omega arith) h₁ in
        let (p, _) = neither (not (permutation o)) _ b in
        let used : T (is_used (entry s.entries n)) = is-yes (is_used (entry s.entries n)) (not-false _ a) in
        omega (arith, lent-few, scan-few s lent-valid n o k from to used (is-yes (permutation o) (not-false _ p)))

  scan-count : (n : ℕ) (o : List ℕ) (k : ℕ) (from to : ℤ) (out : List ℕ) → (scan_call cap l n o k from to out).count ≤ 4096
  unfolding scan_call lent_refusal
  scan-count n o k from to out =
      bounded (λ (w : Wrote). w.count) 4096 _ _ _ (λ n. omega arith) (λ ok.
      let first = firsts (lent_checks cap l) _ ok in
      listed-few first n o k from to (length out) (sym (checks-after cap l first _) ∙ ok))

  pub scan-fits : (n : ℕ) (o : List ℕ) (k : ℕ) (from to : ℤ) (out : List ℕ) (w : Wrote) → w ≡ scan_call cap l n o k from to out → w.count < 2 ^ 32
  scan-fits n o k from to out w e = omega (arith, scan-count n o k from to out, ap (λ (x : Wrote). x.count) e)
