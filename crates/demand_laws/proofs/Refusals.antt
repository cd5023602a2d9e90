-- A refused call changes nothing and answers 0 for every number: each call's definition says so by its form.
-- Assumes nothing.
use Prim.Native.Nat.{ℕ, zero, suc, ◌≤◌}
use native.Mathlib.Omega.{arith}
use mathlib.Core.Path.{◌≡◌, refl, sym, ap, ◌∙◌}
use mathlib.Core.Logic.{◌≢◌}
use mathlib.Core.List.{List}
use lib.IntN.{ℤ}
use Rattle.mesh.specs.Place.{Grid}
use Rattle.mesh.specs.State.{blank}
use Rattle.mesh.specs.Refusal.{refusal}
use Rattle.mesh.specs.Tape.{run}
use Rattle.mesh.specs.Picture.{Lent}
use Rattle.mesh.specs.LeafCounts.{Counted, counted}
use Rattle.mesh.specs.Decode.{decode}
use Rattle.mesh.specs.Call.{check_call, unless, Built, build_call, Taped, tape_call, Wrote, scan_call, page_call, Found, lookup_call, Count, count_call}
use Rattle.demand_laws.proofs.Prefixes.{run-refused}

-- ---- what a call answers

module _ {A : Type 0} (f : ℕ → A) (x : A) where
  pub unless-accepted : (n : ℕ) → n ≡ 0 → unless n f x ≡ x
  unfolding unless
  unless-accepted n e = rw e

  pub unless-refused : (n : ℕ) → n ≢ 0 → unless n f x ≡ f n
  unfolding unless
  unless-refused zero h = absurd (h refl)
  unless-refused (suc n) h = refl

  -- where a refusal's answer names it, an answer that names none was accepted
  pub unless-why : (refusal : A → ℕ) → ((n : ℕ) → refusal (f n) ≡ n) → (n : ℕ) → refusal (unless n f x) ≡ 0 → n ≡ 0
  unfolding unless
  unless-why refusal names zero e = refl
  unless-why refusal names (suc n) e = sym (names (suc n)) ∙ e

  -- the answer names the refusal, where the other names none
  pub unless-names : (refusal : A → ℕ) → ((n : ℕ) → refusal (f n) ≡ n) → refusal x ≡ 0 → (n : ℕ) → refusal (unless n f x) ≡ n
  unfolding unless
  unless-names refusal names z zero = z
  unless-names refusal names z (suc n) = names (suc n)

  -- and one that names a refusal is that refusal's
  pub unless-named : (refusal : A → ℕ) → ((n : ℕ) → refusal (f n) ≡ n) → refusal x ≡ 0 → (n : ℕ) → refusal (unless n f x) ≢ 0 → unless n f x ≡ f (refusal (unless n f x))
  unfolding unless
  unless-named refusal names z zero h = absurd (h z)
  unless-named refusal names z (suc n) h = ap f (sym (names (suc n)))

-- ---- the calls, refused: nothing is written, and every number but the refusal's is 0

pub build-refused : (cap : ℕ) (l : Counted) (g : Grid) → (build_call cap l g).refusal ≢ 0 → build_call cap l g ≡ record { refusal = (build_call cap l g).refusal; in_use = 0; lent = l }
unfolding build_call
build-refused cap l g = unless-named _ _ (λ (r : Built). r.refusal) (λ n. refl) refl _

-- "for 1 to 3 count and offset 0": what refuses a request, 4 or above, is the tape's own
pub tape-refused : (cap : ℕ) (l : Counted) (bytes : List ℕ) → (tape_call cap l bytes).refusal ≢ 0 → (tape_call cap l bytes).refusal ≤ 3 → tape_call cap l bytes ≡ record { done = 0; refusal = (tape_call cap l bytes).refusal; offset = 0; lent = l }
unfolding tape_call unless
tape-refused cap l bytes = go (check_call cap l)
  where
    ran : Taped
    ran = let r = run (decode l.lent) bytes in record { done = r.done; refusal = r.refusal; offset = r.offset; lent = counted r.state }

    refused : ℕ → Taped
    refused n = record { done = 0; refusal = n; offset = 0; lent = l }

    go : (n : ℕ) → (unless n refused ran).refusal ≢ 0 → (unless n refused ran).refusal ≤ 3 → unless n refused ran ≡ refused (unless n refused ran).refusal
    go zero h a = absurd (omega (arith, run-refused (decode l.lent) bytes h))
    go (suc n) h a = refl

pub scan-refused : (cap : ℕ) (l : Lent) (n : ℕ) (o : List ℕ) (k : ℕ) (from to : ℤ) (out : List ℕ) → (scan_call cap l n o k from to out).refusal ≢ 0
    → scan_call cap l n o k from to out ≡ record { refusal = (scan_call cap l n o k from to out).refusal; count = 0; out = out }
unfolding scan_call
scan-refused cap l n o k from to out = unless-named _ _ (λ (r : Wrote). r.refusal) (λ n. refl) refl _

pub page-refused : (cap : ℕ) (l : Lent) (out : List ℕ) → (page_call cap l out).refusal ≢ 0 → page_call cap l out ≡ record { refusal = (page_call cap l out).refusal; count = 0; out = out }
unfolding page_call
page-refused cap l out = unless-named _ _ (λ (r : Wrote). r.refusal) (λ n. refl) refl _

-- "number 0 and blank"
pub lookup-refused-call : (cap : ℕ) (l : Lent) (u v : ℕ) → (lookup_call cap l u v).refusal ≢ 0 → lookup_call cap l u v ≡ record { refusal = (lookup_call cap l u v).refusal; leaf = 0; value = blank }
unfolding lookup_call
lookup-refused-call cap l u v = unless-named _ _ (λ (r : Found). r.refusal) (λ n. refl) refl _

pub count-refused : (c : List ℕ) (l k : ℕ) → (count_call c l k).refusal ≢ 0 → count_call c l k ≡ record { refusal = (count_call c l k).refusal; count = 0 }
unfolding count_call
count-refused c l k = unless-named _ _ (λ (r : Count). r.refusal) (λ n. refl) refl _
