-- A build: refused, nothing changes; accepted, what is lent is the picture of the built state, with its counts.
-- Assumes nothing.
use Prim.Native.Nat.{ℕ, ◌*◌, ◌≤◌, ◌<◌}
use native.Mathlib.Omega.{arith}
use native.Mathlib.Nat.{mul-le-mul}
use mathlib.Core.Path.{◌≡◌, sym, ap, ◌∙◌, subst}
use mathlib.Core.Logic.{◌≢◌}
use mathlib.Core.List.{List, [], ◌∷◌}
use lib.Dec.{eqb, ltb}
use lib.ListN.{length}
use lib.IntN.{ℤ}
use lib.Ieee.{Float}
use borrow.Author.Tests.{lt-ltb, le-ltb, eq-eqb, ne_eqb, eqb-true, not-false}
use Rattle.mesh.specs.Place.{Grid}
use Rattle.mesh.specs.State as State
use Rattle.mesh.specs.LeafCounts.{count_places, leaf_counts, Counted, counted}
use Rattle.mesh.specs.Refusal.{Check, ◌if◌, refusal}
use Rattle.mesh.specs.Build.{numbered, built}
use Rattle.mesh.specs.Call.{missized, Sizes, no1, no2, Rectangle, build_checks, build_call}
use Rattle.header.specs.Headers.{header_of, lent_of, counted_of, fresh_header}
use Rattle.header.specs.declared.Header.{Header}
use Rattle.checker.proofs.Checking.{both-pass}
use Rattle.build.specs.BuildSteps.{Made}
use Rattle.tally.specs.TallyRows.{built_counts}
use Rattle.tally.proofs.BuiltCounts.{built-listed}
use Rattle.demand_laws.proofs.Refusals.{unless-accepted, unless-refused}
use Rattle.place_laws.proofs.Bools.{cond_same}
use Rattle.place_laws.proofs.Ranges.{fits-sizes}
use Rattle.number_laws.proofs.Checks.{passes}
use Rattle.demand_laws.proofs.PicturedCalls.{Buildable, build-checked}
use Rattle.std.specs.Prelude.{Ok, Err}
use Rattle.answer.specs.declared.Refusal.{Refusal}
use Rattle.answer.specs.Answered.{number}
use Rattle.answer.proofs.RefusalNumbers.{not-zero}
use Rattle.grid.specs.Calls.{built_of, asked, Builds}

-- ---- the refusal

-- the list's length comes with 1
pub miscounted : (cap : ℕ) (l : Counted) (g : Grid) → length l.counts ≢ count_places → 1 ≡ refusal (build_checks cap l g)
unfolding build_checks refusal
miscounted cap l g h = rw (ne_eqb (length l.counts) count_places h) (sym (cond_same {A = ℕ} (missized cap l.lent) 1))

module _ (cap : ℕ) (l : Counted) (g : Grid) (long : length l.counts ≡ count_places) where
  past-length : refusal (build_checks cap l g) ≡ refusal (no1 cap l.lent ∷ no2 g ∷ (11 if ltb cap (length (numbered g))) ∷ [])
  unfolding build_checks refusal
  past-length = rw (eq-eqb (length l.counts) count_places long)

  pub early : {r : ℕ} → ((cs : List Check) → r ≡ refusal (no1 cap l.lent ∷ no2 g ∷ cs)) → r ≡ refusal (build_checks cap l g)
  early e = e _ ∙ sym past-length

module _ (cap : ℕ) (l : Counted) (g : Grid) (long : length l.counts ≡ count_places) (z : Sizes cap l.lent) (r : Rectangle g) where
  pub too_few : cap < length (numbered g) → 11 ≡ refusal (build_checks cap l g)
  unfolding refusal
  too_few h =
      let e : refusal ((11 if ltb cap (length (numbered g))) ∷ []) ≡ 11 = rw (lt-ltb cap (length (numbered g)) h) in
      sym (past-length cap l g long ∙ both-pass cap l.lent g ((11 if ltb cap (length (numbered g))) ∷ []) z r ∙ e)

  pub enough : length (numbered g) ≤ cap → 0 ≡ refusal (build_checks cap l g)
  unfolding refusal
  enough h =
      let e : refusal ((11 if ltb cap (length (numbered g))) ∷ []) ≡ 0 = rw (le-ltb cap (length (numbered g)) h) in
      sym (past-length cap l g long ∙ both-pass cap l.lent g ((11 if ltb cap (length (numbered g))) ∷ []) z r ∙ e)

-- ---- the call

-- the lent header is not read: it is refused as with the new one
module _ (l : Counted) (cap columns rows mode : ℕ) {new : Header} (New-is : new ≡ fresh_header columns rows mode) (n : ℕ)
    (is : n ≡ refusal (build_checks cap (counted_of new l.lent.words l.lent.values l.counts) (header_of new).grid)) where
  grid-is : (header_of new).grid ≡ asked columns rows mode
  grid-is = ap (λ (x : Header). (header_of x).grid) New-is

  any-header : n ≡ refusal (build_checks cap l (header_of new).grid)
  unfolding build_checks
  any-header = is

  checked : n ≡ refusal (build_checks cap l (asked columns rows mode))
  checked = any-header ∙ ap (λ (g : Grid). refusal (build_checks cap l g)) grid-is

  pub build-refused : (r : Refusal) → n ≡ number r → Builds l cap columns rows mode l (Err r)
  unfolding build_call
  build-refused r e = record { is = sym (rw (sym (sym e ∙ checked)) (unless-refused _ _ (number r) (not-zero r))) }

  module _ (none : n ≡ 0) where
    pub sized : Sizes cap l.lent
    unfolding build_checks
    sized = let (a, _) = passes 1 _ _ (λ z. omega arith) (sym is ∙ none) in fits-sizes cap l.lent a

    pub long-counts : length l.counts ≡ count_places
    unfolding build_checks
    long-counts =
        let (_, h) = passes 1 _ _ (λ z. omega arith) (sym is ∙ none) in
        let (b, _) = passes 1 _ _ (λ z. omega arith) h in
        eqb-true (length l.counts) count_places (not-false (eqb (length l.counts) count_places) b)

    pub buildable : Buildable cap (header_of new).grid
    buildable = build-checked cap l (header_of new).grid (sym any-header ∙ none)

    -- 32 times 32 at most
    pub few-cells : columns * rows < 4294967296
    few-cells = let (_, a, _, b, _, _) = subst Rectangle grid-is buildable.rectangle in omega (arith, mul-le-mul {n₁ = columns} {m₁ = rows} {n₂ = 32} {m₂ = 32} a b)

    pub build-made : (t : List ℤ) (v : List Float) (c : List ℕ) (k : ℕ) → Made cap (lent_of new t v) k → c ≡ built_counts (columns * rows) → Builds l cap columns rows mode (counted_of new t v c) (Ok k)
    unfolding build_call built
    build-made t v c k m e = record { is = made ∙ sym (unless-accepted _ _ _ (sym checked ∙ none)) }
      where
        counts : c ≡ leaf_counts (built (asked columns rows mode) cap)
        counts = e ∙ built-listed (asked columns rows mode) (subst Rectangle grid-is buildable.rectangle) cap

        its : Made cap (lent_of (fresh_header columns rows mode) t v) k
        its = subst (λ (h : Header). Made cap (lent_of h t v) k) New-is m

        made : built_of (Ok k) (counted_of new t v c) ≡ record { refusal = 0; in_use = State.in_use (built (asked columns rows mode) cap).entries; lent = counted (built (asked columns rows mode) cap) }
        made = λ i. record { refusal = 0; in_use = its.in-use-is i; lent = record { lent = record { header = header_of (New-is i); words = its.words_are i; values = its.values-are i }; counts = counts i } }
