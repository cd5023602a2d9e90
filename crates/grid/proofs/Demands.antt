-- Demands 1, 2 and 3 of the public calls: what any outcome that a call's contract allows must be.
-- Assumes nothing.
use Prim.Native.Nat.{ℕ, ◌≤◌}
use mathlib.Core.Path.{◌≡◌, refl, sym, ap, subst, ◌∙◌}
use mathlib.Core.Logic.{◌≢◌, ◌↔◌}
use mathlib.Core.Bool.{cond}
use mathlib.Core.List.{List, [], ◌∷◌}
use lib.Dec.{T}
use lib.ListN.{take}
use lib.IntN.{ℤ}
use Rattle.mesh.specs.Tools.{any}
use Rattle.mesh.specs.Picture.{Lent}
use Rattle.mesh.specs.LeafCounts.{Counted, counted, SoundCounts}
use Rattle.mesh.specs.Tape.{run}
use Rattle.mesh.specs.State.{blank}
use Rattle.mesh.specs.Valid.{Valid}
use Rattle.mesh.specs.Lookup.{tries, lookup}
use Rattle.mesh.specs.Build.{full, built}
use Rattle.mesh.specs.Call as Call
use Rattle.mesh.specs.Decode.{decode}
use Rattle.mesh.specs.Call.{Sizes, lent_refusal, check_call, build_call, tape_call, scan_call, lookup_call, page_call, count_call}
use Rattle.lookup.specs.declared.Leaf.{Leaf}
use Rattle.lookup.specs.LookupRows.{found_of, no_leaf, value_of_reading}
use Rattle.walk_laws.specs.Points.{total}
use Rattle.walk_laws.specs.Reach.{reaches}
use Rattle.picture_laws.proofs.Accepted.{lent-sizes, sound-capacity}
use Rattle.tally_laws.proofs.CountedChecks.{counted-lent, counted-sound, sound-counted, lent_of}
use Rattle.call_laws.proofs.Looked as calling
use Rattle.demand_laws.specs.Deeds.{deeds, after}
use Rattle.demand_laws.specs.Demand.{Demand3}
use Rattle.demand_laws.proofs.Refusals.{build-refused, tape-refused, scan-refused, lookup-refused-call, page-refused, count-refused}
use Rattle.demand_laws.proofs.Prefixes.{tape-prefix}
use Rattle.demand_laws.proofs.Answers.{among, of_tapes, check-answers, build-answers, tape-answers, scan-answers, lookup-answers, page-answers, count-answers}
use Rattle.demand_laws.proofs.PicturedCalls.{tape-checked, after_calls}
use Rattle.demand_laws.proofs.Demand as laws
use Rattle.std.specs.Prelude.{None, Result}
use Rattle.answer.specs.declared.Refusal.{Refusal}
use Rattle.answer.specs.Answered.{refusal_of, value_or, stop_of}
use Rattle.grid.specs.declared.Taped.{Taped}
use Rattle.answer.specs.OutputLists.{wrote_of}
use Rattle.grid.specs.Calls.{asked, Builds, Tapes, count_of}
use Rattle.grid.proofs.First.{ran_of, tape-ran}

-- ---- demand 1: "every call .. ends with an answer or a numbered refusal; a refused step changes nothing"

module _ (l : Counted) (cap : ℕ) where
  pub check-ends : (r : Result (Unit {0}) Refusal) → refusal_of r ≡ check_call cap l → T (among (0 ∷ 1 ∷ 2 ∷ 3 ∷ []) (refusal_of r))
  check-ends r e = subst (λ (n : ℕ). T (among (0 ∷ 1 ∷ 2 ∷ 3 ∷ []) n)) (sym e) (check-answers cap l)

  pub build_ends : (columns rows mode : ℕ) (l' : Counted) (r : Result ℕ Refusal) → Builds l cap columns rows mode l' r
      → T (among (0 ∷ 1 ∷ 2 ∷ 11 ∷ []) (refusal_of r)) × (refusal_of r ≢ 0 → (value_or 0 r ≡ 0) × (l' ≡ l))
  build_ends columns rows mode l' r b =
      let g = asked columns rows mode in
      let refusal : refusal_of r ≡ (build_call cap l g).refusal = ap (λ (x : Call.Built). x.refusal) b.is in (
        subst (λ (n : ℕ). T (among (0 ∷ 1 ∷ 2 ∷ 11 ∷ []) n)) (sym refusal) (build-answers cap l g),
        λ refused.
            let e = b.is ∙ build-refused cap l g (λ z. refused (refusal ∙ z)) in
            (ap (λ (x : Call.Built). x.in_use) e, ap (λ (x : Call.Built). x.lent) e),
      )

  -- "for 1 to 3 count and offset 0"
  pub tape-ends : (bytes : List ℕ) (l' : Counted) (r : Taped) → Tapes l cap bytes l' r
      → T (among of_tapes (stop_of r.refusal)) × (stop_of r.refusal ≢ 0 → stop_of r.refusal ≤ 3 → (r.done ≡ 0) × (r.offset ≡ 0) × (l' ≡ l))
  tape-ends bytes l' r b =
      let refusal : stop_of r.refusal ≡ (tape_call cap l bytes).refusal = ap (λ (x : Call.Taped). x.refusal) b.is in (
        subst (λ (n : ℕ). T (among of_tapes n)) (sym refusal) (tape-answers cap l bytes),
        λ refused few.
            let e = b.is ∙ tape-refused cap l bytes (λ z. refused (refusal ∙ z)) (subst (λ (n : ℕ). n ≤ 3) refusal few) in
            (ap (λ (x : Call.Taped). x.done) e, ap (λ (x : Call.Taped). x.offset) e, ap (λ (x : Call.Taped). x.lent) e),
      )

module _ (l : Lent) (cap : ℕ) where
  pub scan-ends : (n : ℕ) (o : List ℕ) (k : ℕ) (from to : ℤ) (out out' : List ℕ) (r : Result ℕ Refusal) → wrote_of r out' ≡ scan_call cap l n o k from to out
      → T (among (0 ∷ 1 ∷ 2 ∷ 3 ∷ 6 ∷ 17 ∷ 18 ∷ []) (refusal_of r)) × (refusal_of r ≢ 0 → (value_or 0 r ≡ 0) × (out' ≡ out))
  scan-ends n o k from to out out' r b =
      let refusal : refusal_of r ≡ (scan_call cap l n o k from to out).refusal = ap (λ (x : Call.Wrote). x.refusal) b in (
        subst (λ (m : ℕ). T (among (0 ∷ 1 ∷ 2 ∷ 3 ∷ 6 ∷ 17 ∷ 18 ∷ []) m)) (sym refusal) (scan-answers cap l n o k from to out),
        λ refused.
            let e = b ∙ scan-refused cap l n o k from to out (λ z. refused (refusal ∙ z)) in
            (ap (λ (x : Call.Wrote). x.count) e, ap (λ (x : Call.Wrote). x.out) e),
      )

  pub page-ends : (out out' : List ℕ) (r : Result ℕ Refusal) → wrote_of r out' ≡ page_call cap l out
      → T (among (0 ∷ 1 ∷ 2 ∷ 3 ∷ 18 ∷ []) (refusal_of r)) × (refusal_of r ≢ 0 → (value_or 0 r ≡ 0) × (out' ≡ out))
  page-ends out out' r b =
      let refusal : refusal_of r ≡ (page_call cap l out).refusal = ap (λ (x : Call.Wrote). x.refusal) b in (
        subst (λ (m : ℕ). T (among (0 ∷ 1 ∷ 2 ∷ 3 ∷ 18 ∷ []) m)) (sym refusal) (page-answers cap l out),
        λ refused.
            let e = b ∙ page-refused cap l out (λ z. refused (refusal ∙ z)) in
            (ap (λ (x : Call.Wrote). x.count) e, ap (λ (x : Call.Wrote). x.out) e),
      )

  -- "number 0 and blank"
  pub lookup-ends : (x y : ℕ) (r : Result Leaf Refusal) → found_of r ≡ lookup_call cap l x y
      → T (among (0 ∷ 1 ∷ 2 ∷ 3 ∷ 19 ∷ []) (refusal_of r)) × (refusal_of r ≢ 0 → ((value_or no_leaf r).number ≡ 0) × (value_of_reading (value_or no_leaf r).reading ≡ blank))
  lookup-ends x y r b =
      let refusal : refusal_of r ≡ (lookup_call cap l x y).refusal = ap (λ (z : Call.Found). z.refusal) b in (
        subst (λ (m : ℕ). T (among (0 ∷ 1 ∷ 2 ∷ 3 ∷ 19 ∷ []) m)) (sym refusal) (lookup-answers cap l x y),
        λ refused.
            let e = b ∙ lookup-refused-call cap l x y (λ z. refused (refusal ∙ z)) in
            (ap (λ (z : Call.Found). z.leaf) e, ap (λ (z : Call.Found). z.value) e),
      )

pub count-ends : (c : List ℕ) (l k : ℕ) (r : Result ℕ Refusal) → count_of r ≡ count_call c l k → T (among (0 ∷ 1 ∷ 23 ∷ []) (refusal_of r)) × (refusal_of r ≢ 0 → value_or 0 r ≡ 0)
count-ends c l k r b =
    let refusal : refusal_of r ≡ (count_call c l k).refusal = ap (λ (x : Call.Count). x.refusal) b in (
      subst (λ (m : ℕ). T (among (0 ∷ 1 ∷ 23 ∷ []) m)) (sym refusal) (count-answers c l k),
      λ refused. ap (λ (x : Call.Count). x.count) (b ∙ count-refused c l k (λ z. refused (refusal ∙ z))),
    )

-- "in a tape only the requests before the refused one have acted": the bytes before it, as a tape of their own, do the same and are not refused
pub tape-acts-before : (l : Counted) (cap : ℕ) (l' : Counted) (bytes : List ℕ) (r : Taped)
    → Tapes l cap bytes l' r → check_call cap l ≡ 0 → Tapes l cap (take r.offset bytes) l' (record { done = r.done; refusal = None; offset = r.offset })
tape-acts-before l cap l' bytes r b ok =
    let e = b.is ∙ tape-ran cap l ok bytes in
    let o : r.offset ≡ (run (decode l.lent) bytes).offset = ap (λ (x : Call.Taped). x.offset) e in
    let before = ap ran_of (ap (λ (n : ℕ). run (decode l.lent) (take n bytes)) o ∙ tape-prefix (decode l.lent) bytes) in
    record { is = ap (λ (x : Call.Taped). record { done = x.done; refusal = 0; offset = x.offset; lent = x.lent }) e ∙ sym (tape-ran cap l ok (take r.offset bytes) ∙ before) }

-- ---- demand 2: "the checker says yes to exactly the tables that picture a mesh", with their counts (02, No. 5)

pub demand-2 : (l : Counted) (cap : ℕ) (r : Result (Unit {0}) Refusal) → refusal_of r ≡ check_call cap l → (refusal_of r ≡ 0) ↔ (Sizes cap l.lent × SoundCounts l)
demand-2 l cap r e = (
  λ z. let y : check_call cap l ≡ 0 = sym e ∙ z in (lent-sizes cap l.lent (counted-lent cap l y), counted-sound cap l y),
  λ p. e ∙ sound-counted cap l p.0 p.1,
)

-- so a tape on a sound table, refused or not, leaves a sound one
pub tape-keeps-sound : (l : Counted) (cap : ℕ) (l' : Counted) (bytes : List ℕ) (r : Taped) → Tapes l cap bytes l' r → Sizes cap l.lent → SoundCounts l → Sizes cap l'.lent × SoundCounts l'
tape-keeps-sound l cap l' bytes r b z o =
    let s = o.state in
    let left : l' ≡ (tape_call cap (counted s) bytes).lent = ap (λ (x : Call.Taped). x.lent) b.is ∙ ap (λ (x : Counted). (tape_call cap x bytes).lent) o.is-counted in
    let ok : check_call cap l' ≡ 0 = ap (check_call cap) left ∙ tape-checked s o.valid cap (sound-capacity cap l.lent z (lent_of o)) bytes in
    (lent-sizes cap l'.lent (counted-lent cap l' ok), counted-sound cap l' ok)

-- ---- demand 3: "from any accepted build, over any tapes, refused requests among them"

-- tapes one after the other, each on what the one before left
pub data Served (cap : ℕ) : Counted → List (List ℕ) → Counted → Type 0 where
  none_more : {l : Counted} → Served cap l [] l
  one_more : {l l₁ l₂ : Counted} {bytes : List ℕ} {ts : List (List ℕ)} {r : Taped} → Tapes l cap bytes l₁ r → Served cap l₁ ts l₂ → Served cap l (bytes ∷ ts) l₂

served-calls : (cap : ℕ) {l l' : Counted} {ts : List (List ℕ)} → Served cap l ts l' → l' ≡ after_calls cap l ts
unfolding after_calls
served-calls cap none_more = refl
served-calls cap (one_more {ts = ts} b s) = served-calls cap s ∙ ap (λ (r : Call.Taped). after_calls cap r.lent ts) b.is

pub demand-3 : {l l₀ l' : Counted} (cap columns rows mode : ℕ) (r : Result ℕ Refusal) (ts : List (List ℕ))
    → Builds l cap columns rows mode l₀ r → refusal_of r ≡ 0 → Served cap l₀ ts l'
    → let s₀ = built (asked columns rows mode) cap in
    (l' ≡ counted (after s₀ ts)) × Demand3 (asked columns rows mode) (deeds s₀ ts) (after s₀ ts)
demand-3 {l} cap columns rows mode r ts b ok s =
    let g = asked columns rows mode in
    let (is, d) = laws.demand-3 cap l g (ap (λ (x : Call.Built). x.refusal) (sym b.is) ∙ ok) ts in
    (served-calls cap s ∙ ap (λ (x : Call.Built). after_calls cap x.lent ts) b.is ∙ is, d)

-- "accepted, a build returns the number in use": ghosts plus distinct corner points of the full rectangle, and nothing else
pub build-counts : {l l' : Counted} (cap columns rows mode : ℕ) (r : Result ℕ Refusal) → Builds l cap columns rows mode l' r → refusal_of r ≡ 0
    → value_or 0 r ≡ total (asked columns rows mode) (full (asked columns rows mode))
build-counts {l} cap columns rows mode r b ok =
    ap (λ (x : Call.Built). x.in_use) b.is ∙ laws.build-counts cap l (asked columns rows mode) (ap (λ (x : Call.Built). x.refusal) (sym b.is) ∙ ok)

-- ---- 02, No. 2: "the first leaf found is the answer, 19 if none"

-- on a table that the checker takes: the leaf that the tries find first, and 19 exactly where none of them reaches the area
pub lookup-finds : (l : Lent) (cap x y : ℕ) (r : Result Leaf Refusal) → found_of r ≡ lookup_call cap l x y → lent_refusal cap l ≡ 0
    → let s = decode l in Valid s × ((value_or no_leaf r).number ≡ lookup s x y) × (refusal_of r ≡ cond (any (reaches s x y) tries) 0 19)
lookup-finds l cap x y r e ok =
    let (valid, leaf, refusal) = calling.lookup-finds x y cap l ok in
    (valid, ap (λ (z : Call.Found). z.leaf) e ∙ leaf, ap (λ (z : Call.Found). z.refusal) e ∙ refusal)
