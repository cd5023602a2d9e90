-- "Each public call's statement leaves one possible answer and one possible content of every lent list": whatever meets a call's contract twice, on
-- the same that was lent, answers the same and leaves the same.
-- Assumes nothing.
use Prim.Native.Nat.{ℕ}
use mathlib.Core.Path.{◌≡◌, refl, sym, ap, ◌∙◌}
use mathlib.Core.List.{List}
use lib.IntN.{ℤ}
use lib.Ieee.{Float}
use Rattle.mesh.specs.State.{Value, blank, measured, carried}
use Rattle.mesh.specs.LeafCounts.{Counted}
use Rattle.mesh.specs.Call as Call
use Rattle.header.specs.Headers.{counted_of}
use Rattle.header.specs.declared.Header.{Header}
use Rattle.lookup.specs.declared.Leaf.{Leaf}
use Rattle.lookup.specs.declared.Reading.{Reading}
use Rattle.lookup.specs.declared.Reading.TheVariants.{Measured, Carried, Blank}
use Rattle.lookup.specs.LookupRows.{value_of_reading, no_leaf, found_of}
use Rattle.std.specs.Prelude.{Result}
use Rattle.answer.specs.declared.Refusal.{Refusal}
use Rattle.answer.specs.Answered.{value_or}
use Rattle.answer.proofs.RefusalNumbers.{same-answer, same-check, same-stop}
use Rattle.grid.specs.declared.Taped.{Taped}
use Rattle.grid.specs.declared.BuildOut.{BuildOut}
use Rattle.grid.specs.declared.TapeOut.{TapeOut}
use base.Logic.{ent}
use contract.Lifetimes.{Lfts}
use contract.Monad.{fact, fact_i, fact_use}
use denote.Ref.{Bor, MutBor, at_last}
use denote.Triple.Spec.{exits}
use borrow.Fn.World.{World, Pr}
use Rattle.grid.proofs.check.Reads as check
use Rattle.grid.proofs.count.Reads as count
use Rattle.grid.proofs.lookup.Reads as lookup
use Rattle.grid.proofs.scan.Reads as scan
use Rattle.grid.proofs.page.Reads as page
use Rattle.grid.proofs.build_core.Reads as build-core
use Rattle.grid.proofs.tape_core.Reads as tape-core
use Rattle.grid.specs.contracts.build as build
use Rattle.grid.specs.contracts.tape as tape
use Rattle.answer.specs.OutputLists.{wrote_of}
use Rattle.grid.specs.Calls.{Builds, Tapes, count_of}

-- ---- what is lent

-- it is the same only if each part of it is
pub counted_same : (h h' : Header) (t t' : List ℤ) (v v' : List Float) (c c' : List ℕ) → counted_of h t v c ≡ counted_of h' t' v' c' → (h ≡ h') × (t ≡ t') × (v ≡ v') × (c ≡ c')
counted_same h h' t t' v v' c c' e =
    let x : h ≡ h' = λ i. record { columns = (e i).lent.header.grid.columns; rows = (e i).lent.header.grid.rows; mode = (e i).lent.header.grid.mode; mark = (e i).lent.header.mark } in
    (x, (λ i. (e i).lent.words), (λ i. (e i).lent.values), λ i. (e i).counts)

-- ---- scan and page

pub wrote-unique : (r s : Result ℕ Refusal) (out out' : List ℕ) {w : Call.Wrote} → wrote_of r out ≡ w → wrote_of s out' ≡ w → (r ≡ s) × (out ≡ out')
wrote-unique r s out out' a b =
    let e : wrote_of r out ≡ wrote_of s out' = a ∙ sym b in
    (same-answer 0 r s (λ i. (e i).refusal) (λ i. (e i).count), λ i. (e i).out)

-- ---- lookup

-- the reading back from the value that it says
abbrev reading_of : Value → Reading
reading_of (measured x) = Measured x
reading_of (carried x) = Carried x
reading_of blank = Blank

back : (r : Reading) → reading_of (value_of_reading r) ≡ r
back (Measured x) = refl
back (Carried x) = refl
back Blank = refl

pub found-unique : (r s : Result Leaf Refusal) {w : Call.Found} → found_of r ≡ w → found_of s ≡ w → r ≡ s
found-unique r s a b =
    let e : found_of r ≡ found_of s = a ∙ sym b in
    let p = value_or no_leaf r in
    let q = value_or no_leaf s in
    let x : p.reading ≡ q.reading = sym (back p.reading) ∙ ap (λ (w : Call.Found). reading_of w.value) e ∙ back q.reading in
    same-answer no_leaf r s (λ i. (e i).refusal) (λ i. record { number = (e i).leaf; reading = x i })

-- ---- build and tape

module _ {l : Counted} {cap : ℕ} (l₁ l₂ : Counted) where
  pub build-unique : {columns rows mode : ℕ} (r s : Result ℕ Refusal) → Builds l cap columns rows mode l₁ r → Builds l cap columns rows mode l₂ s → (r ≡ s) × (l₁ ≡ l₂)
  build-unique r s a b =
      let e = a.is ∙ sym b.is in
      (same-answer 0 r s (λ i. (e i).refusal) (λ i. (e i).in_use), λ i. (e i).lent)

  pub tape-unique : {bytes : List ℕ} (r s : Taped) → Tapes l cap bytes l₁ r → Tapes l cap bytes l₂ s → (r ≡ s) × (l₁ ≡ l₂)
  tape-unique r s a b =
      let e = a.is ∙ sym b.is in
      let stop = same-stop r.refusal s.refusal (λ i. (e i).refusal) in
      let x : r ≡ s = λ i. record { done = (e i).done; refusal = stop i; offset = (e i).offset } in
      (x, λ i. (e i).lent)

-- ---- the question

pub count-unique : (r s : Result ℕ Refusal) {w : Call.Count} → count_of r ≡ w → count_of s ≡ w → r ≡ s
count-unique r s a b = let e : count_of r ≡ count_of s = a ∙ sym b in same-answer 0 r s (λ i. (e i).refusal) (λ i. (e i).count)

-- ---- the contracts themselves: any two outcomes that one allows are equal

module _ (c : Bor (List ℕ)) (level status : ℕ) (κs : Lfts 1) where
  abbrev CountAllows : Result ℕ Refusal → Type 0
  CountAllows r = count.Post κs (c, (level, (status, tt))) r (c, (level, (status, tt)))

  pub count-once : (r s : Result ℕ Refusal) → CountAllows r → CountAllows s → r ≡ s
  count-once r s p q = count-unique r s p q

module _ (h : Header) (t : Bor (List ℤ)) (v : Bor (List Float)) (c : Bor (List ℕ)) (cap : ℕ) where
  module _ (κs : Lfts 3) where
    abbrev CheckAllows : Result (Unit {0}) Refusal → Type 0
    CheckAllows r = check.Post κs (h, (t, (v, (c, (cap, tt))))) r (h, (t, (v, (c, (cap, tt)))))

    pub check-once : (r s : Result (Unit {0}) Refusal) → CheckAllows r → CheckAllows s → r ≡ s
    check-once r s p q = same-check r s (p ∙ sym q)

module _ (h : Header) (t : MutBor (List ℤ)) (v : MutBor (List Float)) (c : MutBor (List ℕ)) (cap : ℕ) where
  module _ (κs : Lfts 3) where
    module _ (columns rows mode : ℕ) where
      abbrev BuildAllows : BuildOut → List ℤ → List Float → List ℕ → Type 0
      BuildAllows r t' v' c' = build-core.Post κs (h, (t, (v, (c, (cap, (columns, (rows, (mode, tt)))))))) r (h, (at_last t t', (at_last v v', (at_last c c', (cap, (columns, (rows, (mode, tt))))))))

      pub build-once : (r s : BuildOut) (t₁ t₂ : List ℤ) (v₁ v₂ : List Float) (c₁ c₂ : List ℕ) → BuildAllows r t₁ v₁ c₁ → BuildAllows s t₂ v₂ c₂
          → (r.answer ≡ s.answer) × (counted_of r.header t₁ v₁ c₁ ≡ counted_of s.header t₂ v₂ c₂)
      build-once r s t₁ t₂ v₁ v₂ c₁ c₂ p q = build-unique (counted_of r.header t₁ v₁ c₁) (counted_of s.header t₂ v₂ c₂) r.answer s.answer p q

  module _ (κs : Lfts 4) (bytes : Bor (List ℕ)) where
    abbrev TapeAllows : TapeOut → List ℤ → List Float → List ℕ → Type 0
    TapeAllows r t' v' c' = tape-core.Post κs (h, (t, (v, (c, (cap, (bytes, tt)))))) r (h, (at_last t t', (at_last v v', (at_last c c', (cap, (bytes, tt))))))

    pub tape-once : (r s : TapeOut) (t₁ t₂ : List ℤ) (v₁ v₂ : List Float) (c₁ c₂ : List ℕ) → TapeAllows r t₁ v₁ c₁ → TapeAllows s t₂ v₂ c₂
        → (r.answer ≡ s.answer) × (counted_of r.header t₁ v₁ c₁ ≡ counted_of s.header t₂ v₂ c₂)
    tape-once r s t₁ t₂ v₁ v₂ c₁ c₂ p q = tape-unique (counted_of r.header t₁ v₁ c₁) (counted_of s.header t₂ v₂ c₂) r.answer s.answer p q

module _ (h : Header) (t : Bor (List ℤ)) (v : Bor (List Float)) (cap : ℕ) where
  module _ (κs : Lfts 2) (x y : ℕ) where
    abbrev LookupAllows : Result Leaf Refusal → Type 0
    LookupAllows r = lookup.Post κs (h, (t, (v, (cap, (x, (y, tt)))))) r (h, (t, (v, (cap, (x, (y, tt))))))

    pub lookup-once : (r s : Result Leaf Refusal) → LookupAllows r → LookupAllows s → r ≡ s
    lookup-once r s p q = found-unique r s p q

  module _ (κs : Lfts 3) (out : MutBor (List ℕ)) where
    abbrev PageAllows : Result ℕ Refusal → List ℕ → Type 0
    PageAllows r xs = page.Post κs (h, (t, (v, (cap, (out, tt))))) r (h, (t, (v, (cap, (at_last out xs, tt)))))

    pub page-once : (r s : Result ℕ Refusal) (xs ys : List ℕ) → PageAllows r xs → PageAllows s ys → (r ≡ s) × (xs ≡ ys)
    page-once r s xs ys p q = wrote-unique r s xs ys p q

    module _ (n : ℕ) (o : List ℕ) (k : ℕ) (from to : ℤ) where
      abbrev ScanAllows : Result ℕ Refusal → List ℕ → Type 0
      ScanAllows r xs =
          scan.Post κs (h, (t, (v, (cap, (n, (o, (k, (from, (to, (out, tt)))))))))) r (h, (t, (v, (cap, (n, (o, (k, (from, (to, (at_last out xs, tt))))))))))

      pub scan-once : (r s : Result ℕ Refusal) (xs ys : List ℕ) → ScanAllows r xs → ScanAllows s ys → (r ≡ s) × (xs ≡ ys)
      scan-once r s xs ys p q = wrote-unique r s xs ys p q

-- ---- the contracts of the entries that are lent the header, at any model `w` as in their statements: one says at exit that
-- the core's relation holds of the answer and of what is lent, and no more; and two outcomes of which it says so are equal

-- two facts that are told tell what follows from both
pub both_told : (w : World) (P : Pr w) (F G : Type 0) {D : Type 0} → (F → G → D) → ent w.𝓤 P (fact w.𝓤 F) → ent w.𝓤 P (fact w.𝓤 G) → ent w.𝓤 P (fact w.𝓤 D)
both_told w P F G {D} k p q = fact_use w.𝓤 F p (λ x. fact_use w.𝓤 G q (λ y. fact_i w.𝓤 D P (k x y)))

module _ (w : World) (h : MutBor Header) (t : MutBor (List ℤ)) (v : MutBor (List Float)) (c : MutBor (List ℕ)) (cap : ℕ) where
  module _ (κs : Lfts 4) (columns rows mode : ℕ) where
    abbrev BuildSays : Result ℕ Refusal → Header → List ℤ → List Float → List ℕ → Pr w
    BuildSays r h' t' v' c' =
        (build.clauses w.𝓛 w.𝓜.mem w.𝓡.run κs (h, (t, (v, (c, (cap, (columns, (rows, (mode, tt))))))))).ensures tt r (at_last h h', (at_last t t', (at_last v v', (at_last c c', (cap, (columns, (rows, (mode, tt))))))))

    pub build-says : (r : Result ℕ Refusal) → (build.spec w.𝓛 w.𝓜.mem w.𝓡.run κs (h, (t, (v, (c, (cap, (columns, (rows, (mode, tt))))))))).ensures tt r
        ≡ exits w.𝓛 build.signature (build.ended).kept κs (h, (t, (v, (c, (cap, (columns, (rows, (mode, tt)))))))) (λ e. fact w.𝓤 (Builds (counted_of h.now t.now v.now c.now) cap columns rows mode (counted_of e.0.now e.1.0.now e.1.1.0.now e.1.1.1.0.now) r))
    build-says r = refl

    pub build-entry-once : (P : Pr w) (r s : Result ℕ Refusal) (h₁ h₂ : Header) (t₁ t₂ : List ℤ) (v₁ v₂ : List Float) (c₁ c₂ : List ℕ) → ent w.𝓤 P (BuildSays r h₁ t₁ v₁ c₁) → ent w.𝓤 P (BuildSays s h₂ t₂ v₂ c₂)
        → ent w.𝓤 P (fact w.𝓤 ((r ≡ s) × (counted_of h₁ t₁ v₁ c₁ ≡ counted_of h₂ t₂ v₂ c₂)))
    build-entry-once P r s h₁ h₂ t₁ t₂ v₁ v₂ c₁ c₂ p q = both_told w P _ _ (build-unique (counted_of h₁ t₁ v₁ c₁) (counted_of h₂ t₂ v₂ c₂) r s) p q

  module _ (κs : Lfts 5) (bytes : Bor (List ℕ)) where
    abbrev TapeSays : Taped → Header → List ℤ → List Float → List ℕ → Pr w
    TapeSays r h' t' v' c' =
        (tape.clauses w.𝓛 w.𝓜.mem w.𝓡.run κs (h, (t, (v, (c, (cap, (bytes, tt))))))).ensures tt r (at_last h h', (at_last t t', (at_last v v', (at_last c c', (cap, (bytes, tt))))))

    pub tape-says : (r : Taped) → (tape.spec w.𝓛 w.𝓜.mem w.𝓡.run κs (h, (t, (v, (c, (cap, (bytes, tt))))))).ensures tt r
        ≡ exits w.𝓛 tape.signature (tape.ended).kept κs (h, (t, (v, (c, (cap, (bytes, tt)))))) (λ e. fact w.𝓤 (Tapes (counted_of h.now t.now v.now c.now) cap bytes.now (counted_of e.0.now e.1.0.now e.1.1.0.now e.1.1.1.0.now) r))
    tape-says r = refl

    pub tape-entry-once : (P : Pr w) (r s : Taped) (h₁ h₂ : Header) (t₁ t₂ : List ℤ) (v₁ v₂ : List Float) (c₁ c₂ : List ℕ) → ent w.𝓤 P (TapeSays r h₁ t₁ v₁ c₁) → ent w.𝓤 P (TapeSays s h₂ t₂ v₂ c₂)
        → ent w.𝓤 P (fact w.𝓤 ((r ≡ s) × (counted_of h₁ t₁ v₁ c₁ ≡ counted_of h₂ t₂ v₂ c₂)))
    tape-entry-once P r s h₁ h₂ t₁ t₂ v₁ v₂ c₁ c₂ p q = both_told w P _ _ (tape-unique (counted_of h₁ t₁ v₁ c₁) (counted_of h₂ t₂ v₂ c₂) r s) p q
