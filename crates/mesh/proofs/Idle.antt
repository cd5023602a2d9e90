-- The idle programs of 01, 'How tight the statements are': none of them answers as the calls' definitions do. A reference grid shuts each out.
-- Assumes nothing.
use Prim.Native.Nat.{ℕ}
use native.Mathlib.Omega.{arith}
use mathlib.Core.Path.{◌≡◌, sym, ap, ◌∙◌}
use mathlib.Core.Logic.{◌≢◌}
use mathlib.Core.List.{List, [], ◌∷◌, ◌++◌}
use lib.ListN.{get_or}
use Rattle.mesh.specs.Place.{Grid, rectangle}
use Rattle.mesh.specs.LeafCounts.{Counted}
use Rattle.mesh.specs.Call.{Built, build_call, Taped, tape_call}
use Rattle.mesh.specs.Grids.{grids, empty, build, tape, flags_at, outcome, refine2, away}
use Rattle.mesh.proofs.References.{references}

-- ---- what the grids say

refined : outcome (tape 1 1 14 refine2) ≡ (1, 0, 3)
unfolding grids
refined = references.1.1.1.1.0

too_few : outcome (tape 1 1 13 refine2) ≡ (0, 11, 0)
unfolding grids
too_few = references.1.1.1.1.1.0

free-before : flags_at (build 1 1 14).lent (6 ∷ 7 ∷ 8 ∷ 9 ∷ []) ≡ 8192 ∷ 8192 ∷ 8192 ∷ 8192 ∷ []
unfolding grids
free-before = references.1.1.1.1.1.1.0

cells-then : flags_at (tape 1 1 14 refine2).lent (6 ∷ 7 ∷ 8 ∷ 9 ∷ []) ≡ 127 ∷ 95 ∷ 111 ∷ 71 ∷ []
unfolding grids
cells-then = references.1.1.1.1.1.1.1.0

-- P5 as one tape
as-built : (tape 1 1 14 away).lent.lent.words ≡ (build 1 1 14).lent.lent.words
unfolding grids
as-built = references.1.1.1.1.1.1.1.1.0

five : (build 1 1 14).in_use ≡ 5
unfolding grids
five = references.0

nine : (build 2 1 20).in_use ≡ 9
unfolding grids
nine = references.1.1.1.1.1.1.1.1.1.1.0

-- P3: a refinement changes the table
changed : (build 1 1 14).lent.lent.words ≢ (tape 1 1 14 refine2).lent.lent.words
changed e =
    let z : ◌≡◌ {A = ℕ} 8192 127 = ap (λ (ns : List ℕ). get_or ns 0 0) (sym free-before ∙ ap (λ (ws : List _). flags_at (record { lent = record { header = (build 1 1 14).lent.lent.header; words = ws; values = (build 1 1 14).lent.lent.values }; counts = [] }) (6 ∷ 7 ∷ 8 ∷ 9 ∷ [])) e ∙ cells-then) in
    omega arith

-- ---- programs for a tape

module _ (f : ℕ → Counted → List ℕ → Taped) (meets : (cap : ℕ) (l : Counted) (bytes : List ℕ) → f cap l bytes ≡ tape_call cap l bytes) where
  -- "one that refuses everything"
  pub refuses-everything : ((cap : ℕ) (l : Counted) (bytes : List ℕ) → (f cap l bytes).refusal ≢ 0) → ⊥
  refuses-everything idle =
      idle 14 (build 1 1 14).lent refine2 (ap (λ (r : Taped). r.refusal) (meets 14 (build 1 1 14).lent refine2) ∙ ap (λ (o : ℕ × ℕ × ℕ). o.1) refined)

  -- "one that gives the same answer each time"
  pub gives-one-answer : ((cap cap' : ℕ) (l l' : Counted) (bytes bytes' : List ℕ) → (f cap l bytes).done ≡ (f cap' l' bytes').done) → ⊥
  gives-one-answer idle =
      let z : ◌≡◌ {A = ℕ} 1 0 =
      sym (ap (λ (o : ℕ × ℕ × ℕ). o.0) refined)
      ∙ sym (ap (λ (r : Taped). r.done) (meets 14 (build 1 1 14).lent refine2))
      ∙ idle 14 13 (build 1 1 14).lent (build 1 1 13).lent refine2 refine2
      ∙ ap (λ (r : Taped). r.done) (meets 13 (build 1 1 13).lent refine2)
      ∙ ap (λ (o : ℕ × ℕ × ℕ). o.0) too_few in
      omega arith

  words_of : (bytes : List ℕ) → (f 14 (build 1 1 14).lent bytes).lent.lent.words ≡ (tape 1 1 14 bytes).lent.lent.words
  words_of bytes = ap (λ (r : Taped). r.lent.lent.words) (meets 14 (build 1 1 14).lent bytes)

  -- one that "accepts and does nothing" (P3)
  pub does-nothing : ((cap : ℕ) (l : Counted) (bytes : List ℕ) → (f cap l bytes).lent.lent.words ≡ l.lent.words) → ⊥
  does-nothing idle = changed (sym (idle 14 (build 1 1 14).lent refine2) ∙ words_of refine2)

  -- "one that carries out a tape's first request and for the rest only raises the mark" (P5 as one tape)
  pub only-the-first : ((cap : ℕ) (l : Counted) (n : ℕ) (rest : List ℕ) → (f cap l ((1 ∷ 0 ∷ n ∷ []) ++ rest)).lent.lent.words ≡ (f cap l (1 ∷ 0 ∷ n ∷ [])).lent.lent.words) → ⊥
  only-the-first idle = changed (sym as-built ∙ sym (words_of away) ∙ idle 14 (build 1 1 14).lent 2 _ ∙ words_of refine2)

-- ---- a program for a build

-- "one that invents the number in use" (P1, P6)
pub invents-the-number : (f : ℕ → Counted → Grid → Built) → ((cap : ℕ) (l : Counted) (g : Grid) → f cap l g ≡ build_call cap l g) → (n : ℕ)
    → ((cap : ℕ) (l : Counted) (g : Grid) → (f cap l g).in_use ≡ n) → ⊥
invents-the-number f meets n idle =
    let z : ◌≡◌ {A = ℕ} 5 9 =
    sym five
    ∙ sym (ap (λ (b : Built). b.in_use) (meets 14 (empty 14) (rectangle 1 1)))
    ∙ idle 14 (empty 14) (rectangle 1 1)
    ∙ sym (idle 20 (empty 20) (rectangle 2 1))
    ∙ ap (λ (b : Built). b.in_use) (meets 20 (empty 20) (rectangle 2 1))
    ∙ nine in
    omega arith
