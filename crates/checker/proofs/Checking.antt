-- The checker's answer: each early return is the first check that refuses, and past them all the test by rows is the test of soundness.
-- Assumes nothing.
use Prim.Native.Nat.{ℕ, ◌-◌, ◌≤◌, max}
use native.Mathlib.Omega.{arith}
use mathlib.Core.Path.{◌≡◌, refl, sym, ◌∙◌}
use mathlib.Core.Bool.{Bool, true, false, not, cond}
use mathlib.Core.List.{List, [], ◌∷◌}
use lib.Count.{count_leading_zeros}
use Rattle.table.specs.Words.{Fits}
use Rattle.mesh.specs.Picture.{Lent}
use Rattle.mesh.specs.Refusal.{Check, refusal}
use Rattle.mesh.specs.Call.{missized, Sizes, misfit, no1, no2, no3, lent_checks, lent_refusal, Rectangle}
use Rattle.mesh.specs.Place.{Grid, base}
use Rattle.place_laws.proofs.Ranges.{fits-sizes, sizes-fit}
use Rattle.place_laws.proofs.Base.{fits-range, range-fits}
use Rattle.checker_laws.specs.Rowwise.{rowwise}
use Rattle.checker.specs.FirstChecks.{FirstRefusal}
use Rattle.checker_laws.proofs.Agreeing.{rowwise-is-sound}

-- a depth is at most a word's width
pub shallow : (g : Grid) → base g ≤ 32
unfolding base
shallow g = let h : 32 - count_leading_zeros 32 (max g.columns g.rows) ≤ 32 = omega arith in h

-- ---- the first two checks

module _ (cap : ℕ) (l : Lent) where
  pub missizes : (Sizes cap l → ⊥) → FirstRefusal cap l 1
  unfolding refusal
  missizes h = record { refused = λ z cs. go cs (missized cap l) refl; sizes = λ z. absurd (omega arith); rectangle = λ z. absurd (omega arith) }
    where
      go : (cs : List Check) (b : Bool) → missized cap l ≡ b → 1 ≡ refusal (no1 cap l ∷ no2 l.header.grid ∷ cs)
      go cs true e = rw e
      go cs false e = absurd (h (fits-sizes cap l e))

  -- what stands behind them decides
  pub sized : (cs : List Check) → Sizes cap l → refusal (no1 cap l ∷ cs) ≡ refusal cs
  unfolding refusal
  sized cs z = rw (sizes-fit cap l z)

  pub both-pass : (g : Grid) (cs : List Check) → Sizes cap l → Rectangle g → refusal (no1 cap l ∷ no2 g ∷ cs) ≡ refusal cs
  unfolding refusal
  both-pass g cs z r = rw (sizes-fit cap l z, range-fits g r)

  module _ (z : Sizes cap l) where
    pub misfits : misfit l.header.grid ≡ true → FirstRefusal cap l 2
    unfolding refusal
    misfits h = record { refused = λ _ cs. rw (sizes-fit cap l z, h); sizes = λ z. absurd (omega arith); rectangle = λ z. absurd (omega arith) }

    pub none_first : misfit l.header.grid ≡ false → FirstRefusal cap l 0
    none_first h = record { refused = λ some cs. absurd (some refl); sizes = λ _. z; rectangle = λ _. fits-range l.header.grid h }

-- ---- the checker

module _ (cap : ℕ) (l : Lent) (z : Sizes cap l) (r : Rectangle l.header.grid) (f : Fits l.words) where
  by_rows : (x : Bool) → x ≡ rowwise l.header.grid l.words cap l.values → refusal (no3 l ∷ []) ≡ cond x 0 3
  unfolding refusal
  by_rows x e = rw (sym (rowwise-is-sound cap l z r f) ∙ sym e) (go x)
    where
      go : (x : Bool) → cond (not x) 3 0 ≡ cond {A = ℕ} x 0 3
      go true = refl
      go false = refl

  pub rows_pass : {x : Bool} → x ≡ rowwise l.header.grid l.words cap l.values → x ≡ true → 0 ≡ lent_refusal cap l
  unfolding lent_refusal lent_checks
  rows_pass e y = sym (both-pass cap l l.header.grid _ z r ∙ by_rows true (sym y ∙ e))

  pub rows-fail : {x : Bool} → x ≡ rowwise l.header.grid l.words cap l.values → x ≡ false → 3 ≡ lent_refusal cap l
  unfolding lent_refusal lent_checks
  rows-fail e y = sym (both-pass cap l l.header.grid _ z r ∙ by_rows false (sym y ∙ e))
