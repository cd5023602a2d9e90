-- What the definitions give where a branch of the code has decided a test.
-- Assumes nothing.
use Prim.Native.Nat.{ℕ, ◌+◌, ◌*◌, ◌≤◌}
use native.Mathlib.Omega.{arith}
use mathlib.Core.Path.{◌≡◌, sym, ◌∙◌}
use mathlib.Core.Bool.{Bool, not, cond}
use mathlib.Core.List.{List, [], ◌∷◌}
use lib.IntN.{ℤ, pos}
use lib.ListN.{set}
use borrow.Author.Tests.{not-false}
use Rattle.mesh.specs.Picture.{row_words}
use Rattle.mesh.specs.Refusal.{Check, refusal}
use Rattle.table.specs.Words.{word_of, flag_of, taken}
use Rattle.table.proofs.Taken.{taken-within}
use Rattle.number_laws.proofs.Checks.{passes, kept}
use Rattle.std.specs.Prelude.{Result}
use Rattle.answer.specs.declared.Refusal.{Refusal}
use Rattle.answer.specs.Answered.{number, refusal_of}
use Rattle.answer.proofs.RefusalNumbers.{above-zero}
use Rattle.answer.proofs.InOrder.{Decided}
use Rattle.refusals.specs.OneRow.{sentence_table}
use Rattle.refusals.specs.Decide.{row6, row7}

-- ---- a sentenced row

pub sentence-written : (t : List ℤ) (n x y : ℕ) (b : Bool) → x ≡ word_of t n 12 → b ≡ flag_of t 12 n → y ≡ cond b 0 4096 → set t (n * row_words + 12) (pos (x + y)) ≡ sentence_table t n
unfolding sentence_table
sentence-written t n x y b e f h = rw (e, h, f)

-- ---- the two checks that every kind begins with, decided before the others

-- a request that is not refused names one of the numbers 1 to the capacity
pub accepted-within : (t : List ℤ) (cap n : ℕ) (cs : List Check) → refusal (row6 t cap n ∷ cs) ≡ 0 → (1 ≤ n) × (n ≤ cap)
accepted-within t cap n cs e = taken-within t cap n (not-false (taken t cap n) (passes 6 (not (taken t cap n)) cs (λ z. omega arith) e).0)

module _ {A : Type 0} (t : List ℤ) (cap n : ℕ) {cs : List Check} {out : Result A Refusal} where
  -- they pass, and those after them decide
  pub past_two : 0 ≡ refusal (row6 t cap n ∷ row7 t cap n ∷ []) → Decided cs out → Decided (row6 t cap n ∷ row7 t cap n ∷ cs) out
  unfolding refusal
  past_two e f =
      let (a, h) = passes 6 (not (taken t cap n)) (row7 t cap n ∷ []) (λ z. omega arith) (sym e) in
      let (b, _) = passes 7 (not (flag_of t 0 n)) [] (λ z. omega arith) h in
      record { is = rw (a, b) f.is }

  -- they refuse, and so do all
  pub first_two : (e : Refusal) → number e ≡ refusal (row6 t cap n ∷ row7 t cap n ∷ []) → refusal_of out ≡ number e → Decided (row6 t cap n ∷ row7 t cap n ∷ cs) out
  first_two e is o = record { is = o ∙ is ∙ sym (kept (row6 t cap n ∷ row7 t cap n ∷ []) cs (λ z. let a = above-zero e in omega (arith, is, z))) }

pub past-le : (t : List ℤ) (cap n : ℕ) → 0 ≡ refusal (row6 t cap n ∷ row7 t cap n ∷ []) → n ≤ cap
past-le t cap n e = (accepted-within t cap n (row7 t cap n ∷ []) (sym e)).1
