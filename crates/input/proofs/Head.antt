-- The checks of the program's input before its build, one after the other, and what they leave.
-- Assumes nothing.
use Prim.Native.Nat.{ℕ, ◌≤◌}
use native.Mathlib.Omega.{arith}
use mathlib.Core.Path.{◌≡◌}
use mathlib.Core.List.{List}
use lib.ListN.{length}
use borrow.Author.Tests.{ltb-false}
use Rattle.mesh.specs.Refusal.{refusal}
use Rattle.mesh.specs.Program.{input_checks}
use Rattle.number_laws.proofs.Checks.{passes}

module _ (input : List ℕ) where
  -- an input that passes them has its three bytes, and is no longer than it may be
  pub head-sizes : refusal (input_checks input) ≡ 0 → (3 ≤ length input) × (length input ≤ 60000)
  unfolding input_checks
  head-sizes h =
      let (a, h₁) = passes 20 _ _ (λ z. omega arith) h in
      let (b, h₂) = passes 4 _ _ (λ z. omega arith) h₁ in
      let (c, h₃) = passes 5 _ _ (λ z. omega arith) h₂ in
      let (d, h₄) = passes 4 _ _ (λ z. omega arith) h₃ in
      (ltb-false (length input) 3 d, ltb-false 60000 (length input) a)
