-- An input that no check of the head refuses: its build, and whatever its tape does, leave valid states of the capacity.
-- Assumes nothing.
use Prim.Native.Nat.{ℕ}
use native.Mathlib.Omega.{arith}
use mathlib.Core.Path.{◌≡◌}
use mathlib.Core.List.{List}
use lib.ListN.{length, drop}
use borrow.Author.Tests.{ltb-false}
use Rattle.mesh.specs.State.{State, capacity}
use Rattle.mesh.specs.Valid.{Valid}
use Rattle.mesh.specs.Refusal.{refusal}
use Rattle.mesh.specs.Build.{numbered, built}
use Rattle.mesh.specs.Tape.{Run, run}
use Rattle.mesh.specs.Program.{grid_in, input_checks, grid_checks, head_checks}
use Rattle.place_laws.proofs.Base.{fits-range}
use Rattle.number_laws.proofs.Checks.{passes}
use Rattle.demand_laws.proofs.Tapes.{run-led}
use Rattle.demand_laws.proofs.PicturedCalls.{Buildable, build-valid}

abbrev pub started : List ℕ → State
started input = built (grid_in input) 1000

abbrev pub ran : List ℕ → Run
ran input = run (started input) (drop 3 input)

module _ (input : List ℕ) (ok : refusal (head_checks input) ≡ 0) where
  buildable : Buildable 1000 (grid_in input)
  unfolding input_checks grid_checks
  buildable =
      let (_, h₁) = passes 20 _ _ (λ z. omega arith) ok in
      let (_, h₂) = passes 4 _ _ (λ z. omega arith) h₁ in
      let (_, h₃) = passes 5 _ _ (λ z. omega arith) h₂ in
      let (_, h₄) = passes 4 _ _ (λ z. omega arith) h₃ in
      let (a, h₅) = passes 2 _ _ (λ z. omega arith) h₄ in
      let (b, _) = passes 11 _ _ (λ z. omega arith) h₅ in
      record { sizes = (omega arith, omega arith); rectangle = fits-range (grid_in input) a; room = ltb-false 1000 (length (numbered (grid_in input))) b }

  pub started-valid : Valid (started input) × (capacity (started input) ≡ 1000)
  started-valid = build-valid 1000 (grid_in input) buildable

  pub ran-valid : Valid (ran input).state × (capacity (ran input).state ≡ 1000)
  unfolding run
  ran-valid =
      let (v, c) = started-valid in
      let (led, _) = run-led (drop 3 input) 0 (started input) 0 0 v in
      (led.valid, omega (arith, led.same_length))
