-- The program's output is long enough for whatever it prints: a walk meets each number of the table at most once, so a page has at most 1,001 leaves.
-- Assumes nothing.
use Prim.Native.Nat.{ℕ, zero, suc, ◌+◌, ◌≤◌}
use native.Mathlib.Omega.{arith}
use mathlib.Core.Path.{◌≡◌, refl, ap, ◌∙◌}
use mathlib.Core.Bool.{Bool, true, false, cond}
use mathlib.Core.List.{List}
use lib.Dec.{ltb}
use lib.ListN.{length}
use borrow.Author.Tests.{le-ltb}
use Rattle.mesh.specs.Refusal.{refusal}
use Rattle.mesh.specs.Call as Call
use Rattle.mesh.specs.Call.{unless, over, wrote, writing}
use Rattle.mesh.specs.Program.{head_checks, tape_page, program, program_call}
use Rattle.call_laws.proofs.Rowed.{leaves-few}
use Rattle.std.specs.Prelude.{Result}
use Rattle.answer.specs.declared.Refusal.{Refusal}
use Rattle.answer.specs.Answered.{value_or}
use Rattle.answer.specs.OutputLists.{wrote_of}
use Rattle.program.proofs.LineLengths.{refused-long, page-long}
use Rattle.program.proofs.PrintedTape.{ran, ran-valid}

-- ---- the program

unless-fits : (m n : ℕ) (f : ℕ → List ℕ) (x : List ℕ) → ((k : ℕ) → length (f k) ≤ m) → (n ≡ 0 → length x ≤ m) → length (unless n f x) ≤ m
unfolding unless
unless-fits m zero f x a b = b refl
unless-fits m (suc n) f x a b = a (suc n)

pub program-fits : (input : List ℕ) → length (program input) ≤ 104000
unfolding program tape_page
program-fits input =
    unless-fits 104000 (refusal (head_checks input)) _ _ (λ n. omega (arith, refused-long n 0)) (λ ok.
    unless-fits 104000 (ran input).refusal _ _ (λ n. omega (arith, refused-long n (3 + (ran input).offset))) (λ _.
    let (v, c) = ran-valid input ok in
    omega (arith, page-long (ran input).state, leaves-few (ran input).state v)))

-- ---- the call

printed-count : (m : ℕ) (xs out : List ℕ) → length xs ≤ m → (writing xs out).count ≤ m
unfolding refusal unless
printed-count m xs out h = go (ltb (length out) (length xs))
  where
    go : (b : Bool) → (wrote (cond b 18 0) xs out).count ≤ m
    go true = omega arith
    go false = h

module _ (r : Result ℕ Refusal) (input out exit : List ℕ) (called : wrote_of r exit ≡ program_call input out) where
  pub count_fits : value_or 0 r ≤ 104000
  unfolding program_call
  count_fits = omega (arith, ap (λ (w : Call.Wrote). w.count) called, printed-count 104000 (program input) out (program-fits input))

  -- in the program's output 18 never stands in the way
  pub program-prints : length out ≡ 104000 → wrote_of r exit ≡ record { refusal = 0; count = length (program input); out = over (program input) out }
  unfolding program_call refusal unless
  program-prints size = called ∙ rw (le-ltb (length out) (length (program input)) (omega (arith, program-fits input)))
