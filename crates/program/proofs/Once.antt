-- "Each public call's statement leaves one possible answer and one possible content of every lent list": any two outcomes that the contract of
-- `program::print` allows are equal.
-- Assumes nothing.
use Prim.Native.Nat.{ℕ}
use mathlib.Core.Path.{◌≡◌}
use mathlib.Core.List.{List}
use contract.Lifetimes.{Lfts}
use denote.Ref.{Bor, MutBor, at_last}
use Rattle.std.specs.Prelude.{Result}
use Rattle.answer.specs.declared.Refusal.{Refusal}
use Rattle.grid.proofs.Unique.{wrote-unique}
use Rattle.program.proofs.print.Reads as print

module _ (κs : Lfts 2) (input : Bor (List ℕ)) (out : MutBor (List ℕ)) where
  abbrev PrintAllows : Result ℕ Refusal → List ℕ → Type 0
  PrintAllows r xs = print.Post κs (input, (out, tt)) r (input, (at_last out xs, tt))

  pub print-once : (r s : Result ℕ Refusal) (xs ys : List ℕ) → PrintAllows r xs → PrintAllows s ys → (r ≡ s) × (xs ≡ ys)
  print-once r s xs ys p q = wrote-unique r s xs ys p q
