-- A request that is made for another: it makes the same, with a value that stands for the other's.
-- Assumes nothing.
use Prim.Native.Nat.{ℕ}
use native.Mathlib.Omega.{arith}
use mathlib.Core.Path.{◌≡◌, sym, ap, ◌∙◌}
use mathlib.Core.Bool.{true, not}
use mathlib.Core.List.{[]}
use lib.Ieee.{Float}
use borrow.Author.Tests.{not-false}
use Rattle.mesh.specs.State.{State, Header}
use Rattle.mesh.specs.LeafCounts.{Counted}
use Rattle.mesh.specs.Valid.{Valid, finite}
use Rattle.mesh.specs.Refusal.{refusal}
use Rattle.mesh.specs.Request.{Request, set_value, checks}
use Rattle.number_laws.proofs.Checks.{passes}
use Rattle.number_laws.proofs.Naming.{named}
use Rattle.apply.specs.Applied.{Applied}
use Rattle.kinds.specs.declared.asked.Request as Kinds
use Rattle.kinds.specs.declared.asked.Request.TheVariants.{Refine, Sentence, Remove, Kill, SetValue}
use Rattle.kinds.specs.AskedFor.{request_of, SetsFor, MadeFor}

-- an accepted value is finite
finite-then : (s : State) (n : ℕ) (x : Float) → Valid s → refusal (checks s (set_value n x)) ≡ 0 → finite x ≡ true
unfolding checks
finite-then s n x valid ok =
    let (_, rest) = named s valid n _ ok in
    let (_, last) = passes 8 _ _ (λ z. omega arith) rest in
    not-false (finite x) (passes 16 (not (finite x)) [] (λ z. omega arith) last).0

same-checks : (s : State) (n : ℕ) (x y : Float) → finite x ≡ finite y → checks s (set_value n x) ≡ checks s (set_value n y)
unfolding checks
same-checks s n x y e = rw e

module _ {cap d given : ℕ} {l l' : Header → Counted} where
  set-for : {r : Request} {n : ℕ} {x : Float} → SetsFor r n x → Applied (set_value n x) cap d l l' given → Applied r cap d l l' given
  set-for {n = n} {x} f a = rw f.is-set (record {
    decided = λ s p. a.decided s p ∙ ap refusal (same-checks s n x f.value f.alike);
    done = λ s p h. rw (← f.is (finite-then s n x p.valid (sym (a.decided s p) ∙ h))) (a.done s p h);
    refused = a.refused;
  })

  -- what a request makes, the one that it is made for makes
  pub made-for : {r : Request} (q : Kinds.Request) → MadeFor r q → Applied (request_of q) cap d l l' given → Applied r cap d l l' given
  made-for (Refine n) e a = rw e a
  made-for (Sentence n) e a = rw e a
  made-for (Remove n) e a = rw e a
  made-for (Kill n) e a = rw e a
  made-for (SetValue n x) f a = set-for f a
