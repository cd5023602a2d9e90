-- A lookup call that passes the first checks answers what the lookup by rows answers: in the picture of a valid state a row's status and the number
-- beside it are its value. It is refused exactly where no try reaches the area.
-- Assumes nothing.
use Prim.Native.Nat.{ℕ, zero, suc}
use native.Mathlib.Omega.{arith}
use mathlib.Core.Path.{◌≡◌, refl, sym, ap, ◌∙◌, fun_ext}
use mathlib.Core.Bool.{cond}
use mathlib.Core.List.{List, [], ◌∷◌}
use lib.Dec.{eqb}
use lib.IntN.{ℤ}
use lib.Ieee.{Float}
use borrow.Author.Tests.{ne_eqb}
use Rattle.mesh.specs.Tools.{any}
use Rattle.mesh.specs.Place.{Grid, base}
use Rattle.mesh.specs.State.{State, Value, blank, measured, carried, value_of, entry, grid_of, capacity}
use Rattle.mesh.specs.Valid.{Valid}
use Rattle.mesh.specs.Picture.{table, amounts, Lent}
use Rattle.mesh.specs.Refusal.{◌if◌, refusal}
use Rattle.mesh.specs.Lookup.{tries, lookup, lookup_checks, first_found, beyond}
use Rattle.mesh.specs.Decode.{decode}
use Rattle.mesh.specs.Call.{Found, lent_refusal, unless, lookup_call}
use Rattle.carried.specs.Carried.{carried_of, carried_for, value_carried}
use Rattle.lookup.specs.LookupRows.{row_lookup, row_lookup_out}
use Rattle.table_laws.proofs.Pictured.{carried-there}
use Rattle.picture_laws.proofs.Soundness.{sound-valid}
use Rattle.picture_laws.proofs.Accepted.{lent-sound}
use Rattle.walk_laws.specs.Reach.{reaches}
use Rattle.walk_laws.proofs.Lookups.{lookup-refused}
use Rattle.call_laws.proofs.FindingRows.{row-at}
use Rattle.call_laws.proofs.Called.{checks-after, by-picture}

-- the lookup by rows is the lookup, but for points past the last row of a ring
pub row-lookup : (s : State) → Valid s → (u v : ℕ) → lookup s u v ≡ row_lookup (grid_of s) (table s) (capacity s) (base (grid_of s)) u v
unfolding lookup
row-lookup s w u v = ap (λ (there : ℕ → ℕ → ℕ). cond (beyond (grid_of s) v) 0 (first_found there u v)) (fun_ext λ x. fun_ext λ y. sym (row-at s w x y))

-- a value is its status and its amount
value-is : (x : Value) → value_carried (carried_for x) ≡ x
value-is blank = refl
value-is (measured x) = refl
value-is (carried x) = refl

value_there : (s : State) (n : ℕ) → value_carried (carried_of (table s) (amounts s) n) ≡ value_of (entry s.entries n)
value_there s n = rw (carried-there s n) (value-is (value_of (entry s.entries n)))

-- what is answered if it is refused, and if the leaf n with the value x is found
abbrev answered : ℕ → ℕ → Value → Found
answered r n x = unless r (λ k. record { refusal = k; leaf = 0; value = blank }) (record { refusal = 0; leaf = n; value = x })

-- where none is found the number is 0, so it is the answer's either way
found-or-none : (n : ℕ) (x : Value) → let r = refusal ((19 if eqb n 0) ∷ []) in ((answered r n x).leaf ≡ n) × ((answered r n x).refusal ≡ r)
unfolding refusal unless
found-or-none zero x = (refl, refl)
found-or-none (suc n) x = rw (ne_eqb (suc n) 0 (λ z. omega arith)) (refl, refl)

module _ (u v : ℕ) where
  -- what a lookup answers by the state, past the first checks
  abbrev answer : State → ℕ → Found
  answer s r = answered r (lookup s u v) (value_of (entry s.entries (lookup s u v)))

  abbrev by_rows : Grid → List ℤ → List Float → ℕ → Found
  by_rows g t w cap = row_lookup_out g t w cap (base g) u v

  lookup-picture : (s : State) → Valid s → answer s (refusal (lookup_checks s u v)) ≡ by_rows (grid_of s) (table s) (amounts s) (capacity s)
  unfolding lookup_checks row_lookup_out
  lookup-picture s x = rw (← value_there s (lookup s u v), row-lookup s x u v)

  -- the lookup call
  pub lookup-call : (cap : ℕ) (l : Lent) → lent_refusal cap l ≡ 0 → lookup_call cap l u v ≡ row_lookup_out l.header.grid l.words l.values cap (base l.header.grid) u v
  unfolding lookup_call
  lookup-call cap l h =
      ap (answer (decode l)) (checks-after cap l h (lookup_checks (decode l) u v))
      ∙ by-picture cap l h (λ s. answer s (refusal (lookup_checks s u v))) (λ x c. by_rows x.header.grid x.words x.values c) lookup-picture

  -- the leaf that the tries find first, and 19 exactly where none of them reaches the area
  pub lookup-finds : (cap : ℕ) (l : Lent) → lent_refusal cap l ≡ 0
      → let s = decode l in Valid s × ((lookup_call cap l u v).leaf ≡ lookup s u v) × ((lookup_call cap l u v).refusal ≡ cond (any (reaches s u v) tries) 0 19)
  unfolding lookup_call lookup_checks
  lookup-finds cap l h =
      let s = decode l in
      let w = sound-valid (lent-sound cap l h) in
      let (leaf, refusal) = found-or-none (lookup s u v) (value_of (entry s.entries (lookup s u v))) in
      let after = checks-after cap l h (lookup_checks s u v) in
      (w, rw after leaf, rw after (refusal ∙ lookup-refused w u v))
