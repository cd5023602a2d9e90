-- What a lookup answers where a branch of the code has decided a test.
-- Assumes nothing.
use Prim.Native.Nat.{ℕ}
use mathlib.Core.Path.{◌≡◌}
use mathlib.Core.Logic.{◌≢◌}
use mathlib.Core.List.{List}
use lib.IntN.{ℤ}
use lib.Ieee.{Float}
use borrow.Author.Tests.{eq-eqb, ne_eqb}
use Rattle.mesh.specs.Place.{Grid}
use Rattle.mesh.specs.State.{Value, blank}
use Rattle.mesh.specs.Refusal.{refusal}
use Rattle.mesh.specs.Call.{Found, unless}
use Rattle.carried.specs.Carried.{carried_of, value_carried}
use Rattle.carried.specs.declared.Carried.{Carried}
use Rattle.lookup.specs.LookupRows.{row_lookup, row_lookup_out}

module _ (g : Grid) (t : List ℤ) (v : List Float) (cap d x y n : ℕ) (e : n ≡ row_lookup g t cap d x y) where
  abbrev answer : ℕ → ℕ → Value → Found
  answer refusal leaf a = record { refusal = refusal; leaf = leaf; value = a }

  pub found_none : n ≡ 0 → answer 19 0 blank ≡ row_lookup_out g t v cap d x y
  unfolding row_lookup_out refusal unless
  found_none z = rw (← e, eq-eqb n 0 z)

  pub found-leaf : n ≢ 0 → {c : Carried} → c ≡ carried_of t v n → (a : Value) → a ≡ value_carried c → answer 0 n a ≡ row_lookup_out g t v cap d x y
  unfolding row_lookup_out refusal unless
  found-leaf z i a f = rw (← e, ne_eqb n 0 z, f, i)
