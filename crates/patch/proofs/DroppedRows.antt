-- Patches that go: the map of free numbers with them, and the ghosts above that have no kid left.
-- Assumes nothing.
use mathlib.Core.Path.{◌≡◌, refl}
use mathlib.Core.Logic.{◌≢◌}
use mathlib.Core.Bool.{Bool, true, false}
use mathlib.Core.List.{List}
use Prim.Native.Nat.{ℕ, zero, suc, ◌-◌, ◌≤◌}
use native.Mathlib.Omega.{arith}
use borrow.Author.Tests.{eq-eqb, ne_eqb}
use lib.IntN.{ℤ}
use Rattle.mesh.specs.Picture.{parent_word}
use Rattle.table.specs.Words.{link_of, free_at}
use Rattle.table.specs.Plain.{Plain}
use Rattle.worked.specs.Worked.{kidless}
use Rattle.free.specs.FreeMap.{FreeNumbers, switched, IsMapOf}
use Rattle.edit_laws.specs.PatchSteps.{take_out}
use Rattle.edit_laws.proofs.FreeNumbers.{take-out-free}
use Rattle.edit_laws.specs.Tables.{drop_up}

-- ---- the map of free numbers

pub map_of : {t u : List ℤ} {m : FreeNumbers} → u ≡ t → IsMapOf m (free_at t) → IsMapOf m (free_at u)
map_of e h = rw e h

-- with that of a row that goes
pub freed-mapped : {t u : List ℤ} {cap : ℕ} (k : ℕ) {m : FreeNumbers} → Plain t cap → k ≤ cap → u ≡ take_out t cap k → IsMapOf m (switched (free_at t) k true) → IsMapOf m (free_at u)
freed-mapped {t} {cap = cap} k p l e h = rw (e, take-out-free t cap k (omega (arith, p.sized.words))) h

-- ---- ghosts that have no kid left

module _ (t : List ℤ) (cap n : ℕ) where
  pub up-end : (e : ℕ) → e ≡ 0 → t ≡ drop_up e t cap n
  unfolding drop_up
  up-end e h = rw h

  pub up-nil : (e : ℕ) → n ≡ 0 → t ≡ drop_up e t cap n
  unfolding drop_up
  up-nil zero z = refl
  up-nil (suc e) z = rw (eq-eqb n 0 z)

  pub up_kept : (e : ℕ) {b : Bool} → n ≢ 0 → b ≡ kidless t cap n → b ≡ false → t ≡ drop_up e t cap n
  unfolding drop_up
  up_kept zero z h i = refl
  up_kept (suc e) z h i = rw (ne_eqb n 0 z, ← h, i)

  pub up-on : (e : ℕ) {b : Bool} {p : ℕ} {u : List ℤ} → e ≢ 0 → n ≢ 0 → b ≡ kidless t cap n → b ≡ true → p ≡ link_of t cap n parent_word → u ≡ take_out t cap n → drop_up e t cap n ≡ drop_up (e - 1) u cap p
  unfolding drop_up
  up-on zero y z h i j k = absurd (y refl)
  up-on (suc e) y z h i j k =
      let m : suc e - 1 ≡ e = omega arith in
      rw (ne_eqb n 0 z, ← h, i, m, j, k)
