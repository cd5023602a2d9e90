-- A kid that is linked in under the next free number unless it is there, and the map without that number.
-- Assumes nothing.
use mathlib.Core.Path.{◌≡◌, refl, sym, ◌∙◌}
use mathlib.Core.Logic.{◌≢◌}
use mathlib.Core.Bool.{Bool, false}
use mathlib.Core.List.{List}
use Prim.Native.Nat.{ℕ, zero, suc, ◌+◌, ◌*◌, ◌/◌, ◌≤◌, ◌<◌}
use native.Mathlib.Omega.{arith}
use borrow.Author.Tests.{eq-eqb, ne_eqb}
use lib.Dec.{lit≤}
use lib.IntN.{ℤ}
use lib.ListN.{length}
use Rattle.mesh.specs.Picture.{row_words}
use Rattle.table.specs.Plain.{Plain}
use Rattle.table.specs.Words.{free_at}
use Rattle.free.specs.FreeMap.{FreeNumbers, switched, first_from, Maps, IsMapOf}
use Rattle.free.specs.Free.{next_in}
use Rattle.free.proofs.FreeRows.{next-in, next-within}
use Rattle.edit_laws.specs.PatchSteps.{link_in}
use Rattle.edit_laws.specs.Tables.{spot, kid_at, supplied}
use Rattle.edit_laws.proofs.FreeNumbers.{link-in-free}
use Rattle.patch.specs.declared.patches.Patches.{Patches}
use Rattle.patch.specs.NextPatches.{Same, Stepped}
use Rattle.patch.proofs.StepsInTurn.{same_then}
use Rattle.patch.specs.Small.{AllSmall, Doubled}
use Rattle.refine.proofs.SmallKids.{all_more}

module _ (t : List ℤ) (cap d p l m : ℕ) {x : ℕ} (e : x ≡ kid_at t cap (spot p l m)) where
  pub supplied-there : x ≢ 0 → t ≡ supplied cap d (spot p l m) t
  unfolding supplied
  supplied-there h = rw (ne_eqb (kid_at t cap (spot p l m)) 0 (λ i. h (e ∙ i)))

  module _ (z : x ≡ 0) {k : ℕ} (i : k ≡ next_in t cap) where
    pub supplied-none : k ≡ 0 → t ≡ supplied cap d (spot p l m) t
    unfolding supplied
    supplied-none h = rw (eq-eqb (kid_at t cap (spot p l m)) 0 (sym e ∙ z), ← i, eq-eqb k 0 h)

    pub supplied-new : {a b : ℕ} {u : List ℤ} → k ≢ 0 → l ≡ a → m ≡ b → u ≡ link_in t cap d p a b k → u ≡ supplied cap d (spot p l m) t
    unfolding supplied
    supplied-new h f g j = rw (eq-eqb (kid_at t cap (spot p l m)) 0 (sym e ∙ z), ← i, ne_eqb k 0 h, f, g) j

-- ---- the number that it takes

-- what the map gives is the next free number of the table
pub found : {t : List ℤ} {cap k : ℕ} {m : FreeNumbers} → Plain t cap → length t ≡ row_words * (cap + 1) → IsMapOf m (free_at t)
    → ((f : ℕ → Bool) → Maps m.words f → k ≡ first_from f 4095 1) → k ≡ next_in t cap
found {t} {cap} p l h e = next-in t cap l p.sized.small (e (free_at t) h.bits)

module _ {t : List ℤ} {cap k : ℕ} (h : Plain t cap) (i : k ≡ next_in t cap) where
  pub next-few : k < 4096
  next-few = let b = next-within t cap i in omega (arith, h.sized.small)

  pub without : (d p l m : ℕ) {u : List ℤ} {r : FreeNumbers} → m < 2 → u ≡ link_in t cap d p l m k → IsMapOf r (switched (free_at t) k false) → IsMapOf r (free_at u)
  without d p l m a e r = rw (e, link-in-free t cap d p l m k a (omega (arith, next-within t cap i, h.sized.words))) r

-- ---- one patch after the other

-- from here on so many times the double is within the bound
abbrev pub room : ℕ → ℕ
room zero = 1073741824
room (suc k) = room k / 2

room-within : (k : ℕ) → room k ≤ 1073741824
room-within zero = lit≤ tt
room-within (suc k) = omega (arith, room-within k)

-- so many more can be linked in
pub record Ready (k d : ℕ) (p q : Patches) : Type 0 where
  pub same : Same p q
  pub small : AllSmall (room k) q.t.now q.cap d
  pub long : length q.t.now ≡ row_words * (q.cap + 1)

pub start : {p : Patches} {d : ℕ} → AllSmall 1048576 p.t.now p.cap d → length p.t.now ≡ row_words * (p.cap + 1) → Ready 10 d p p
start s l = record { same = record { cap = refl; long = refl; table = refl; numbers = refl }; small = s; long = l }

module _ {k d : ℕ} {p q : Patches} where
  -- what the next one asks for
  pub ready : {n w : ℕ} → Ready k d p q → n ≤ p.cap → d ≤ 32 → w < 4 → (n ≤ q.cap) × (d ≤ 32) × (w < 4) × AllSmall 1073741824 q.t.now q.cap d × (length q.t.now ≡ row_words * (q.cap + 1))
  ready r h i j = (omega (arith, h, r.same.cap), i, j, all_more (room k) 1073741824 _ _ _ r.small (room-within k), r.long)

  pub after : {r : Patches} {f : List ℤ → ℕ → List ℤ} → Ready (suc k) d p q → Stepped f q r × Doubled q.t.now r.t.now q.cap d → Ready k d p r
  after {r} z (s, double) = record {
    same = same_then z.same s.same;
    small = rw s.same.cap (all_more (2 * (room k / 2)) (room k) _ _ _ (double (room k / 2) (omega (arith, room-within k)) z.small) (omega arith));
    long = rw (s.same.long, s.same.cap) z.long;
  }
