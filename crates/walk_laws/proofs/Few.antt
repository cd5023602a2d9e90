-- A walk from any patch meets a number at most once, and only numbers of the table: so it lists no more numbers than the table has.
-- Assumes nothing.
use Prim.Native.Nat.{ℕ, ◌≤◌}
use native.Mathlib.Omega.{arith}
use mathlib.Core.Path.{◌≡◌, refl}
use mathlib.Core.Logic.{◌≢◌, ◌⊎◌, inl, inr}
use mathlib.Core.Bool.{Bool, not}
use mathlib.Core.Option.{Option, none, some}
use mathlib.Core.List.{List}
use lib.Dec.{T, T_not, eqb}
use lib.ListN.{length}
use lib.IntN.{ℤ}
use Rattle.mesh.specs.Tools.{any, count, is_some, or_else}
use Rattle.mesh.specs.Place.{Place, Wind, root}
use Rattle.mesh.specs.State.{State, place_of, is_used, entry, number, place_at}
use Rattle.mesh.specs.Valid.{Valid}
use Rattle.mesh.specs.Scan.{walk, permutation, scan}
use Rattle.place_laws.proofs.Bools.{either}
use Rattle.place_laws.proofs.Counting.{count_none, once-length}
use Rattle.number_laws.proofs.Entries.{in_list, stands-in}
use Rattle.number_laws.proofs.NumberedPlaces.{valid-numbered, place-number, numbered-not-zero}
use Rattle.walk_laws.proofs.Walks.{Order, walk-met, walk-once, stands-above}
use Rattle.walk_laws.proofs.Orders.{permutation-order}

-- ---- a walk

module _ (s : State) (v : Valid s) (f : Place → Bool) (ws : List Wind) (ord : Order ws) (n : ℕ) (p : Place) (h : number s.entries p ≢ 0) where
  walk-once-only : (k : ℕ) → count (eqb k) (walk s.entries f ws n p) ≤ 1
  walk-once-only k = go (either (any (eqb k) (walk s.entries f ws n p)))
    where
      go : T (any (eqb k) (walk s.entries f ws n p)) ⊎ T (not (any (eqb k) (walk s.entries f ws n p))) → count (eqb k) (walk s.entries f ws n p) ≤ 1
      go (inl t) =
          let m = walk-met s.entries f ws n p k h t in
          let e = walk-once s.entries f ws ord m.there m.lists (stands-above s v m.there (v.each k m.there m.its)) n m.down p m.near m.under in
          let e' : count (eqb k) (walk s.entries f ws n p) ≡ 1 = rw (place-number s.entries (valid-numbered v) k m.there m.its) at e in
          omega (arith, e')
      go (inr t) = omega (arith, count_none (eqb k) (walk s.entries f ws n p) (T_not (any (eqb k) (walk s.entries f ws n p)) t))

  walk_inside : (k : ℕ) → length s.entries ≤ k → count (eqb k) (walk s.entries f ws n p) ≡ 0
  walk_inside k l =
      count_none (eqb k) (walk s.entries f ws n p) (λ t.
      let m = walk-met s.entries f ws n p k h t in
      omega (arith, l, in_list s.entries k m.there m.its))

  pub walk-few : length (walk s.entries f ws n p) ≤ length s.entries
  walk-few = once-length (length s.entries) (walk s.entries f ws n p) walk-once-only walk_inside

-- ---- a scan from a number in use

pub scan-few : (s : State) → Valid s → (n : ℕ) (o : List ℕ) (k : ℕ) (from to : ℤ) → T (is_used (entry s.entries n)) → T (permutation o) → length (scan s n o k from to) ≤ length s.entries
unfolding scan
scan-few s v n o k from to used t = walk-few s v _ _ (permutation-order o t) _ (place_at s.entries n) (go (place_of (entry s.entries n)) refl used)
  where
    go : (q : Option Place) → place_of (entry s.entries n) ≡ q → T (is_some q) → number s.entries (or_else root (λ p. p) q) ≢ 0
    go none e u = absurd u
    go (some q) e u = numbered-not-zero s.entries (valid-numbered v) q (stands-in s.entries n q e)
