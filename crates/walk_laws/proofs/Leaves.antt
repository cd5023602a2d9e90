-- The leaf that holds a point: the list has one entry for it, the one at its place, so its number is that place's.
-- Assumes nothing.
use Prim.Native.Nat.{ℕ}
use native.Mathlib.Nat.{zero-add}
use native.Mathlib.Decide.{ℕ_discrete}
use mathlib.Core.Path.{◌≡◌, refl, sym, ap, ◌∙◌}
use mathlib.Core.Logic.{◌≢◌}
use mathlib.Core.Bool.{Bool, true, false, not, ◌&&◌}
use mathlib.Core.Option.{none, some}
use lib.Dec.{T, T_not, eqb}
use borrow.Author.Tests.{eq-eqb, ne_eqb}
use Rattle.mesh.specs.Tools.{first}
use Rattle.mesh.specs.Place.{Place}
use Rattle.mesh.specs.Mesh.{leaf}
use Rattle.mesh.specs.State.{State, Entry, nil, free, used, Cell, place_of, entry, cells, number, grid_of}
use Rattle.mesh.specs.Valid.{Valid}
use Rattle.mesh.specs.Holding.{holds, leaf_holding, leaf_at, ground_of}
use Rattle.place_laws.proofs.Bools.{and_left, and_right, is-yes, is-no, not-not, yes-is}
use Rattle.place_laws.proofs.Lists.{first-hit, first-at}
use Rattle.place_laws.proofs.Kids.{leaf-cell}
use Rattle.place_laws.proofs.Tiling.{tiling-some, tiling-one, tiling-none}
use Rattle.number_laws.proofs.Entries.{in_list, cell-somewhere}
use Rattle.number_laws.proofs.NumberedPlaces.{valid-numbered, place-number, not-zero}

-- ---- one entry

module _ (s : State) (u v : ℕ) where
  holding-place : (e : Entry) → T (leaf_holding s u v e) → (p : Place) × (place_of e ≡ some p) × T (leaf (grid_of s) (cells s.entries) p) × T (holds (grid_of s) p u v)
  unfolding leaf_holding
  holding-place nil t = absurd t
  holding-place free t = absurd t
  holding-place (used p none) t = absurd t
  holding-place (used p (some x)) t =
      let a = leaf (grid_of s) (cells s.entries) p in
      let b = holds (grid_of s) p u v in
      let h = not-not (a && b) t in
      (p, refl, and_left a b h, and_right a b h)

  place-holding : (e : Entry) (p : Place) (x : Cell) → e ≡ used p (some x) → T (leaf (grid_of s) (cells s.entries) p) → T (holds (grid_of s) p u v) → T (leaf_holding s u v e)
  unfolding leaf_holding
  place-holding e p x i a b = rw (i, yes-is (leaf (grid_of s) (cells s.entries) p) a, yes-is (holds (grid_of s) p u v) b) tt

-- ---- the list

module _ {s : State} (w : Valid s) (u v : ℕ) where
  -- a number is that of a leaf that holds the point
  pub leaf-at-place : leaf_at s u v ≢ 0 → (p : Place) × (place_of (entry s.entries (leaf_at s u v)) ≡ some p) × T (leaf (grid_of s) (cells s.entries) p) × T (holds (grid_of s) p u v)
  unfolding leaf_at
  leaf-at-place h =
      let (k, e, l, t) = first-hit (leaf_holding s u v) nil 0 s.entries h in
      holding-place s u v (entry s.entries (first (leaf_holding s u v) 0 s.entries)) (rw (e, zero-add) t)

  -- outside the area there is none
  pub leaf-at-none : (T (cells s.entries (ground_of (grid_of s) u v)) → ⊥) → leaf_at s u v ≡ 0
  leaf-at-none h = go (ℕ_discrete (leaf_at s u v) 0)
    where
      go : Dec (leaf_at s u v ≡ 0) → leaf_at s u v ≡ 0
      go (yes z) = z
      go (no z) = let (p, e, a, b) = leaf-at-place z in absurd (h (tiling-none w.mesh u v p a b))

  -- beside the entry of a leaf that holds the point there is no other
  holding-once : (n : ℕ) (p : Place) → place_of (entry s.entries n) ≡ some p → T (leaf (grid_of s) (cells s.entries) p) → T (holds (grid_of s) p u v) → (j : ℕ) → T (leaf_holding s u v (entry s.entries j)) → j ≡ n
  holding-once n p i a b j t =
      let (q, f, c, d) = holding-place s u v (entry s.entries j) t in
      w.once j n p (f ∙ ap some (tiling-one w.mesh u v q p c d a b)) i

  -- a leaf that holds the point is the one
  pub leaf-number : (p : Place) → T (leaf (grid_of s) (cells s.entries) p) → T (holds (grid_of s) p u v) → (leaf_at s u v ≡ number s.entries p) × (number s.entries p ≢ 0)
  unfolding leaf_at
  leaf-number p a b =
      let es = s.entries in
      let (n, x, e) = cell-somewhere es p (leaf-cell (grid_of s) (cells es) p a) in
      let i : place_of (entry es n) ≡ some p = ap place_of e in
      let k = place-number es (valid-numbered w) n p i in
      let h = first-at (leaf_holding s u v) nil 0 es n (in_list es n p i) (place-holding s u v (entry es n) p x e a b) (λ j l t. holding-once n p i a b j t) in
      (h ∙ zero-add n ∙ sym k, λ z. not-zero es (valid-numbered w) n p i (sym k ∙ z))

  -- in the area there is one
  pub leaf-at-some : T (cells s.entries (ground_of (grid_of s) u v)) → (p : Place) × T (leaf (grid_of s) (cells s.entries) p) × T (holds (grid_of s) p u v) × (leaf_at s u v ≡ number s.entries p) × (number s.entries p ≢ 0)
  leaf-at-some t =
      let (p, a, b) = tiling-some w.mesh u v t in
      let (e, z) = leaf-number p a b in
      (p, a, b, e, z)

  pub leaf-at-zero : eqb (leaf_at s u v) 0 ≡ not (cells s.entries (ground_of (grid_of s) u v))
  leaf-at-zero = go (cells s.entries (ground_of (grid_of s) u v)) refl
    where
      go : (b : Bool) → cells s.entries (ground_of (grid_of s) u v) ≡ b → eqb (leaf_at s u v) 0 ≡ not b
      go true e =
          let (p, a, b, f, z) = leaf-at-some (is-yes (cells s.entries (ground_of (grid_of s) u v)) e) in
          ne_eqb (leaf_at s u v) 0 (λ y. z (sym f ∙ y))
      go false e = eq-eqb (leaf_at s u v) 0 (leaf-at-none (T_not (cells s.entries (ground_of (grid_of s) u v)) (is-no (cells s.entries (ground_of (grid_of s) u v)) e)))
