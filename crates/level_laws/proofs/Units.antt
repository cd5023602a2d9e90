-- `Beside` misses nothing: two leaves that hold two points one unit apart, of which one is east or north of the other, are one leaf or lie
-- beside each other; and so do those that hold the last and the first unit of a ring.
-- Assumes nothing.
use Prim.Native.Nat.{ℕ, suc, ◌+◌, ◌*◌, ◌≤◌, ◌<◌}
use native.Mathlib.Omega.{arith}
use native.Mathlib.Decide.{dec_le, dec_lt}
use mathlib.Core.Path.{◌≡◌}
use mathlib.Core.Logic.{◌⊎◌, inl, inr}
use mathlib.Core.Bool.{Bool}
use lib.Dec.{T}
use Rattle.mesh.specs.Place.{Place, Grid, base, lap}
use Rattle.mesh.specs.Mesh.{Mesh, leaf}
use Rattle.mesh.specs.Holding.{side, north_edge, holds}
use Rattle.place_laws.proofs.Kids.{leaf-cell}
use Rattle.place_laws.proofs.UnitPoints.{Within, held, holding}
use Rattle.place_laws.proofs.Tiling.{tiling-one}
use Rattle.level_laws.specs.Beside.{Overlap, Beside}
use Rattle.level_laws.proofs.RowUnits.{north-edge}

-- one of the intervals has both numbers, or one ends where the other begins
meet : (h i k j u : ℕ) → Within h i u → Within k j (suc u) → Within h i (suc u) ⊎ (Within k j u ⊎ ((i + 1) * h ≡ j * k))
meet h i k j u (a, b) (c, d) = go (dec_lt (suc u) ((i + 1) * h)) (dec_le (j * k) u)
  where
    go : Dec (suc u < (i + 1) * h) → Dec (j * k ≤ u) → Within h i (suc u) ⊎ (Within k j u ⊎ ((i + 1) * h ≡ j * k))
    go (yes l) y = inl (omega arith, l)
    go (no l) (yes y) = inr (inl (y, omega arith))
    go (no l) (no y) = inr (inr (omega arith))

overlap : (h i k j v : ℕ) → Within h i v → Within k j v → Overlap (i * h) ((i + 1) * h) (j * k) ((j + 1) * k)
overlap h i k j v (a, b) (c, d) = (omega arith, omega arith)

module _ {g : Grid} {c : Place → Bool} (m : Mesh g c) (p q : Place) (a : T (leaf g c p)) (b : T (leaf g c q)) (u v : ℕ) (x : T (holds g p u v)) where
  pub east-beside : T (holds g q (suc u) v) → (p ≡ q) ⊎ Beside g p q
  east-beside y =
      let (x₁, x₂) = holding g p u v x in
      let (y₁, y₂) = holding g q (suc u) v y in
      go x₂ y₂ (meet (side g p) p.i (side g q) q.i u x₁ y₁)
    where
      go : Within (side g p) p.j v → Within (side g q) q.j v → Within (side g p) p.i (suc u) ⊎ (Within (side g q) q.i u ⊎ ((p.i + 1) * side g p ≡ q.i * side g q)) → (p ≡ q) ⊎ Beside g p q
      go s t (inl i) = inl (tiling-one m (suc u) v p q a (held g p (suc u) v i s) b y)
      go s t (inr (inl i)) = inl (tiling-one m u v p q a x b (held g q u v i t))
      go s t (inr (inr e)) = inr (inl (inl e, overlap (side g p) p.j (side g q) q.j v s t))

  pub north-beside : T (holds g q u (suc v)) → (p ≡ q) ⊎ Beside g p q
  north-beside y =
      let (x₁, x₂) = holding g p u v x in
      let (y₁, y₂) = holding g q u (suc v) y in
      go x₁ y₁ (meet (side g p) p.j (side g q) q.j v x₂ y₂)
    where
      go : Within (side g p) p.i u → Within (side g q) q.i u → Within (side g p) p.j (suc v) ⊎ (Within (side g q) q.j v ⊎ ((p.j + 1) * side g p ≡ q.j * side g q)) → (p ≡ q) ⊎ Beside g p q
      go s t (inl i) = inl (tiling-one m u (suc v) p q a (held g p u (suc v) s i) b y)
      go s t (inr (inl i)) = inl (tiling-one m u v p q a x b (held g q u v t i))
      go s t (inr (inr e)) = inr (inr (inl (inl e), overlap (side g p) p.i (side g q) q.i u s t))

  -- in a ring the unit after the last is the first
  pub seam-beside : suc v ≡ lap g (base g + 12) → T (holds g q u 0) → Beside g p q
  seam-beside h y =
      let (x₁, x₂) = holding g p u v x in
      let (y₁, y₂) = holding g q u 0 y in
      inr (inl (inr (go x₂ (north-edge m p (leaf-cell g c p a)), omega (arith, y₂.0))), overlap (side g p) p.i (side g q) q.i u x₁ y₁)
    where
      go : Within (side g p) p.j v → (lap g (base g + 12) ≡ 0) ⊎ (north_edge g p ≤ lap g (base g + 12)) → north_edge g p ≡ lap g (base g + 12)
      go w (inl z) = absurd (omega arith)
      go w (inr l) = omega (arith, w.1)
