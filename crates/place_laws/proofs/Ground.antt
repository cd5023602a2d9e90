-- The level-0 places of the rectangle: a test of some of them, and a cell there besides another.
-- Assumes nothing.
use Prim.Native.Nat.{ℕ, zero, suc, ◌<◌}
use native.Mathlib.Omega.{arith}
use native.Mathlib.Decide.{ℕ_discrete}
use mathlib.Core.Path.{◌≡◌, refl, subst}
use mathlib.Core.Logic.{◌⊎◌, inl, inr}
use mathlib.Core.Bool.{Bool, not, ◌&&◌}
use lib.Dec.{T, T_not}
use Rattle.mesh.specs.Tools.{any_below}
use Rattle.mesh.specs.Place.{Place, Grid, same, base}
use Rattle.mesh.specs.Deed.{any_ground}
use Rattle.place_laws.proofs.Bools.{no-is, is-no, or_left, or_right, or_cases, and_both, and_left, and_right}
use Rattle.place_laws.proofs.Places.{same-is, is_same}

-- ---- numbers below a bound

below-any : (f : ℕ → Bool) (n i : ℕ) → i < n → T (f i) → T (any_below f n)
below-any f zero i l t = absurd (omega arith)
below-any f (suc n) i l t = go (ℕ_discrete i n) (below-any f n i)
  where
    go : Dec (i ≡ n) → (i < n → T (f i) → T (any_below f n)) → T (any_below f (suc n))
    go (yes e) r = or_left (f n) (any_below f n) (subst (λ (k : ℕ). T (f k)) e t)
    go (no z) r = or_right (f n) (any_below f n) (r (omega arith) t)

any_below_lem : (f : ℕ → Bool) (n : ℕ) → T (any_below f n) → (i : ℕ) × T (f i)
any_below_lem f zero t = absurd t
any_below_lem f (suc n) t = go (or_cases (f n) (any_below f n) t) (any_below_lem f n)
  where
    go : T (f n) ⊎ T (any_below f n) → (T (any_below f n) → (i : ℕ) × T (f i)) → (i : ℕ) × T (f i)
    go (inl a) r = (n, a)
    go (inr a) r = r a

-- ---- level-0 places

module _ (g : Grid) where
  ground-any : (f : Place → Bool) (q : Place) → q.depth ≡ base g → (q.i < g.columns) × (q.j < g.rows) → T (f q) → T (any_ground g f)
  unfolding any_ground
  ground-any f q e (a, b) t =
      below-any (λ i. any_below (λ j. f (record { depth = base g; i = i; j = j })) g.rows) g.columns q.i a
      (below-any (λ j. f (record { depth = base g; i = q.i; j = j })) g.rows q.j b
      (subst (λ (d : ℕ). T (f (record { depth = d; i = q.i; j = q.j }))) e t))

  any-ground : (f : Place → Bool) → T (any_ground g f) → (q : Place) × (q.depth ≡ base g) × T (f q)
  unfolding any_ground
  any-ground f t =
      let (i, u) = any_below_lem (λ i. any_below (λ j. f (record { depth = base g; i = i; j = j })) g.rows) g.columns t in
      let (j, w) = any_below_lem (λ j. f (record { depth = base g; i = i; j = j })) g.rows u in
      (record { depth = base g; i = i; j = j }, refl, w)

  -- "it is the only level-0 cell" fails exactly where there is another
  module _ (c : Place → Bool) (p : Place) where
    pub other-ground : T (any_ground g (λ q. c q && not (same q p))) → (q : Place) × (q.depth ≡ base g) × T (c q) × (q ≡ p → ⊥)
    other-ground t =
        let (q, e, u) = any-ground (λ q. c q && not (same q p)) t in
        (q, e, and_left (c q) (not (same q p)) u, λ z. T_not (same q p) (and_right (c q) (not (same q p)) u) (is_same q p z))

    pub ground-other : (q : Place) → q.depth ≡ base g → (q.i < g.columns) × (q.j < g.rows) → T (c q) → (q ≡ p → ⊥) → T (any_ground g (λ q. c q && not (same q p)))
    ground-other q e inside t z = ground-any (λ q. c q && not (same q p)) q e inside (and_both (c q) (not (same q p)) t (is-no (same q p) (no-is (same q p) (λ u. z (same-is q p u)))))
