-- A leaf gets its four kids: the cells are a mesh again, and its patches are the old ones and the nine that a refinement wants.
-- Assumes nothing.
use Prim.Native.Nat.{ℕ, zero, suc, ◌+◌, ◌-◌, ◌≤◌, ◌<◌}
use native.Mathlib.Omega.{arith}
use native.Mathlib.Decide.{dec_le}
use mathlib.Core.Path.{◌≡◌, sym, ◌∙◌}
use mathlib.Core.Logic.{◌⊎◌, inl, inr}
use mathlib.Core.Bool.{Bool, ◌||◌}
use mathlib.Core.Option.{Option, none, some, some-injective}
use mathlib.Core.List.{List}
use lib.Dec.{T}
use Rattle.mesh.specs.Tools.{any, all}
use Rattle.mesh.specs.Place.{Place, Grid, NE, same, base, kid, kids, parent, In}
use Rattle.mesh.specs.Mesh.{Mesh, on, patch}
use Rattle.mesh.specs.Request.{wanted}
use Rattle.place_laws.proofs.Bools.{or_left, or_right, or_cases}
use Rattle.place_laws.proofs.Lists.{all-weaken}
use Rattle.place_laws.proofs.Kids.{in-parent, parent_in, parent-depth, kid-depth, kids-all, has-kid, kid-has}
use Rattle.place_laws.proofs.Near.{Corner, touched-corner}
use Rattle.place_laws.proofs.Tree.{patch-touched, corner-patch, ghost-kid, kid-ghost, patch-more}
use Rattle.place_laws.proofs.Wanted.{wanted-corner, corner-wanted, wanted-depth, middle-kid}

-- the cells of c, and these
abbrev pub grown : (Place → Bool) → List Place → Place → Bool
grown c ps q = c q || any (same q) ps

pub grown-old : (c : Place → Bool) (ps : List Place) (q : Place) → T (c q) → T (grown c ps q)
grown-old c ps q t = or_left (c q) (any (same q) ps) t

pub grown-new : (c : Place → Bool) (p q : Place) → parent q ≡ some p → T (grown c (kids p) q)
grown-new c p q e = or_right (c q) (any (same q) (kids p)) (parent_in q p e)

-- an old cell, or a kid
pub grown-cases : (c : Place → Bool) (p q : Place) → T (grown c (kids p) q) → T (c q) ⊎ (parent q ≡ some p)
grown-cases c p q t = go (or_cases (c q) (any (same q) (kids p)) t)
  where
    go : T (c q) ⊎ In q (kids p) → T (c q) ⊎ (parent q ≡ some p)
    go (inl a) = inl a
    go (inr i) = inr (in-parent q p i)

module _ (g : Grid) (c : Place → Bool) (m : Mesh g c) (p : Place) (here : T (c p)) where
  -- ---- the cells

  kid-above : (q : Place) → parent q ≡ some p → base g < q.depth
  kid-above q e = omega (arith, m.low p here, parent-depth q p e)

  pub grown-mesh : p.depth < base g + 12 → Mesh g (grown c (kids p))
  grown-mesh low = record {
    some-cell = let (q, e, t) = m.some-cell in (q, e, grown-old c (kids p) q t);
    inside = λ q t e. inside q e (grown-cases c p q t);
    low = λ q t. lower q (grown-cases c p q t);
    high = λ q t. higher q (grown-cases c p q t);
    above = λ q t h. above q h (grown-cases c p q t);
    four = λ q t h. let (r, e, u) = has-kid g (grown c (kids p)) q h in four q r e (lower q (grown-cases c p q t)) (grown-cases c p r u);
  }
    where
      inside : (q : Place) → q.depth ≡ base g → T (c q) ⊎ (parent q ≡ some p) → (q.i < g.columns) × (q.j < g.rows)
      inside q e (inl a) = m.inside q a e
      inside q e (inr k) = absurd (omega (arith, kid-above q k))

      lower : (q : Place) → T (c q) ⊎ (parent q ≡ some p) → base g ≤ q.depth
      lower q (inl a) = m.low q a
      lower q (inr k) = omega (arith, kid-above q k)

      higher : (q : Place) → T (c q) ⊎ (parent q ≡ some p) → q.depth ≤ base g + 12
      higher q (inl a) = m.high q a
      higher q (inr k) = omega (arith, parent-depth q p k)

      on-old : (o : Option Place) → T (on g c o) → T (on g (grown c (kids p)) o)
      on-old none t = t
      on-old (some q) t = grown-old c (kids p) q t

      above : (q : Place) → base g < q.depth → T (c q) ⊎ (parent q ≡ some p) → T (on g (grown c (kids p)) (parent q))
      above q h (inl a) = on-old (parent q) (m.above q a h)
      above q h (inr k) = rw k (grown-old c (kids p) p here)

      four : (q r : Place) → parent r ≡ some q → base g ≤ q.depth → T (c r) ⊎ (parent r ≡ some p) → T (all (grown c (kids p)) (kids q))
      four q r e l (inl a) =
          let t : T (c q) = rw e at (m.above r a (omega (arith, parent-depth r q e))) in
          all-weaken c (grown c (kids p)) (grown-old c (kids p)) (kids q) (m.four q t (kid-has g c q r e a))
      four q r e l (inr k) = rw (some-injective _ _ (sym e ∙ k)) (kids-all (grown c (kids p)) p (grown-new c p))

  -- ---- the patches

  -- from level 0 up a patch is a corner of an old cell, or of a kid
  high-patch : (q : Place) → base g ≤ q.depth → T (patch g (grown c (kids p)) q) → T (patch g c q) ⊎ In q (wanted g p)
  high-patch q h t =
      let (r, k, a) = touched-corner g (grown c (kids p)) q (patch-touched g (grown c (kids p)) q h t) in
      go r k (grown-cases c p r a)
    where
      go : (r : Place) → Corner g r q → T (c r) ⊎ (parent r ≡ some p) → T (patch g c q) ⊎ In q (wanted g p)
      go r k (inl a) = inl (corner-patch g c (m.low r a) k a)
      go r k (inr e) = inr (corner-wanted g p (m.low p here) e k)

  -- on level 0 and below nothing is new
  low-patch : (n : ℕ) (q : Place) → q.depth + n ≡ base g → T (patch g (grown c (kids p)) q) → T (patch g c q)
  low-patch zero q e t = go (high-patch q (omega arith) t)
    where
      go : T (patch g c q) ⊎ In q (wanted g p) → T (patch g c q)
      go (inl a) = a
      go (inr i) = absurd (omega (arith, wanted-depth g p q i, m.low p here))
  low-patch (suc n) q e t =
      let (r, f, u) = ghost-kid g (grown c (kids p)) q (omega arith) t in
      kid-ghost g c q r (omega arith) f (low-patch n r (omega (arith, parent-depth r q f)) u)

  pub patch-grown : (q : Place) → T (patch g (grown c (kids p)) q) → T (patch g c q) ⊎ In q (wanted g p)
  patch-grown q t = go (dec_le (base g) q.depth)
    where
      go : Dec (base g ≤ q.depth) → T (patch g c q) ⊎ In q (wanted g p)
      go (yes h) = high-patch q h t
      go (no h) = inl (low-patch (base g - q.depth) q (omega arith) t)

  pub grown-patch : (q : Place) → T (patch g c q) ⊎ In q (wanted g p) → T (patch g (grown c (kids p)) q)
  grown-patch q (inl a) = patch-more g c (grown c (kids p)) (grown-old c (kids p)) q a
  grown-patch q (inr i) =
      let (r, e, k) = wanted-corner g p (m.low p here) q i in
      corner-patch g (grown c (kids p)) (omega (arith, kid-above r e)) k (grown-new c p r e)

  -- one at least is new: the point in the middle of p
  pub middle-new : ((q : Place) → parent q ≡ some p → T (c q) → ⊥) → T (patch g c (kid NE p)) → ⊥
  middle-new kidless t =
      let h : base g ≤ (kid NE p).depth = omega (arith, kid-depth NE p, m.low p here) in
      let (r, k, a) = touched-corner g c (kid NE p) (patch-touched g c (kid NE p) h t) in
      kidless r (middle-kid g r p (m.low p here) k) a
