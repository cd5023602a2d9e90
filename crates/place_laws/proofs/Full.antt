-- Every level-0 cell of the rectangle: a mesh, whose patches go no deeper than level 0.
-- Assumes nothing.
use Prim.Native.Nat.{◌≤◌, ◌<◌}
use native.Mathlib.Omega.{arith}
use native.Mathlib.Decide.{dec_le}
use mathlib.Core.Path.{◌≡◌, refl}
use mathlib.Core.Bool.{◌&&◌}
use lib.Dec.{T, eqb, ltb, eqb→eq, eqb_refl, ltb→lt, lt→ltb}
use Rattle.mesh.specs.Call.{Rectangle}
use Rattle.mesh.specs.Place.{Place, Grid, at, base}
use Rattle.mesh.specs.Mesh.{Mesh, patch}
use Rattle.mesh.specs.Build.{full}
use Rattle.place_laws.proofs.Bools.{and_both, and_left, and_right}
use Rattle.place_laws.proofs.Kids.{parent-depth, has-kid}
use Rattle.place_laws.proofs.Near.{corner-depth, touched-corner}
use Rattle.place_laws.proofs.Tree.{patch-touched}

module _ (g : Grid) where
  pub full-cell : (p : Place) → T (full g p) → (p.depth ≡ base g) × (p.i < g.columns) × (p.j < g.rows)
  unfolding full
  full-cell p t =
      let a = eqb p.depth (base g) in
      let b = ltb p.i g.columns in
      let c = ltb p.j g.rows in
      let u = and_right a (b && c) t in
      (eqb→eq _ _ (and_left a (b && c) t), ltb→lt _ _ (and_left b c u), ltb→lt _ _ (and_right b c u))

  pub cell_full : (p : Place) → p.depth ≡ base g → p.i < g.columns → p.j < g.rows → T (full g p)
  unfolding full
  cell_full p e x y =
      and_both (eqb p.depth (base g)) (ltb p.i g.columns && ltb p.j g.rows)
      (rw e (eqb_refl (base g)))
      (and_both (ltb p.i g.columns) (ltb p.j g.rows) (lt→ltb _ _ x) (lt→ltb _ _ y))

  -- the cells stand on one level
  pub full-mesh : Rectangle g → Mesh g (full g)
  full-mesh (a, b, c, d, _, _) = record {
    some-cell = (at (base g) 0 0, refl, cell_full (at (base g) 0 0) refl a c);
    inside = λ p t e. let (d, x, y) = full-cell p t in (x, y);
    low = λ p t. omega (arith, (full-cell p t).0);
    high = λ p t. omega (arith, (full-cell p t).0);
    above = λ p t h. absurd (omega (arith, (full-cell p t).0));
    four = λ p t h. let (q, e, u) = has-kid g (full g) p h in absurd (omega (arith, parent-depth q p e, (full-cell p t).0, (full-cell q u).0));
  }

  -- no patch lies above level 0
  pub full-depth : (p : Place) → T (patch g (full g) p) → p.depth ≤ base g
  full-depth p t = go (dec_le p.depth (base g))
    where
      go : Dec (p.depth ≤ base g) → p.depth ≤ base g
      go (yes h) = h
      go (no h) =
          let (r, k, b) = touched-corner g (full g) p (patch-touched g (full g) p (omega arith) t) in
          omega (arith, corner-depth k, (full-cell r b).0)
