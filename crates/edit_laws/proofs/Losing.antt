-- Cells go, all of them leaves: a place that no cell touches any more has no kid that stood, and a patch that none of them touched stays one.
-- Assumes nothing.
use Prim.Native.Nat.{ℕ, zero, suc, ◌+◌, ◌-◌, ◌≤◌, ◌<◌}
use native.Mathlib.Omega.{arith}
use mathlib.Core.Path.{◌≡◌, refl, subst}
use mathlib.Core.Bool.{Bool, true, false}
use mathlib.Core.Option.{some}
use mathlib.Core.List.{List}
use lib.Dec.{T}
use Rattle.mesh.specs.Tools.{any}
use Rattle.mesh.specs.Place.{Place, Grid, base, same, parent, In}
use Rattle.mesh.specs.Mesh.{Mesh, touched, patch, leaf}
use Rattle.place_laws.proofs.Bools.{is-yes}
use Rattle.place_laws.proofs.Kids.{up, parent_up, up_is, parent-depth, leaf-kidless}
use Rattle.place_laws.proofs.Near.{Corner, corner-up, corner-depth, touched-corner, corner-touched}
use Rattle.place_laws.proofs.Tree.{patch-touched, touched-patch, ghost-kid, kid-ghost, cell-up}

module _ (g : Grid) (c d : Place → Bool) (ps : List Place) (left : (r : Place) → T (c r) → (In r ps → ⊥) → T (d r)) where
  -- a touched place stays touched, unless one of the cells that go touches it
  pub patch-left : (q : Place) → base g ≤ q.depth → ((r : Place) → In r ps → Corner g r q → ⊥) → T (patch g c q) → T (patch g d q)
  patch-left q l off t =
      let (r, k, b) = touched-corner g c q (patch-touched g c q l t) in
      touched-patch g d q l (corner-touched g d k (left r b (λ i. off r i k)))

  -- where the cells that go touch some places only, a patch stays one if it is touched or none of these places
  pub high-left : (qs : List Place) (q : Place) → base g ≤ q.depth → ((r : Place) → In r ps → Corner g r q → In q qs) → (In q qs → T (touched g d q)) → T (patch g c q) → T (patch g d q)
  high-left qs q l near on t = go (any (same q) qs) refl
    where
      go : (b : Bool) → any (same q) qs ≡ b → T (patch g d q)
      go true i = touched-patch g d q l (on (is-yes (any (same q) qs) i))
      go false i = patch-left q l (λ r j k. let w : T false = rw i at (near r j k) in w) t

  -- a ghost stays a patch if every patch of level 0 does
  ghost-by : ((q : Place) → q.depth ≡ base g → T (patch g c q) → T (patch g d q)) → (n : ℕ) (q : Place) → q.depth + n ≡ base g → T (patch g c q) → T (patch g d q)
  ghost-by h zero q e t = h q (omega arith) t
  ghost-by h (suc n) q e t =
      let (z, k, u) = ghost-kid g c q (omega arith) t in
      kid-ghost g d q z (omega arith) k (ghost-by h n z (omega (arith, parent-depth z q k)) u)

  pub ghost-left : ((q : Place) → q.depth ≡ base g → T (patch g c q) → T (patch g d q)) → (q : Place) → q.depth ≤ base g → T (patch g c q) → T (patch g d q)
  ghost-left h q l = ghost-by h (base g - q.depth) q (omega arith)

  module _ (m : Mesh g c) (leaves : (r : Place) → In r ps → T (leaf g c r)) where
    -- a cell that touched a kid has a parent that still touches the place
    pub untouched-kidless : (q z : Place) → base g ≤ q.depth → (T (touched g d q) → ⊥) → parent z ≡ some q → T (patch g c z) → ⊥
    untouched-kidless q z l out e t =
        let (r, k, b) = touched-corner g c z (patch-touched g c z (omega (arith, parent-depth z q e)) t) in
        let deep : base g < r.depth = omega (arith, corner-depth k, parent-depth z q e) in
        let b' : T (c (up r)) = cell-up g c m r b deep in
        let k' : Corner g (up r) q = subst (Corner g (up r)) (up_is z q e) (corner-up deep k) in
        out (corner-touched g d k' (left (up r) b' (λ i. leaf-kidless g c (up r) (leaves (up r) i) r (parent_up r (omega arith)) b)))
