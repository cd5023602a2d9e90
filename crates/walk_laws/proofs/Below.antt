-- The places under a place: those whose parent, so many times, it is. A patch has a patch at each place above it, and the root above all.
-- Assumes nothing.
use Prim.Native.Nat.{ℕ, zero, suc, ◌+◌}
use native.Mathlib.Omega.{arith}
use mathlib.Core.Path.{◌≡◌, refl, sym, ap, ◌∙◌, subst}
use mathlib.Core.Bool.{Bool}
use mathlib.Core.Option.{some}
use lib.Dec.{T}
use Rattle.mesh.specs.Call.{Rectangle}
use Rattle.mesh.specs.Place.{Place, Grid, root, parent}
use Rattle.mesh.specs.Mesh.{Mesh, patch}
use Rattle.place_laws.proofs.Kids.{up, up_is, up_depth, parent_up, parent-depth}
use Rattle.place_laws.proofs.Tree.{patch-parent}
use Rattle.place_laws.proofs.Base.{depth-zero-root}

-- the parent, so many times
unfoldable pub up_by : ℕ → Place → Place
up_by zero q = q
up_by (suc m) q = up (up_by m q)

by-depth : (m d : ℕ) (q : Place) → q.depth ≡ m + d → (up_by m q).depth ≡ d
unfolding up_by
by-depth zero d q e = omega arith
by-depth (suc m) d q e = let i = by-depth m (suc d) q (omega arith) in omega (arith, up_depth (up_by m q) (omega arith))

-- q lies under p, so many levels down
pub record Below (p : Place) (m : ℕ) (q : Place) : Type 0 where
  pub deep : q.depth ≡ m + p.depth
  pub lies : up_by m q ≡ p

pub below-here : (p : Place) → Below p 0 p
unfolding up_by
below-here p = record { deep = omega arith; lies = refl }

pub below-same : {p q : Place} → Below p 0 q → q ≡ p
unfolding up_by
below-same b = b.lies

-- what lies under a kid lies under its parent, one more level down
pub below-kid : {p r q : Place} {m : ℕ} → parent r ≡ some p → Below r m q → Below p (suc m) q
unfolding up_by
below-kid {p} {r} {q} {m} e b = record { deep = omega (arith, parent-depth r p e); lies = ap up b.lies ∙ up_is r p e }

-- and what lies under a place and is not there lies under one of its kids
pub below-which : {p q : Place} {m : ℕ} → Below p (suc m) q → (r : Place) × (parent r ≡ some p) × Below r m q
unfolding up_by
below-which {p} {q} {m} b =
    let d : (up_by m q).depth ≡ suc p.depth = by-depth m (suc p.depth) q (omega arith) in
    let e : parent (up_by m q) ≡ some p = parent_up (up_by m q) (omega arith) ∙ ap some b.lies in
    (up_by m q, e, record { deep = omega arith; lies = refl })

-- under two places of one depth lies nothing
pub below_one : {p r q : Place} {m n : ℕ} → p.depth ≡ r.depth → Below p m q → Below r n q → p ≡ r
below_one {p} {r} {q} {m} {n} e a b =
    let k : m ≡ n = omega arith in
    sym a.lies ∙ ap (λ (i : ℕ). up_by i q) k ∙ b.lies

module _ (g : Grid) (c : Place → Bool) (m : Mesh g c) where
  pub patch-above : (k : ℕ) {p q : Place} → Below p k q → T (patch g c q) → T (patch g c p)
  patch-above zero {p} {q} b t = subst (λ (x : Place). T (patch g c x)) (below-same b) t
  patch-above (suc k) {p} {q} b t =
      let (r, e, a) = below-which b in
      patch-parent g c m r p e (patch-above k a t)

  -- every patch lies under the root
  pub root-above : Rectangle g → (q : Place) → T (patch g c q) → Below root q.depth q
  root-above in-range q t =
      let z : (up_by q.depth q).depth ≡ 0 = by-depth q.depth 0 q (omega arith) in
      let b : Below (up_by q.depth q) q.depth q = record { deep = omega arith; lies = refl } in
      record { deep = omega arith; lies = depth-zero-root g c m in-range (up_by q.depth q) z (patch-above q.depth b t) }
