-- The lists that are counted have the patches: the corner points of a level's cells are the places that are touched, and the parents of level
-- 0's patches, their parents and so on are the ghosts.
-- Assumes nothing.
use Prim.Native.Nat.{ℕ, zero, suc, ◌+◌, ◌*◌, ◌^◌, ◌<◌}
use native.Mathlib.Omega.{arith}
use native.Mathlib.Decide.{ℕ_discrete}
use mathlib.Core.Path.{◌≡◌, sym, ap, ◌∙◌}
use mathlib.Core.Logic.{◌⊎◌, inl, inr}
use mathlib.Core.Bool.{Bool, false}
use mathlib.Core.Option.{Option, none, some}
use mathlib.Core.List.{map, ◌++◌}
use lib.Dec.{T}
use lib.ListN.{get_or}
use Rattle.mesh.specs.Tools.{flat, or_else}
use Rattle.mesh.specs.Place.{Place, Grid, at, same, base, parent, In, Distinct}
use Rattle.mesh.specs.Mesh.{Mesh, touched, patch}
use Rattle.place_laws.proofs.Lists.{any_at, any-hit, any-map}
use Rattle.place_laws.proofs.Places.{place-path, in-cases, in-here, in-there, any-in, in-any, same-is, same_refl}
use Rattle.place_laws.proofs.Counting.{any-parts, parts-any}
use Rattle.place_laws.proofs.Distinct.{in-append, append_left, append_right, distinct_append, keep-in, in-keep}
use Rattle.place_laws.proofs.Kids.{parent-depth}
use Rattle.place_laws.proofs.Near.{Corner, c-here, c-east, c-north, c-both, corner-cast, corner-depth, touched-corner, corner-touched}
use Rattle.place_laws.proofs.Tree.{patch-touched, touched-patch, ghost-kid, kid-ghost}
use Rattle.place_laws.proofs.Base.{cell-on}
use Rattle.walk_laws.specs.Points.{line, box, somes, corners, cells_on, corners_on, ghosts_on}
use Rattle.walk_laws.proofs.Sets.{distinct-distinct, in-distinct, distinct-in, somes-any}

-- ---- boxes

line-in : (e w j : ℕ) (q : Place) → q.depth ≡ e → q.j ≡ j → q.i < w → In q (line e w j)
line-in e zero j q a b l = absurd (omega arith)
line-in e (suc w) j q a b l = go (ℕ_discrete q.i w) (line-in e w j q a b)
  where
    go : Dec (q.i ≡ w) → (q.i < w → In q (line e w j)) → In q (line e (suc w) j)
    go (yes c) ih = in-here q (at e w j) (line e w j) (place-path q (at e w j) a c b)
    go (no c) ih = in-there q (at e w j) (line e w j) (ih (omega arith))

pub box_in : (e w h : ℕ) (q : Place) → q.depth ≡ e → q.i < w → q.j < h → In q (box e w h)
box_in e w zero q a l m = absurd (omega arith)
box_in e w (suc h) q a l m = go (ℕ_discrete q.j h) (box_in e w h q a l)
  where
    go : Dec (q.j ≡ h) → (q.j < h → In q (box e w h)) → In q (line e w h ++ box e w h)
    go (yes b) ih = append_left q (line e w h) (box e w h) (line-in e w h q a b l)
    go (no b) ih = append_right q (line e w h) (box e w h) (ih (omega arith))

line_at : (e w j : ℕ) (q : Place) → In q (line e w j) → (q.depth ≡ e) × (q.i < w) × (q.j ≡ j)
line_at e zero j q i = absurd i
line_at e (suc w) j q i = go (in-cases q (at e w j) (line e w j) i) (line_at e w j q)
  where
    go : (q ≡ at e w j) ⊎ In q (line e w j) → (In q (line e w j) → (q.depth ≡ e) × (q.i < w) × (q.j ≡ j)) → (q.depth ≡ e) × (q.i < suc w) × (q.j ≡ j)
    go (inl c) ih = (ap (λ (x : Place). x.depth) c, omega (arith, ap (λ (x : Place). x.i) c), ap (λ (x : Place). x.j) c)
    go (inr a) ih = let (x, y, z) = ih a in (x, omega arith, z)

pub box-at : (e w h : ℕ) (q : Place) → In q (box e w h) → (q.depth ≡ e) × (q.j < h)
box-at e w zero q i = absurd i
box-at e w (suc h) q i = go (in-append q (line e w h) (box e w h) i) (box-at e w h q)
  where
    go : In q (line e w h) ⊎ In q (box e w h) → (In q (box e w h) → (q.depth ≡ e) × (q.j < h)) → (q.depth ≡ e) × (q.j < suc h)
    go (inl a) ih = let (x, y, z) = line_at e w h q a in (x, omega arith)
    go (inr a) ih = let (x, z) = ih a in (x, omega arith)

line-distinct : (e w j : ℕ) → Distinct (line e w j)
line-distinct e zero j = tt
line-distinct e (suc w) j = (λ t. omega (arith, (line_at e w j (at e w j) t).1), line-distinct e w j)

pub box-distinct : (e w h : ℕ) → Distinct (box e w h)
box-distinct e w zero = tt
box-distinct e w (suc h) =
    distinct_append (line e w h) (box e w h) (line-distinct e w h) (box-distinct e w h) (λ q a b. omega (arith, (line_at e w h q a).2, (box-at e w h q b).1))

-- ---- the corners of a cell

module _ (g : Grid) where
  corner-in : {r q : Place} → Corner g r q → In q (corners g r)
  corner-in {r} {q} c-here = any_at (same q) r (corners g r) 0 (omega arith) (same_refl q)
  corner-in {r} {q} c-east = any_at (same q) r (corners g r) 1 (omega arith) (same_refl q)
  corner-in {r} {q} c-north = any_at (same q) r (corners g r) 2 (omega arith) (same_refl q)
  corner-in {r} {q} c-both = any_at (same q) r (corners g r) 3 (omega arith) (same_refl q)

  in-corner : (r q : Place) → In q (corners g r) → Corner g r q
  in-corner r q i = let (k, l, t) = any-hit (same q) r (corners g r) i in corner-cast (sym (same-is q (get_or (corners g r) k r) t)) (nth k)
    where
      nth : (k : ℕ) → Corner g r (get_or (corners g r) k r)
      nth zero = c-here
      nth (suc zero) = c-east
      nth (suc (suc zero)) = c-north
      nth (suc (suc (suc zero))) = c-both
      nth (suc (suc (suc (suc k)))) = c-here

-- ---- no place is counted twice

module _ (g : Grid) (c : Place → Bool) where
  pub corners-distinct : (k : ℕ) → Distinct (corners_on g c k)
  unfolding corners_on
  corners-distinct k = distinct-distinct (flat (map (corners g) (cells_on g c k)))

  pub ghosts-distinct : (n : ℕ) → Distinct (ghosts_on g c n)
  unfolding ghosts_on
  ghosts-distinct zero = corners-distinct 0
  ghosts-distinct (suc n) = distinct-distinct (somes (map parent (ghosts_on g c n)))

-- ---- the points of a level

module _ (g : Grid) (c : Place → Bool) (m : Mesh g c) where
  -- the corner points of the cells of level k are the places of that level that are touched
  pub corners-touched : (k : ℕ) (q : Place) → In q (corners_on g c k) → (q.depth ≡ base g + k) × T (touched g c q)
  unfolding corners_on cells_on
  corners-touched k q i =
      let (r, j, h) = any-parts (same q) (corners g) (cells_on g c k) (in-distinct q (flat (map (corners g) (cells_on g c k))) i) in
      let (l, t) = keep-in c (box (base g + k) (g.columns * 2 ^ k) (g.rows * 2 ^ k)) r j in
      let n = in-corner g r q h in
      (corner-depth n ∙ (box-at (base g + k) (g.columns * 2 ^ k) (g.rows * 2 ^ k) r l).0, corner-touched g c n t)

  pub touched-corners : (k : ℕ) (q : Place) → q.depth ≡ base g + k → T (touched g c q) → In q (corners_on g c k)
  unfolding corners_on cells_on
  touched-corners k q e t =
      let (r, n, u) = touched-corner g c q t in
      let d : r.depth ≡ base g + k = sym (corner-depth n) ∙ e in
      let (x, y) = cell-on g c m k r d u in
      distinct-in q (flat (map (corners g) (cells_on g c k)))
      (parts-any (same q) (corners g) r (cells_on g c k) (in-keep c (box (base g + k) (g.columns * 2 ^ k) (g.rows * 2 ^ k)) r (box_in (base g + k) (g.columns * 2 ^ k) (g.rows * 2 ^ k) r d x y) u) (corner-in g n))

  -- ---- the ghosts

  pub ghosts-patch : (n : ℕ) (q : Place) → In q (ghosts_on g c n) → (q.depth + n ≡ base g) × T (patch g c q)
  unfolding ghosts_on
  ghosts-patch zero q i = let (e, t) = corners-touched 0 q i in (omega (arith, e), touched-patch g c q (omega (arith, e)) t)
  ghosts-patch (suc n) q i =
      let (p, j, t) = any-in (λ p. or_else false (same q) (parent p)) (ghosts_on g c n) (rw (somes-any q (map parent (ghosts_on g c n)), any-map (λ o. or_else false (same q) o) parent (ghosts_on g c n)) at (in-distinct q (somes (map parent (ghosts_on g c n))) i)) in
      let e = is-some (parent p) t in
      let (d, u) = ghosts-patch n p j in
      (omega (arith, parent-depth p q e, d), kid-ghost g c q p (omega (arith, parent-depth p q e, d)) e u)
    where
      is-some : (o : Option Place) → T (or_else false (same q) o) → o ≡ some q
      is-some none t = absurd t
      is-some (some p) t = ap some (sym (same-is q p t))

  pub patch-ghosts : (n : ℕ) (q : Place) → q.depth + n ≡ base g → T (patch g c q) → In q (ghosts_on g c n)
  unfolding ghosts_on
  patch-ghosts zero q e t = touched-corners 0 q (omega arith) (patch-touched g c q (omega arith) t)
  patch-ghosts (suc n) q e t =
      let (p, d, u) = ghost-kid g c q (omega arith) t in
      distinct-in q (somes (map parent (ghosts_on g c n)))
      (rw (somes-any q (map parent (ghosts_on g c n)), any-map (λ o. or_else false (same q) o) parent (ghosts_on g c n))
      (in-any (λ p. or_else false (same q) (parent p)) (ghosts_on g c n) p (patch-ghosts n p (omega (arith, parent-depth p q d)) u) (rw d (same_refl q))))
