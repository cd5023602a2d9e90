-- The four corners of a cell as a list: each stands in it once, and none lies south or west of the cell.
-- Assumes nothing.
use Prim.Native.Nat.{ℕ, suc, ◌≤◌, ◌<◌}
use native.Mathlib.Omega.{arith}
use mathlib.Core.Path.{◌≡◌, refl, sym, ap, ◌∙◌}
use mathlib.Core.Logic.{◌≢◌, ◌⊎◌, inl, inr}
use mathlib.Core.Option.{some}
use mathlib.Core.List.{List, [], ◌∷◌}
use lib.Dec.{lit<}
use lib.ListN.{get_or}
use Rattle.mesh.specs.Place.{Place, Grid, root, same, lap, j_after, to_north, to_east, In, Distinct, step, S, W}
use Rattle.place_laws.proofs.Lists.{any_at}
use Rattle.place_laws.proofs.Laps.{after-other, after-twice}
use Rattle.place_laws.proofs.Steps.{north-depth, north-i, north-j, east-depth, east-i, south-north, west-east}
use Rattle.place_laws.proofs.Places.{same_refl}
use Rattle.place_laws.proofs.Near.{Corner, c-here, c-east, c-north, c-both}
use Rattle.place_laws.proofs.Wanted.{Each, each_in}

-- ---- places that differ

apart : (x : Place) (ps : List Place) → Each (λ q. x ≢ q) ps → In x ps → ⊥
apart x ps h i = each_in (λ q. x ≢ q) ps h x i refl

other-col : (x y : Place) → x.i ≢ y.i → x ≢ y
other-col x y h e = h (ap (λ (z : Place). z.i) e)

other : (n j : ℕ) → (n ≡ 0) ⊎ (3 ≤ n) → j_after n j ≢ j
other n j many = after-other n j (λ e. go many e)
  where
    go : (n ≡ 0) ⊎ (3 ≤ n) → n ≡ 1 → ⊥
    go (inl z) e = omega arith
    go (inr z) e = omega arith

module _ (g : Grid) (p : Place) where
  -- ---- the list

  -- north-east, north, east, and the cell's own place
  abbrev pub corners : List Place
  corners = to_north g (to_east g p) ∷ to_north g p ∷ to_east g p ∷ p ∷ []

  nth : (i : ℕ) → i < 4 → In (get_or corners i root) corners
  nth i l = any_at (same (get_or corners i root)) root corners i l (same_refl (get_or corners i root))

  pub corner-in : {q : Place} → Corner g p q → In q corners
  corner-in c-both = nth 0 (lit< tt)
  corner-in c-north = nth 1 (lit< tt)
  corner-in c-east = nth 2 (lit< tt)
  corner-in c-here = nth 3 (lit< tt)

  pub in-corner : (q : Place) → In q corners → Corner g p q
  in-corner = each_in (Corner g p) corners (c-both, (c-north, (c-east, (c-here, tt))))

  -- the column of each
  cols : ((to_north g p).i ≡ p.i) × ((to_east g p).i ≡ suc p.i) × ((to_north g (to_east g p)).i ≡ suc p.i)
  cols = (north-i g p, east-i g p, north-i g (to_east g p) ∙ east-i g p)

  -- one row on is another place
  other_place : (lap g p.depth ≡ 0) ⊎ (3 ≤ lap g p.depth) → (q : Place) → q.depth ≡ p.depth → to_north g q ≢ q
  other_place many q d e = other (lap g p.depth) q.j many (rw d at (sym (north-j g q) ∙ ap (λ (x : Place). x.j) e))

  pub corners-distinct : (lap g p.depth ≡ 0) ⊎ (3 ≤ lap g p.depth) → Distinct corners
  corners-distinct many =
      let n = to_north g p in
      let e = to_east g p in
      let b = to_north g e in
      let (x, y, z) = cols in (
        apart b (n ∷ e ∷ p ∷ []) (other-col b n (λ k. omega arith), (other_place many e (east-depth g p), (other-col b p (λ k. omega arith), tt))),
        (
          apart n (e ∷ p ∷ []) (other-col n e (λ k. omega arith), (other_place many p refl, tt)),
          (apart e (p ∷ []) (other-col e p (λ k. omega arith), tt), (λ i. i, tt)),
        ),
      )

  -- ---- what lies elsewhere

  corner-past : {q : Place} → Corner g p q → p.i ≤ q.i
  corner-past c-here = omega arith
  corner-past c-east = omega (arith, east-i g p)
  corner-past c-north = omega (arith, north-i g p)
  corner-past c-both = omega (arith, cols.2)

  -- round two rows the place south would be the one north
  pub south-off : (lap g p.depth ≡ 0) ⊎ (3 ≤ lap g p.depth) → (q : Place) → step g S p ≡ some q → Corner g p q → ⊥
  south-off many q e k = go q k (south-north g p q e)
    where
      col : {x : Place} → x ≡ p → x.i ≡ p.i
      col i = ap (λ (x : Place). x.i) i

      go : (q : Place) → Corner g p q → to_north g q ≡ p → ⊥
      go q c-here i = other_place many p refl i
      go q c-east i = omega (arith, cols.2, col i)
      go q c-north i =
          let twice : j_after (lap g p.depth) (j_after (lap g p.depth) p.j) ≡ p.j = rw (north-j g (to_north g p), north-depth g p, north-j g p) at (ap (λ (x : Place). x.j) i) in
          after-twice (lap g p.depth) p.j many twice
      go q c-both i = omega (arith, cols.2, north-i g (to_north g (to_east g p)), col i)

  pub west-off : (q : Place) → step g W p ≡ some q → Corner g p q → ⊥
  west-off q e k = omega (arith, east-i g q, ap (λ (x : Place). x.i) (west-east g p q e), corner-past k)
