-- The number in use is what the cells make: the places of the entries, and the places counted level by level, are both the patches, each once.
-- Assumes nothing.
use Prim.Native.Nat.{suc, ◌-◌, ◌≤◌, ◌<◌}
use native.Mathlib.Omega.{arith}
use native.Mathlib.Decide.{dec_lt}
use mathlib.Core.Path.{◌≡◌, sym, ◌∙◌}
use mathlib.Core.Logic.{◌⊎◌, inl, inr}
use mathlib.Core.Bool.{Bool, false}
use mathlib.Core.List.{List, ◌++◌, map}
use lib.Dec.{T}
use lib.ListN.{length, length-append}
use Rattle.number_laws.specs.Numbered.{Numbered}
use Rattle.mesh.specs.Tools.{any, count, is_some, or_else}
use Rattle.mesh.specs.Place.{Place, Grid, same, base, In, Distinct}
use Rattle.mesh.specs.Mesh.{Mesh, patch}
use Rattle.mesh.specs.State.{State, Entry, nil, place_of, stands, entry, cells, in_use, grid_of}
use Rattle.mesh.specs.Valid.{Valid}
use Rattle.place_laws.proofs.Lists.{any-map, count_map}
use Rattle.place_laws.proofs.Counting.{count-one}
use Rattle.place_laws.proofs.Distinct.{once-distinct, in-append, append_left, append_right, distinct_append, same_length}
use Rattle.place_laws.proofs.Tree.{patch-high, patch-touched, touched-patch}
use Rattle.number_laws.proofs.Entries.{stands-place, in-stands}
use Rattle.number_laws.proofs.NumberedPlaces.{valid-numbered}
use Rattle.walk_laws.specs.Points.{somes, corners_on, ghosts_on, total}
use Rattle.walk_laws.proofs.Sets.{stack, stack-length, in_stack, stack-in, stack-distinct, somes-any, somes-count, somes-length}
use Rattle.walk_laws.proofs.Points.{corners-distinct, ghosts-distinct, corners-touched, touched-corners, ghosts-patch, patch-ghosts}

-- ---- the places of the entries

pub placed : List Entry → List Place
placed es = somes (map place_of es)

module _ (es : List Entry) where
  placed-length : length (placed es) ≡ in_use es
  unfolding placed in_use
  placed-length = somes-length (map place_of es) ∙ count_map is_some place_of es

  pub placed-stands : (q : Place) → any (same q) (placed es) ≡ any (stands q) es
  unfolding placed
  placed-stands q = somes-any q (map place_of es) ∙ any-map (λ o. or_else false (same q) o) place_of es

  -- how many of the places pass is how many entries have such a place
  pub placed-count : (f : Place → Bool) → count f (placed es) ≡ count (λ e. or_else false f (place_of e)) es
  unfolding placed
  placed-count f = somes-count f (map place_of es) ∙ count_map (λ o. or_else false f o) place_of es

  pub placed-distinct : Numbered es → Distinct (placed es)
  placed-distinct u = once-distinct (placed es) (λ q.
      rw (placed-count (same q))
      (count-one (stands q) nil es (λ i j l m a b. u.once i j q (stands-place q (entry es i) a) (stands-place q (entry es j) b))))

-- ---- the places counted

module _ (g : Grid) (c : Place → Bool) where
  ghosts : List Place
  ghosts = stack (λ n. ghosts_on g c (suc n)) (base g)

  points : List Place
  points = stack (corners_on g c) 13

  counted : List Place
  counted = ghosts ++ points

  counted-length : length counted ≡ total g c
  unfolding ghosts points counted total
  counted-length =
      length-append ghosts points
      ∙ rw (stack-length (λ n. ghosts_on g c (suc n)) (base g), stack-length (corners_on g c) 13)

  module _ (m : Mesh g c) where
    in-ghosts : (q : Place) → In q ghosts → (q.depth < base g) × T (patch g c q)
    unfolding ghosts
    in-ghosts q i =
        let (n, l, j) = in_stack (λ n. ghosts_on g c (suc n)) (base g) q i in
        let (d, t) = ghosts-patch g c m (suc n) q j in
        (omega (arith, d), t)

    in-points : (q : Place) → In q points → (base g ≤ q.depth) × T (patch g c q)
    unfolding points
    in-points q i =
        let (k, l, j) = in_stack (corners_on g c) 13 q i in
        let (d, t) = corners-touched g c m k q j in
        (omega (arith, d), touched-patch g c q (omega (arith, d)) t)

    counted-patch : (q : Place) → In q counted → T (patch g c q)
    unfolding counted
    counted-patch q i = go (in-append q ghosts points i)
      where
        go : In q ghosts ⊎ In q points → T (patch g c q)
        go (inl a) = (in-ghosts q a).1
        go (inr a) = (in-points q a).1

    patch-counted : (q : Place) → T (patch g c q) → In q counted
    unfolding counted ghosts points
    patch-counted q t = go (dec_lt q.depth (base g))
      where
        go : Dec (q.depth < base g) → In q (ghosts ++ points)
        go (yes h) =
            let n = base g - suc q.depth in
            append_left q ghosts points (stack-in (λ n. ghosts_on g c (suc n)) (base g) n q (omega arith) (patch-ghosts g c m (suc n) q (omega arith) t))
        go (no h) =
            let k = q.depth - base g in
            append_right q ghosts points (stack-in (corners_on g c) 13 k q (omega (arith, patch-high g c m q t)) (touched-corners g c m k q (omega arith) (patch-touched g c q (omega arith) t)))

    counted-distinct : Distinct counted
    unfolding counted ghosts points
    counted-distinct =
        distinct_append ghosts points
        (stack-distinct (λ n. ghosts_on g c (suc n)) (λ n. ghosts-distinct g c (suc n)) (λ i j q a b. omega (arith, (ghosts-patch g c m (suc i) q a).0, (ghosts-patch g c m (suc j) q b).0)) (base g))
        (stack-distinct (corners_on g c) (corners-distinct g c) (λ i j q a b. omega (arith, (corners-touched g c m i q a).0, (corners-touched g c m j q b).0)) 13)
        (λ q a b. omega (arith, (in-ghosts q a).0, (in-points q b).0))

-- ---- the number in use

-- the number of ghost patches plus, level by level, the number of distinct corner points of the cells
pub in-use-counts : {s : State} → Valid s → in_use s.entries ≡ total (grid_of s) (cells s.entries)
in-use-counts {s} v =
    sym (placed-length s.entries)
    ∙ same_length (placed s.entries) (counted g c) (placed-distinct s.entries (valid-numbered v)) (counted-distinct g c v.mesh)
    (λ q i. let (n, l, e) = in-stands s.entries q (rw (placed-stands s.entries q) at i) in patch-counted g c v.mesh q (v.each n q e))
    (λ q i. rw (placed-stands s.entries q) (v.every q (counted-patch g c v.mesh q i)))
    ∙ counted-length g c
  where
    g : Grid
    g = grid_of s

    c : Place → Bool
    c = cells s.entries
