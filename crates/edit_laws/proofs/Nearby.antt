-- The kids of a place have come or gone: once the rows at their corners and those beside them to the south and to the west are refreshed, every
-- flag is the mesh's, for the flags elsewhere did not change.
-- Assumes nothing.
use Prim.Native.Nat.{ℕ, suc, ◌≤◌}
use native.Mathlib.Omega.{arith}
use native.Mathlib.Decide.{ℕ_discrete}
use mathlib.Core.Path.{◌≡◌, refl, sym, ap, ◌∙◌, subst}
use mathlib.Core.Logic.{◌≢◌, ◌⊎◌, inl, inr}
use mathlib.Core.Bool.{Bool, false, ◌||◌}
use mathlib.Core.Option.{Option, some}
use mathlib.Core.List.{List, [], ◌∷◌, ◌++◌, map}
use lib.Dec.{T}
use Rattle.edit_laws.specs.Rooted.{Rooted}
use Rattle.mesh.specs.Tools.{any, digits, or_else}
use Rattle.mesh.specs.Place.{Place, Grid, SE, SW, NW, base, same, kid, parent, to_north, to_east, In, step, S, W}
use Rattle.mesh.specs.Mesh.{Mesh, touched, flags}
use Rattle.mesh.specs.State.{Entry, place_of, stands, entry, cells, number}
use Rattle.mesh.specs.Request.{wanted}
use Rattle.place_laws.proofs.Bools.{or_left, or_right}
use Rattle.place_laws.proofs.Places.{same_refl}
use Rattle.place_laws.proofs.Kids.{parent-depth}
use Rattle.place_laws.proofs.Near.{c-east, c-north, corner-depth}
use Rattle.place_laws.proofs.Wanted.{wanted-depth}
use Rattle.place_laws.proofs.Fringe.{Fringe, south-of-sw, south-of-se, west-of-sw, west-of-nw, fringe-beside, kids-walls, kids-same}
use Rattle.number_laws.proofs.Entries.{stands-in}
use Rattle.edit_laws.specs.Linked.{Flags, table_with, flags_of}
use Rattle.edit_laws.specs.Anew.{point_row}
use Rattle.edit_laws.specs.Tables.{wanted_spots, outside_spots, each_at, refresh_near}
use Rattle.edit_laws.proofs.Setting.{flags-same}
use Rattle.edit_laws.proofs.FlagsAnew.{bit, Ready, boundary_h-bit, boundary_v-bit}
use Rattle.edit_laws.proofs.Named.{AllNamed, named-append, wanted-named, outside-named}
use Rattle.edit_laws.proofs.PassingRows.{among, among-all, among-both, named-level, pass}
use Rattle.edit_laws.proofs.Walling.{wall-step, point-step}
use Rattle.edit_laws.proofs.TwoPasses.{Stale, walls, twice, walled, twice-right, twice-else}
use Rattle.edit_laws.proofs.Starting.{mark_of}

-- the four places beside the kids, as far as they are there
abbrev pub besides : Grid → Place → List (Option Place)
besides g p = step g S (kid SW p) ∷ step g S (kid SE p) ∷ step g W (kid SW p) ∷ step g W (kid NW p) ∷ []

fringe-among : (g : Grid) (p q : Place) → Fringe g p q → T (among q (besides g p))
fringe-among g p q k = go k
  where
    is : (o : Option Place) → o ≡ some q → T (or_else false (same q) o)
    is o e = rw e (same_refl q)

    at : Option Place → Bool
    at o = or_else false (same q) o

    a : Bool
    a = at (step g S (kid SW p))

    b : Bool
    b = at (step g S (kid SE p))

    c : Bool
    c = at (step g W (kid SW p))

    d : Bool
    d = at (step g W (kid NW p))

    go : Fringe g p q → T (a || (b || (c || (d || false))))
    go (south-of-sw e) = or_left a (b || (c || (d || false))) (is (step g S (kid SW p)) e)
    go (south-of-se e) = or_right a (b || (c || (d || false))) (or_left b (c || (d || false)) (is (step g S (kid SE p)) e))
    go (west-of-sw e) = or_right a (b || (c || (d || false))) (or_right b (c || (d || false)) (or_left c (d || false) (is (step g W (kid SW p)) e)))
    go (west-of-nw e) = or_right a (b || (c || (d || false))) (or_right b (c || (d || false)) (or_right c (d || false) (or_left d false (is (step g W (kid NW p)) e))))

fringe-depth : (g : Grid) (p q : Place) → Fringe g p q → q.depth ≡ suc p.depth
fringe-depth g p q k = go (fringe-beside g p q k)
  where
    go : (parent (to_north g q) ≡ some p) ⊎ (parent (to_east g q) ≡ some p) → q.depth ≡ suc p.depth
    go (inl e) = sym (corner-depth {g = g} {r = q} c-north) ∙ parent-depth (to_north g q) p e
    go (inr e) = sym (corner-depth {g = g} {r = q} c-east) ∙ parent-depth (to_east g q) p e

-- the flags of a linked table after a change at the kids of p, and before any row is refreshed: the cells and the marks are right, and away
-- from the corners of the kids the flags are those of the cells before, d
pub record Nearly (g : Grid) (es : List Entry) (p : Place) (d : Place → Bool) (f : Flags) : Type 0 where
  pub mesh : Mesh g (cells es)
  pub low : base g ≤ p.depth
  pub else : (q : Place) → (parent q ≡ some p → ⊥) → d q ≡ cells es q
  pub stood : (q : Place) → q.depth ≡ suc p.depth → T (touched g (cells es) q) → T (any (stands q) es)
  pub complete : (q : Place) → T (any (stands q) es) → bit 0 (f q) ≡ cells es q
  pub sentenced : (q : Place) → T (any (stands q) es) → bit 12 (f q) ≡ mark_of es q
  pub away : (q : Place) → T (any (stands q) es) → (In q (wanted g p) → ⊥) → f q ≡ digits (flags g d q (mark_of es q))

module _ {g : Grid} {es : List Entry} {p : Place} {d : Place → Bool} {f : Flags} (a : Nearly g es p d f) where
  -- elsewhere than on the level of the kids no flag changes
  elsewhere : (q : Place) → (q.depth ≡ suc p.depth → ⊥) → T (any (stands q) es) → f q ≡ digits (flags g (cells es) q (mark_of es q))
  unfolding flags
  elsewhere q o t =
      let out : In q (wanted g p) → ⊥ = λ i. o (wanted-depth g p q i) in
      a.away q t out ∙ rw (kids-same g d (cells es) p a.low a.else q out (λ _ k. o (fringe-depth g p q k)))

  pub ready : Ready g es f (cells es) (suc p.depth)
  ready = record {
    mesh = a.mesh;
    stood = a.stood;
    complete = λ q e t. a.complete q t;
    boundaries_h = λ q e l t. ap (bit 4) (elsewhere q (λ i. omega arith) t) ∙ boundary_h-bit g (cells es) q (mark_of es q);
    boundaries_v = λ q e l t. ap (bit 5) (elsewhere q (λ i. omega arith) t) ∙ boundary_v-bit g (cells es) q (mark_of es q);
  }

  -- ---- the two passes

  abbrev kid_places : List (Option Place)
  kid_places = map some (wanted g p)

  abbrev near_places : List (Option Place)
  near_places = kid_places ++ besides g p

  is-wanted : (q : Place) → In q (wanted g p) → T (among q kid_places)
  is-wanted q i = subst T (sym (among-all q (wanted g p))) i

  near : (q : Place) → T (among q kid_places || among q (besides g p)) → T (among q near_places)
  near q t = subst T (sym (among-both q kid_places (besides g p))) t

  module _ {cap : ℕ} (r : Rooted g cap es) (n : ℕ) (h : place_of (entry es n) ≡ some p) (east : number es (to_east g p) ≢ 0) where
    wall-places : AllNamed es p.depth (wanted_spots (table_with g es f) cap n) kid_places
    wall-places = wanted-named r f n p h east

    point-places : AllNamed es p.depth (wanted_spots (table_with g es f) cap n ++ outside_spots (table_with g es f) cap n) near_places
    point-places = named-append wall-places (outside-named r f n p h a.low)

    stale : Stale g es (cells es) d (mark_of es) (suc p.depth) kid_places near_places f
    stale = record {
      ready = ready;
      wall-level = named-level wall-places;
      point-level = named-level point-places;
      marked = λ q i t. a.sentenced q t;
      away = λ q i t o. a.away q t (λ k. o (is-wanted q k));
      same-walls = λ q i o. let (x, y, z) = kids-walls g d (cells es) p a.low a.else q (λ k. o (is-wanted q k)) in (y, z);
      same_flags = λ q i o k. kids-same g d (cells es) p a.low a.else q (λ j. o (is-wanted q j)) (λ _ j. k (near q (or_right (among q kid_places) (among q (besides g p)) (fringe-among g p q j))));
    }

    right : (q : Place) → T (any (stands q) es) → Dec (q.depth ≡ suc p.depth) → twice stale q ≡ digits (flags g (cells es) q (mark_of es q))
    right q t (yes i) = twice-right stale (λ q t. near q (or_left (among q kid_places) (among q (besides g p)) t)) q i t
    right q t (no i) = twice-else stale q i ∙ elsewhere q i t

    pub refresh-near : refresh_near (table_with g es f) cap (base g) n ≡ table_with g es (flags_of g es)
    unfolding refresh_near flags_of
    refresh-near =
        let deep : base g ≤ suc p.depth = omega (arith, a.low) in
        ap (each_at (point_row cap) cap (wanted_spots (table_with g es f) cap n ++ outside_spots (table_with g es f) cap n)) (pass r (wall-step r (cells es) (suc p.depth) deep) wall-places refl f ready)
        ∙ pass r (point-step r (cells es) (suc p.depth) deep) point-places refl (walls stale) (walled stale)
        ∙ flags-same g es (twice stale) (flags_of g es) (λ m q i. right q (stands-in es m q i) (ℕ_discrete q.depth (suc p.depth)))
