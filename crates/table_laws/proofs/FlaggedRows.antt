-- Flags in the picture of a valid state are the mesh's, of the row at any place around: a place without a number is no patch, so that it has neither
-- a cell nor a wall. So the flags that are worked out from the neighbours' cells and the parent's walls are the mesh's.
-- Assumes nothing.
use Prim.Native.Nat.{ℕ, ◌≤◌, ◌<◌}
use native.Mathlib.Nat.{zero-div}
use native.Mathlib.Omega.{arith}
use native.Mathlib.Decide.{ℕ_discrete}
use mathlib.Core.Path.{◌≡◌, refl, sym, ap, ◌∙◌}
use mathlib.Core.Bool.{Bool, false, ◌&&◌, ◌||◌, or-false}
use mathlib.Core.Option.{Option, none, some, some-injective}
use mathlib.Core.List.{List, [], ◌∷◌}
use lib.Dec.{T, lit<}
use lib.ListN.{get_or}
use Rattle.mesh.specs.Tools.{any, digits, or_else}
use Rattle.mesh.specs.Place.{Place, Grid, Wind, N, E, S, W, side_winds, base, then, step, parent}
use Rattle.mesh.specs.Winds.{word_of_wind, ◌of◌}
use Rattle.mesh.specs.Mesh.{on, touched, patch, derived, flags, ends, sides, Wall, absent, internal, boundary, green, is_wall, is_boundary, is_green, wall_h, wall_v}
use Rattle.mesh.specs.State.{State, Entry, nil, free, used, Cell, place_of, is_sentenced, entry, cells, number, number_of, grid_of, capacity}
use Rattle.mesh.specs.Valid.{Valid}
use Rattle.mesh.specs.Picture.{table}
use Rattle.table.specs.Words.{word_of, link_of, flag_of}
use Rattle.worked.specs.Worked.{boundary_h, boundary_v, green_h, green_v, flags_from}
use Rattle.place_laws.proofs.Bools.{or_right, no-is}
use Rattle.place_laws.proofs.Kids.{up, parent_up}
use Rattle.place_laws.proofs.Tree.{cell-patch}
use Rattle.place_laws.proofs.Walls.{wall_h-cells, wall_v-cells, wall_h-green, wall_v-green, wall_h-boundary, wall_v-boundary, wall_h-touched, wall_v-touched, ghost-flags as ghost-digits}
use Rattle.place_laws.proofs.Base.{base-range}
use Rattle.number_laws.proofs.Entries.{cell-there}
use Rattle.number_laws.proofs.NumberedPlaces.{valid-numbered, number-place, numbered-not-zero}
use Rattle.table_laws.proofs.Pictured.{nil-words, word-i, word-j, word_flags, flag-of}
use Rattle.table_laws.proofs.LinkedRows.{touched-stands, depth-of, link-parent, link-side, link-nil}

-- ---- walls

pub boundary-wall : (w : Wall) → T (is_boundary w) → T (is_wall w)
boundary-wall absent t = t
boundary-wall internal t = tt
boundary-wall boundary t = tt
boundary-wall green t = tt

pub green-wall : (w : Wall) → T (is_green w) → T (is_wall w)
green-wall absent t = t
green-wall internal t = tt
green-wall boundary t = tt
green-wall green t = tt

-- one of four walls passes
pub four : (f : Wall → Bool) {x y z u : Bool} (a b c d : Wall) → x ≡ f a → y ≡ f b → z ≡ f c → u ≡ f d → (x || (y || (z || u))) ≡ any f (a ∷ b ∷ c ∷ d ∷ [])
four f a b c d i j k l = rw (i, j, k, l) (ap (λ (t : Bool). f a || (f b || (f c || t))) (sym (or-false (f d))))

-- ---- entries

-- only a cell is sentenced
pub sentenced-cell : (e : Entry) (p : Place) → place_of e ≡ some p → T (is_sentenced e) → (x : Cell) × (e ≡ used p (some x))
sentenced-cell nil p h t = absurd t
sentenced-cell free p h t = absurd t
sentenced-cell (used q none) p h t = absurd t
sentenced-cell (used q (some x)) p h t = (x, ap (λ (r : Place). used r (some x)) (some-injective _ _ h))

module _ (s : State) (v : Valid s) where
  abbrev g : Grid
  g = grid_of s

  abbrev es : List Entry
  es = s.entries

  abbrev c : Place → Bool
  c = cells s.entries

  -- ---- flags, of the row at a place that may be missing or have no number

  zero_flag : (k : ℕ) → flag_of (table s) k 0 ≡ false
  unfolding flag_of
  zero_flag k = rw (nil-words s 0 12 v.zeroth (lit< tt), zero-div)

  -- a flag that stands on patches only
  flag_at : (k : ℕ) (f : Place → Bool) → ((p : Place) (b : Bool) → get_or (flags g c p b) k false ≡ f p)
      → ((p : Place) → T (f p) → T (patch g c p)) → (o : Option Place) → flag_of (table s) k (number_of es o) ≡ or_else false f o
  flag_at k f is only none = zero_flag k
  flag_at k f is only (some p) = go (ℕ_discrete (number es p) 0)
    where
      go : Dec (number es p ≡ 0) → flag_of (table s) k (number es p) ≡ f p
      go (yes z) = ap (flag_of (table s) k) z ∙ zero_flag k ∙ sym (no-is (f p) (λ t. numbered-not-zero es (valid-numbered v) p (v.every p (only p t)) z))
      go (no z) = flag-of s (number es p) p (number-place es p z) k ∙ is p (is_sentenced (entry es (number es p)))

  pub cell-flag : (o : Option Place) → flag_of (table s) 0 (number_of es o) ≡ on g c o
  unfolding flags derived
  cell-flag = flag_at 0 c (λ p b. refl) (cell-patch g c v.mesh)

  -- the cell south of a place that may be missing: where there is one, the place is a patch
  pub cell-south : (o : Option Place) → flag_of (table s) 0 (link_of (table s) (capacity s) (number_of es o) 7) ≡ on g c (then (step g S) o)
  cell-south none = ap (flag_of (table s) 0) (link-nil s v 7 (lit< tt)) ∙ zero_flag 0
  cell-south (some q) = go (ℕ_discrete (number es q) 0)
    where
      south : Bool
      south = on g c (step g S q)

      stands-north : T south → T (patch g c q)
      stands-north t =
          touched-stands g c v.mesh q (wall_h-touched g c q (rw (wall_h-cells g c q) (or_right (c q) south t)))

      go : Dec (number es q ≡ 0) → flag_of (table s) 0 (link_of (table s) (capacity s) (number es q) 7) ≡ south
      go (yes z) =
          ap (λ (k : ℕ). flag_of (table s) 0 (link_of (table s) (capacity s) k 7)) z
          ∙ ap (flag_of (table s) 0) (link-nil s v 7 (lit< tt))
          ∙ zero_flag 0
          ∙ sym (no-is south (λ t. numbered-not-zero es (valid-numbered v) q (v.every q (stands-north t)) z))
      go (no z) = ap (flag_of (table s) 0) (link-side s v (number es q) q (number-place es q z) S tt) ∙ cell-flag (step g S q)

  -- a test that only a wall passes, of the wall that begins there
  wall-flag : (k : ℕ) (f : Wall → Bool) (wall : Option Place → Wall) → ((p : Place) (b : Bool) → get_or (flags g c p b) k false ≡ f (wall (some p)))
      → ((w : Wall) → T (f w) → T (is_wall w)) → wall none ≡ absent → ((p : Place) → T (is_wall (wall (some p))) → T (touched g c p))
      → (o : Option Place) → flag_of (table s) k (number_of es o) ≡ f (wall o)
  wall-flag k f wall is only z begins o = flag_at k (λ p. f (wall (some p))) is (λ p t. touched-stands g c v.mesh p (begins p (only (wall (some p)) t))) o ∙ go o
    where
      go : (o : Option Place) → or_else false (λ p. f (wall (some p))) o ≡ f (wall o)
      go none = sym (ap f z ∙ no-is (f absent) (only absent))
      go (some p) = refl

  pub boundary-flag_h : (o : Option Place) → flag_of (table s) 4 (number_of es o) ≡ is_boundary (wall_h g c o)
  unfolding flags derived wall_h
  boundary-flag_h = wall-flag 4 is_boundary (wall_h g c) (λ p b. refl) boundary-wall refl (wall_h-touched g c)

  pub boundary-flag_v : (o : Option Place) → flag_of (table s) 5 (number_of es o) ≡ is_boundary (wall_v g c o)
  unfolding flags derived wall_v
  boundary-flag_v = wall-flag 5 is_boundary (wall_v g c) (λ p b. refl) boundary-wall refl (wall_v-touched g c)

  pub green-flag_h : (o : Option Place) → flag_of (table s) 8 (number_of es o) ≡ is_green (wall_h g c o)
  unfolding flags derived wall_h
  green-flag_h = wall-flag 8 is_green (wall_h g c) (λ p b. refl) green-wall refl (wall_h-touched g c)

  pub green-flag_v : (o : Option Place) → flag_of (table s) 9 (number_of es o) ≡ is_green (wall_v g c o)
  unfolding flags derived wall_v
  green-flag_v = wall-flag 9 is_green (wall_v g c) (λ p b. refl) green-wall refl (wall_v-touched g c)

  -- ---- "a ghost has flags 0"

  pub ghost-flags : (n : ℕ) (p : Place) → place_of (entry es n) ≡ some p → p.depth < base g → word_of (table s) n 12 ≡ 0
  ghost-flags n p h d =
      word_flags s n p h
      ∙ ap (λ (b : Bool). digits (flags g c p b)) (no-is (is_sentenced (entry es n)) (λ t.
      let (x, e) = sentenced-cell (entry es n) p h t in
      omega (arith, v.mesh.low p (cell-there es n p x e))))
      ∙ ghost-digits g c v.mesh p d

  -- ---- the flags from the neighbours' cells and the parent's walls

  module _ (n : ℕ) (p : Place) (h : place_of (entry es n) ≡ some p) where
    pub cell-of : flag_of (table s) 0 n ≡ c p
    unfolding flags derived
    cell-of = flag-of s n p h 0

    -- a flag of the neighbour's row
    pub side-flag : (k : ℕ) (f : Option Place → Bool) → ((o : Option Place) → flag_of (table s) k (number_of es o) ≡ f o)
        → (w : Wind) → T (w of side_winds) → flag_of (table s) k (link_of (table s) (capacity s) n (word_of_wind w)) ≡ f (step g w p)
    side-flag k f is w t = ap (flag_of (table s) k) (link-side s v n p h w t) ∙ is (step g w p)

    pub cell-side : (w : Wind) → T (w of side_winds) → flag_of (table s) 0 (link_of (table s) (capacity s) n (word_of_wind w)) ≡ on g c (step g w p)
    cell-side = side-flag 0 (on g c) cell-flag

    module _ (l : base g ≤ p.depth) where
      has-parent : parent p ≡ some (up p)
      has-parent = parent_up p (omega (arith, (base-range g v.rectangle).0))

      pub boundary-h : boundary_h (table s) (capacity s) (base g) n ≡ is_boundary (wall_h g c (some p))
      unfolding boundary_h
      boundary-h =
          rw (cell-of, cell-side S tt, depth-of s v n p h, word-j s n p h, link-parent s v n p h, has-parent, boundary-flag_h (some (up p)))
          (sym (wall_h-boundary g c v.mesh p l))

      pub boundary-v : boundary_v (table s) (capacity s) (base g) n ≡ is_boundary (wall_v g c (some p))
      unfolding boundary_v
      boundary-v =
          rw (cell-of, cell-side W tt, depth-of s v n p h, word-i s n p h, link-parent s v n p h, has-parent, boundary-flag_v (some (up p)))
          (sym (wall_v-boundary g c v.mesh p l))

      wall-h : (flag_of (table s) 0 n || flag_of (table s) 0 (link_of (table s) (capacity s) n 7)) ≡ is_wall (wall_h g c (some p))
      wall-h = rw (cell-of, cell-side S tt) (sym (wall_h-cells g c p))

      wall-v : (flag_of (table s) 0 n || flag_of (table s) 0 (link_of (table s) (capacity s) n 8)) ≡ is_wall (wall_v g c (some p))
      wall-v = rw (cell-of, cell-side W tt) (sym (wall_v-cells g c p))

      pub green-h : green_h (table s) (capacity s) (base g) n ≡ is_green (wall_h g c (some p))
      unfolding green_h
      green-h = rw (cell-of, cell-side S tt, boundary-h) (sym (wall_h-green g c p))

      pub green-v : green_v (table s) (capacity s) (base g) n ≡ is_green (wall_v g c (some p))
      unfolding green_v
      green-v = rw (cell-of, cell-side W tt, boundary-v) (sym (wall_v-green g c p))

      pub flags-from : (b : Bool) → flags_from (table s) (capacity s) (base g) n b ≡ flags g c p b
      unfolding flags_from flags derived ends sides
      flags-from b =
          let bdy_h = side-flag 4 (λ o. is_boundary (wall_h g c o)) boundary-flag_h in
          let bdy_v = side-flag 5 (λ o. is_boundary (wall_v g c o)) boundary-flag_v in
          let grn_h = side-flag 8 (λ o. is_green (wall_h g c o)) green-flag_h in
          let grn_v = side-flag 9 (λ o. is_green (wall_v g c o)) green-flag_v in
          let hor = wall_h g c in
          let ver = wall_v g c in
          let here = some p in
          λ i. cell-of i
          ∷ wall-h i
          ∷ wall-v i
          ∷ four is_boundary (hor here) (hor (step g W p)) (ver here) (ver (step g S p)) boundary-h (bdy_h W tt) boundary-v (bdy_v S tt) i
          ∷ boundary-h i
          ∷ boundary-v i
          ∷ (cell-of i && four is_boundary (hor here) (hor (step g N p)) (ver here) (ver (step g E p)) boundary-h (bdy_h N tt) boundary-v (bdy_v E tt) i)
          ∷ four is_green (hor here) (hor (step g W p)) (ver here) (ver (step g S p)) green-h (grn_h W tt) green-v (grn_v S tt) i
          ∷ green-h i
          ∷ green-v i
          ∷ (cell-of i && four is_green (hor here) (hor (step g N p)) (ver here) (ver (step g E p)) green-h (grn_h N tt) green-v (grn_v E tt) i)
          ∷ false
          ∷ b
          ∷ false
          ∷ []
