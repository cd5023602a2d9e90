-- Flags worked out anew are the mesh's: a row's own cell and its neighbours' are read off their rows, and the boundary off the parent's, and a
-- place without a row has neither a cell nor a wall, as row 0 says.
-- Assumes nothing.
use Prim.Native.Nat.{ℕ, suc, ◌/◌, ◌%◌, ◌^◌, ◌≤◌, ◌<◌}
use native.Mathlib.Nat.{zero-div}
use native.Mathlib.Omega.{arith}
use native.Mathlib.Decide.{ℕ_discrete, dec_lt}
use mathlib.Core.Path.{◌≡◌, refl, sym, ap, ◌∙◌}
use mathlib.Core.Bool.{Bool, false, not, ◌&&◌, ◌||◌, beq}
use mathlib.Core.Option.{Option, none, some}
use mathlib.Core.List.{List, [], ◌∷◌}
use lib.Dec.{T, eqb, lit<}
use lib.IntN.{ℤ}
use lib.ListN.{get_or}
use borrow.Author.Tests.{eq-eqb}
use Rattle.edit_laws.specs.Rooted.{Rooted}
use Rattle.mesh.specs.Tools.{any, digits}
use Rattle.mesh.specs.Place.{Place, Grid, Wind, N, E, S, W, base, step, parent, around}
use Rattle.mesh.specs.Winds.{word_of_wind}
use Rattle.mesh.specs.Mesh.{Mesh, Wall, absent, is_wall, is_boundary, is_green, on, touched, wall_h, wall_v, ends, sides, derived, flags}
use Rattle.mesh.specs.State.{Entry, place_of, stands, entry, number, number_of}
use Rattle.table.specs.Words.{word_of, link_of, flag_of}
use Rattle.worked.specs.Worked.{boundary_h, boundary_v, green_h, green_v, flag_list, walls_alone}
use Rattle.place_laws.proofs.Bools.{no-is}
use Rattle.place_laws.proofs.Kids.{up, parent_up, up_depth}
use Rattle.place_laws.proofs.SideDigits.{aside, step-depth}
use Rattle.place_laws.proofs.Near.{c-here, corner-touched}
use Rattle.place_laws.proofs.Walls.{wall_h-cells, wall_v-cells, wall_h-green, wall_v-green, wall_h-boundary, wall_v-boundary, wall_h-touched, wall_v-touched}
use Rattle.number_laws.proofs.Entries.{stands-in}
use Rattle.number_laws.proofs.NumberedPlaces.{number-place, numbered-not-zero}
use Rattle.picture_laws.proofs.Links.{around-parent, around-side, wind-lt}
use Rattle.table_laws.proofs.Pictured.{digit_at}
use Rattle.table_laws.proofs.FlaggedRows.{boundary-wall, green-wall, four}
use Rattle.edit_laws.specs.Linked.{Flags, table_with}
use Rattle.edit_laws.specs.Anew.{walls_anew, points_anew}
use Rattle.edit_laws.proofs.Linked.{word-nil, i-of, j-of, flags-of}
use Rattle.edit_laws.proofs.Rooted.{link-of, depth-of}

-- ---- what has to be right before

-- the bit k of a flags' word
abbrev pub bit : ℕ → ℕ → Bool
bit k x = eqb (x / 2 ^ k % 2) 1

-- Of the rows at the depth e: the touched places have one, and their cells are marked; and on the level below, from level 0 on, the boundary
-- walls are.
pub record Ready (g : Grid) (es : List Entry) (f : Flags) (c : Place → Bool) (e : ℕ) : Type 0 where
  pub mesh : Mesh g c
  pub stood : (q : Place) → q.depth ≡ e → T (touched g c q) → T (any (stands q) es)
  pub complete : (q : Place) → q.depth ≡ e → T (any (stands q) es) → bit 0 (f q) ≡ c q
  pub boundaries_h : (q : Place) → suc q.depth ≡ e → base g ≤ q.depth → T (any (stands q) es) → bit 4 (f q) ≡ is_boundary (wall_h g c (some q))
  pub boundaries_v : (q : Place) → suc q.depth ≡ e → base g ≤ q.depth → T (any (stands q) es) → bit 5 (f q) ≡ is_boundary (wall_v g c (some q))

-- and the walls of the rows at the depth e are right too
pub record Walled (g : Grid) (es : List Entry) (f : Flags) (c : Place → Bool) (e : ℕ) : Type 0 where
  pub ready : Ready g es f c e
  pub walls_h : (q : Place) → q.depth ≡ e → T (any (stands q) es) → bit 1 (f q) ≡ is_wall (wall_h g c (some q))
  pub walls_v : (q : Place) → q.depth ≡ e → T (any (stands q) es) → bit 2 (f q) ≡ is_wall (wall_v g c (some q))
  pub boundary_h : (q : Place) → q.depth ≡ e → T (any (stands q) es) → bit 4 (f q) ≡ is_boundary (wall_h g c (some q))
  pub boundary_v : (q : Place) → q.depth ≡ e → T (any (stands q) es) → bit 5 (f q) ≡ is_boundary (wall_v g c (some q))
  pub green_h : (q : Place) → q.depth ≡ e → T (any (stands q) es) → bit 8 (f q) ≡ is_green (wall_h g c (some q))
  pub green_v : (q : Place) → q.depth ≡ e → T (any (stands q) es) → bit 9 (f q) ≡ is_green (wall_v g c (some q))

-- the mesh's flags of a place without those that the walls around it make
unfoldable pub wall_flags : Grid → (Place → Bool) → Place → Bool → List Bool
wall_flags g c p b =
    let h = wall_h g c (some p) in
    let v = wall_v g c (some p) in
    flag_list (c p) (is_wall h) (is_wall v) (walls_alone (is_boundary h) (is_boundary v)) (walls_alone (is_green h) (is_green v)) b

-- the mesh's flags have these bits
module _ (g : Grid) (c : Place → Bool) (q : Place) (b : Bool) where
  pub complete-bit : bit 0 (digits (flags g c q b)) ≡ c q
  unfolding flags derived
  complete-bit = digit_at (flags g c q b) 0

  pub boundary_h-bit : bit 4 (digits (flags g c q b)) ≡ is_boundary (wall_h g c (some q))
  unfolding flags derived
  boundary_h-bit = digit_at (flags g c q b) 4

  pub boundary_v-bit : bit 5 (digits (flags g c q b)) ≡ is_boundary (wall_v g c (some q))
  unfolding flags derived
  boundary_v-bit = digit_at (flags g c q b) 5

  pub wall_h-bit : bit 1 (digits (flags g c q b)) ≡ is_wall (wall_h g c (some q))
  unfolding flags derived
  wall_h-bit = digit_at (flags g c q b) 1

  pub wall_v-bit : bit 2 (digits (flags g c q b)) ≡ is_wall (wall_v g c (some q))
  unfolding flags derived
  wall_v-bit = digit_at (flags g c q b) 2

  pub green_h-bit : bit 8 (digits (flags g c q b)) ≡ is_green (wall_h g c (some q))
  unfolding flags derived
  green_h-bit = digit_at (flags g c q b) 8

  pub green_v-bit : bit 9 (digits (flags g c q b)) ≡ is_green (wall_v g c (some q))
  unfolding flags derived
  green_v-bit = digit_at (flags g c q b) 9

  pub sentenced-bit : bit 12 (digits (flags g c q b)) ≡ b
  unfolding flags derived
  sentenced-bit = digit_at (flags g c q b) 12

module _ {g : Grid} {cap : ℕ} {es : List Entry} (r : Rooted g cap es) (f : Flags) where
  abbrev t : List ℤ
  t = table_with g es f

  -- ---- reading

  pub zero_flag : (k : ℕ) → flag_of t k 0 ≡ false
  unfolding flag_of word_of
  zero_flag k = rw (word-nil g es f 0 12 (lit< tt) r.numbered.zeroth, zero-div)

  pub zero-link : (w : Wind) → T (aside w) → link_of t cap 0 (word_of_wind w) ≡ 0
  zero-link w a =
      link-of r f 0 (word_of_wind w) (wind-lt w)
      ∙ ap (λ (x : Entry). number_of es (get_or (around g (place_of x)) (word_of_wind w) none)) r.numbered.zeroth
      ∙ ap (number_of es) (around-side g w a none)

  module _ (n : ℕ) (p : Place) (h : place_of (entry es n) ≡ some p) where
    pub flag-bit : (k : ℕ) → flag_of t k n ≡ bit k (f p)
    unfolding flag_of
    flag-bit k = rw (flags-of g es f n p h)

    pub link-around : (w : ℕ) → w < 9 → link_of t cap n w ≡ number_of es (get_or (around g (some p)) w none)
    link-around w l = link-of r f n w l ∙ ap (λ (o : Option Place). number_of es (get_or (around g o) w none)) h

    pub link-side : (w : Wind) → T (aside w) → link_of t cap n (word_of_wind w) ≡ number_of es (step g w p)
    link-side w a = link-around (word_of_wind w) (wind-lt w) ∙ ap (number_of es) (around-side g w a (some p))

    pub link-parent : link_of t cap n 0 ≡ number_of es (parent p)
    link-parent = link-around 0 (lit< tt) ∙ ap (number_of es) (around-parent g (some p))

  module _ (n : ℕ) (p : Place) (h : place_of (entry es n) ≡ some p) where
    -- the flag of the parent's row
    parent-flag : (k : ℕ) → 0 < p.depth → T (any (stands (up p)) es) × (flag_of t k (link_of t cap n 0) ≡ bit k (f (up p)))
    parent-flag k l =
        let there : T (any (stands (up p)) es) = r.parents n p (up p) h (parent_up p l) in
        let m : place_of (entry es (number es (up p))) ≡ some (up p) = number-place es (up p) (numbered-not-zero es r.numbered (up p) there) in
        (there, rw (link-parent n p h, parent_up p l) (flag-bit (number es (up p)) (up p) m k))

  -- ---- the rows at one depth

  module _ (c : Place → Bool) (e : ℕ) (low : base g ≤ e) (ready : Ready g es f c e) where
    -- it has this depth, if it is there
    abbrev Level : Option Place → Type 0
    Level o = (q : Place) → o ≡ some q → q.depth ≡ e

    -- a test of rows that fails at row 0 is a test of places that only touched places pass
    pub by_place : (x : ℕ → Bool) (y : Place → Bool) → x 0 ≡ false → ((q : Place) → T (y q) → T (touched g c q))
        → ((n : ℕ) (q : Place) → place_of (entry es n) ≡ some q → q.depth ≡ e → x n ≡ y q)
        → (q : Place) → q.depth ≡ e → x (number es q) ≡ y q
    by_place x y z only is q d = go (ℕ_discrete (number es q) 0)
      where
        go : Dec (number es q ≡ 0) → x (number es q) ≡ y q
        go (yes k) = ap x k ∙ z ∙ sym (no-is (y q) (λ u. numbered-not-zero es r.numbered q (ready.stood q d (only q u)) k))
        go (no k) = is (number es q) q (number-place es q k) d

    -- ---- cells

    pub cell-of : (n : ℕ) (q : Place) → place_of (entry es n) ≡ some q → q.depth ≡ e → flag_of t 0 n ≡ c q
    cell-of n q h d = flag-bit n q h 0 ∙ ready.complete q d (stands-in es n q h)

    cell-at : (o : Option Place) → Level o → flag_of t 0 (number_of es o) ≡ on g c o
    cell-at none l = zero_flag 0
    cell-at (some q) l = by_place (flag_of t 0) c (zero_flag 0) (λ q u. corner-touched g c c-here u) cell-of q (l q refl)

    pub beside : (w : Wind) → T (aside w) → (q : Place) → q.depth ≡ e → Level (step g w q)
    beside w a q d s k = step-depth g w a q s k ∙ d

    pub cell-side : (w : Wind) → T (aside w) → (n : ℕ) (q : Place) → place_of (entry es n) ≡ some q → q.depth ≡ e
        → flag_of t 0 (link_of t cap n (word_of_wind w)) ≡ on g c (step g w q)
    cell-side w a n q h d = ap (flag_of t 0) (link-side n q h w a) ∙ cell-at (step g w q) (beside w a q d)

    -- ---- walls of a row

    -- what the parent's row says counts above level 0
    inherited : (k : ℕ) (y : Place → Bool) → ((q : Place) → suc q.depth ≡ e → base g ≤ q.depth → T (any (stands q) es) → bit k (f q) ≡ y q)
        → (n : ℕ) (q : Place) → place_of (entry es n) ≡ some q → q.depth ≡ e → (b : Bool)
        → (eqb q.depth (base g) || (b && flag_of t k (link_of t cap n 0))) ≡ (eqb q.depth (base g) || (b && y (up q)))
    inherited k y is n q h d b = go (dec_lt (base g) q.depth)
      where
        go : Dec (base g < q.depth) → (eqb q.depth (base g) || (b && flag_of t k (link_of t cap n 0))) ≡ (eqb q.depth (base g) || (b && y (up q)))
        go (yes l) =
            let (there, m) = parent-flag n q h k (omega arith) in
            let u = up_depth q (omega arith) in
            rw (m, is (up q) (u ∙ d) (omega arith) there)
        go (no l) = rw (eq-eqb q.depth (base g) (omega (arith, l)))

    boundary-h : (n : ℕ) (q : Place) → place_of (entry es n) ≡ some q → q.depth ≡ e → boundary_h t cap (base g) n ≡ is_boundary (wall_h g c (some q))
    unfolding boundary_h
    boundary-h n q h d =
        rw (cell-of n q h d, cell-side S tt n q h d, depth-of r f n q h, j-of g es f n q h)
        (ap (λ (b : Bool). not (beq (c q) (on g c (step g S q))) && b) (inherited 4 (λ p. is_boundary (wall_h g c (some p))) ready.boundaries_h n q h d (eqb (q.j % 2) 0))
        ∙ sym (wall_h-boundary g c ready.mesh q (omega arith)))

    boundary-v : (n : ℕ) (q : Place) → place_of (entry es n) ≡ some q → q.depth ≡ e → boundary_v t cap (base g) n ≡ is_boundary (wall_v g c (some q))
    unfolding boundary_v
    boundary-v n q h d =
        rw (cell-of n q h d, cell-side W tt n q h d, depth-of r f n q h, i-of g es f n q h)
        (ap (λ (b : Bool). not (beq (c q) (on g c (step g W q))) && b) (inherited 5 (λ p. is_boundary (wall_v g c (some p))) ready.boundaries_v n q h d (eqb (q.i % 2) 0))
        ∙ sym (wall_v-boundary g c ready.mesh q (omega arith)))

    green-h : (n : ℕ) (q : Place) → place_of (entry es n) ≡ some q → q.depth ≡ e → green_h t cap (base g) n ≡ is_green (wall_h g c (some q))
    unfolding green_h
    green-h n q h d = rw (cell-of n q h d, cell-side S tt n q h d, boundary-h n q h d) (sym (wall_h-green g c q))

    green-v : (n : ℕ) (q : Place) → place_of (entry es n) ≡ some q → q.depth ≡ e → green_v t cap (base g) n ≡ is_green (wall_v g c (some q))
    unfolding green_v
    green-v n q h d = rw (cell-of n q h d, cell-side W tt n q h d, boundary-v n q h d) (sym (wall_v-green g c q))

    -- ---- walls of a neighbour's row

    wall-at : (x : ℕ → Bool) (y : Wall → Bool) (wall : Option Place → Wall) → x 0 ≡ false → ((w : Wall) → T (y w) → T (is_wall w)) → wall none ≡ absent
        → ((q : Place) → T (is_wall (wall (some q))) → T (touched g c q)) → ((n : ℕ) (q : Place) → place_of (entry es n) ≡ some q → q.depth ≡ e → x n ≡ y (wall (some q)))
        → (o : Option Place) → Level o → x (number_of es o) ≡ y (wall o)
    wall-at x y wall z only nowhere begins is none l = z ∙ sym (ap y nowhere ∙ no-is (y absent) (only absent))
    wall-at x y wall z only nowhere begins is (some q) l = by_place x (λ p. y (wall (some p))) z (λ p u. begins p (only (wall (some p)) u)) is q (l q refl)

    -- of the row one step away
    side-at : (x : ℕ → Bool) (y : Option Place → Bool) → ((o : Option Place) → Level o → x (number_of es o) ≡ y o)
        → (n : ℕ) (q : Place) → place_of (entry es n) ≡ some q → q.depth ≡ e → (w : Wind) → T (aside w) → x (link_of t cap n (word_of_wind w)) ≡ y (step g w q)
    side-at x y is n q h d w a = ap x (link-side n q h w a) ∙ is (step g w q) (beside w a q d)

    -- ---- walls first

    walls-by : (n : ℕ) (p : Place) → place_of (entry es n) ≡ some p → p.depth ≡ e → (b : Bool) → walls_anew t cap (base g) n b ≡ wall_flags g c p b
    unfolding walls_anew wall_flags
    walls-by n p h d b =
        let cell = cell-of n p h d in
        let eh = boundary-h n p h d in
        let ev = boundary-v n p h d in
        let ih = green-h n p h d in
        let iv = green-v n p h d in
        let wall-h : (flag_of t 0 n || flag_of t 0 (link_of t cap n 7)) ≡ is_wall (wall_h g c (some p)) = rw (cell, cell-side S tt n p h d) (sym (wall_h-cells g c p)) in
        let wall-v : (flag_of t 0 n || flag_of t 0 (link_of t cap n 8)) ≡ is_wall (wall_v g c (some p)) = rw (cell, cell-side W tt n p h d) (sym (wall_v-cells g c p)) in
        λ i. cell i ∷ wall-h i ∷ wall-v i ∷ false ∷ eh i ∷ ev i ∷ false ∷ false ∷ ih i ∷ iv i ∷ false ∷ false ∷ b ∷ false ∷ []

  module _ (c : Place → Bool) (e : ℕ) (low : base g ≤ e) (w : Walled g es f c e) where
    -- a wall of a neighbour, as its flags say it
    said_at : (k : ℕ) (y : Wall → Bool) (wall : Option Place → Wall) → ((u : Wall) → T (y u) → T (is_wall u)) → wall none ≡ absent → ((q : Place) → T (is_wall (wall (some q))) → T (touched g c q))
        → ((q : Place) → q.depth ≡ e → T (any (stands q) es) → bit k (f q) ≡ y (wall (some q)))
        → (n : ℕ) (q : Place) → place_of (entry es n) ≡ some q → q.depth ≡ e → (v : Wind) → T (aside v) → flag_of t k (link_of t cap n (word_of_wind v)) ≡ y (wall (step g v q))
    said_at k y wall only nowhere begins is =
        side-at c e low w.ready (flag_of t k) (λ o. y (wall o))
        (wall-at c e low w.ready (flag_of t k) y wall (zero_flag k) only nowhere begins (λ n q h d. flag-bit n q h k ∙ is q d (stands-in es n q h)))

    absent_h : wall_h g c none ≡ absent
    unfolding wall_h
    absent_h = refl

    absent_v : wall_v g c none ≡ absent
    unfolding wall_v
    absent_v = refl

    points-by : (n : ℕ) (p : Place) → place_of (entry es n) ≡ some p → p.depth ≡ e → points_anew t cap n ≡ flags g c p (bit 12 (f p))
    unfolding points_anew flags derived ends sides
    points-by n p h d =
        let there = stands-in es n p h in
        let bdy_h = said_at 4 is_boundary (wall_h g c) boundary-wall absent_h (wall_h-touched g c) w.boundary_h n p h d in
        let bdy_v = said_at 5 is_boundary (wall_v g c) boundary-wall absent_v (wall_v-touched g c) w.boundary_v n p h d in
        let grn_h = said_at 8 is_green (wall_h g c) green-wall absent_h (wall_h-touched g c) w.green_h n p h d in
        let grn_v = said_at 9 is_green (wall_v g c) green-wall absent_v (wall_v-touched g c) w.green_v n p h d in
        let cell = cell-of c e low w.ready n p h d in
        let wall-h : flag_of t 1 n ≡ is_wall (wall_h g c (some p)) = flag-bit n p h 1 ∙ w.walls_h p d there in
        let wall-v : flag_of t 2 n ≡ is_wall (wall_v g c (some p)) = flag-bit n p h 2 ∙ w.walls_v p d there in
        let eh : flag_of t 4 n ≡ is_boundary (wall_h g c (some p)) = flag-bit n p h 4 ∙ w.boundary_h p d there in
        let ev : flag_of t 5 n ≡ is_boundary (wall_v g c (some p)) = flag-bit n p h 5 ∙ w.boundary_v p d there in
        let ih : flag_of t 8 n ≡ is_green (wall_h g c (some p)) = flag-bit n p h 8 ∙ w.green_h p d there in
        let iv : flag_of t 9 n ≡ is_green (wall_v g c (some p)) = flag-bit n p h 9 ∙ w.green_v p d there in
        let sentence = flag-bit n p h 12 in
        let hor = wall_h g c in
        let ver = wall_v g c in
        let here = some p in
        λ i. cell i
        ∷ wall-h i
        ∷ wall-v i
        ∷ four is_boundary (hor here) (hor (step g W p)) (ver here) (ver (step g S p)) eh (bdy_h W tt) ev (bdy_v S tt) i
        ∷ eh i
        ∷ ev i
        ∷ (cell i && four is_boundary (hor here) (hor (step g N p)) (ver here) (ver (step g E p)) eh (bdy_h N tt) ev (bdy_v E tt) i)
        ∷ four is_green (hor here) (hor (step g W p)) (ver here) (ver (step g S p)) ih (grn_h W tt) iv (grn_v S tt) i
        ∷ ih i
        ∷ iv i
        ∷ (cell i && four is_green (hor here) (hor (step g N p)) (ver here) (ver (step g E p)) ih (grn_h N tt) iv (grn_v E tt) i)
        ∷ false
        ∷ sentence i
        ∷ false
        ∷ []

pub walls-anew : {g : Grid} {cap : ℕ} {es : List Entry} → Rooted g cap es → (f : Flags) (c : Place → Bool) (n : ℕ) (p : Place) → place_of (entry es n) ≡ some p
    → base g ≤ p.depth → Ready g es f c p.depth → (b : Bool) → walls_anew (table_with g es f) cap (base g) n b ≡ wall_flags g c p b
walls-anew r f c n p h l ready b = walls-by r f c p.depth l ready n p h refl b

pub points-anew : {g : Grid} {cap : ℕ} {es : List Entry} → Rooted g cap es → (f : Flags) (c : Place → Bool) (n : ℕ) (p : Place) → place_of (entry es n) ≡ some p
    → base g ≤ p.depth → Walled g es f c p.depth → points_anew (table_with g es f) cap n ≡ flags g c p (bit 12 (f p))
points-anew r f c n p h l walled = points-by r f c p.depth l walled n p h refl
