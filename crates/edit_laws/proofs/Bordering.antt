-- The flags along the border of a level-0 cell that went, level by level: on each level the two passes go through the places whose walls, and whose
-- points and cells, it can take part in, so that after a level all flags up to it are right, which is what the next one needs.
-- Assumes nothing.
use Prim.Native.Nat.{ℕ, zero, suc, ◌+◌, ◌≤◌, ◌<◌}
use native.Mathlib.Omega.{arith}
use native.Mathlib.Decide.{ℕ_discrete}
use mathlib.Core.Path.{◌≡◌, refl, sym, ap, ◌∙◌, subst}
use mathlib.Core.Bool.{Bool}
use mathlib.Core.Logic.{◌⊎◌, inl, inr}
use mathlib.Core.Option.{Option, some, some-injective}
use mathlib.Core.List.{List, [], ◌∷◌, ◌++◌}
use lib.Dec.{T}
use lib.IntN.{ℤ}
use Rattle.edit_laws.specs.Rooted.{Rooted}
use Rattle.mesh.specs.Tools.{any, digits}
use Rattle.mesh.specs.Place.{Place, Grid, SW, N, E, S, W, base, home, to_north, to_east, step}
use Rattle.mesh.specs.Mesh.{Mesh, touched, flags}
use Rattle.mesh.specs.State.{Entry, stands, cells, number, number_of}
use Rattle.place_laws.proofs.Bools.{or_left, or_right, or_cases}
use Rattle.place_laws.proofs.SideDigits.{step-depth}
use Rattle.place_laws.proofs.Near.{Corner, c-here, c-east, c-north, c-both, corner-depth}
use Rattle.place_laws.proofs.Walls.{home-ground}
use Rattle.place_laws.proofs.Frames.{AgreeAt, walls-frame}
use Rattle.place_laws.proofs.Along.{Choice, any_kid, Along, a-here}
use Rattle.place_laws.proofs.Shadow.{edge, facing, corner-along, Shadow, s-corner, s-south, s-west, shadow-same}
use Rattle.edit_laws.specs.Linked.{Flags, table_with}
use Rattle.edit_laws.specs.Anew.{wall_row, point_row}
use Rattle.edit_laws.specs.Tables.{Border, each_down, along_corners, along_border, refresh_level, refresh_levels}
use Rattle.edit_laws.proofs.FlagsAnew.{bit, Ready, complete-bit, boundary_h-bit, boundary_v-bit, sentenced-bit}
use Rattle.edit_laws.proofs.PassingRows.{among, among-both, Level, new_at, RowStep, new-more, kept-all}
use Rattle.edit_laws.proofs.Walling.{walls_of, wall-step, point-step}
use Rattle.edit_laws.proofs.TwoPasses.{Stale, walls, twice, walled, twice-right, twice-else}
use Rattle.edit_laws.proofs.Setting.{flags-same}
use Rattle.edit_laws.proofs.Starting.{mark_of}
use Rattle.edit_laws.proofs.Descending.{Pair, words_of, binary, Covers, under, under_of, under-level, along_under, pass-under}

-- the rows of a level-0 place and of those beside it
abbrev pub border_of : Grid → List Entry → Place → Border
border_of g es p = record {
  own = number es p;
  north = number es (to_north g p);
  east = number es (to_east g p);
  both = number es (to_north g (to_east g p));
  south = number_of es (step g S p);
  west = number_of es (step g W p);
}

-- ---- the kids along each side

abbrev sw : Pair
sw = (0, 0)

abbrev se : Pair
se = (1, 0)

abbrev nw : Pair
nw = (0, 1)

abbrev ne : Pair
ne = (1, 1)

all-kids : Covers any_kid (sw ∷ se ∷ nw ∷ ne ∷ [])
all-kids = record { are-digits = tt; sw = tt; se = tt; nw = tt; ne = tt }

southern : Covers (edge S) (sw ∷ se ∷ [])
southern = record { are-digits = tt; sw = tt; se = tt; nw = tt; ne = tt }

western : Covers (edge W) (sw ∷ nw ∷ [])
western = record { are-digits = tt; sw = tt; se = tt; nw = tt; ne = tt }

inmost : Covers (edge SW) (sw ∷ [])
inmost = record { are-digits = tt; sw = tt; se = tt; nw = tt; ne = tt }

northern : Covers (edge N) (nw ∷ ne ∷ [])
northern = record { are-digits = tt; sw = tt; se = tt; nw = tt; ne = tt }

eastern : Covers (edge E) (se ∷ ne ∷ [])
eastern = record { are-digits = tt; sw = tt; se = tt; nw = tt; ne = tt }

-- ---- the places of one level

module _ (g : Grid) (p : Place) (e : ℕ) where
  abbrev own : List (Option Place)
  own = under (sw ∷ se ∷ nw ∷ ne ∷ []) e p

  abbrev north : List (Option Place)
  north = under (sw ∷ se ∷ []) e (to_north g p)

  abbrev east : List (Option Place)
  east = under (sw ∷ nw ∷ []) e (to_east g p)

  abbrev both : List (Option Place)
  both = under (sw ∷ []) e (to_north g (to_east g p))

  abbrev south : List (Option Place)
  south = under_of (nw ∷ ne ∷ []) e (step g S p)

  abbrev west : List (Option Place)
  west = under_of (se ∷ ne ∷ []) e (step g W p)

  -- those with walls that p can be a side of, and with them those beside
  abbrev corner_places : List (Option Place)
  corner_places = own ++ north ++ east ++ both

  abbrev border_places : List (Option Place)
  border_places = corner_places ++ south ++ west

  module _ (ground : p.depth ≡ base g) (q : Place) (d : q.depth ≡ base g + e) where
    -- it is among the first, or among the others
    first : (ps qs : List (Option Place)) → T (among q ps) → T (among q (ps ++ qs))
    first ps qs t = subst T (sym (among-both q ps qs)) (or_left (among q ps) (among q qs) t)

    last : (ps qs : List (Option Place)) → T (among q qs) → T (among q (ps ++ qs))
    last ps qs t = subst T (sym (among-both q ps qs)) (or_right (among q ps) (among q qs) t)

    reached : {ok : Choice} {xs : List Pair} {r : Place} → Covers ok xs → r.depth ≡ base g → Along ok r q → T (among q (under xs e r))
    reached {xs = xs} {r = r} k i a = along_under xs k e r q a (d ∙ rw i)

    corner-in : {r : Place} (k : Corner g p r) → Along (facing k) r q → T (among q corner_places)
    corner-in c-here a = first (own ++ north ++ east) both (first (own ++ north) east (first own north (reached all-kids ground a)))
    corner-in c-north a = first (own ++ north ++ east) both (first (own ++ north) east (last own north (reached southern (corner-depth {g = g} {r = p} c-north ∙ ground) a)))
    corner-in c-east a = first (own ++ north ++ east) both (last (own ++ north) east (reached western (corner-depth {g = g} {r = p} c-east ∙ ground) a))
    corner-in c-both a = last (own ++ north ++ east) both (reached inmost (corner-depth {g = g} {r = p} c-both ∙ ground) a)

    corner-border : T (among q corner_places) → T (among q border_places)
    corner-border t = first (corner_places ++ south) west (first corner_places south t)

    shadow-in : {c : Place → Bool} → Shadow g c p q → T (among q border_places)
    shadow-in (s-corner k a) = corner-border (corner-in k a)
    shadow-in (s-south {t} i a u) = first (corner_places ++ south) west (last corner_places south (rw i (reached northern (step-depth g S tt p t i ∙ ground) a)))
    shadow-in (s-west {t} i a u) = last (corner_places ++ south) west (rw i (reached eastern (step-depth g W tt p t i ∙ ground) a))

-- ---- a pass through them

module _ {g : Grid} {cap : ℕ} {es : List Entry} (r : Rooted g cap es) (p : Place) (ground : p.depth ≡ base g) (e : ℕ)
    {row : List ℤ → ℕ → List ℤ} {fresh : Place → Bool → ℕ} {Right : Flags → Type 0} (s : RowStep g es row fresh Right (base g + e)) (f : Flags) (right : Right f) where
  -- the table after the places of qs, which are on the level
  record Passed (t : List ℤ) (qs : List (Option Place)) : Type 0 where
    level : Level (base g + e) qs
    is-table : t ≡ table_with g es (new_at fresh qs f)

  none_passed : Passed (table_with g es f) []
  none_passed = record { level = λ q u. absurd u; is-table = refl }

  also : {t : List ℤ} {qs : List (Option Place)} → Passed t qs → (xs : List Pair) → T (binary xs) → (o : Option Place) → ((q : Place) → o ≡ some q → q.depth ≡ base g)
      → Passed (each_down row cap (words_of xs) e t (number_of es o)) (qs ++ under_of xs e o)
  also {t} {qs} k xs b o d = record {
    level = λ q u. go q (or_cases (among q qs) (among q (under_of xs e o)) (subst T (among-both q qs (under_of xs e o)) u));
    is-table =
        ap (λ (t : List ℤ). each_down row cap (words_of xs) e t (number_of es o)) k.is-table
        ∙ pass-under r s xs b e o deep (new_at fresh qs f) (kept-all r s qs k.level f right)
        ∙ flags-same g es (new_at fresh (under_of xs e o) (new_at fresh qs f)) (new_at fresh (qs ++ under_of xs e o) f) (λ m q _. new-more r s qs (under_of xs e o) f q);
  }
    where
      deep : (q : Place) → o ≡ some q → q.depth + e ≡ base g + e
      deep q j = rw (d q j)

      go : (q : Place) → T (among q qs) ⊎ T (among q (under_of xs e o)) → q.depth ≡ base g + e
      go q (inl u) = k.level q u
      go q (inr u) = under-level xs b e o deep q u

  corner-ground : {x : Place} → Corner g p x → (q : Place) → some x ≡ some q → q.depth ≡ base g
  corner-ground k q i = ap (λ (y : Place). y.depth) (sym (some-injective _ _ i)) ∙ corner-depth k ∙ ground

  corners-passed : Passed (along_corners row cap (border_of g es p) e (table_with g es f)) (corner_places g p e)
  unfolding along_corners
  corners-passed =
      also (also (also (also none_passed
      (sw ∷ se ∷ nw ∷ ne ∷ []) tt (some p) (corner-ground c-here))
      (sw ∷ se ∷ []) tt (some (to_north g p)) (corner-ground c-north))
      (sw ∷ nw ∷ []) tt (some (to_east g p)) (corner-ground c-east))
      (sw ∷ []) tt (some (to_north g (to_east g p))) (corner-ground c-both)

  border-passed : Passed (along_border row cap (border_of g es p) e (table_with g es f)) (border_places g p e)
  unfolding along_border
  border-passed =
      also (also corners-passed
      (nw ∷ ne ∷ []) tt (step g S p) (λ q i. step-depth g S tt p q i ∙ ground))
      (se ∷ ne ∷ []) tt (step g W p) (λ q i. step-depth g W tt p q i ∙ ground)

-- ---- level by level

-- a level-0 cell at p went, the cells before were d: the entries after it
pub record Gone (g : Grid) (cap : ℕ) (es : List Entry) (d : Place → Bool) (p : Place) : Type 0 where
  pub rooted : Rooted g cap es
  pub mesh : Mesh g (cells es)
  pub stood : (q : Place) → T (touched g (cells es) q) → T (any (stands q) es)
  pub ground : p.depth ≡ base g
  pub else : (q : Place) → (q ≡ p → ⊥) → d q ≡ cells es q

-- the flags after e levels: those below are right, and those above are of the cells before, but for cells and marks
pub record Upto (g : Grid) (es : List Entry) (d : Place → Bool) (p : Place) (e : ℕ) (f : Flags) : Type 0 where
  pub complete : (q : Place) → T (any (stands q) es) → bit 0 (f q) ≡ cells es q
  pub sentenced : (q : Place) → T (any (stands q) es) → bit 12 (f q) ≡ mark_of es q
  pub right : (q : Place) → q.depth < base g + e → T (any (stands q) es) → f q ≡ digits (flags g (cells es) q (mark_of es q))
  pub before : (q : Place) → base g + e ≤ q.depth → T (any (stands q) es) → (q ≡ p → ⊥) → f q ≡ digits (flags g d q (mark_of es q))

module _ {g : Grid} {cap : ℕ} {es : List Entry} {d : Place → Bool} {p : Place} (a : Gone g cap es d p) where
  agree : (q : Place) → (home g q ≡ p → ⊥) → AgreeAt g d (cells es) q
  agree q o = (a.else q (λ i. o (ap (home g) i ∙ home-ground g p a.ground)), a.else (home g q) o)

  module _ (e : ℕ) {f : Flags} (u : Upto g es d p e f) where
    ready : Ready g es f (cells es) (base g + e)
    ready = record {
      mesh = a.mesh;
      stood = λ q i t. a.stood q t;
      complete = λ q i t. u.complete q t;
      boundaries_h = λ q i l t. ap (bit 4) (u.right q (omega arith) t) ∙ boundary_h-bit g (cells es) q (mark_of es q);
      boundaries_v = λ q i l t. ap (bit 5) (u.right q (omega arith) t) ∙ boundary_v-bit g (cells es) q (mark_of es q);
    }

    walls-step : RowStep g es (wall_row cap (base g)) (walls_of g (cells es)) (λ f. Ready g es f (cells es) (base g + e)) (base g + e)
    walls-step = wall-step a.rooted (cells es) (base g + e) (omega arith)

    stale : Stale g es (cells es) d (mark_of es) (base g + e) (corner_places g p e) (border_places g p e) f
    stale = record {
      ready = ready;
      wall-level = (corners-passed a.rooted p a.ground e walls-step f ready).level;
      point-level = (border-passed a.rooted p a.ground e walls-step f ready).level;
      marked = λ q i t. u.sentenced q t;
      away = λ q i t o. u.before q (omega arith) t (λ z. o (corner-in g p e a.ground q i c-here (subst (λ (x : Place). Along any_kid p x) (sym z) a-here)));
      same-walls = λ q i o.
          walls-frame g d (cells es) q
          (λ x k. agree x (λ z. let (y, j, b) = corner-along g p (omega (arith, corner-depth k)) z k in o (corner-in g p e a.ground q i j b)));
      same_flags = λ q i o k. shadow-same g d (cells es) p a.ground a.else q (omega arith) (λ b. k (shadow-in g p e a.ground q i b));
    }

    level-table : refresh_level (border_of g es p) e (table_with g es f) cap (base g) ≡ table_with g es (twice stale)
    unfolding refresh_level
    level-table =
        ap (along_border (point_row cap) cap (border_of g es p) e) (corners-passed a.rooted p a.ground e walls-step f ready).is-table
        ∙ (border-passed a.rooted p a.ground e (point-step a.rooted (cells es) (base g + e) (omega arith)) (walls stale) (walled stale)).is-table

    -- the flags of the level are right, and the others stay
    level-upto : Upto g es d p (e + 1) (twice stale)
    level-upto = record {
      complete = λ q t. either 0 (cells es q) q t (complete-bit g (cells es) q (mark_of es q)) (u.complete q t);
      sentenced = λ q t. either 12 (mark_of es q) q t (sentenced-bit g (cells es) q (mark_of es q)) (u.sentenced q t);
      right = λ q l t. go q l t (ℕ_discrete q.depth (base g + e));
      before = λ q l t o. twice-else stale q (λ i. omega arith) ∙ u.before q (omega arith) t o;
    }
      where
        here : (q : Place) → q.depth ≡ base g + e → T (any (stands q) es) → twice stale q ≡ digits (flags g (cells es) q (mark_of es q))
        here = twice-right stale (λ q t. corner-border g p e a.ground q (stale.wall-level q t) t)

        go : (q : Place) → q.depth < base g + (e + 1) → T (any (stands q) es) → Dec (q.depth ≡ base g + e) → twice stale q ≡ digits (flags g (cells es) q (mark_of es q))
        go q l t (yes i) = here q i t
        go q l t (no i) = twice-else stale q i ∙ u.right q (omega (arith, i)) t

        either : (k : ℕ) (y : Bool) (q : Place) → T (any (stands q) es) → bit k (digits (flags g (cells es) q (mark_of es q))) ≡ y → bit k (f q) ≡ y → bit k (twice stale q) ≡ y
        either k y q t x z = one (ℕ_discrete q.depth (base g + e))
          where
            one : Dec (q.depth ≡ base g + e) → bit k (twice stale q) ≡ y
            one (yes i) = ap (bit k) (here q i t) ∙ x
            one (no i) = ap (bit k) (twice-else stale q i) ∙ z

  -- n levels, from the level e on
  pub levels-done : (n e : ℕ) (f : Flags) → Upto g es d p e f
      → (h : Flags) × (refresh_levels n (border_of g es p) e (table_with g es f) cap (base g) ≡ table_with g es h) × Upto g es d p (e + n) h
  unfolding refresh_levels
  levels-done zero e f u = let i : e + 0 ≡ e = omega arith in (f, refl, rw i u)
  levels-done (suc n) e f u =
      let (h, i, v) = levels-done n (e + 1) (twice (stale e u)) (level-upto e u) in
      let j : e + suc n ≡ e + 1 + n = omega arith in
      (h, ap (λ (t : List ℤ). refresh_levels n (border_of g es p) (e + 1) t cap (base g)) (level-table e u) ∙ i, rw j v)
