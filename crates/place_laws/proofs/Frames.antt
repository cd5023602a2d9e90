-- The flags at a place are made of the cells there, west, south and south-west of it and, at a cell, north and east of it, and of which of these
-- places lie in the area. So a change elsewhere leaves them.
-- Assumes nothing.
use Prim.Native.Nat.{◌<◌}
use native.Mathlib.Omega.{arith}
use mathlib.Core.Path.{◌≡◌, refl, sym, ◌∙◌}
use mathlib.Core.Bool.{Bool, true, false, ◌&&◌, or-false}
use mathlib.Core.Option.{Option, none, some, none-ne-some, some-injective}
use mathlib.Core.List.{List, [], ◌∷◌}
use lib.Dec.{T}
use Rattle.mesh.specs.Tools.{any}
use Rattle.mesh.specs.Place.{Place, Grid, same, base, home, step, then, to_north, to_east, Wind, SW, N, E, S, W, In}
use Rattle.mesh.specs.Mesh.{Mesh, Wall, absent, is_wall, is_boundary, is_green, wall_of, on, in_area, wall_h, wall_v, ends, sides, derived}
use Rattle.place_laws.proofs.Bools.{no-is}
use Rattle.place_laws.proofs.Steps.{north-south, east-west, step-north, step-east, southwest, southwest-by-south}
use Rattle.place_laws.proofs.Near.{Corner, c-here, south-corner, west-corner, southwest-corner}
use Rattle.place_laws.proofs.SideDigits.{aside, step-depth}
use Rattle.place_laws.proofs.Walls.{wall}
use Rattle.place_laws.proofs.Growing.{grown}

-- ---- there and back

south-of-north : (g : Grid) (q : Place) → then (step g S) (step g N q) ≡ some q
south-of-north g q = rw (step-north g q) (north-south g q)

west-of-east : (g : Grid) (q : Place) → then (step g W) (step g E q) ≡ some q
west-of-east g q = rw (step-east g q) (east-west g q)

-- ---- two sets of cells

-- where a test holds, what else is asked
and_same : (b d x y : Bool) → b ≡ d → (T b → x ≡ y) → (b && x) ≡ (d && y)
and_same b d x y e h = rw (← e) (go b h)
  where
    go : (b : Bool) → (T b → x ≡ y) → (b && x) ≡ (b && y)
    go true h = h tt
    go false h = refl

module _ (g : Grid) (c d : Place → Bool) where
  -- the flags are made of the walls around
  derived-walls : (q : Place) → c q ≡ d q → wall_h g c (some q) ≡ wall_h g d (some q) → wall_v g c (some q) ≡ wall_v g d (some q)
      → wall_h g c (step g W q) ≡ wall_h g d (step g W q) → wall_v g c (step g S q) ≡ wall_v g d (step g S q)
      → (T (c q) → (wall_h g c (step g N q) ≡ wall_h g d (step g N q)) × (wall_v g c (step g E q) ≡ wall_v g d (step g E q)))
      → derived g c q ≡ derived g d q
  unfolding derived ends sides
  derived-walls q here h v west south beyond = λ i.
      here i
      ∷ is_wall (h i)
      ∷ is_wall (v i)
      ∷ any is_boundary (h i ∷ west i ∷ v i ∷ south i ∷ [])
      ∷ is_boundary (h i)
      ∷ is_boundary (v i)
      ∷ around is_boundary i
      ∷ any is_green (h i ∷ west i ∷ v i ∷ south i ∷ [])
      ∷ is_green (h i)
      ∷ is_green (v i)
      ∷ around is_green i
      ∷ []
    where
      around : (f : Wall → Bool) → (c q && any f (sides g c q)) ≡ (d q && any f (sides g d q))
      around f = and_same (c q) (d q) (any f (sides g c q)) (any f (sides g d q)) here (λ t i.
          any f (h i ∷ (beyond t).0 i ∷ v i ∷ (beyond t).1 i ∷ []))

  -- of a place that may be missing, both sets say the same: whether a cell stands there, and whether it lies in the area
  abbrev pub Agree : Option Place → Type 0
  Agree o = (on g c o ≡ on g d o) × (in_area g c o ≡ in_area g d o)

  wall-same : (w : Wind) (o : Option Place) → Agree o → Agree (then (step g w) o) → wall g c w o ≡ wall g d w o
  wall-same w o a b = λ i. wall_of (b.0 i) (a.0 i) (b.1 i) (a.1 i)

  wall_h-same : (o : Option Place) → Agree o → Agree (then (step g S) o) → wall_h g c o ≡ wall_h g d o
  unfolding wall_h
  wall_h-same = wall-same S

  wall_v-same : (o : Option Place) → Agree o → Agree (then (step g W) o) → wall_v g c o ≡ wall_v g d o
  unfolding wall_v
  wall_v-same = wall-same W

  pub derived-same : (q : Place) → Agree (some q) → Agree (step g W q) → Agree (step g S q) → Agree (step g SW q)
      → (T (c q) → Agree (step g N q) × Agree (step g E q)) → derived g c q ≡ derived g d q
  derived-same q here west south corner beyond =
      derived-walls q here.0
      (wall_h-same (some q) here south)
      (wall_v-same (some q) here west)
      (wall_h-same (step g W q) west (rw (← southwest g q) corner))
      (wall_v-same (step g S q) south (rw (← southwest-by-south g q) corner))
      (λ t. (
        wall_h-same (step g N q) (beyond t).0 (rw (south-of-north g q) here),
        wall_v-same (step g E q) (beyond t).1 (rw (west-of-east g q) here),
      ))

  -- ---- by the cells that touch the point

  -- the sets agree on a place, and on its level-0 place
  abbrev pub AgreeAt : Place → Type 0
  AgreeAt r = (c r ≡ d r) × (c (home g r) ≡ d (home g r))

  agree_at : (o : Option Place) → ((r : Place) → o ≡ some r → AgreeAt r) → Agree o
  agree_at none h = (refl, refl)
  agree_at (some r) h = h r refl

  -- the walls of the place itself are made of three of these
  pub walls-frame : (q : Place) → ((r : Place) → Corner g r q → AgreeAt r) → (wall_h g c (some q) ≡ wall_h g d (some q)) × (wall_v g c (some q) ≡ wall_v g d (some q))
  walls-frame q touch = (
    wall_h-same (some q) (touch q c-here) (agree_at (step g S q) (λ r e. touch r (south-corner e))),
    wall_v-same (some q) (touch q c-here) (agree_at (step g W q) (λ r e. touch r (west-corner e))),
  )

  pub derived-frame : (q : Place) → ((r : Place) → Corner g r q → AgreeAt r) → (T (c q) → AgreeAt (to_north g q) × AgreeAt (to_east g q)) → derived g c q ≡ derived g d q
  derived-frame q touch beyond =
      derived-same q (touch q c-here)
      (agree_at (step g W q) (λ r e. touch r (west-corner e)))
      (agree_at (step g S q) (λ r e. touch r (south-corner e)))
      (agree_at (step g SW q) (λ r e. touch r (southwest-corner e)))
      (λ t. rw (step-north g q, step-east g q) (beyond t))

  -- with the same level-0 cells the area is the same
  pub area_same : ((r : Place) → r.depth ≡ base g → c r ≡ d r) → (r : Place) → c (home g r) ≡ d (home g r)
  unfolding home
  area_same h r = h (home g r) refl

-- ---- ghosts

module _ (g : Grid) (c : Place → Bool) (m : Mesh g c) where
  -- it lies below level 0, if it is there
  abbrev Low : Option Place → Type 0
  Low o = (q : Place) → o ≡ some q → q.depth < base g

  low-on : (o : Option Place) → Low o → on g c o ≡ false
  low-on none l = refl
  low-on (some q) l = no-is (c q) (λ t. omega (arith, m.low q t, l q refl))

  low_step : (w : Wind) → T (aside w) → (o : Option Place) → Low o → Low (then (step g w) o)
  low_step w t none l q e = absurd (none-ne-some _ e)
  low_step w t (some r) l q e = omega (arith, step-depth g w t r q e, l r refl)

  low-wall : (w : Wind) → T (aside w) → (o : Option Place) → Low o → wall g c w o ≡ absent
  low-wall w t o l = rw (low-on o l, low-on (then (step g w) o) (low_step w t o l))

  low-wall_h : (o : Option Place) → Low o → wall_h g c o ≡ absent
  unfolding wall_h
  low-wall_h = low-wall S tt

  low-wall_v : (o : Option Place) → Low o → wall_v g c o ≡ absent
  unfolding wall_v
  low-wall_v = low-wall W tt

-- no mesh gives a ghost a flag
pub ghost-same : (g : Grid) (c d : Place → Bool) → Mesh g c → Mesh g d → (q : Place) → q.depth < base g → derived g c q ≡ derived g d q
ghost-same g c d m k q l =
    derived-walls g c d q (low-on g c m (some q) here ∙ sym (low-on g d k (some q) here))
    (hor (some q) here) (ver (some q) here) (hor (step g W q) (beside W tt)) (ver (step g S q) (beside S tt))
    (λ t. (hor (step g N q) (beside N tt), ver (step g E q) (beside E tt)))
  where
    here : (r : Place) → some q ≡ some r → r.depth < base g
    here r e = rw (← some-injective _ _ e) l

    beside : (w : Wind) → T (aside w) → (r : Place) → step g w q ≡ some r → r.depth < base g
    beside w t r e = omega (arith, step-depth g w t q r e)

    hor : (o : Option Place) → Low g c m o → wall_h g c o ≡ wall_h g d o
    hor o h = low-wall_h g c m o h ∙ sym (low-wall_h g d k o h)

    ver : (o : Option Place) → Low g c m o → wall_v g c o ≡ wall_v g d o
    ver o h = low-wall_v g c m o h ∙ sym (low-wall_v g d k o h)

-- ---- a set that grows

pub grown-else : (c : Place → Bool) (ps : List Place) (q : Place) → (In q ps → ⊥) → c q ≡ grown c ps q
grown-else c ps q h = rw (no-is (any (same q) ps) h) (sym (or-false (c q)))
