-- A request as a deed at a place: what refuses it and what it makes of the cells (01, 'Build and requests'; 02, No. 1). Nothing here knows of
-- numbers, rows or tables, so refusals 6 and 11 are not here.
-- Assumes nothing.
use Rattle.std.specs.Prelude.{◌+◌, Bool, false, not, ◌&&◌, cond, List, [], ◌∷◌, eqb, Float}
use Rattle.std.proofs.Math.Option.{Option, none, map}
use Rattle.mesh.specs.Tools.{any, all, any_below, or_else, is_some}
use Rattle.mesh.specs.Place.{Place, Grid, same, base, kids}
use Rattle.mesh.specs.Mesh.{has_kids}
use Rattle.mesh.specs.Jump.{coarse_beside, finer_beside}
use Rattle.mesh.specs.State.{Cell}
use Rattle.mesh.specs.Carrying.{kid_cell, sentenced_cell, measured_cell}
use Rattle.mesh.specs.Valid.{finite}
use Rattle.mesh.specs.Refusal.{Check, ◌if◌, behind}

pub data Deed : Type 0 where
  refined sentenced removed killed : Place → Deed
  measured : Place → Float → Deed

-- ---- the cells with what they carry

-- a cell or none at each place
abbrev pub Contents : Type 0
Contents = Place → Option Cell

-- the set of cells, and of those that are sentenced
abbrev pub held : Contents → Place → Bool
held c p = is_some (c p)

abbrev pub held_sentenced : Contents → Place → Bool
held_sentenced c p = or_else false (λ x. x.sentenced) (c p)

-- some level-0 place of the rectangle passes
unfoldable pub any_ground : Grid → (Place → Bool) → Bool
any_ground g f = any_below (λ i. any_below (λ j. f (record { depth = base g; i = i; j = j })) g.rows) g.columns

-- ---- what refuses a deed

-- 7: "patch is no cell"; 8: "cell has kids"; 9: "level is 12"; 10: "cell is sentenced"; 12: "sentence at level 0, or kill above it";
-- 13: "cell has no kids"; 14: "not all four kids are sentenced"; 15: "it is the only level-0 cell"; 16: "value is infinite or not a number"
module _ (g : Grid) (c : Contents) (p : Place) where
  abbrev pub no7 : Check
  no7 = 7 if not (held c p)

  abbrev pub no8 : Check
  no8 = 8 if has_kids g (held c) p

  abbrev pub no9 : Check
  no9 = 9 if eqb p.depth (base g + 12)

  abbrev pub no10 : Check
  no10 = 10 if held_sentenced c p

  abbrev pub no12-sentence : Check
  no12-sentence = 12 if eqb p.depth (base g)

  abbrev pub no12-kill : Check
  no12-kill = 12 if not (eqb p.depth (base g))

  abbrev pub no13 : Check
  no13 = 13 if not (has_kids g (held c) p)

  abbrev pub no14 : Check
  no14 = 14 if not (all (held_sentenced c) (kids p))

  abbrev pub no15 : Check
  no15 = 15 if not (any_ground g (λ q. held c q && not (same q p)))

  -- No. 1, 'No jump of two levels'
  abbrev pub no21 : Check
  no21 = 21 if coarse_beside g (held c) p

  abbrev pub no22 : Check
  no22 = 22 if finer_beside g (held c) p

abbrev pub no16 : Float → Check
no16 x = 16 if not (finite x)

-- the column 'Checks in order' of 01's table, but for 6 and 11
abbrev pub loose_deed_checks : Grid → Contents → Deed → List Check
loose_deed_checks g c (refined p) = no7 g c p ∷ no8 g c p ∷ no9 g c p ∷ no10 g c p ∷ []
loose_deed_checks g c (sentenced p) = no7 g c p ∷ no8 g c p ∷ no12-sentence g c p ∷ []
loose_deed_checks g c (removed p) = no7 g c p ∷ no13 g c p ∷ no14 g c p ∷ []
loose_deed_checks g c (killed p) = no7 g c p ∷ no12-kill g c p ∷ no8 g c p ∷ no15 g c p ∷ []
loose_deed_checks g c (measured p x) = no7 g c p ∷ no8 g c p ∷ no16 x ∷ []

-- with No. 1's two: "21 for refine, after 10 and before 11; 22 for remove, after 14"
abbrev pub deed_checks : Grid → Contents → Deed → List Check
deed_checks g c (refined p) = behind 10 (no21 g c p) (loose_deed_checks g c (refined p))
deed_checks g c (sentenced p) = loose_deed_checks g c (sentenced p)
deed_checks g c (removed p) = behind 14 (no22 g c p) (loose_deed_checks g c (removed p))
deed_checks g c (killed p) = loose_deed_checks g c (killed p)
deed_checks g c (measured p x) = loose_deed_checks g c (measured p x)

-- ---- what it makes of the cells

-- at these places this cell or none, and elsewhere as it was
abbrev pub put : List Place → Option Cell → Contents → Contents
put ps x c q = cond (any (same q) ps) x (c q)

-- refine adds the four kids, remove takes the four away, kill takes the one away, and the others change no cell but what it carries
unfoldable pub set_rule : Deed → Contents → Contents
set_rule (refined p) c = put (kids p) (map kid_cell (c p)) c
set_rule (sentenced p) c = put (p ∷ []) (map sentenced_cell (c p)) c
set_rule (removed p) c = put (kids p) none c
set_rule (killed p) c = put (p ∷ []) none c
set_rule (measured p x) c = put (p ∷ []) (map (measured_cell x) (c p)) c
