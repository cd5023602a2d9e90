-- Places: where a patch can stand (01, 'What a mesh is'). The root is (0, 0, 0), and a place's kids lie one deeper, so a place is the same
-- thing for ghosts and for patches: a level is the depth less the depth of level 0.
-- Assumes nothing.
use Rattle.std.specs.Prelude.{ℕ, zero, suc, ◌+◌, ◌-◌, ◌*◌, ◌/◌, ◌^◌, max, Bool, ◌&&◌, cond, List, [], ◌∷◌, ◌++◌, map, eqb, leb, ltb, T, ℤ}
use Rattle.std.proofs.Math.Option
use Rattle.std.proofs.Math.Option.{Option, none, some}
use Rattle.std.proofs.Math.IntN.{sub_ℕ}
use Rattle.std.specs.Int.Count.{count_leading_zeros}
use Rattle.mesh.specs.Tools.{or_else, any}

pub record Place : Type 0 where
  pub depth : ℕ
  pub i : ℕ
  pub j : ℕ

abbrev pub at : ℕ → ℕ → ℕ → Place
at e i j = record { depth = e; i = i; j = j }

unfoldable pub same : Place → Place → Bool
same p q = eqb p.depth q.depth && (eqb p.i q.i && eqb p.j q.j)

-- the rectangle of level-0 cells: what of the header the geometry needs
pub record Grid : Type 0 where
  pub columns : ℕ
  pub rows : ℕ
  -- 0 open, 1 ring (02, No. 4)
  pub mode : ℕ

-- an open grid
abbrev pub rectangle : ℕ → ℕ → Grid
rectangle c r = record { columns = c; rows = r; mode = 0 }

abbrev pub is_ring : Grid → Bool
is_ring g = eqb g.mode 1

-- it has a place of level 0 in the column i and the row j
abbrev pub in_rectangle : Grid → ℕ → ℕ → Bool
in_rectangle g i j = ltb i g.columns && ltb j g.rows

-- "the root level is minus d, d being the bit length of the larger of columns and rows": a word's width less its leading zeros
unfoldable pub base : Grid → ℕ
base g = 32 - count_leading_zeros 32 (max g.columns g.rows)

unfoldable pub level : Grid → Place → ℤ
level g p = sub_ℕ p.depth (base g)

abbrev pub root : Place
root = at 0 0 0

-- ---- "the offset and opposite of each of the eight winds stand in one small table"

-- in the order of the words 1 to 8 of a row
pub data Wind : Type 0 where
  NE SE SW NW N E S W : Wind

-- how far east and how far north a wind goes, one too large so that no number is negative, and the wind that leads back
pub record Compass : Type 0 where
  pub east : ℕ
  pub north : ℕ
  pub opposite : Wind

abbrev pub compass : Wind → Compass
compass NE = record { east = 2; north = 2; opposite = SW }
compass SE = record { east = 2; north = 0; opposite = NW }
compass SW = record { east = 0; north = 0; opposite = NE }
compass NW = record { east = 0; north = 2; opposite = SE }
compass N = record { east = 1; north = 2; opposite = S }
compass E = record { east = 2; north = 1; opposite = W }
compass S = record { east = 1; north = 0; opposite = N }
compass W = record { east = 0; north = 1; opposite = E }

abbrev pub kid_winds : List Wind
kid_winds = NE ∷ SE ∷ SW ∷ NW ∷ []

abbrev pub side_winds : List Wind
side_winds = N ∷ E ∷ S ∷ W ∷ []

-- ---- steps

-- Proofs go by the laws of place_laws/proofs/Steps, the one file that unfolds what follows up to `step`; only the reference grids, which are
-- computed, do so too.

abbrev pub before : ℕ → Option ℕ
before zero = none
before (suc n) = some n

-- "row index on level k counts modulo rows × 2^k" (02, No. 4): after so many rows a level of a ring begins anew. Ghosts' rows and those of an
-- open grid do not: 0.
unfoldable pub lap : Grid → ℕ → ℕ
lap g e = cond (is_ring g && leb (base g) e) (g.rows * 2 ^ (e - base g)) 0

-- the row after a row, and the one before it, where the rows begin anew after n; the row n itself is none of them
unfoldable pub j_after : ℕ → ℕ → ℕ
j_after n j = cond (eqb (suc j) n) 0 (suc j)

unfoldable pub j_before : ℕ → ℕ → Option ℕ
j_before n zero = before n
j_before n (suc j) = cond (eqb (suc j) n) none (some j)

-- One step north and one step east there is always a place; south and west there is one if the indices go on there.
-- These four definitions alone know how the indices of a level run.
unfoldable pub to_north : Grid → Place → Place
to_north g p = at p.depth p.i (j_after (lap g p.depth) p.j)

unfoldable pub to_east : Grid → Place → Place
to_east g p = at p.depth (suc p.i) p.j

unfoldable pub to_south : Grid → Place → Option Place
to_south g p = Option.map (λ j. at p.depth p.i j) (j_before (lap g p.depth) p.j)

unfoldable pub to_west : Grid → Place → Option Place
to_west g p = Option.map (λ i. at p.depth i p.j) (before p.i)

-- a step from a place that may be missing
abbrev pub then : (Place → Option Place) → Option Place → Option Place
then f o = or_else none f o

-- by an offset of the table: one back, none, or one on
abbrev pub eastward : Grid → ℕ → Option Place → Option Place
eastward g zero o = then (to_west g) o
eastward g (suc zero) o = o
eastward g (suc (suc n)) o = Option.map (to_east g) o

abbrev pub northward : Grid → ℕ → Option Place → Option Place
northward g zero o = then (to_south g) o
northward g (suc zero) o = o
northward g (suc (suc n)) o = Option.map (to_north g) o

unfoldable pub step : Grid → Wind → Place → Option Place
step g w p = northward g (compass w).north (eastward g (compass w).east (some p))

-- ---- the tree of places

-- "(k+1, 2i+l, 2j+m), l and m in 0,1"
unfoldable pub kid : Wind → Place → Place
kid w p = at (suc p.depth) (2 * p.i + (compass w).east / 2) (2 * p.j + (compass w).north / 2)

unfoldable pub kids : Place → List Place
kids p = map (λ w. kid w p) kid_winds

-- "halve the indices, rounding down"
unfoldable pub parent : Place → Option Place
parent p = Option.map (λ e. at e (p.i / 2) (p.j / 2)) (before p.depth)

-- the places that a row's words 0 to 8 link to: the parent, the kids and the neighbours
unfoldable pub around : Grid → Option Place → List (Option Place)
around g o = then parent o ∷ map (λ w. Option.map (kid w) o) kid_winds ++ map (λ w. then (step g w) o) side_winds

-- the place on level 0 that a place of level 0 or above lies in
unfoldable pub home : Grid → Place → Place
home g p = at (base g) (p.i / 2 ^ (p.depth - base g)) (p.j / 2 ^ (p.depth - base g))

-- ---- lists of places

abbrev pub In : Place → List Place → Type 0
In q ps = T (any (same q) ps)

-- no place stands twice
abbrev pub Distinct : List Place → Type 0
Distinct [] = Unit {0}
Distinct (p ∷ ps) = (In p ps → ⊥) × Distinct ps
