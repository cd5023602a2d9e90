-- What a set of cells makes: patches, walls, boundary and green (01, 'What a mesh is'). The set is a test on places, and nothing here knows
-- of numbers or rows.
-- Assumes nothing.
use Rattle.std.specs.Prelude.{ℕ, zero, suc, ◌+◌, ◌-◌, ◌≤◌, ◌<◌, ◌≡◌, Bool, true, false, not, ◌&&◌, ◌||◌, cond, List, [], ◌∷◌, ◌++◌, T}
use Rattle.std.proofs.Math.Option.{Option, some}
use Rattle.mesh.specs.Tools.{any, all, or_else}
use Rattle.mesh.specs.Place.{Place, Grid, SW, N, E, S, W, base, step, then, kids, parent, home}

-- a wall of the grid: absent where it has no cell, internal where it has two
pub data Wall : Type 0 where
  absent internal boundary green : Wall

abbrev pub is_wall : Wall → Bool
is_wall absent = false
is_wall internal = true
is_wall boundary = true
is_wall green = true

abbrev pub is_boundary : Wall → Bool
is_boundary absent = false
is_boundary internal = false
is_boundary boundary = true
is_boundary green = false

abbrev pub is_green : Wall → Bool
is_green absent = false
is_green internal = false
is_green boundary = false
is_green green = true

-- A wall by what is on its two sides: a cell there? in the area there? "A wall with one cell is boundary if it lies on the edge of the union
-- of level-0 cells, otherwise green": it is green where the other side is in the area.
abbrev pub wall_of : Bool → Bool → Bool → Bool → Wall
wall_of false false a b = absent
wall_of true true a b = internal
wall_of true false a b = cond b green boundary
wall_of false true a b = cond a green boundary

-- "Flags, bit 0 up: Complete, WallH, WallV, BdyPoint, BdyWallH, BdyWallV, BdyCell, GrnPoint, GrnWallH, GrnWallV, GrnCell, Pregnant, Sentenced,
-- Dead."
abbrev pub complete_bit : ℕ
complete_bit = 0

abbrev pub wall_h_bit : ℕ
wall_h_bit = 1

abbrev pub wall_v_bit : ℕ
wall_v_bit = 2

abbrev pub bdy_point_bit : ℕ
bdy_point_bit = 3

abbrev pub bdy_wall_h_bit : ℕ
bdy_wall_h_bit = 4

abbrev pub bdy_wall_v_bit : ℕ
bdy_wall_v_bit = 5

abbrev pub bdy_cell_bit : ℕ
bdy_cell_bit = 6

abbrev pub grn_point_bit : ℕ
grn_point_bit = 7

abbrev pub grn_wall_h_bit : ℕ
grn_wall_h_bit = 8

abbrev pub grn_wall_v_bit : ℕ
grn_wall_v_bit = 9

abbrev pub grn_cell_bit : ℕ
grn_cell_bit = 10

abbrev pub pregnant_bit : ℕ
pregnant_bit = 11

abbrev pub sentenced_bit : ℕ
sentenced_bit = 12

abbrev pub dead_bit : ℕ
dead_bit = 13

-- as many as there are
abbrev pub flag_count : ℕ
flag_count = 14

module _ (g : Grid) (c : Place → Bool) where
  -- a cell stands there
  abbrev pub on : Option Place → Bool
  on o = or_else false c o

  -- the area is the union of the level-0 cells
  abbrev pub in_area : Option Place → Bool
  in_area o = or_else false (λ p. c (home g p)) o

  -- "exactly if (i,j), (i-1,j), (i,j-1) or (i-1,j-1) is a cell on level k"
  unfoldable pub touched : Place → Bool
  touched p = c p || (on (step g W p) || (on (step g S p) || on (step g SW p)))

  -- a touched place n levels down from here
  unfoldable pub under : ℕ → Place → Bool
  under zero p = touched p
  under (suc n) p = any (under n) (kids p)

  -- a patch exists: from level 0 up where it is touched, and below "exactly if a level-0 patch lies under it"
  unfoldable pub patch : Place → Bool
  patch p = under (base g - p.depth) p

  -- "a leaf is a cell with no kids"; "a cell's kids are cells"
  unfoldable pub has_kids : Place → Bool
  has_kids p = any c (kids p)

  unfoldable pub leaf : Place → Bool
  leaf p = c p && not (has_kids p)

  -- "H-wall at (k,i,j): from that point east .. V-wall: from that point north"
  unfoldable pub wall_h : Option Place → Wall
  wall_h o = let s = then (step g S) o in wall_of (on s) (on o) (in_area s) (in_area o)

  unfoldable pub wall_v : Option Place → Wall
  wall_v o = let w = then (step g W) o in wall_of (on w) (on o) (in_area w) (in_area o)

  -- the walls that end at a point, and the walls of a cell
  unfoldable pub ends : Place → List Wall
  ends p = wall_h (some p) ∷ wall_h (step g W p) ∷ wall_v (some p) ∷ wall_v (step g S p) ∷ []

  unfoldable pub sides : Place → List Wall
  sides p = wall_h (some p) ∷ wall_h (step g N p) ∷ wall_v (some p) ∷ wall_v (step g E p) ∷ []

  -- The eleven flags that the cells make, bit 0 first: Complete, WallH, WallV, BdyPoint, BdyWallH, BdyWallV, BdyCell, GrnPoint, GrnWallH,
  -- GrnWallV, GrnCell. "A boundary or green point is an end of such a wall on its own level .. a boundary or green cell has such a wall."
  unfoldable pub derived : Place → List Bool
  derived p =
      c p ∷
      is_wall (wall_h (some p)) ∷
      is_wall (wall_v (some p)) ∷
      any is_boundary (ends p) ∷
      is_boundary (wall_h (some p)) ∷
      is_boundary (wall_v (some p)) ∷
      (c p && any is_boundary (sides p)) ∷
      any is_green (ends p) ∷
      is_green (wall_h (some p)) ∷
      is_green (wall_v (some p)) ∷
      (c p && any is_green (sides p)) ∷
      []

  -- and then Pregnant, Sentenced and Dead
  unfoldable pub flags : Place → Bool → List Bool
  flags p sentenced = derived p ++ (false ∷ sentenced ∷ false ∷ [])

  -- ---- the rules that a set of cells has to meet

  pub record Mesh : Type 0 where
    -- "the level-0 cells are a nonempty subset of the rectangle"
    pub some-cell : (p : Place) × (p.depth ≡ base g) × T (c p)
    pub inside : (p : Place) → T (c p) → p.depth ≡ base g → (p.i < g.columns) × (p.j < g.rows)
    -- cells are on level 0 to level 12
    pub low : (p : Place) → T (c p) → base g ≤ p.depth
    pub high : (p : Place) → T (c p) → p.depth ≤ base g + 12
    -- "every cell above level 0 has its parent as a cell"
    pub above : (p : Place) → T (c p) → base g < p.depth → T (on (parent p))
    -- "either has no kids or has all four"
    pub four : (p : Place) → T (c p) → T (has_kids p) → T (all c (kids p))
