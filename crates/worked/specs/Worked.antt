-- The words that are worked out from other rows' words: a neighbour from the parent's kids and neighbours, the flags from the neighbours' cells
-- and the parent's walls.
-- Assumes nothing.
use Rattle.std.specs.Prelude.{ℕ, zero, suc, ◌+◌, ◌-◌, ◌/◌, ◌%◌, Bool, false, not, ◌&&◌, ◌||◌, cond, List, [], ◌∷◌, ◌++◌, eqb, leb, ℤ}
use Rattle.std.specs.Bool.{beq}
use Rattle.mesh.specs.Tools.{or_else}
use Rattle.mesh.specs.Place.{Grid, Wind, at, base, compass, step}
use Rattle.mesh.specs.Seam.{crosses}
use Rattle.mesh.specs.Winds.{word_of_wind}
use Rattle.mesh.specs.Picture.{east_word, i_word, j_word, ne_word, north_word, nw_word, parent_word, se_word, south_word, sw_word, west_word}
use Rattle.mesh.specs.Mesh.{bdy_wall_h_bit, bdy_wall_v_bit, complete_bit, grn_wall_h_bit, grn_wall_v_bit}
use Rattle.table.specs.Words.{word_of, link_of, flag_of, depth_of}

-- the word of the kid whose column ends in the digit l and whose row ends in the digit m: NE 1, SE 2, SW 3, NW 4
abbrev pub kid_word : ℕ → ℕ → ℕ
kid_word l m = cond (eqb l 1) (2 - m) (3 + m)

-- ---- neighbours

-- a digit moved by an offset (one too large) is still one of the same two, or one of the next two
abbrev pub stays_in : ℕ → Bool
stays_in a = leb 1 a && leb a 2

-- the row that is the neighbour of the kid of the row p whose digits are l and m: a kid of p, or of p's neighbour
unfoldable pub side_by : List ℤ → ℕ → ℕ → ℕ → ℕ → Wind → ℕ
side_by t cap p l m w =
    let a = l + (compass w).east in
    let b = m + (compass w).north in
    link_of t cap (cond (stays_in a && stays_in b) p (link_of t cap p (word_of_wind w))) (kid_word ((a + 1) % 2) ((b + 1) % 2))

-- and of a row, by its parent and the last digits of its indices
unfoldable pub side_of : List ℤ → ℕ → ℕ → Wind → ℕ
side_of t cap n w = side_by t cap (link_of t cap n parent_word) (word_of t n i_word % 2) (word_of t n j_word % 2) w

-- the row of the place with these indices, so many kids down from the root by their digits, the highest first; 0 where there is none
unfoldable pub down_to : List ℤ → ℕ → ℕ → ℕ → ℕ → ℕ
down_to t cap zero i j = cond (eqb (i + j) 0) 1 0
down_to t cap (suc e) i j = let n = down_to t cap e (i / 2) (j / 2) in cond (eqb n 0) 0 (link_of t cap n (kid_word (i % 2) (j % 2)))

-- across the seam of level 0, where the parents are no neighbours, from the root down
unfoldable pub side_in : Grid → List ℤ → ℕ → ℕ → Wind → ℕ
side_in g t cap n w =
    let p = at (depth_of t (base g) n) (word_of t n i_word) (word_of t n j_word) in
    cond (crosses g w p) (or_else 0 (λ q. down_to t cap q.depth q.i q.j) (step g w p)) (side_of t cap n w)

-- ---- kids, and cells nearby

-- no kid word names a row
abbrev pub kidless : List ℤ → ℕ → ℕ → Bool
kidless t cap n = eqb (link_of t cap n ne_word) 0 && (eqb (link_of t cap n se_word) 0 && (eqb (link_of t cap n sw_word) 0 && eqb (link_of t cap n nw_word) 0))

-- a cell touches the row's place: its own, or the one west, south or southwest of it
unfoldable pub touched_in : List ℤ → ℕ → ℕ → Bool
touched_in t cap n =
    let west = link_of t cap n west_word in
    flag_of t complete_bit n || (flag_of t complete_bit west || (flag_of t complete_bit (link_of t cap n south_word) || flag_of t complete_bit (link_of t cap west south_word)))

-- ---- flags

-- the fourteen flags, bit 0 first: Complete, WallH, WallV; of the boundary walls four, and of the green ones; and the cell's own, Pregnant, Sentenced, Dead
abbrev pub flag_list : Bool → Bool → Bool → List Bool → List Bool → Bool → List Bool
flag_list c south west boundary green sentenced = c ∷ south ∷ west ∷ (boundary ++ (green ++ (false ∷ sentenced ∷ false ∷ [])))

-- the point, the row's own walls h and v, and the cell c; the point by them and the walls of the rows west and south, the cell by them and those north and east
abbrev pub points_cell : Bool → Bool → Bool → Bool → Bool → Bool → Bool → List Bool
points_cell c h v west south north east = (h || (west || (v || south))) ∷ h ∷ v ∷ (c && (h || (north || (v || east)))) ∷ []

-- the row's own walls alone
abbrev pub walls_alone : Bool → Bool → List Bool
walls_alone h v = false ∷ h ∷ v ∷ false ∷ []

module _ (t : List ℤ) (cap d : ℕ) where
  -- a cell stands under the number
  abbrev pub cell_in : ℕ → Bool
  cell_in n = flag_of t complete_bit n

  -- a wall that is boundary if it has one cell: on level 0, and above where the wall of bit k of the parent is and the word w is even
  abbrev pub boundary_at : ℕ → Bool → ℕ → ℕ → Bool
  boundary_at n one w k = one && (eqb (depth_of t d n) d || (eqb (word_of t n w % 2) 0 && flag_of t k (link_of t cap n parent_word)))

  -- a wall of the row with one cell that is boundary: below the place, and left of it
  unfoldable pub boundary_h : ℕ → Bool
  boundary_h n = boundary_at n (not (beq (cell_in n) (cell_in (link_of t cap n south_word)))) j_word bdy_wall_h_bit

  unfoldable pub boundary_v : ℕ → Bool
  boundary_v n = boundary_at n (not (beq (cell_in n) (cell_in (link_of t cap n west_word)))) i_word bdy_wall_v_bit

  unfoldable pub green_h : ℕ → Bool
  green_h n = not (beq (cell_in n) (cell_in (link_of t cap n south_word))) && not (boundary_h n)

  unfoldable pub green_v : ℕ → Bool
  green_v n = not (beq (cell_in n) (cell_in (link_of t cap n west_word))) && not (boundary_v n)

  -- the flags of a row from level 0 up, bit 0 first; a neighbour's walls are read off its flags
  unfoldable pub flags_from : ℕ → Bool → List Bool
  flags_from n sentenced =
      let c = cell_in n in
      let north = link_of t cap n north_word in
      let east = link_of t cap n east_word in
      let south = link_of t cap n south_word in
      let west = link_of t cap n west_word in
      flag_list c (c || cell_in south) (c || cell_in west)
      (points_cell c (boundary_h n) (boundary_v n) (flag_of t bdy_wall_h_bit west) (flag_of t bdy_wall_v_bit south) (flag_of t bdy_wall_h_bit north) (flag_of t bdy_wall_v_bit east))
      (points_cell c (green_h n) (green_v n) (flag_of t grn_wall_h_bit west) (flag_of t grn_wall_v_bit south) (flag_of t grn_wall_h_bit north) (flag_of t grn_wall_v_bit east)) sentenced
