-- The flags of a row worked out anew in two steps: its walls from the cells of its level and the walls of the level below, so that no flag of the
-- row's own level is read but Complete; and then its points and its cell from the walls around it.
-- Assumes nothing.
use Rattle.std.specs.Prelude.{ℕ, Bool, cond, ◌||◌, List, eqb, ℤ}
use Rattle.mesh.specs.Tools.{digits}
use Rattle.mesh.specs.Picture.{east_word, flags_word, north_word, south_word, west_word}
use Rattle.mesh.specs.Mesh.{bdy_wall_h_bit, bdy_wall_v_bit, complete_bit, grn_wall_h_bit, grn_wall_v_bit, sentenced_bit, wall_h_bit, wall_v_bit}
use Rattle.table.specs.Words.{link_of, flag_of}
use Rattle.worked.specs.Worked.{cell_in, boundary_h, boundary_v, green_h, green_v, flag_list, points_cell, walls_alone}
use Rattle.edit_laws.specs.PatchSteps.{put_word}

-- a row's own walls, without the points and cells that the walls around them make
unfoldable pub walls_anew : List ℤ → ℕ → ℕ → ℕ → Bool → List Bool
walls_anew t cap d n sentenced =
    let c = cell_in t cap d n in
    flag_list c (c || cell_in t cap d (link_of t cap n south_word)) (c || cell_in t cap d (link_of t cap n west_word))
    (walls_alone (boundary_h t cap d n) (boundary_v t cap d n)) (walls_alone (green_h t cap d n) (green_v t cap d n)) sentenced

-- all flags of a row, off its own walls and those around it as their flags say them
unfoldable pub points_anew : List ℤ → ℕ → ℕ → List Bool
points_anew t cap n =
    let c = flag_of t complete_bit n in
    let north = link_of t cap n north_word in
    let east = link_of t cap n east_word in
    let south = link_of t cap n south_word in
    let west = link_of t cap n west_word in
    flag_list c (flag_of t wall_h_bit n) (flag_of t wall_v_bit n)
    (points_cell c (flag_of t bdy_wall_h_bit n) (flag_of t bdy_wall_v_bit n) (flag_of t bdy_wall_h_bit west) (flag_of t bdy_wall_v_bit south) (flag_of t bdy_wall_h_bit north) (flag_of t bdy_wall_v_bit east))
    (points_cell c (flag_of t grn_wall_h_bit n) (flag_of t grn_wall_v_bit n) (flag_of t grn_wall_h_bit west) (flag_of t grn_wall_v_bit south) (flag_of t grn_wall_h_bit north) (flag_of t grn_wall_v_bit east))
    (flag_of t sentenced_bit n)

-- the row with its walls anew, unless it is row 0; its own mark Sentenced stays
unfoldable pub wall_row : ℕ → ℕ → List ℤ → ℕ → List ℤ
wall_row cap d t n = cond (eqb n 0) t (put_word t n flags_word (digits (walls_anew t cap d n (flag_of t sentenced_bit n))))

-- and then with its points and its cell
unfoldable pub point_row : ℕ → List ℤ → ℕ → List ℤ
point_row cap t n = cond (eqb n 0) t (put_word t n flags_word (digits (points_anew t cap n)))
