-- What an accepted refinement, removal or kill does to the words of a table, step by step and only near the cell.
-- Assumes nothing.
use Rattle.std.specs.Prelude.{ℕ, zero, suc, ◌+◌, not, ◌||◌, cond, List, [], ◌∷◌, ◌++◌, eqb, ℤ, Float}
use Rattle.mesh.specs.Picture.{east_word, flags_word, ne_word, north_word, nw_word, parent_word, se_word, south_word, sw_word, west_word, free_flags}
use Rattle.table.specs.Words.{word_of, link_of}
use Rattle.carried.specs.Carried.{carried_of, put_status, put_amount, nothing, passed_down}
use Rattle.carried.specs.declared.Carried.{Carried}
use Rattle.worked.specs.Worked.{kidless, touched_in, kid_word}
use Rattle.free.specs.Free.{next_in}
use Rattle.edit_laws.specs.PatchSteps.{put_word, link_in, take_out}
use Rattle.edit_laws.specs.Anew.{wall_row, point_row}

-- ---- rows near a cell

-- a kid's place: the parent's row, and the digits of the kid
pub record Spot : Type 0 where
  pub parent : ℕ
  pub l : ℕ
  pub m : ℕ

abbrev pub spot : ℕ → ℕ → ℕ → Spot
spot n l m = record { parent = n; l = l; m = m }

module _ (t : List ℤ) (cap : ℕ) where
  abbrev pub kid_at : Spot → ℕ
  kid_at x = link_of t cap x.parent (kid_word x.l x.m)

  -- the four kids: SW, SE, NW, NE
  abbrev pub kid_spots : ℕ → List Spot
  kid_spots n = spot n 0 0 ∷ spot n 1 0 ∷ spot n 0 1 ∷ spot n 1 1 ∷ []

  -- "of the patch north SW, SE; of the patch east NW, SW; of the patch north-east SW"
  unfoldable pub wanted_spots : ℕ → List Spot
  wanted_spots n =
      let north = link_of t cap n north_word in
      let east = link_of t cap n east_word in
      kid_spots n ++ (spot north 0 0 ∷ spot north 1 0 ∷ spot east 0 1 ∷ spot east 0 0 ∷ spot (link_of t cap east north_word) 0 0 ∷ [])

  -- the cells that share a wall with a kid from the south or the west
  unfoldable pub outside_spots : ℕ → List Spot
  outside_spots n =
      let south = link_of t cap n south_word in
      let west = link_of t cap n west_word in
      spot south 0 1 ∷ spot south 1 1 ∷ spot west 1 0 ∷ spot west 1 1 ∷ []

-- ---- steps over a list of rows

-- a step at each of these places, one after the other
unfoldable pub over_spots : (Spot → List ℤ → List ℤ) → List Spot → List ℤ → List ℤ
over_spots step [] t = t
over_spots step (x ∷ xs) t = over_spots step xs (step x t)

-- a step at the kid in a place
abbrev pub at_kid : (List ℤ → ℕ → List ℤ) → ℕ → Spot → List ℤ → List ℤ
at_kid f cap x t = f t (kid_at t cap x)

-- at each of these kids
abbrev pub each_at : (List ℤ → ℕ → List ℤ) → ℕ → List Spot → List ℤ → List ℤ
each_at f cap xs t = over_spots (at_kid f cap) xs t

-- the flags that the kids of the row n can change: the walls first, since points and cells are worked out from walls
unfoldable pub refresh_near : List ℤ → ℕ → ℕ → ℕ → List ℤ
refresh_near t cap d n = each_at (point_row cap) cap (wanted_spots t cap n ++ outside_spots t cap n) (each_at (wall_row cap d) cap (wanted_spots t cap n) t)

-- the words of the row k that a cell in it, or none, changes: its flags, and what it carries
abbrev pub rewritten : ℕ → Carried → List ℤ → ℕ → List ℤ
rewritten f c t k = put_status (put_word t k flags_word f) k c

-- unless there is no row: the words, and the values
abbrev pub put_cell : ℕ → Carried → List ℤ → ℕ → List ℤ
put_cell f c t k = cond (eqb k 0) t (rewritten f c t k)

abbrev pub put_cell_amount : Carried → List Float → ℕ → List Float
put_cell_amount c v k = cond (eqb k 0) v (put_amount v k c)

-- the same for each of these kids
abbrev pub put_cells : ℕ → Carried → ℕ → List Spot → List ℤ → List ℤ
put_cells f c cap xs t = each_at (put_cell f c) cap xs t

unfoldable pub put_amounts : ℕ → Carried → ℕ → List Spot → List ℤ → List Float → List Float
put_amounts f c cap [] t v = v
put_amounts f c cap (x ∷ xs) t v = let k = kid_at t cap x in put_amounts f c cap xs (put_cell f c t k) (put_cell_amount c v k)

-- ---- refine

-- where the kid is missing it takes the next free number, if there is one
unfoldable pub supplied : ℕ → ℕ → Spot → List ℤ → List ℤ
supplied cap d x t =
    let k = next_in t cap in
    cond (eqb (kid_at t cap x) 0) (cond (eqb k 0) t (link_in t cap d x.parent x.l x.m k)) t

abbrev pub supplied_all : ℕ → ℕ → List Spot → List ℤ → List ℤ
supplied_all cap d xs t = over_spots (supplied cap d) xs t

-- the nine patches that the kids want
abbrev pub supplied_near : List ℤ → ℕ → ℕ → ℕ → List ℤ
supplied_near t cap d n = supplied_all cap d (wanted_spots t cap n) t

-- the kids are cells, with what the cell n passes down
unfoldable pub refine_table : List ℤ → List Float → ℕ → ℕ → ℕ → List ℤ
refine_table t v cap d n = refresh_near (put_cells 1 (passed_down (carried_of t v n)) cap (kid_spots t cap n) (supplied_near t cap d n)) cap d n

unfoldable pub refine_values : List ℤ → List Float → ℕ → ℕ → ℕ → List Float
refine_values t v cap d n = put_amounts 1 (passed_down (carried_of t v n)) cap (kid_spots t cap n) (supplied_near t cap d n) v

-- ---- remove

-- a patch from level 0 up that no cell touches goes
abbrev pub drop_untouched : ℕ → List ℤ → ℕ → List ℤ
drop_untouched cap t n = cond (eqb n 0 || touched_in t cap n) t (take_out t cap n)

-- the kids are no cells
abbrev pub emptied : List ℤ → ℕ → ℕ → List ℤ
emptied t cap n = put_cells 0 nothing cap (kid_spots t cap n) t

-- and the patches go that no cell touches any more
abbrev pub dropped_near : List ℤ → ℕ → ℕ → List ℤ
dropped_near t cap n = let u = emptied t cap n in each_at (drop_untouched cap) cap (wanted_spots u cap n) u

unfoldable pub remove_table : List ℤ → ℕ → ℕ → ℕ → List ℤ
remove_table t cap d n = refresh_near (dropped_near t cap n) cap d n

unfoldable pub remove_values : List ℤ → ℕ → ℕ → List Float → List Float
remove_values t cap n v = put_amounts 0 nothing cap (kid_spots t cap n) t v

-- ---- kill

-- a ghost without a kid goes, and then its parent if that has none left, up to so many levels
unfoldable pub drop_up : ℕ → List ℤ → ℕ → ℕ → List ℤ
drop_up zero t cap n = t
drop_up (suc e) t cap n = cond (eqb n 0 || not (kidless t cap n)) t (drop_up e (take_out t cap n) cap (link_of t cap n parent_word))

-- a corner of the killed cell that no cell touches goes, and the ghosts above it that have no kid left
unfoldable pub drop_corner : List ℤ → ℕ → ℕ → ℕ → List ℤ
drop_corner t cap d n = cond (eqb n 0 || touched_in t cap n) t (drop_up d (take_out t cap n) cap (link_of t cap n parent_word))

-- the row n is no cell
abbrev pub cleared : List ℤ → ℕ → List ℤ
cleared t n = rewritten 0 nothing t n

-- and its corners go that no cell touches any more
abbrev pub dropped_corners : List ℤ → ℕ → ℕ → ℕ → List ℤ
dropped_corners t cap d n =
    let north = link_of t cap n north_word in
    let east = link_of t cap n east_word in
    drop_corner (drop_corner (drop_corner (drop_corner (cleared t n) cap d (link_of t cap east north_word)) cap d north) cap d east) cap d n

-- a step at each kid of the row n that these words name
abbrev pub each_kid : (List ℤ → ℕ → List ℤ) → ℕ → ℕ → List ℕ → List ℤ → List ℤ
each_kid f cap n [] t = t
each_kid f cap n (w ∷ ws) t = each_kid f cap n ws (f t (link_of t cap n w))

-- a step at each row so many levels down from n, by kids that these words name
unfoldable pub each_down : (List ℤ → ℕ → List ℤ) → ℕ → List ℕ → ℕ → List ℤ → ℕ → List ℤ
each_down f cap ws zero t n = f t n
each_down f cap ws (suc e) t n = cond (eqb n 0) t (each_kid (λ u k. each_down f cap ws e u k) cap n ws t)

-- the rows on and beside the border of a level-0 cell: its own, and those north, east, north-east, south and west of it
pub record Border : Type 0 where
  pub own : ℕ
  pub north : ℕ
  pub east : ℕ
  pub both : ℕ
  pub south : ℕ
  pub west : ℕ

-- a step at the rows along the border, e levels above level 0
module _ (f : List ℤ → ℕ → List ℤ) (cap : ℕ) (b : Border) (e : ℕ) where
  -- those whose walls the cell can be a side of: all kids of its own patch; of the one north its southern kids SW and SE, and so on
  unfoldable pub along_corners : List ℤ → List ℤ
  along_corners t =
      let t₁ = each_down f cap (sw_word ∷ se_word ∷ nw_word ∷ ne_word ∷ []) e t b.own in
      let t₂ = each_down f cap (sw_word ∷ se_word ∷ []) e t₁ b.north in
      let t₃ = each_down f cap (sw_word ∷ nw_word ∷ []) e t₂ b.east in
      each_down f cap (sw_word ∷ []) e t₃ b.both

  -- and those beside them to the south and to the west
  unfoldable pub along_border : List ℤ → List ℤ
  along_border t = each_down f cap (se_word ∷ ne_word ∷ []) e (each_down f cap (nw_word ∷ ne_word ∷ []) e (along_corners t) b.south) b.west

-- on one level, the walls first, since points and cells are worked out from walls
unfoldable pub refresh_level : Border → ℕ → List ℤ → ℕ → ℕ → List ℤ
refresh_level b e t cap d = along_border (point_row cap) cap b e (along_corners (wall_row cap d) cap b e t)

-- level by level from level 0, n levels of them, so that the walls of the level below are right
unfoldable pub refresh_levels : ℕ → Border → ℕ → List ℤ → ℕ → ℕ → List ℤ
refresh_levels zero b e t cap d = t
refresh_levels (suc n) b e t cap d = refresh_levels n b (e + 1) (refresh_level b e t cap d) cap d

-- the row n, or 0 if it is free
abbrev pub still_used : List ℤ → ℕ → ℕ
still_used t n = cond (eqb (word_of t n flags_word) free_flags) 0 n

unfoldable pub kill_table : List ℤ → ℕ → ℕ → ℕ → List ℤ
kill_table t cap d n =
    let north = link_of t cap n north_word in
    let east = link_of t cap n east_word in
    let both = link_of t cap east north_word in
    let u = dropped_corners t cap d n in
    let b : Border = record { own = still_used u n; north = still_used u north; east = still_used u east; both = still_used u both; south = link_of t cap n south_word; west = link_of t cap n west_word } in
    refresh_levels 13 b 0 u cap d

unfoldable pub kill_values : ℕ → List Float → List Float
kill_values n v = put_amount v n nothing
