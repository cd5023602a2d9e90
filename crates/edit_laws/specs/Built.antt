-- The table of a build as the code makes it: every row free, then the root, and then patch after patch linked in, level by level; the seam, if
-- there is one; at last the cells of level 0 and the flags of its rows, walls first.
-- Assumes nothing.
use Rattle.std.specs.Prelude.{ℕ, zero, suc, ◌+◌, ◌-◌, ◌*◌, ◌^◌, Bool, ◌&&◌, cond, List, ◌++◌, eqb, leb, set, replicate, ℤ}
use Rattle.std.proofs.Math.IntN.{sub_ℕ}
use Rattle.mesh.specs.Tools.{flat}
use Rattle.mesh.specs.Place.{Grid, is_ring, in_rectangle}
use Rattle.mesh.specs.Seam.{last_j}
use Rattle.mesh.specs.Picture.{row_words, flags_word, i_word, j_word, north_word, south_word, level_word}
use Rattle.table.specs.Words.{word_of}
use Rattle.worked.specs.Worked.{down_to}
use Rattle.table.specs.Writes.{free_row, nil_row}
use Rattle.edit_laws.specs.PatchSteps.{put_word, link_in}
use Rattle.edit_laws.specs.Anew.{wall_row, point_row}

-- a table, and the next number
pub record Growth : Type 0 where
  pub words : List ℤ
  pub next : ℕ

-- row 0, and so many free rows
unfoldable pub empty_table : ℕ → List ℤ
empty_table cap = nil_row ++ flat (replicate cap free_row)

-- the root under number 1
unfoldable pub root_table : ℕ → ℕ → List ℤ
root_table cap d = put_word (set (empty_table cap) (1 * row_words + level_word) (sub_ℕ 0 d)) 1 flags_word 0

-- a step for each of n rows from p on
unfoldable pub each_row : {A : Type 0} → (A → ℕ → A) → ℕ → ℕ → A → A
each_row f zero p a = a
each_row f (suc n) p a = each_row f n (p + 1) (f a p)

-- a patch of the full rectangle, so many levels below level 0
abbrev pub in_full : Grid → ℕ → ℕ → ℕ → Bool
in_full g up i j = leb (i * 2 ^ up) g.columns && leb (j * 2 ^ up) (last_j g)

-- over the seam a row of the last row of level 0 names that of the first, and the other way round: the parents are no neighbours there
abbrev pub seam_row : Grid → ℕ → ℕ → List ℤ → ℕ → List ℤ
seam_row g cap d t p =
    let i = word_of t p i_word in
    let j = word_of t p j_word in
    cond (eqb j (g.rows - 1)) (put_word t p north_word (down_to t cap d i 0)) (cond (eqb j 0) (put_word t p south_word (down_to t cap d i (g.rows - 1))) t)

-- a row of level 0 is a cell, if the rectangle has it
abbrev pub ground_row : Grid → List ℤ → ℕ → List ℤ
ground_row g t p = cond (in_rectangle g (word_of t p i_word) (word_of t p j_word)) (put_word t p flags_word 1) t

module _ (g : Grid) (cap d : ℕ) where
  -- the kid of the row p with the digits l and m, where the rectangle has it
  unfoldable pub grow : ℕ → ℕ → ℕ → ℕ → Growth → Growth
  grow up p l m r =
      let t = r.words in
      cond (in_full g up (2 * word_of t p i_word + l) (2 * word_of t p j_word + m)) (record { words = link_in t cap d p l m r.next; next = r.next + 1 }) r

  -- "kids in the order SW, NW, SE, NE"
  unfoldable pub grow_kids : ℕ → ℕ → Growth → Growth
  grow_kids up p r = grow up p 1 1 (grow up p 1 0 (grow up p 0 1 (grow up p 0 0 r)))

  -- "by parents in their own order": n of them from p on
  abbrev pub grow_level : ℕ → ℕ → ℕ → Growth → Growth
  grow_level up = each_row (λ r p. grow_kids up p r)

  -- "level by level from the root": so many levels more, the last of them the rows from p up to the next number
  unfoldable pub grow_levels : ℕ → ℕ → Growth → Growth
  grow_levels zero p r = r
  grow_levels (suc up) p r = grow_levels up r.next (grow_level up (r.next - p) p r)

  -- the first number of the last level
  unfoldable pub ground_from : ℕ → ℕ → Growth → ℕ
  ground_from zero p r = p
  ground_from (suc up) p r = ground_from up r.next (grow_level up (r.next - p) p r)

  unfoldable pub start : Growth
  start = record { words = root_table cap d; next = 2 }

  -- the patches, linked as in an open grid and, in a ring, over the seam
  unfoldable pub linked_table : List ℤ
  linked_table =
      let r = grow_levels d 1 start in
      let a = ground_from d 1 start in
      cond (is_ring g) (each_row (seam_row g cap d) (r.next - a) a r.words) r.words

  -- the cells of level 0
  unfoldable pub ground_table : List ℤ
  ground_table =
      let a = ground_from d 1 start in
      each_row (ground_row g) ((grow_levels d 1 start).next - a) a linked_table

  -- and then its walls, since points and cells are worked out from walls
  unfoldable pub build_table : List ℤ
  build_table =
      let a = ground_from d 1 start in
      let n = (grow_levels d 1 start).next - a in
      each_row (point_row cap) n a (each_row (wall_row cap d) n a ground_table)
