-- The flags of a row anew, walls first, as sums of their weights; and the row with them.
-- Assumes nothing.
use mathlib.Core.Path.{◌≡◌, ◌∙◌}
use mathlib.Core.Logic.{◌≢◌}
use mathlib.Core.Bool.{Bool, true, false, not, cond, ◌&&◌, ◌||◌, beq}
use mathlib.Core.List.{List}
use Prim.Native.Nat.{ℕ, ◌+◌, ◌*◌}
use native.Mathlib.Omega.{arith}
use borrow.Author.Tests.{ne_eqb}
use lib.Bits.{bit_or}
use lib.IntN.{ℤ}
use Rattle.mesh.specs.Tools.{digits}
use Rattle.mesh.specs.Picture.{east_word, flags_word, i_word, j_word, north_word, south_word, west_word}
use Rattle.mesh.specs.Mesh.{bdy_wall_h_bit, bdy_wall_v_bit, complete_bit, grn_wall_h_bit, grn_wall_v_bit, sentenced_bit, wall_h_bit, wall_v_bit}
use Rattle.worked.specs.FlagDigits.{four, pair}
use Rattle.table.specs.Words.{link_of, flag_of}
use Rattle.worked.specs.Worked.{boundary_at, boundary_h, boundary_v, green_h, green_v}
use Rattle.worked.proofs.Paired.{meet}
use Rattle.edit_laws.specs.PatchSteps.{put_word}
use Rattle.edit_laws.specs.Anew.{walls_anew, points_anew, wall_row, point_row}

module _ (t : List ℤ) (cap d n : ℕ) where
  -- ---- walls first

  walls-weighed : (sentenced : Bool) →
      let c = flag_of t complete_bit n in
      four c (c || flag_of t complete_bit (link_of t cap n south_word)) (c || flag_of t complete_bit (link_of t cap n west_word)) false
      + 16 * pair (boundary_h t cap d n) (green_h t cap d n)
      + 32 * pair (boundary_v t cap d n) (green_v t cap d n)
      + 4096 * cond sentenced 1 0
      ≡ digits (walls_anew t cap d n sentenced)
  unfolding four walls_anew
  walls-weighed sentenced = omega arith

  pub walls-sum : (sentenced : Bool) {south west : ℕ} {c a b : Bool} {p q r u : ℕ} →
      let h = boundary_at t cap d n (not (beq c a)) j_word bdy_wall_h_bit in
      let v = boundary_at t cap d n (not (beq c b)) i_word bdy_wall_v_bit in
      c ≡ flag_of t complete_bit n →
      south ≡ link_of t cap n south_word →
      a ≡ flag_of t complete_bit south →
      west ≡ link_of t cap n west_word →
      b ≡ flag_of t complete_bit west →
      q ≡ pair h (not (beq c a) && not h) →
      r ≡ pair v (not (beq c b) && not v) →
      p ≡ four c (c || a) (c || b) false →
      u ≡ 4096 * cond sentenced 1 0 →
      p + 16 * q + 32 * r + u ≡ digits (walls_anew t cap d n sentenced)
  unfolding boundary_h boundary_v green_h green_v
  walls-sum sentenced a1 a2 a3 a4 a5 a6 a7 a8 a9 = cc (walls-weighed sentenced)

  -- ---- then the walls that meet

  points-paired :
      let c = flag_of t complete_bit n in
      let h = flag_of t bdy_wall_h_bit n in
      let v = flag_of t bdy_wall_v_bit n in
      let i = flag_of t grn_wall_h_bit n in
      let j = flag_of t grn_wall_v_bit n in
      let north = link_of t cap n north_word in
      let east = link_of t cap n east_word in
      let south = link_of t cap n south_word in
      let west = link_of t cap n west_word in
      four c (flag_of t wall_h_bit n) (flag_of t wall_v_bit n) false
      + 8 * pair (h || (flag_of t bdy_wall_h_bit west || (v || flag_of t bdy_wall_v_bit south))) (i || (flag_of t grn_wall_h_bit west || (j || flag_of t grn_wall_v_bit south)))
      + 16 * pair h i
      + 32 * pair v j
      + 64 * pair (c && (h || (flag_of t bdy_wall_h_bit north || (v || flag_of t bdy_wall_v_bit east)))) (c && (i || (flag_of t grn_wall_h_bit north || (j || flag_of t grn_wall_v_bit east))))
      + 4096 * cond (flag_of t sentenced_bit n) 1 0
      ≡ digits (points_anew t cap n)
  unfolding four points_anew
  points-paired = omega arith

  -- of a point that is no cell the far walls do not count
  far-weighed : (c x y : Bool) {far r : ℕ} → far ≡ pair x y → r ≡ 64 * far * cond c 1 0 → r ≡ 64 * pair (c && x) (c && y)
  far-weighed true x y e h = h ∙ rw e (omega arith)
  far-weighed false x y e h = h ∙ omega arith

  pub points-sum : {c south west s : Bool} {h v own a near b far p q u : ℕ} →
      h ≡ pair (flag_of t bdy_wall_h_bit n) (flag_of t grn_wall_h_bit n) →
      v ≡ pair (flag_of t bdy_wall_v_bit n) (flag_of t grn_wall_v_bit n) →
      own ≡ bit_or h v →
      a ≡ pair (flag_of t bdy_wall_h_bit (link_of t cap n west_word) || flag_of t bdy_wall_v_bit (link_of t cap n south_word)) (flag_of t grn_wall_h_bit (link_of t cap n west_word) || flag_of t grn_wall_v_bit (link_of t cap n south_word)) →
      near ≡ bit_or own a →
      b ≡ pair (flag_of t bdy_wall_h_bit (link_of t cap n north_word) || flag_of t bdy_wall_v_bit (link_of t cap n east_word)) (flag_of t grn_wall_h_bit (link_of t cap n north_word) || flag_of t grn_wall_v_bit (link_of t cap n east_word)) →
      far ≡ bit_or own b →
      c ≡ flag_of t complete_bit n →
      south ≡ flag_of t wall_h_bit n →
      west ≡ flag_of t wall_v_bit n →
      p ≡ four c south west false →
      q ≡ 64 * far * cond c 1 0 →
      s ≡ flag_of t sentenced_bit n →
      u ≡ 4096 * cond s 1 0 →
      p + 8 * near + 16 * h + 32 * v + q + u ≡ digits (points_anew t cap n)
  points-sum {c} a1 a2 a3 a4 a5 a6 a7 a8 a9 a10 a11 a12 a13 a14 =
      let e = meet (flag_of t bdy_wall_h_bit n) (flag_of t bdy_wall_v_bit n) (flag_of t grn_wall_h_bit n) (flag_of t grn_wall_v_bit n) (flag_of t bdy_wall_h_bit (link_of t cap n west_word)) (flag_of t bdy_wall_v_bit (link_of t cap n south_word)) (flag_of t grn_wall_h_bit (link_of t cap n west_word)) (flag_of t grn_wall_v_bit (link_of t cap n south_word)) a1 a2 a3 a4 a5 in
      let f = meet (flag_of t bdy_wall_h_bit n) (flag_of t bdy_wall_v_bit n) (flag_of t grn_wall_h_bit n) (flag_of t grn_wall_v_bit n) (flag_of t bdy_wall_h_bit (link_of t cap n north_word)) (flag_of t bdy_wall_v_bit (link_of t cap n east_word)) (flag_of t grn_wall_h_bit (link_of t cap n north_word)) (flag_of t grn_wall_v_bit (link_of t cap n east_word)) a1 a2 a3 a6 a7 in
      let g = far-weighed c (flag_of t bdy_wall_h_bit n || (flag_of t bdy_wall_h_bit (link_of t cap n north_word) || (flag_of t bdy_wall_v_bit n || flag_of t bdy_wall_v_bit (link_of t cap n east_word)))) (flag_of t grn_wall_h_bit n || (flag_of t grn_wall_h_bit (link_of t cap n north_word) || (flag_of t grn_wall_v_bit n || flag_of t grn_wall_v_bit (link_of t cap n east_word)))) f a12 in
      rw (a11, e, a1, a2, g, a14, a8, a9, a10, a13) points-paired

  -- ---- the row

  pub row-walled : {u : List ℤ} {sentenced : Bool} {x : ℕ} →
      n ≢ 0 →
      sentenced ≡ flag_of t sentenced_bit n →
      x ≡ digits (walls_anew t cap d n sentenced) →
      u ≡ put_word t n flags_word x →
      u ≡ wall_row cap d t n
  unfolding wall_row
  row-walled z a b e = rw (ne_eqb n 0 z, e, b, a)

  pub row-pointed : {u : List ℤ} {x : ℕ} → n ≢ 0 → x ≡ digits (points_anew t cap n) → u ≡ put_word t n flags_word x → u ≡ point_row cap t n
  unfolding point_row
  row-pointed z b e = rw (ne_eqb n 0 z, e, b)
