-- The flags of a cell and of a point that is none, from what was read: the sum of `table` with the first flag known, and boundary and green
-- walls counted together.
-- Assumes nothing.
use mathlib.Core.Path.{◌≡◌, refl, sym, ap, ◌∙◌}
use mathlib.Core.Bool.{Bool, true, false, not, ◌&&◌, ◌||◌, cond, beq}
use mathlib.Core.List.{List}
use Prim.Native.Nat.{ℕ, ◌+◌, ◌*◌}
use native.Mathlib.Omega.{arith}
use lib.Bits.{bit_or}
use lib.IntN.{ℤ}
use Rattle.mesh.specs.Tools.{digits}
use Rattle.mesh.specs.Picture.{north_word, east_word, south_word, west_word, i_word, j_word}
use Rattle.mesh.specs.Mesh.{complete_bit, bdy_wall_h_bit, bdy_wall_v_bit, grn_wall_h_bit, grn_wall_v_bit}
use Rattle.worked.specs.FlagDigits.{four, pair}
use Rattle.table.specs.Words.{link_of, flag_of}
use Rattle.worked.specs.Worked.{boundary_at, boundary_h, boundary_v, green_h, green_v, flags_from}
use Rattle.worked.proofs.FourFlags.{flags-sum}
use Rattle.worked.proofs.Paired.{meet}

-- a wall beside a cell has one cell where the other side is none, and beside none where it is one
beq-true : (x : Bool) → beq true x ≡ x
beq-true true = refl
beq-true false = refl

beq-false : (x : Bool) → not (beq false x) ≡ x
beq-false true = refl
beq-false false = refl

-- ---- flags as numbers

-- the walls of both kinds at once are the flags four at a time
pairs-four : (p q r h v i j e f d n : Bool) →
    cond p 1 0 + 2 * cond q 1 0 + 4 * cond r 1 0 + 8 * pair e n + 16 * pair h i + 32 * pair v j + 64 * pair d f
    ≡ four p q r e + 16 * four h v d n + 256 * four i j f false
unfolding four
pairs-four p q r h v i j e f d n = omega arith

pairs-step : (p q r h v i j e f d n : Bool) (u : ℕ) →
    cond p 1 0 + 2 * cond q 1 0 + 4 * cond r 1 0 + 8 * pair e n + 16 * pair h i + 32 * pair v j + 64 * pair d f + u
    ≡ four p q r e + 16 * four h v d n + 256 * four i j f false + u
pairs-step p q r h v i j e f d n u = ap (λ (x : ℕ). x + u) (pairs-four p q r h v i j e f d n)

pairs-bare : (q r h v i j e n : Bool) → 2 * cond q 1 0 + 4 * cond r 1 0 + 8 * pair e n + 16 * pair h i + 32 * pair v j ≡ four false q r e + 16 * four h v false n + 256 * four i j false false
pairs-bare q r h v i j e n = let z = pairs-four false q r h v i j e false false n in omega (arith, z)

-- ---- the sums

module _ (t : List ℤ) (cap d n : ℕ) where
  -- a cell whose own walls have two cells
  pub internal-sum : (sentenced : Bool) {a b u : ℕ} →
      flag_of t complete_bit n ≡ true →
      flag_of t complete_bit (link_of t cap n south_word) ≡ true →
      flag_of t complete_bit (link_of t cap n west_word) ≡ true →
      a ≡ pair (flag_of t bdy_wall_h_bit (link_of t cap n west_word) || flag_of t bdy_wall_v_bit (link_of t cap n south_word)) (flag_of t grn_wall_h_bit (link_of t cap n west_word) || flag_of t grn_wall_v_bit (link_of t cap n south_word)) →
      b ≡ pair (flag_of t bdy_wall_h_bit (link_of t cap n north_word) || flag_of t bdy_wall_v_bit (link_of t cap n east_word)) (flag_of t grn_wall_h_bit (link_of t cap n north_word) || flag_of t grn_wall_v_bit (link_of t cap n east_word)) →
      u ≡ 4096 * cond sentenced 1 0 →
      7 + 8 * a + 64 * b + u ≡ digits (flags_from t cap d n sentenced)
  unfolding flags_from boundary_h boundary_v green_h green_v
  internal-sum sentenced o s w a b u = rw (o, s, w, a, b, u) (omega arith)

  module _ {c south west one two h v : Bool}
      (own : flag_of t complete_bit n ≡ c)
      (below : south ≡ flag_of t complete_bit (link_of t cap n south_word))
      (aside : west ≡ flag_of t complete_bit (link_of t cap n west_word))
      (first : one ≡ not (beq c south))
      (second : two ≡ not (beq c west))
      (edgeh : h ≡ boundary_at t cap d n one j_word bdy_wall_h_bit)
      (edgev : v ≡ boundary_at t cap d n two i_word bdy_wall_v_bit)
    where
      h-is : h ≡ boundary_h t cap d n
      unfolding boundary_h
      h-is = rw (own, ← below, ← first) edgeh

      v-is : v ≡ boundary_v t cap d n
      unfolding boundary_v
      v-is = rw (own, ← aside, ← second) edgev

      i-is : (one && not h) ≡ green_h t cap d n
      unfolding green_h
      i-is = rw (own, ← below, ← first, h-is)

      j-is : (two && not v) ≡ green_v t cap d n
      unfolding green_v
      j-is = rw (own, ← aside, ← second, v-is)

      sum_is : (sentenced : Bool) {bdy_point grn_point bdy_cell grn_cell : Bool} {p q r u : ℕ} →
          bdy_point ≡ (h || (flag_of t bdy_wall_h_bit (link_of t cap n west_word) || (v || flag_of t bdy_wall_v_bit (link_of t cap n south_word)))) →
          grn_point ≡ ((one && not h) || (flag_of t grn_wall_h_bit (link_of t cap n west_word) || ((two && not v) || flag_of t grn_wall_v_bit (link_of t cap n south_word)))) →
          bdy_cell ≡ (h || (flag_of t bdy_wall_h_bit (link_of t cap n north_word) || (v || flag_of t bdy_wall_v_bit (link_of t cap n east_word)))) →
          grn_cell ≡ ((one && not h) || (flag_of t grn_wall_h_bit (link_of t cap n north_word) || ((two && not v) || flag_of t grn_wall_v_bit (link_of t cap n east_word)))) →
          p ≡ four c (c || south) (c || west) bdy_point →
          q ≡ four h v (c && bdy_cell) grn_point →
          r ≡ four (one && not h) (two && not v) (c && grn_cell) false →
          u ≡ 4096 * cond sentenced 1 0 →
          p + 16 * q + 256 * r + u ≡ digits (flags_from t cap d n sentenced)
      sum_is sentenced a b e f p q r u =
          flags-sum t cap d n sentenced h-is v-is i-is j-is (rw (own, below)) (rw (own, aside)) a b (sym own) e f p q r u

  cell-sum : {south west h v : Bool} (sentenced : Bool) {bdy_point grn_point bdy_cell grn_cell : Bool} {p q r u : ℕ} →
      flag_of t complete_bit n ≡ true →
      south ≡ flag_of t complete_bit (link_of t cap n south_word) →
      west ≡ flag_of t complete_bit (link_of t cap n west_word) →
      h ≡ boundary_at t cap d n (not south) j_word bdy_wall_h_bit →
      v ≡ boundary_at t cap d n (not west) i_word bdy_wall_v_bit →
      bdy_point ≡ (h || (flag_of t bdy_wall_h_bit (link_of t cap n west_word) || (v || flag_of t bdy_wall_v_bit (link_of t cap n south_word)))) →
      grn_point ≡ ((not south && not h) || (flag_of t grn_wall_h_bit (link_of t cap n west_word) || ((not west && not v) || flag_of t grn_wall_v_bit (link_of t cap n south_word)))) →
      bdy_cell ≡ (h || (flag_of t bdy_wall_h_bit (link_of t cap n north_word) || (v || flag_of t bdy_wall_v_bit (link_of t cap n east_word)))) →
      grn_cell ≡ ((not south && not h) || (flag_of t grn_wall_h_bit (link_of t cap n north_word) || ((not west && not v) || flag_of t grn_wall_v_bit (link_of t cap n east_word)))) →
      p ≡ four true true true bdy_point →
      q ≡ four h v bdy_cell grn_point →
      r ≡ four (not south && not h) (not west && not v) grn_cell false →
      u ≡ 4096 * cond sentenced 1 0 →
      p + 16 * q + 256 * r + u ≡ digits (flags_from t cap d n sentenced)
  cell-sum {south} {west} sentenced o s w h v a b e f p q r u =
      sum_is {c = true} {one = not south} {two = not west} o s w (rw (beq-true south)) (rw (beq-true west)) h v sentenced a b e f p q r u

  bare-sum : {south west h v : Bool} {bdy_point grn_point : Bool} {p q r : ℕ} →
      flag_of t complete_bit n ≡ false →
      south ≡ flag_of t complete_bit (link_of t cap n south_word) →
      west ≡ flag_of t complete_bit (link_of t cap n west_word) →
      h ≡ boundary_at t cap d n south j_word bdy_wall_h_bit →
      v ≡ boundary_at t cap d n west i_word bdy_wall_v_bit →
      bdy_point ≡ (h || (flag_of t bdy_wall_h_bit (link_of t cap n west_word) || (v || flag_of t bdy_wall_v_bit (link_of t cap n south_word)))) →
      grn_point ≡ ((south && not h) || (flag_of t grn_wall_h_bit (link_of t cap n west_word) || ((west && not v) || flag_of t grn_wall_v_bit (link_of t cap n south_word)))) →
      p ≡ four false south west bdy_point →
      q ≡ four h v false grn_point →
      r ≡ four (south && not h) (west && not v) false false →
      p + 16 * q + 256 * r ≡ digits (flags_from t cap d n false)
  bare-sum {south} {west} {h} {v} {p = p} {q = q} {r = r} o s w a b c e i j k =
      let z : p + 16 * q + 256 * r + 0 ≡ digits (flags_from t cap d n false) =
      sum_is {c = false} {one = south} {two = west} o s w (sym (beq-false south)) (sym (beq-false west)) a b false c e refl refl i j k refl in
      omega arith

  -- the sums that the code makes
  abbrev near_walls : ℕ
  near_walls = pair (flag_of t bdy_wall_h_bit (link_of t cap n west_word) || flag_of t bdy_wall_v_bit (link_of t cap n south_word)) (flag_of t grn_wall_h_bit (link_of t cap n west_word) || flag_of t grn_wall_v_bit (link_of t cap n south_word))

  abbrev far_walls : ℕ
  far_walls = pair (flag_of t bdy_wall_h_bit (link_of t cap n north_word) || flag_of t bdy_wall_v_bit (link_of t cap n east_word)) (flag_of t grn_wall_h_bit (link_of t cap n north_word) || flag_of t grn_wall_v_bit (link_of t cap n east_word))

  abbrev own_wall : Bool → ℕ → ℕ → ℕ
  own_wall one w k = pair (boundary_at t cap d n one w k) (one && not (boundary_at t cap d n one w k))

  pub bordered-sum : {south west : Bool} (sentenced : Bool) {lower left h v x a b near far u : ℕ} →
      flag_of t complete_bit n ≡ true →
      lower ≡ link_of t cap n south_word →
      south ≡ flag_of t complete_bit lower →
      left ≡ link_of t cap n west_word →
      west ≡ flag_of t complete_bit left →
      h ≡ own_wall (not south) j_word bdy_wall_h_bit →
      v ≡ own_wall (not west) i_word bdy_wall_v_bit →
      x ≡ bit_or h v →
      a ≡ near_walls →
      near ≡ bit_or x a →
      b ≡ far_walls →
      far ≡ bit_or x b →
      u ≡ 4096 * cond sentenced 1 0 →
      7 + 8 * near + 16 * h + 32 * v + 64 * far + u ≡ digits (flags_from t cap d n sentenced)
  bordered-sum {south} {west} sentenced {h = h} {v} {near = near} {far = far} {u = u} o to-south s to-west w hh vv x a y b z q =
      let i = (not south) && not (boundary_at t cap d n (not south) j_word bdy_wall_h_bit) in
      let j = (not west) && not (boundary_at t cap d n (not west) i_word bdy_wall_v_bit) in
      let e = meet (boundary_at t cap d n (not south) j_word bdy_wall_h_bit) (boundary_at t cap d n (not west) i_word bdy_wall_v_bit) i j (flag_of t bdy_wall_h_bit (link_of t cap n west_word)) (flag_of t bdy_wall_v_bit (link_of t cap n south_word)) (flag_of t grn_wall_h_bit (link_of t cap n west_word)) (flag_of t grn_wall_v_bit (link_of t cap n south_word)) hh vv x a y in
      let f = meet (boundary_at t cap d n (not south) j_word bdy_wall_h_bit) (boundary_at t cap d n (not west) i_word bdy_wall_v_bit) i j (flag_of t bdy_wall_h_bit (link_of t cap n north_word)) (flag_of t bdy_wall_v_bit (link_of t cap n east_word)) (flag_of t grn_wall_h_bit (link_of t cap n north_word)) (flag_of t grn_wall_v_bit (link_of t cap n east_word)) hh vv x b z in
      let sum = cell-sum sentenced o (s ∙ ap (flag_of t complete_bit) to-south) (w ∙ ap (flag_of t complete_bit) to-west) refl refl refl refl refl refl refl refl refl q in
      rw (e, f, hh, vv) (pairs-step true true true (boundary_at t cap d n (not south) j_word bdy_wall_h_bit) (boundary_at t cap d n (not west) i_word bdy_wall_v_bit) i j
      ((boundary_at t cap d n (not south) j_word bdy_wall_h_bit) || ((flag_of t bdy_wall_h_bit (link_of t cap n west_word)) || ((boundary_at t cap d n (not west) i_word bdy_wall_v_bit) || (flag_of t bdy_wall_v_bit (link_of t cap n south_word)))))
      (i || ((flag_of t grn_wall_h_bit (link_of t cap n north_word)) || (j || (flag_of t grn_wall_v_bit (link_of t cap n east_word)))))
      ((boundary_at t cap d n (not south) j_word bdy_wall_h_bit) || ((flag_of t bdy_wall_h_bit (link_of t cap n north_word)) || ((boundary_at t cap d n (not west) i_word bdy_wall_v_bit) || (flag_of t bdy_wall_v_bit (link_of t cap n east_word)))))
      (i || ((flag_of t grn_wall_h_bit (link_of t cap n west_word)) || (j || (flag_of t grn_wall_v_bit (link_of t cap n south_word))))) u) ∙ sum

  pub bare-walls : {south west : Bool} {lower left h v x a near p q : ℕ} →
      flag_of t complete_bit n ≡ false →
      lower ≡ link_of t cap n south_word →
      south ≡ flag_of t complete_bit lower →
      left ≡ link_of t cap n west_word →
      west ≡ flag_of t complete_bit left →
      h ≡ own_wall south j_word bdy_wall_h_bit →
      v ≡ own_wall west i_word bdy_wall_v_bit →
      x ≡ bit_or h v →
      a ≡ near_walls →
      near ≡ bit_or x a →
      p ≡ 2 * cond south 1 0 →
      q ≡ 4 * cond west 1 0 →
      p + q + 8 * near + 16 * h + 32 * v ≡ digits (flags_from t cap d n false)
  bare-walls {south} {west} o to-south s to-west w hh vv x a y p q =
      let i = south && not (boundary_at t cap d n south j_word bdy_wall_h_bit) in
      let j = west && not (boundary_at t cap d n west i_word bdy_wall_v_bit) in
      let e = meet (boundary_at t cap d n south j_word bdy_wall_h_bit) (boundary_at t cap d n west i_word bdy_wall_v_bit) i j (flag_of t bdy_wall_h_bit (link_of t cap n west_word)) (flag_of t bdy_wall_v_bit (link_of t cap n south_word)) (flag_of t grn_wall_h_bit (link_of t cap n west_word)) (flag_of t grn_wall_v_bit (link_of t cap n south_word)) hh vv x a y in
      let sum = bare-sum o (s ∙ ap (flag_of t complete_bit) to-south) (w ∙ ap (flag_of t complete_bit) to-west) refl refl refl refl refl refl refl in
      rw (e, hh, vv, p, q) (pairs-bare south west (boundary_at t cap d n south j_word bdy_wall_h_bit) (boundary_at t cap d n west i_word bdy_wall_v_bit) i j
      ((boundary_at t cap d n south j_word bdy_wall_h_bit) || ((flag_of t bdy_wall_h_bit (link_of t cap n west_word)) || ((boundary_at t cap d n west i_word bdy_wall_v_bit) || (flag_of t bdy_wall_v_bit (link_of t cap n south_word)))))
      (i || ((flag_of t grn_wall_h_bit (link_of t cap n west_word)) || (j || (flag_of t grn_wall_v_bit (link_of t cap n south_word)))))) ∙ sum
