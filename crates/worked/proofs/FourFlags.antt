-- The flags of a row, four at a time.
-- Assumes nothing.
use mathlib.Core.Path.{◌≡◌}
use mathlib.Core.Bool.{Bool, false, cond, ◌&&◌, ◌||◌}
use mathlib.Core.List.{List}
use Prim.Native.Nat.{ℕ, ◌+◌, ◌*◌}
use native.Mathlib.Omega.{arith}
use lib.IntN.{ℤ}
use Rattle.mesh.specs.Tools.{digits}
use Rattle.worked.specs.FlagDigits.{four}
use Rattle.table.specs.Words.{link_of, flag_of}
use Rattle.worked.specs.Worked.{boundary_h, boundary_v, green_h, green_v, flags_from}

pub flags-by-four : (t : List ℤ) (cap d n : ℕ) (sentenced : Bool) →
    let c = flag_of t 0 n in
    let h = boundary_h t cap d n in
    let v = boundary_v t cap d n in
    let i = green_h t cap d n in
    let j = green_v t cap d n in
    let north = link_of t cap n 5 in
    let east = link_of t cap n 6 in
    let south = link_of t cap n 7 in
    let west = link_of t cap n 8 in
    four c (c || flag_of t 0 south) (c || flag_of t 0 west) (h || (flag_of t 4 west || (v || flag_of t 5 south)))
    + 16 * four h v (c && (h || (flag_of t 4 north || (v || flag_of t 5 east)))) (i || (flag_of t 8 west || (j || flag_of t 9 south)))
    + 256 * four i j (c && (i || (flag_of t 8 north || (j || flag_of t 9 east)))) false
    + 4096 * cond sentenced 1 0
    ≡ digits (flags_from t cap d n sentenced)
unfolding four flags_from
flags-by-four t cap d n sentenced = omega arith

-- the sum that the code makes, from what it read
pub flags-sum : (t : List ℤ) (cap d n : ℕ) (sentenced : Bool) {h v i j south west bdy_point grn_point bdy_cell grn_cell c : Bool} {p q r u : ℕ} →
    h ≡ boundary_h t cap d n →
    v ≡ boundary_v t cap d n →
    i ≡ green_h t cap d n →
    j ≡ green_v t cap d n →
    south ≡ (flag_of t 0 n || flag_of t 0 (link_of t cap n 7)) →
    west ≡ (flag_of t 0 n || flag_of t 0 (link_of t cap n 8)) →
    bdy_point ≡ (h || (flag_of t 4 (link_of t cap n 8) || (v || flag_of t 5 (link_of t cap n 7)))) →
    grn_point ≡ (i || (flag_of t 8 (link_of t cap n 8) || (j || flag_of t 9 (link_of t cap n 7)))) →
    c ≡ flag_of t 0 n →
    bdy_cell ≡ (h || (flag_of t 4 (link_of t cap n 5) || (v || flag_of t 5 (link_of t cap n 6)))) →
    grn_cell ≡ (i || (flag_of t 8 (link_of t cap n 5) || (j || flag_of t 9 (link_of t cap n 6)))) →
    p ≡ four c south west bdy_point →
    q ≡ four h v (c && bdy_cell) grn_point →
    r ≡ four i j (c && grn_cell) false →
    u ≡ 4096 * cond sentenced 1 0 →
    p + 16 * q + 256 * r + u ≡ digits (flags_from t cap d n sentenced)
flags-sum t cap d n sentenced a1 a2 a3 a4 a5 a6 a7 a8 a9 a10 a11 a12 a13 a14 a15 = cc (flags-by-four t cap d n sentenced)
