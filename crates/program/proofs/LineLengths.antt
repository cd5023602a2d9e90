-- The line of a refusal, and how long lines and pages are: a decimal has at most 20 digits, and so a leaf's line at most 103 bytes.
-- Assumes nothing.
use Prim.Native.Nat.{ℕ, ◌+◌, ◌*◌, ◌%◌, ◌^◌, ◌≤◌}
use native.Mathlib.Omega.{arith}
use mathlib.Core.Path.{◌≡◌}
use mathlib.Core.List.{List, [], ◌∷◌, ◌++◌, map, append_assoc}
use lib.ListN.{length, length-append}
use lib.IntN.{nat_abs}
use Rattle.mesh.specs.Tools.{flat}
use Rattle.mesh.specs.Place.{level}
use Rattle.mesh.specs.State.{State, place_at, grid_of}
use Rattle.mesh.specs.Page.{decimal, line, space, line_feed, leaves, leaf_line, foot_line, total, body, page}
use Rattle.mesh.specs.Program.{refused_line}
use Rattle.lines.proofs.Decimals.{decimal-long, hex-long}
use Rattle.lines.proofs.Worded.{head-short}

-- ---- the line of a refusal, word by word

pub refused-line : (n o : ℕ)
    → (114 ∷ 101 ∷ 102 ∷ 117 ∷ 115 ∷ 101 ∷ 100 ∷ 32 ∷ []) ++ (decimal n ++ (space ∷ [])) ++ (97 ∷ 116 ∷ 32 ∷ []) ++ decimal o ++ (line_feed ∷ []) ≡ refused_line n o
unfolding refused_line line
refused-line n o = simp append_assoc

-- ---- digits and lines

pub refused-size : (n o : ℕ) → length (refused_line n o) ≡ length (decimal n) + length (decimal o) + 13
unfolding refused_line line
refused-size n o = simp length-append (omega arith)

pub refused-long : (n o : ℕ) → length (refused_line n o) ≤ 53
refused-long n o = omega (arith, refused-size n o, decimal-long n, decimal-long o)

leaf-long : (s : State) (n : ℕ) → length (leaf_line s n) ≤ 103
unfolding leaf_line line
leaf-long s n =
    let p = place_at s.entries n in
    simp (length-append, hex-long) (omega (arith, decimal-long n, decimal-long (nat_abs (level (grid_of s) p)), decimal-long p.i, decimal-long p.j))

lines_long : (s : State) (ns : List ℕ) → length (flat (map (leaf_line s) ns)) ≤ 103 * length ns
lines_long s [] = omega arith
lines_long s (n ∷ ns) = omega (arith, length-append (leaf_line s n) (flat (map (leaf_line s) ns)), leaf-long s n, lines_long s ns)

pub page-long : (s : State) → length (page s) ≤ 124 + 103 * length (leaves s)
unfolding page foot_line body line
page-long s = simp length-append (omega (arith, head-short s.header, decimal-long (length (leaves s)), decimal-long (total (body s) % 2 ^ 32), lines_long s (leaves s)))
