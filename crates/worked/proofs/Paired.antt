-- Walls of both kinds at once: a boundary wall counts 1 and a green one 16.
-- Assumes nothing.
use mathlib.Core.Path.{◌≡◌, refl, ◌∙◌}
use mathlib.Core.Bool.{Bool, true, false, ◌||◌, cond}
use mathlib.Core.List.{List}
use Prim.Native.Nat.{ℕ, ◌+◌, ◌*◌, ◌%◌, ◌<◌}
use native.Mathlib.Omega.{arith}
use lib.Bits.{bit_or}
use lib.Dec.{eqb}
use borrow.Author.Tests.{eqb-true, eqb-false}
use lib.IntN.{ℤ}
use Rattle.worked.specs.FlagDigits.{pair}
use Rattle.table.specs.Words.{link_of, flag_of}

-- ---- a wall as it is read, and walls that meet

last-digit : (x : ℕ) → x % 2 ≡ cond (eqb (x % 2) 1) 1 0
last-digit x = go (eqb (x % 2) 1) refl
  where
    go : (b : Bool) → eqb (x % 2) 1 ≡ b → x % 2 ≡ cond b 1 0
    go true e = eqb-true (x % 2) 1 e
    go false e = omega (arith, eqb-false (x % 2) 1 e)

pub wall-is : (x y : ℕ) → (x % 2 + 16 * (y % 2) < 32) × (x % 2 + 16 * (y % 2) ≡ pair (eqb (x % 2) 1) (eqb (y % 2) 1))
wall-is x y = (omega arith, omega (arith, last-digit x, last-digit y))

or-pair : (x y z u : Bool) → bit_or (pair x y) (pair z u) ≡ pair (x || z) (y || u)
or-pair true true true true = refl
or-pair true true true false = refl
or-pair true true false true = refl
or-pair true true false false = refl
or-pair true false true true = refl
or-pair true false true false = refl
or-pair true false false true = refl
or-pair true false false false = refl
or-pair false true true true = refl
or-pair false true true false = refl
or-pair false true false true = refl
or-pair false true false false = refl
or-pair false false true true = refl
or-pair false false true false = refl
or-pair false false false true = refl
or-pair false false false false = refl

pub corner-is : (t : List ℤ) (cap n a b : ℕ) {x y i j r : ℕ} →
    x ≡ link_of t cap n a →
    i ≡ pair (flag_of t 4 x) (flag_of t 8 x) →
    y ≡ link_of t cap n b →
    j ≡ pair (flag_of t 5 y) (flag_of t 9 y) →
    r ≡ bit_or i j →
    r ≡ pair (flag_of t 4 (link_of t cap n a) || flag_of t 5 (link_of t cap n b)) (flag_of t 8 (link_of t cap n a) || flag_of t 9 (link_of t cap n b))
corner-is t cap n a b x i y j r = r ∙ rw (i, j, x, y) (or-pair (flag_of t 4 (link_of t cap n a)) (flag_of t 8 (link_of t cap n a)) (flag_of t 5 (link_of t cap n b)) (flag_of t 9 (link_of t cap n b)))

-- all the walls that meet at a corner: the row's own, and those of two neighbours
swap : (h v a b : Bool) → ((h || v) || (a || b)) ≡ (h || (a || (v || b)))
swap true v a b = refl
swap false true true b = refl
swap false true false b = refl
swap false false a b = refl

pub meet : (h v i j a b c e : Bool) {hh vv x near r : ℕ} →
    hh ≡ pair h i →
    vv ≡ pair v j →
    x ≡ bit_or hh vv →
    near ≡ pair (a || b) (c || e) →
    r ≡ bit_or x near →
    r ≡ pair (h || (a || (v || b))) (i || (c || (j || e)))
meet h v i j a b c e p q x n r = r ∙ rw (x, p, q, n, or-pair h i v j, or-pair (h || v) (i || j) (a || b) (c || e), swap h v a b, swap i j c e)
