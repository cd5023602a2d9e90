-- A scan from the root through all levels meets each patch of its kind once, and nothing else, in whatever order it takes the kids.
-- Assumes nothing.
use Prim.Native.Nat.{ℕ, zero, suc, ◌+◌, ◌-◌, ◌≤◌}
use native.Mathlib.Omega.{arith}
use mathlib.Core.Path.{◌≡◌, refl, ap, ◌∙◌}
use mathlib.Core.Bool.{Bool, true, false, ◌&&◌, cond, and-true}
use mathlib.Core.List.{List, map}
use lib.Dec.{T, eqb, ltb, ltb→lt, nltb→le, leb→le, le→leb}
use lib.IntN.{ℤ, pos, negsuc, sub_ℕ, ◌-ℤ◌, nat_abs}
use borrow.Author.Tests.{lt-ltb}
use lib.Signed.{le_z}
use Rattle.mesh.specs.Tools.{count, or_else}
use Rattle.mesh.specs.Place.{root, base, level}
use Rattle.mesh.specs.State.{State, is_used, entry, place_at, grid_of}
use Rattle.mesh.specs.Valid.{Valid}
use Rattle.mesh.specs.Scan.{listed, wind_of, permutation, scan}
use Rattle.place_laws.proofs.Bools.{yes-is, is-yes, is-no}
use Rattle.walk_laws.proofs.Walks.{walk-all}
use Rattle.walk_laws.proofs.Orders.{permutation-order}

-- no place lies below the root's level
root-lowest : (b d : ℕ) (z : ℤ) → T (le_z z (sub_ℕ 0 b)) → T (le_z z (sub_ℕ d b))
root-lowest b d z t = go (ltb 0 b) (ltb d b) refl refl z t
  where
    go : (x y : Bool) → ltb 0 b ≡ x → ltb d b ≡ y → (z : ℤ) → T (le_z z (cond x (negsuc (b - 1)) (pos (0 - b)))) → T (le_z z (cond y (negsuc (b - suc d)) (pos (d - b))))
    go true y e f (pos a) t = absurd t
    go true true e f (negsuc a) t = le→leb (b - suc d) a (omega (arith, leb→le (b - 1) a t))
    go true false e f (negsuc a) t = tt
    go false true e f z t = absurd (omega (arith, nltb→le 0 b (is-no (ltb 0 b) e), ltb→lt d b (is-yes (ltb d b) f)))
    go false false e f (pos a) t = le→leb a (d - b) (omega (arith, leb→le a (0 - b) t))
    go false false e f (negsuc a) t = tt

-- from the root down to level 12 there are as many levels as cells can be deep
all-levels : (d : ℕ) (to : ℤ) → T (le_z (pos 12) to) → d + 12 ≤ nat_abs (to -ℤ sub_ℕ 0 d)
all-levels d (negsuc k) t = absurd t
all-levels d (pos k) t = go d
  where
    go : (d : ℕ) → d + 12 ≤ nat_abs (pos k -ℤ sub_ℕ 0 d)
    go zero = let h : 0 + 12 ≤ k + 0 = omega (arith, leb→le 12 k t) in h
    go (suc d) = rw (lt-ltb 0 (suc d) (omega arith)) (let h : suc d + 12 ≤ k + suc (suc d - 1) = omega (arith, leb→le 12 k t) in h)

module _ (s : State) (v : Valid s) (o : List ℕ) (t : T (permutation o)) (from to : ℤ) (all : T (le_z (pos 12) to)) where
  -- of any kind, from any level: the patches listed are those of the kind on the levels from there up
  pub scan-each : (j k : ℕ) → count (eqb k) (scan s 1 o j from to) ≡ cond (is_used (entry s.entries k) && (le_z from (level (grid_of s) (place_at s.entries k)) && listed s j (place_at s.entries k))) 1 0
  unfolding scan level
  scan-each j k =
      let e : place_at s.entries 1 ≡ root = ap (or_else root (λ p. p)) v.first-root in
      rw e (walk-all s v (λ q. le_z from (level (grid_of s) q) && listed s j q) (map wind_of o) (permutation-order o t) (nat_abs (to -ℤ level (grid_of s) root)) (all-levels (base (grid_of s)) to all) k)

  -- of the patches, from the root's level: each number in use
  pub scan-all : T (le_z from (level (grid_of s) root)) → (k : ℕ) → count (eqb k) (scan s 1 o 1 from to) ≡ cond (is_used (entry s.entries k)) 1 0
  unfolding level listed
  scan-all h k = scan-each 1 k ∙ rw (yes-is (le_z from (level (grid_of s) (place_at s.entries k))) (root-lowest (base (grid_of s)) (place_at s.entries k).depth from h), and-true (is_used (entry s.entries k)))
