-- Bytes high byte first: what one byte more makes of the number, and that eight of them fit a word.
-- Assumes nothing.
use Prim.Native.Nat.{ℕ, ◌+◌, ◌-◌, ◌*◌, ◌^◌, ◌≤◌, ◌<◌}
use native.Mathlib.Omega.{arith}
use native.Mathlib.Numerals.{add-one}
use mathlib.Core.Path.{◌≡◌, refl}
use mathlib.Core.List.{List, [], ◌∷◌, ◌++◌}
use lib.ListN.{length, take, drop, get_or, length-drop}
use Rattle.std.proofs.lemmas.List.{get_or-take}
use lib.Seq.{take-suc, get_or-drop}
use lib.Pow.{pow-add, pow_mono}
use Rattle.mesh.specs.Tape.{high_first}

high-more : (n : ℕ) (bs : List ℕ) (b : ℕ) → high_first n (bs ++ (b ∷ [])) ≡ 256 * high_first n bs + b
high-more n [] b = refl
high-more n (x ∷ bs) b = high-more (256 * n + x) bs b

-- a byte of the part that k bytes from `at` on are
pub part-byte : (s : List ℕ) (at k i : ℕ) → i < k → get_or (take (at + k - at) (drop at s)) i 0 ≡ get_or s (at + i) 0
part-byte s at k i l =
    let e : at + k - at ≡ k = omega arith in
    rw (e, get_or-take k (drop at s) i 0 l, get_or-drop)

pub read_more : (s : List ℕ) (at i n b : ℕ) → at + i < length s → n ≡ high_first 0 (take i (drop at s)) → b ≡ get_or s (at + i) 0 → 256 * n + b ≡ high_first 0 (take (i + 1) (drop at s))
read_more s at i n b l e f =
    let inside : i < length (drop at s) = simp length-drop (omega arith) in
    rw (e, f, add-one, take-suc (drop at s) i 0, high-more, get_or-drop)

pub size-more : (i n b : ℕ) → n < 2 ^ (8 * i) → b < 256 → 256 * n + b < 2 ^ (8 * (i + 1))
size-more i n b l m =
    let e : 8 * (i + 1) ≡ 8 * i + 8 = omega arith in
    rw (e, pow-add 2 (8 * i) 8) (omega arith)

pub size_fits : (i n : ℕ) → i < 8 → n < 2 ^ (8 * i) → 256 * n + 255 < 18446744073709551616
size_fits i n l m =
    let far : 2 ^ (8 * i) ≤ 2 ^ 56 = pow_mono {i = 8 * i} {j = 56} (omega arith) in
    omega arith
