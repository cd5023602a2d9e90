-- A pattern that is not finite is refused like an infinite value.
-- Assumes nothing.
use Prim.Native.Nat.{ℕ, ◌≤◌, ◌<◌, ◌%◌}
use native.Mathlib.Omega.{arith}
use mathlib.Core.Path.{◌≡◌, sym, subst, ◌∙◌}
use mathlib.Core.Bool.{Bool, false, not}
use lib.Dec.{T}
use lib.Ieee.{binary64, nan_bits, of_bits}
use lib.Ieee.Bits.{nan_bits_is}
use borrow.Author.Tests.{lt-ltb, le-ltb}
use Rattle.mesh.specs.Valid.{finite}
use Rattle.carried.proofs.Bits.{pattern, finite-no-nan}
use Rattle.kinds.specs.BodyLengths.{StandsFor}

pub finite-pattern : (w : ℕ) → w % 0x8000_0000_0000_0000 < 0x7ff0_0000_0000_0000 → T (not (nan_bits binary64 w))
finite-pattern w h =
    subst (λ (b : Bool). T (not b)) (sym (nan_bits_is binary64 w)) (finite-no-nan (of_bits binary64 w) (sym (pattern w) ∙ lt-ltb _ _ h))

pub infinite-pattern : T (not (nan_bits binary64 0x7ff0_0000_0000_0000))
unfolding nan_bits
infinite-pattern = tt

pub stands-for : (w : ℕ) → 0x7ff0_0000_0000_0000 ≤ w % 0x8000_0000_0000_0000 → StandsFor w (of_bits binary64 0x7ff0_0000_0000_0000)
stands-for w h =
    let other : finite (of_bits binary64 w) ≡ false = sym (pattern w) ∙ le-ltb _ _ h in
    let endless : finite (of_bits binary64 0x7ff0_0000_0000_0000) ≡ false = sym (pattern 0x7ff0_0000_0000_0000) in
    record { alike = endless ∙ sym other; is = λ e. absurd (let z : ◌≡◌ {A = ℕ} 0 1 = cc in omega arith) }
