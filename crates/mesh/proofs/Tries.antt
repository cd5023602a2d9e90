-- The first try of a lookup is the point itself (02, No. 2).
-- Assumes nothing.
use Prim.Native.Nat.{ℕ}
use mathlib.Core.Path.{◌≡◌}
use native.Mathlib.Omega.{arith}
use borrow.Author.Tests.{le-leb}
use native.Mathlib.Nat.{sub-zero}
use Rattle.mesh.specs.Lookup.{tried}

-- the first is the point itself
pub tried-own : (there : ℕ → ℕ → ℕ) (u v : ℕ) → tried there u v (0, 0) ≡ there u v
tried-own there u v = rw (le-leb 0 u (omega arith), le-leb 0 v (omega arith), sub-zero u, sub-zero v)
