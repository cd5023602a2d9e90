-- What a cell passes down has a place.
-- Assumes nothing.
use Prim.Native.Nat.{◌≤◌}
use native.Mathlib.Omega.{arith}
use mathlib.Core.Bool.{Bool, true, false, cond}
use lib.IntN.{pos}
use Rattle.carried.specs.Carried.{status_of, is_blank, nothing, passed_down}
use Rattle.carried.specs.declared.Carried.{Carried}

-- what a cell passes down has one of the three statuses
pub passed-status : (x : Carried) → status_of (passed_down x) ≤ 2
passed-status x = go (is_blank x)
  where
    go : (b : Bool) → status_of (cond b nothing (record { status = pos 2; value = x.value })) ≤ 2
    go true = omega arith
    go false = omega arith
