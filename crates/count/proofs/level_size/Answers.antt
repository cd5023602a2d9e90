-- `count::level_size` meets its contract.
use native.Mathlib.Omega.{arith}
use Prim.Native.Nat.{◌+◌, ◌/◌, ◌^◌}
use Rattle.number_laws.specs.Sizes.{level_size}
use Rattle.count.proofs.LevelSizes.{side-le, level-le}
use Rattle.count.proofs.level_size.Goals as goal

pub overflow_add-a : goal.overflow_add-a
overflow_add-a c =
    let a = c.args in
    omega (arith, side-le a.header.columns a.up (omega arith))

pub overflow_add-b : goal.overflow_add-b
overflow_add-b c = omega (arith, side-le c.last_j.result c.args.up (omega (arith, c.last_j.ensures.0)))

pub overflow_mul-result : goal.overflow_mul-result
overflow_mul-result c =
    let a = c.args in
    let b = c.last_j.result in
    omega (arith, level-le (a.header.columns / 2 ^ a.up + 1) (b / 2 ^ a.up + 1) (omega (arith, side-le a.header.columns a.up (omega arith))) (omega (arith, side-le b a.up (omega (arith, c.last_j.ensures.0)))))

pub overflow_cast-result : goal.overflow_cast-result
overflow_cast-result c =
    let a = c.args in
    let b = c.last_j.result in
    omega (arith, level-le (a.header.columns / 2 ^ a.up + 1) (b / 2 ^ a.up + 1) (omega (arith, side-le a.header.columns a.up (omega arith))) (omega (arith, side-le b a.up (omega (arith, c.last_j.ensures.0)))))

pub returns : goal.returns
unfolding level_size
returns c =
    let a = c.args in
    let h = c.last_j.ensures in
    (level-le _ _ (omega (arith, side-le a.header.columns a.up (omega arith))) (omega (arith, side-le c.last_j.result a.up (omega (arith, h.0)))), rw h.1)
