-- `count::patches_in` meets its contract. The invariant: the patches of the levels passed are counted.
use Prim.Native.Nat.{◌+◌}
use mathlib.Core.Path.{sym}
use Rattle.header.specs.Headers.{header_of}
use Rattle.place_laws.proofs.Base.{base-range}
use Rattle.count.proofs.LevelSizes.{sizes-none, sizes-more, sizes-all}
use native.Mathlib.Omega.{arith}
use Rattle.count.proofs.patches_in.Goals as goal

pub loop-up-init : goal.loop-up-init
loop-up-init c = (omega (arith, base-range (header_of c.args.header).grid c.requires.0), omega arith, sym (sizes-none (header_of c.args.header).grid))

pub level_size-sum-requires : goal.level_size-sum-requires
level_size-sum-requires c =
    let r = c.requires.0 in
    (r.1, r.2, r.3, omega arith)

pub loop-up-preserved : goal.loop-up-preserved
loop-up-preserved c = (omega arith, omega arith, sizes-more (header_of c.args.header).grid c.loop-up.up _ c.loop-up.sum c.loop-up.invariant.2 c.level_size-sum.ensures.1)

pub returns-2 : goal.returns-2
returns-2 c =
    let g = (header_of c.args.header).grid in
    sizes-all g c.args.d (c.loop-up.up + 1) _ c.requires.0 c.requires.1 (omega arith) (sizes-more g c.loop-up.up _ c.loop-up.sum c.loop-up.invariant.2 c.level_size-sum.ensures.1)
