-- `readable::rows::Levels::is_above` meets its contract: the depths differ by as much from whichever depth they are counted.
use native.Mathlib.Omega.{arith}
use Rattle.readable.proofs.Signs.{depth-read, levelled-high, above-is}
use Rattle.readable.proofs.rows.Levels.is_above.Goals as goal

pub depth-requires : goal.depth-requires
depth-requires c =
    let s = c.args.self.now in
    depth-read s.readable (levelled-high s.levelled) c.requires.0

pub depth-requires-2 : goal.depth-requires-2
depth-requires-2 c =
    let s = c.args.self.now in
    depth-read s.readable (levelled-high s.levelled) c.requires.1

pub overflow_add-result : goal.overflow_add-result
overflow_add-result c =
    let s = c.args.self.now in
    omega (arith, c.depth.ensures, (levelled-high s.levelled).deep c.args.p c.requires.0)

pub returns : goal.returns
returns c =
    above-is c.args.self.now.levelled c.requires.0 c.requires.1 c.depth.ensures c.depth-2.ensures
