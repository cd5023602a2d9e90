-- `readable::rows::Levels::depth` meets its contract: a level that says a depth is not below that of depth 0.
use Rattle.readable.proofs.Signs.{depth-read}
use Rattle.readable.proofs.rows.Levels.depth.Goals as goal

pub depth-requires : goal.depth-requires
depth-requires c =
    let s = c.args.self.now in
    depth-read s.readable s.levelled c.requires
