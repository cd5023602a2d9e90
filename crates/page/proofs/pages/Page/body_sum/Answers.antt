-- `page::pages::Page::body_sum` meets its contract: the first line is put on a sheet of its own and summed, and then the leaves'.
use native.Mathlib.Omega.{arith}
use mathlib.Core.Path.{refl, ap}
use Rattle.mesh.specs.Page.{total}
use Rattle.header.specs.Headers.{header_of}
use Rattle.lines.proofs.Pieces.{wrote_to, wrote_front}
use Rattle.lines.proofs.Worded.{head-short}
use Rattle.page.proofs.PagePut.{body-total}
use Rattle.page.proofs.pages.Page.body_sum.Goals as goal

pub put_head-requires : goal.put_head-requires
put_head-requires c = omega (arith, head-short (header_of c.args.self.now.header))

pub sum-requires : goal.sum-requires
sum-requires c = omega (arith, wrote_to c.put_head.ensures, head-short (header_of c.args.self.now.header))

pub returns : goal.returns
returns c =
    let p = c.args.self.now in
    omega (arith, c.lines_sum.ensures, c.sum.ensures, ap total (wrote_front c.put_head.ensures refl (omega (arith, head-short (header_of p.header)))), body-total p)
