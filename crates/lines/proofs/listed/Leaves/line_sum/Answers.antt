-- `lines::listed::Leaves::line_sum` meets its contract: the line is put on a sheet of its own, and summed.
use Rattle.std.proofs.Common.{◌%◌, ◌^◌, refl, ap, ◌∙◌, arith}
use Rattle.mesh.specs.Page.{total}
use Rattle.lines.proofs.Pieces.{wrote_to, wrote_front}
use Rattle.lines.proofs.Worded.{line-short}
use Rattle.lines.proofs.listed.Leaves.line_sum.Goals as goal

pub put_line-requires : goal.put_line-requires
put_line-requires c =
    let s = c.args.self.now in
    (c.requires, omega (arith, line-short s.t.now s.v.now c.args.n))

pub sum-requires : goal.sum-requires
sum-requires c =
    let s = c.args.self.now in
    omega (arith, wrote_to c.put_line.ensures, line-short s.t.now s.v.now c.args.n)

pub returns : goal.returns
returns c =
    let s = c.args.self.now in
    c.sum.ensures ∙ ap (λ z. total z % 2 ^ 32) (wrote_front c.put_line.ensures refl (omega (arith, line-short s.t.now s.v.now c.args.n)))
