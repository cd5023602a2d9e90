-- `program::write_refused` meets its contract: refused, or written, by the length of the line.
use Rattle.std.proofs.Common.{rules, ℕ, length, ap, ◌≡◌, ◌∙◌, Err, arith}
use Rattle.std.proofs.lemmas.Bool.{ltb-true, ltb-false}
use Rattle.answer.specs.declared.Refusal.{Refusal}
use Rattle.answer.specs.declared.Refusal.TheVariants.{TooShort}
use Rattle.answer.specs.Answered.{number}
use Rattle.mesh.specs.Page.{decimal}
use Rattle.answer.specs.OutputLists.{wrote_of}
use Rattle.answer.proofs.InOrder.{refuses, passes}
use borrow.Author.Rules.{rules}
use Rattle.mesh.specs.Program.{refused_line}
use Rattle.page.proofs.PagePut.{page-refused, page-written}
use Rattle.program.proofs.LineLengths.{refused-size}
use Rattle.program.proofs.write_refused.Goals as goal

pub returns-in_err-refuse_if : goal.returns-in_err-refuse_if
returns-in_err-refuse_if c =
    let a = c.args in
    let o : wrote_of c.from_residual.result a.out.now ≡ wrote_of (Err c.in_err-refuse_if.field-0.0) a.out.now = search rules in
    let (short, same) = refuses _ TooShort c.in_err-refuse_if.ensures in
    o ∙ ap (λ (r : Refusal). wrote_of (Err r) a.out.now) same
    ∙ page-refused (refused_line (number a.refusal) a.o) _ (omega (arith, c.digits.ensures, c.digits-2.ensures, ap (λ (k : ℕ). length (decimal k)) c.from-n.ensures, ltb-true _ _ short, refused-size (number a.refusal) a.o))

pub put_refused-requires : goal.put_refused-requires
put_refused-requires c =
    omega (arith, c.digits.ensures, c.digits-2.ensures, ltb-false _ _ (passes _ TooShort c.in_ok-refuse_if.ensures), refused-size c.from-n.result c.args.o)

pub returns : goal.returns
returns c =
    let a = c.args in
    let n = number a.refusal in
    let room = ltb-false _ _ (passes _ TooShort c.in_ok-refuse_if.ensures) in
    let same = c.put_refused.ensures.same in
    let put = rw c.from-n.ensures at c.put_refused.ensures.put in
    let written = page-written (refused_line n a.o) _ (omega (arith, c.digits.ensures, c.digits-2.ensures, ap (λ (k : ℕ). length (decimal k)) c.from-n.ensures, room, refused-size n a.o)) put in
    search rules
