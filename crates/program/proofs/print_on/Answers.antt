-- `program::print_on` meets its contract: the build, the tape and the page on lists that picture the state, or the refusal of one of the first two.
use Rattle.std.proofs.Common.{sym, ap, ◌∙◌, arith}
use Rattle.answer.specs.Answered.{refusal_of, stop_of}
use Rattle.answer.proofs.RefusalNumbers.{not-zero}
use Rattle.input.proofs.Head.{head-sizes}
use Rattle.program.proofs.Printed.{prints, build-refused, offset-low, tape-refused, tape-printed}
use Rattle.program.proofs.print_on.Goals as goal

pub bounds-input-1 : goal.bounds-input-1
bounds-input-1 c = omega (arith, (head-sizes _ c.requires.0).0)

pub bounds-input-2 : goal.bounds-input-2
bounds-input-2 c = omega (arith, (head-sizes _ c.requires.0).0)

pub returns-in-Err : goal.returns-in-Err
returns-in-Err c =
    prints _ _ (build-refused c.args.input.now c.requires.0 (rw (c.from-columns.ensures, c.from-rows.ensures) at c.in-Err.ensures) c.requires.1 c.requires.2 c.requires.3 (not-zero c.in-Err.refusal)) c.write_refused.ensures

pub slice_bounds-tape-count : goal.slice_bounds-tape-count
slice_bounds-tape-count c = (head-sizes _ c.requires.0).0

pub slice_bounds-tape-start : goal.slice_bounds-tape-start
slice_bounds-tape-start c = omega (arith, (head-sizes _ c.requires.0).0)

pub overflow_add-taped : goal.overflow_add-taped
overflow_add-taped c = record { fits = omega (arith, offset-low c.args.input.now c.requires.0 (rw (c.from-columns.ensures, c.from-rows.ensures) at c.build-built.ensures) c.requires.1 c.requires.2 c.requires.3 (ap refusal_of c.in_default.is) c.tape-taped.ensures) }

pub write_refused-requires-in-Some : goal.write_refused-requires-in-Some
write_refused-requires-in-Some c = omega (arith, offset-low c.args.input.now c.requires.0 (rw (c.from-columns.ensures, c.from-rows.ensures) at c.build-built.ensures) c.requires.1 c.requires.2 c.requires.3 (ap refusal_of c.in_default.is) c.tape-taped.ensures)

pub returns-in-Some : goal.returns-in-Some
returns-in-Some c =
    let why = ap stop_of c.in-Some.is in
    let line = tape-refused c.args.input.now c.requires.0 (rw (c.from-columns.ensures, c.from-rows.ensures) at c.build-built.ensures) c.requires.1 c.requires.2 c.requires.3 (ap refusal_of c.in_default.is) c.tape-taped.ensures (λ z. not-zero c.in-Some.refusal (sym why ∙ z)) in
    prints _ _ (rw why at line) c.write_refused-in-Some.ensures

pub returns : goal.returns
returns c =
    tape-printed c.args.input.now c.requires.0 (rw (c.from-columns.ensures, c.from-rows.ensures) at c.build-built.ensures) c.requires.1 c.requires.2 c.requires.3 (ap refusal_of c.in_default.is) c.tape-taped.ensures (ap stop_of c.in_default-refusal.is) _ c.page.ensures
