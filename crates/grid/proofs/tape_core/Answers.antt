-- `grid::tape_core` meets its contract: the first checks refuse, or what is lent is a picture and the run of the tape is the call's.
use Rattle.std.proofs.Common.{sym}
use Rattle.grid.proofs.TapeCalls.{tape-first, tape-pictured, tape-done}
use Rattle.grid.proofs.tape_core.Goals as goal

pub returns-in-Err : goal.returns-in-Err
returns-in-Err c = tape-first _ _ _ c.in-Err.refusal c.in-Err.ensures

pub run_tape-r-requires : goal.run_tape-r-requires
run_tape-r-requires c =
    let a = c.args in
    tape-pictured a.header a.table.now a.values.now a.counts.now a.capacity a.tape.now (sym c.in_default.ensures) c.ground_depth-d.ensures

pub returns : goal.returns
returns c =
    let a = c.args in
    tape-done a.header a.table.now a.values.now a.counts.now a.capacity a.tape.now (sym c.in_default.ensures) c.ground_depth-d.ensures c.with_mark-left.ensures c.run_tape-r.ensures
