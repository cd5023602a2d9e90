-- `table::plain::depth` meets its contract: a level and the depth of level 0 add up to the depth.
use native.Mathlib.Omega.{arith}
use mir.Syntax.{w32}
use mir.Facts.{to_z_pos}
use borrow.Author.Rules.{sfits_of}
use Rattle.table.proofs.Unsigned.{depth-read}
use Rattle.table.proofs.plain.depth.Goals as goal

pub overflow_add-result : goal.overflow_add-result
overflow_add-result c =
    let a = c.args in
    let p = c.requires in
    rw (depth-read a.t.now a.d a.n {z = c.raw.result} (sfits_of c.raw.type_inv) c.raw.ensures p.1 p.2) (record { sfits = p.3 })

pub overflow_cast-result-2 : goal.overflow_cast-result-2
overflow_cast-result-2 c =
    let a = c.args in
    let p = c.requires in
    rw (depth-read a.t.now a.d a.n {z = c.raw.result} (sfits_of c.raw.type_inv) c.raw.ensures p.1 p.2, to_z_pos w32 p.3) (tt, omega (arith, p.3))

pub returns : goal.returns
returns c =
    let a = c.args in
    let p = c.requires in
    rw (depth-read a.t.now a.d a.n {z = c.raw.result} (sfits_of c.raw.type_inv) c.raw.ensures p.1 p.2, to_z_pos w32 p.3)
