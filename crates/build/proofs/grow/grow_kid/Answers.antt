-- `build::grow::grow_kid` meets its contract.
use Rattle.build.proofs.Growths.{kid-room, kid-not, kid-new, kid-small}
use native.Mathlib.Omega.{arith}
use mathlib.Core.Bool.{not}
use mathlib.Core.Path.{ap}
use Rattle.build.proofs.grow.grow_kid.Goals as goal

pub returns-then-not-in_full : goal.returns-then-not-in_full
returns-then-not-in_full c =
    let kid = c.kid_digits-kid.ensures.2 in
    let a = c.args in
    kid-not _ _ _ a.up a.p _ _ a.next a.t.now c.requires.2 kid.l-is kid.m-is c.word.ensures c.word-2.ensures c.in_full.ensures (ap not c.if-not-in_full.true)

pub link_in-requires : goal.link_in-requires
link_in-requires c =
    let kid = c.kid_digits-kid.ensures.2 in
    let a = c.args in (c.requires.0, c.requires.2.parent_in, kid-room _ _ _ a.up a.p _ _ a.next a.t.now c.requires.2 kid.l-is kid.m-is c.word.ensures c.word-2.ensures c.in_full.ensures (ap not c.if-not-in_full.false), omega arith, omega arith, omega arith, kid-small _ _ _ c.requires.2)

pub returns : goal.returns
returns c =
    let kid = c.kid_digits-kid.ensures.2 in
    let a = c.args in
    kid-new _ _ _ a.up a.p _ _ a.next a.t.now c.requires.2 kid.l-is kid.m-is c.word.ensures c.word-2.ensures c.in_full.ensures (ap not c.if-not-in_full.false) c.link_in.ensures.0
