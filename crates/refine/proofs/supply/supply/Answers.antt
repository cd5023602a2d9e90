-- `refine::supply::supply` meets its contract.
use mathlib.Core.Path.{refl}
use native.Mathlib.Omega.{arith}
use Rattle.free.proofs.FreeRows.{next-within}
use Rattle.patch.proofs.StepsInTurn.{stands}
use Rattle.refine.proofs.SuppliedKid.{supplied-there, supplied-none, supplied-new, found, next-few, without}
use Rattle.refine.proofs.SmallKids.{doubled-same, doubled-new}
use Rattle.refine.proofs.supply.supply.Goals as goal

pub returns-then-kid-ne0 : goal.returns-then-kid-ne0
returns-then-kid-ne0 c = (stands (supplied-there _ _ _ _ _ _ c.kid.ensures.1 c.if-kid-ne0.true), doubled-same _ _ _)

pub returns-then-k-eq0 : goal.returns-then-k-eq0
returns-then-k-eq0 c =
    let p = c.args.p.now in
    let next = found p.plain c.requires.4 p.mapped c.next-k.ensures in
    (record { same = record { cap = refl; long = refl; table = refl; numbers = refl }; words = supplied-none _ _ _ _ _ _ c.kid.ensures.1 c.if-kid-ne0.false next c.if-k-eq0.true }, doubled-same _ _ _)

pub link_in-requires : goal.link_in-requires
link_in-requires c =
    let p = c.args.p.now in
    let (within, _, _, small, long) = c.requires in
    (p.plain, within, next-within _ _ (found p.plain long p.mapped c.next-k.ensures), omega arith, omega arith, omega arith, small c.args.n within)

pub take-requires : goal.take-requires
take-requires c =
    let p = c.args.p.now in
    omega (arith, next-few p.plain (found p.plain c.requires.4 p.mapped c.next-k.ensures))

pub invariant_of-p-2 : goal.invariant_of-p-2
invariant_of-p-2 c =
    let p = c.args.p.now in
    let next = found p.plain c.requires.4 p.mapped c.next-k.ensures in
    let (u, plain) = c.link_in.ensures in
    record { plain = plain; mapped = without p.plain next _ _ _ _ c.kid_digits-e.ensures.1 u (c.take.ensures _ p.mapped) }

pub returns : goal.returns
returns c =
    let p = c.args.p.now in
    let next = found p.plain c.requires.4 p.mapped c.next-k.ensures in
    let (l, m, kid) = c.kid_digits-e.ensures in
    let u = c.link_in.ensures.0 in
    (record { same = record { cap = refl; long = c.link_in.auto.t; table = refl; numbers = refl }; words = supplied-new _ _ _ _ _ _ c.kid.ensures.1 c.if-kid-ne0.false next c.if-k-eq0.false kid.l-is kid.m-is u }, doubled-new _ _ _ _ _ _ c.requires.0 l m u)
