-- `tape::turns::run_tape` meets its contract: the invariant is that the rules' run goes on from the state that is pictured now and that the map is of
-- its free numbers, and the measure how much of the tape is left.
use Rattle.std.proofs.Common.{rules, refl}
use Rattle.free.proofs.LoadingMap.{empty-kept}
use Rattle.apply.proofs.Following.{nil-taken}
use Rattle.tape.proofs.Running.{starts, goes-next, ran_over, ready, turned-so, kept-on}
use Rattle.apply.proofs.Tamed.{drawn-ranged}
use Rattle.apply.proofs.Untouched.{unchanged}
use Rattle.tape.proofs.turns.run_tape.Goals as goal

pub invariant_of-map : goal.invariant_of-map
invariant_of-map c = empty-kept

pub load-requires : goal.load-requires
load-requires c =
    let p = c.requires in
    let r = drawn-ranged p.drawn in
    (r.words, r.cap-to, nil-taken p)

pub loop-run-init : goal.loop-run-init
loop-run-init c = (starts _ _ _ _ _, unchanged (record { pictured = c.requires; maps = c.load.ensures }), refl)

pub turn_at-requires : goal.turn_at-requires
turn_at-requires c =
    let (ongoing, kept, _) = c.loop-run.invariant in
    (ready ongoing kept c.requires, c.loop-run-test.true)

pub loop-run-preserved : goal.loop-run-preserved
loop-run-preserved c =
    let (ongoing, kept, none) = c.loop-run.invariant in
    let (turned, on) = c.in-Ok.ensures in
    (goes-next _ _ _ _ _ ongoing (turned-so ongoing kept turned) refl c.next_mark.ensures, kept-on kept on, none)

pub returns : goal.returns
returns c =
    let (ongoing, kept, none) = c.loop-run.invariant in
    let words = kept.same-words in
    let values = kept.same-values in
    let counts = kept.same-counts in
    let ran = ran_over _ _ _ _ _ ongoing c.loop-run-test.false in
    rw none (search rules)
