-- `apply::EditedTable::kill` meets its contract: the refusal is the rules', and what `kill::kill` writes is the picture of the state without the cell.
use Rattle.std.proofs.Common.{rules, refl, ◌≡◌, arith}
use Rattle.answer.specs.Answered.{number, refusal_of}
use Rattle.apply.proofs.Deciding.{stopped, kill-decides, kill-within}
use Rattle.apply.proofs.Tallying.{kill-asks}
use Rattle.apply.proofs.Applying.{kill-applied}
use Rattle.apply.proofs.Following.{kill-first, kill-left, same-mapped}
use Rattle.apply.proofs.Tamed.{drawn-ranged, drawn-tame}
use Rattle.apply.proofs.Untouched.{unchanged}
use Rattle.apply.proofs.EditedTable.kill.Goals as goal

pub kill_refusal-requires : goal.kill_refusal-requires
kill_refusal-requires c =
    let p = c.requires.pictured in
    let r = drawn-ranged p.drawn in
    ((drawn-tame p.drawn).plain.sized, omega (arith, r.cap-from), omega (arith, r.depth))

pub returns-in_err-kill_refusal : goal.returns-in_err-kill_refusal
returns-in_err-kill_refusal c =
    let o : refusal_of c.from_residual.result ≡ number c.in_err-kill_refusal.field-0.0 = search rules in
    record { applied = stopped _ _ _ _ _ _ o (kill-decides _ _ _ _ _ _ c.in_err-kill_refusal.ensures); kept = unchanged c.requires }

pub invariant_of-killed : goal.invariant_of-killed
invariant_of-killed c = let p = c.requires.pictured in record { plain = (drawn-tame p.drawn).plain; all_valued = omega (arith, (drawn-ranged p.drawn).values) }

pub killed-requires : goal.killed-requires
killed-requires c =
    let p = c.requires.pictured in
    let w = kill-within _ _ _ _ c.in_ok-kill_refusal.ensures refl in
    let (x, y) = kill-asks p _ refl c.in_ok-kill_refusal.ensures in
    (w, x, y)

pub kill-requires : goal.kill-requires
kill-requires c =
    let p = c.requires.pictured in
    let r = drawn-ranged p.drawn in
    let w = kill-within _ _ _ _ c.in_ok-kill_refusal.ensures refl in
    let same = kill-first p _ (kill-decides _ _ _ _ _ _ c.in_ok-kill_refusal.ensures) in
    ((drawn-tame p.drawn).plain, omega (arith, r.values), w, omega (arith, r.depth), same-mapped same c.requires.maps)

pub returns : goal.returns
returns c =
    let (words, values, mapped) = c.kill.ensures in
    let a = kill-applied _ _ _ _ _ _ _ _ _ c.in_ok-kill_refusal.ensures refl words values c.killed.ensures in
    record { applied = a; kept = record { same-words = refl; same-values = refl; same-counts = refl; same-map = refl; same-capacity = refl; same-depth = refl; maps = same-mapped (kill-left c.requires.pictured _ a) mapped } }
