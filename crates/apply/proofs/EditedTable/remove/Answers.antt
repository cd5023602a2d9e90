-- `apply::EditedTable::remove` meets its contract: the refusal is the rules', and what `remove::remove` writes is the picture of the state without the kids.
use Rattle.std.proofs.Common.{rules, refl, ◌≡◌, arith}
use Rattle.answer.specs.Answered.{number, refusal_of}
use Rattle.apply.proofs.Deciding.{stopped, remove-decides, remove-within}
use Rattle.apply.proofs.Tallying.{remove-asks}
use Rattle.apply.proofs.Applying.{remove-applied}
use Rattle.apply.proofs.Following.{remove_first, remove-left, same-mapped}
use Rattle.apply.proofs.Tamed.{drawn-ranged, drawn-tame}
use Rattle.apply.proofs.Untouched.{unchanged}
use Rattle.apply.proofs.EditedTable.remove.Goals as goal

pub remove_refusal-requires : goal.remove_refusal-requires
remove_refusal-requires c = (drawn-tame c.requires.pictured.drawn).plain

pub returns-in_err-remove_refusal : goal.returns-in_err-remove_refusal
returns-in_err-remove_refusal c =
    let o : refusal_of c.from_residual.result ≡ number c.in_err-remove_refusal.field-0.0 = search rules in
    record { applied = stopped _ _ _ _ _ _ o (remove-decides _ _ _ _ _ _ c.in_err-remove_refusal.ensures); kept = unchanged c.requires }

pub invariant_of-removed : goal.invariant_of-removed
invariant_of-removed c = let p = c.requires.pictured in record { plain = (drawn-tame p.drawn).plain; all_valued = omega (arith, (drawn-ranged p.drawn).values) }

pub removed-requires : goal.removed-requires
removed-requires c =
    let p = c.requires.pictured in
    let w = remove-within _ _ _ c.in_ok-remove_refusal.ensures refl in
    let (x, y, z) = remove-asks p _ refl c.in_ok-remove_refusal.ensures in
    (w, x, y, z)

pub remove-requires : goal.remove-requires
remove-requires c =
    let p = c.requires.pictured in
    let r = drawn-ranged p.drawn in
    let w = remove-within _ _ _ c.in_ok-remove_refusal.ensures refl in
    let same = remove_first p _ (remove-decides _ _ _ _ _ _ c.in_ok-remove_refusal.ensures) in
    ((drawn-tame p.drawn).plain, omega (arith, r.values), w, omega (arith, r.depth), same-mapped same c.requires.maps)

pub returns : goal.returns
returns c =
    let (words, values, mapped) = c.remove.ensures in
    let a = remove-applied _ _ _ _ _ _ _ _ _ c.in_ok-remove_refusal.ensures refl words values c.removed.ensures in
    record { applied = a; kept = record { same-words = refl; same-values = refl; same-counts = refl; same-map = refl; same-capacity = refl; same-depth = refl; maps = same-mapped (remove-left c.requires.pictured _ a) mapped } }
