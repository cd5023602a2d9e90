-- `apply::EditedTable::refine` meets its contract: the refusal is the rules', and what `refine::refine` writes is the picture of the refined state.
use Rattle.std.proofs.Common.{rules, refl, ◌≡◌, arith}
use Rattle.answer.specs.Answered.{number, refusal_of}
use Rattle.apply.proofs.Deciding.{stopped, refine-decides, refine-within}
use Rattle.apply.proofs.Tallying.{refine-asks}
use Rattle.apply.proofs.Applying.{refine-applied}
use Rattle.apply.proofs.Following.{refine-left, same-mapped, total-count}
use Rattle.apply.proofs.Tamed.{drawn-ranged, drawn-tame}
use Rattle.apply.proofs.Untouched.{unchanged}
use Rattle.apply.proofs.EditedTable.refine.Goals as goal

pub refine_refusal-requires : goal.refine_refusal-requires
refine_refusal-requires c = let ready = c.requires in ((drawn-tame ready.pictured.drawn).plain, total-count _ ready.maps c.count.ensures)

pub returns-in_err-refine_refusal : goal.returns-in_err-refine_refusal
returns-in_err-refine_refusal c =
    let o : refusal_of c.from_residual.result ≡ number c.in_err-refine_refusal.field-0.0 = search rules in
    record { applied = stopped _ _ _ _ _ _ o (refine-decides _ _ _ _ _ _ c.in_err-refine_refusal.ensures); kept = unchanged c.requires }

pub invariant_of-refined : goal.invariant_of-refined
invariant_of-refined c = let p = c.requires.pictured in record { plain = (drawn-tame p.drawn).plain; all_valued = omega (arith, (drawn-ranged p.drawn).values) }

pub refined-requires : goal.refined-requires
refined-requires c =
    let p = c.requires.pictured in
    let w = refine-within _ _ _ c.in_ok-refine_refusal.ensures refl in
    let (x, y, z) = refine-asks p _ refl c.in_ok-refine_refusal.ensures in
    (w, x, y, z)

pub refine-requires : goal.refine-requires
refine-requires c =
    let p = c.requires.pictured in
    let r = drawn-ranged p.drawn in
    let tame = drawn-tame p.drawn in
    let w = refine-within _ _ _ c.in_ok-refine_refusal.ensures refl in
    (tame.plain, omega (arith, r.values), w, omega (arith, r.depth), tame.indices, r.words, c.requires.maps)

pub returns : goal.returns
returns c =
    let (words, values, mapped) = c.refine.ensures in
    let a = refine-applied _ _ _ _ _ _ _ _ _ c.in_ok-refine_refusal.ensures refl words values c.refined.ensures in
    record { applied = a; kept = record { same-words = refl; same-values = refl; same-counts = refl; same-map = refl; same-capacity = refl; same-depth = refl; maps = same-mapped (refine-left c.requires.pictured _ a) mapped } }
