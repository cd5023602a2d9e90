-- `apply::set_value` meets its contract: the refusal is the rules', and what is written is the picture of the state with the value.
use Rattle.std.proofs.Common.{rules, refl, ◌≡◌, arith}
use Rattle.answer.specs.Answered.{number, refusal_of}
use Rattle.apply.proofs.Deciding.{stopped, set-decides, set-within}
use Rattle.apply.proofs.Tallying.{set-asks}
use Rattle.apply.proofs.Applying.{set-applied}
use Rattle.apply.proofs.Following.{set_free}
use Rattle.apply.proofs.Tamed.{drawn-ranged, drawn-tame}
use Rattle.apply.proofs.set_value.Goals as goal

pub set_refusal-requires : goal.set_refusal-requires
set_refusal-requires c = (drawn-tame c.requires.drawn).plain.sized

pub returns-in_err-set_refusal : goal.returns-in_err-set_refusal
returns-in_err-set_refusal c =
    let o : refusal_of c.from_residual.result ≡ number c.in_err-set_refusal.field-0.0 = search rules in
    (stopped _ _ _ _ _ _ o (set-decides _ _ _ _ _ _ _ c.in_err-set_refusal.ensures), refl)

pub invariant_of-valued : goal.invariant_of-valued
invariant_of-valued c = let p = c.requires.drawn in record { plain = (drawn-tame p).plain; all_valued = omega (arith, (drawn-ranged p).values) }

pub valued-requires : goal.valued-requires
valued-requires c =
    let w = set-within _ _ _ _ c.in_ok-set_refusal.ensures refl in
    let (x, y) = set-asks c.requires _ refl _ c.in_ok-set_refusal.ensures in
    (w, x, y)

pub set_at-requires : goal.set_at-requires
set_at-requires c =
    let r = drawn-ranged c.requires.drawn in
    let w = set-within _ _ _ _ c.in_ok-set_refusal.ensures refl in
    (omega (arith, r.words), omega (arith, r.values))

pub returns : goal.returns
returns c =
    let a = set-applied _ _ _ _ _ _ _ _ _ _ c.in_ok-set_refusal.ensures refl c.set_at.ensures.0 c.set_at.ensures.1 c.valued.ensures in
    (a, set_free c.requires _ _ a)
