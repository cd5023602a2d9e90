-- `carried::values::same_bits` meets its contract: of finite floats, by their bits.
use mathlib.Core.Path.{sym, subst, ◌∙◌}
use lib.Dec.{T}
use Rattle.carried.proofs.Bits.{finite-no-nan, not-same-left, not-same-right, same_bits}
use Rattle.carried.proofs.values.same_bits.Goals as goal

pub returns-then-not-is_finite : goal.returns-then-not-is_finite
returns-then-not-is_finite c =
    let a = c.args in
    not-same-left a.x a.y (sym c.is_finite.ensures ∙ c.if-not-is_finite.true)

pub returns-then-not-is_finite-2 : goal.returns-then-not-is_finite-2
returns-then-not-is_finite-2 c =
    let a = c.args in
    not-same-right a.x a.y (sym c.is_finite-2.ensures ∙ c.if-not-is_finite-2.true)

pub float_to_bits-result : goal.float_to_bits-result
float_to_bits-result c =
    finite-no-nan c.args.x (sym c.is_finite.ensures ∙ c.if-not-is_finite.false)

pub float_to_bits-result-2 : goal.float_to_bits-result-2
float_to_bits-result-2 c =
    finite-no-nan c.args.y (sym c.is_finite-2.ensures ∙ c.if-not-is_finite-2.false)

pub returns : goal.returns
returns c =
    same_bits c.args.x c.args.y (subst T (sym c.well_formed.0.1) tt) (subst T (sym c.well_formed.1.0.1) tt)
    (sym c.is_finite.ensures ∙ c.if-not-is_finite.false)
