-- `lines::sheets::Sheet::decimal` meets its contract.
use Rattle.std.proofs.Common.{◌+◌, ◌-◌, ◌≡◌, length, refl, sym, ap, ◌∙◌, arith, rules}
use Rattle.mesh.specs.Page.{decimal}
use Rattle.lines.proofs.Decimals.{dec_digit, decimal-places}
use Rattle.lines.proofs.Puts.{places-turn, places-done}
use lib.Seq.{sets}
use Rattle.lines.proofs.sheets.Sheet.decimal.Goals as goal

pub loop-i-init : goal.loop-i-init
loop-i-init c =
    let a = c.args in
    let s = a.self.now in
    let all : s.at + c.digits.result - s.at ≡ length (decimal a.x) = omega (arith, c.digits.ensures.1) in
    record { same = refl; end = refl; size = refl; digits = rw all (ap (sets s.out.now s.at) (sym (decimal-places a.x))) }

pub loop-i-preserved : goal.loop-i-preserved
loop-i-preserved c =
    let l = c.loop-i in
    record { same = l.invariant.same; end = l.invariant.end; size = search rules; digits = places-turn dec_digit 10 _ _ l.i _ _ (omega arith) refl ∙ l.invariant.digits }

pub returns : goal.returns
returns c =
    let l = c.loop-i in
    record { same = l.invariant.same; put = record { stored = places-done dec_digit 10 _ _ l.i _ (omega arith) ∙ l.invariant.digits; next = omega (arith, l.invariant.end, c.digits.ensures.1) } }
