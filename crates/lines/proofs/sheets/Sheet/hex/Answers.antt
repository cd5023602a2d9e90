-- `lines::sheets::Sheet::hex` meets its contract.
use Rattle.std.proofs.Common.{◌+◌, ◌-◌, ◌≡◌, refl, sym, ap, ◌∙◌, arith, rules}
use Rattle.lines.specs.LineRows.{hex_digit}
use Rattle.lines.proofs.Decimals.{hex-places, hex-long}
use Rattle.lines.proofs.Puts.{places-turn, places-done}
use lib.Seq.{sets}
use Rattle.lines.proofs.sheets.Sheet.hex.Goals as goal

pub loop-i-init : goal.loop-i-init
loop-i-init c =
    let s = c.args.self.now in
    let all : s.at + 16 - s.at ≡ 16 = omega arith in
    record { same = refl; end = refl; size = refl; digits = rw all (ap (sets s.out.now s.at) (sym (hex-places 16 _))) }

pub loop-i-preserved : goal.loop-i-preserved
loop-i-preserved c =
    let l = c.loop-i in
    record { same = l.invariant.same; end = l.invariant.end; size = search rules; digits = places-turn hex_digit 16 _ _ l.i _ _ (omega arith) c.hex_digit.ensures ∙ l.invariant.digits }

pub returns : goal.returns
returns c =
    let l = c.loop-i in
    record { same = l.invariant.same; put = record { stored = places-done hex_digit 16 _ _ l.i _ (omega arith) ∙ l.invariant.digits; next = omega (arith, l.invariant.end, hex-long 16 c.args.x) } }
