-- `tape::turns::turn_at` meets its contract: no request, one that is refused, or one that is done.
use Rattle.std.proofs.Common.{rules, ◌≡◌}
use Rattle.answer.specs.Answered.{number, refusal_of}
use Rattle.apply.proofs.Untouched.{unchanged}
use Rattle.tape.proofs.Turning.{turned-unread, turned-request, turned-refused}
use Rattle.tape.proofs.turns.turn_at.Goals as goal

pub returns-in_err-asked : goal.returns-in_err-asked
returns-in_err-asked c =
    let e = c.in_err-asked.field-0.0 in
    let o : refusal_of c.from_residual.result ≡ number e = search rules in
    (turned-refused c.from_residual.result e o (turned-unread _ _ c.requires.1 e c.in_err-asked.ensures), unchanged c.requires.0)

pub returns-in_err-request : goal.returns-in_err-request
returns-in_err-request c =
    let e = c.in_err-request.field-0.0 in
    let o : refusal_of c.from_residual-in_err-request.result ≡ number e = search rules in
    let made = c.in_err-request.ensures in
    (turned-refused c.from_residual-in_err-request.result e o (turned-request _ _ c.requires.1 c.in_ok-asked.ensures made.applied), made.kept)

pub returns : goal.returns
returns c = let made = c.in_ok-request.ensures in (turned-request _ _ c.requires.1 c.in_ok-asked.ensures made.applied, made.kept)
