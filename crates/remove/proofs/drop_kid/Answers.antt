-- `remove::drop_kid` meets its contract.
use mathlib.Core.Path.{ap, ◌∙◌}
use Rattle.edit_laws.specs.Tables.{drop_untouched}
use Rattle.remove.proofs.drop_kid.Goals as goal

pub returns : goal.returns
returns c =
    let p = c.args.p.now in
    let s = c.drop_untouched.ensures in
    record { same = s.same; words = s.words ∙ ap (drop_untouched p.cap p.t.now) c.kid-k.ensures.1 }
