-- `kinds::kind::Kind::body_length` meets its contract: the kind's row says so.
use mathlib.Core.Logic.{⊎_elim}
use Rattle.mesh.specs.Tape.{kinds, kind}
use Rattle.kinds.specs.BodyLengths.{body_length}
use Rattle.kinds.proofs.kind.Kind.body_length.Goals as goal

pub returns-in-Refine : goal.returns-in-Refine
unfolding body_length kinds kind
returns-in-Refine c = ⊎_elim (λ e. rw e) (⊎_elim (λ e. rw e) (⊎_elim (λ e. rw e) (λ e. rw e))) c.in-Refine.is

pub returns-in-SetValue : goal.returns-in-SetValue
unfolding body_length kinds kind
returns-in-SetValue c = rw c.in-SetValue.is
