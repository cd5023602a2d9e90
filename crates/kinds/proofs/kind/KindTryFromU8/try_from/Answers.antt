-- `kinds::kind::KindTryFromU8::try_from` meets its contract: a byte that has no arm is in no row of the kinds.
use Rattle.std.proofs.Common.{refl}
use Rattle.mesh.specs.Tape.{kinds}
use Rattle.kinds.proofs.Bodies.{unknown}
use Rattle.kinds.proofs.kind.KindTryFromU8.try_from.Goals as goal

pub returns-in_default : goal.returns-in_default
unfolding kinds
returns-in_default c = (refl, unknown _ c.in_default.in_default-own.rest)
