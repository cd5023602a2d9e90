-- `carried::carried_at` meets its contract.
use mir.Facts.{to_z-of_z}
use borrow.Author.Rules.{sfits_of}
use Rattle.carried.specs.Carried.{carried_of}
use Rattle.carried.proofs.carried_at.Goals as goal

pub returns : goal.returns
unfolding carried_of
returns c = rw (to_z-of_z (sfits_of c.raw.type_inv), c.raw.ensures, c.value.ensures)
