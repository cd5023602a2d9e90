-- `patch::patches::Patches::free_row` meets its contract.
use Rattle.patch.proofs.DroppedRows.{freed-mapped}
use Rattle.patch.proofs.patches.Patches.free_row.Goals as goal

pub invariant_of-self : goal.invariant_of-self
invariant_of-self c =
    let p = c.args.self.now in
    let (e, plain) = c.take_out.ensures in
    record { plain = plain; mapped = freed-mapped _ p.plain c.requires.1 e (c.give.ensures _ p.mapped) }
