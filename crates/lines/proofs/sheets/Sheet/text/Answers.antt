-- `lines::sheets::Sheet::text` meets its contract: the part is the text.
use Rattle.std.proofs.Common.{refl}
use Rattle.lines.proofs.Puts.{copied}
use Rattle.lines.proofs.sheets.Sheet.text.Goals as goal

pub returns : goal.returns
returns c =
    let a = c.args in
    record { same = refl; put = record { stored = rw c.copy_from_slice.ensures.after (copied a.s.now a.self.now.out.now a.self.now.at c.requires); next = refl } }
