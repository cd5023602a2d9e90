-- `readable::plain_row` meets its contract: the tests in turn.
use Prim.Native.Nat.{◌+◌}
use mathlib.Core.Path.{ap, ◌∙◌}
use lib.Dec.{leb}
use mir.Syntax.{w32}
use mir.Facts.{to_z-of_z}
use borrow.Author.Rules.{sfits_of}
use Rattle.table.specs.Words.{code, depth_from, depth_of, word_of}
use Rattle.readable.proofs.ReadableRows.{plain-row-is}
use Rattle.readable.proofs.plain_row.Goals as goal

pub returns : goal.returns
unfolding depth_of word_of
returns c =
    let a = c.args in
    plain-row-is _ _ a.d a.n c.linked_ok.ensures (c.is_level.ensures ∙ ap (λ x. leb (depth_from a.d (code x)) (a.d + 12)) (to_z-of_z {w = w32} (sfits_of c.raw.type_inv) ∙ c.raw.ensures)) c.is_positive.ensures c.is_positive-2.ensures c.is_positive-3.ensures
