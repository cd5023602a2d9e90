-- `table::words::word` meets its contract: the code of the word that is read.
use mathlib.Core.Path.{ap, ◌∙◌}
use mir.Syntax.{w32}
use mir.Facts.{to_z-of_z}
use borrow.Author.Rules.{sfits_of}
use Rattle.table.specs.Words.{code, word_of}
use Rattle.table.proofs.words.word.Goals as goal

pub returns : goal.returns
unfolding word_of
returns c = c.coded.ensures ∙ ap code (to_z-of_z {w = w32} (sfits_of c.raw.type_inv) ∙ c.raw.ensures)
