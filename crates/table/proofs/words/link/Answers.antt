-- `table::words::link` meets its contract: a word that names a row is kept.
use mathlib.Core.Path.{sym, ◌∙◌}
use mir.Syntax.{w32}
use mir.Facts.{to_z-of_z}
use borrow.Author.Rules.{sfits_of}
use Rattle.table.specs.Words.{link_of, word_of}
use Rattle.table.proofs.Signed.{within-is, link-kept, link-none}
use Rattle.table.proofs.words.link.Goals as goal

pub returns-then-x-top : goal.returns-then-x-top
unfolding link_of word_of
returns-then-x-top c =
    let z = c.raw-x.result in
    let f = sfits_of {w = w32} {z = c.raw-x.result} c.raw-x.type_inv in
    rw (← c.raw-x.ensures, to_z-of_z {z = z} f) (link-kept _ c.requires.0.small z (sym (within-is _ c.requires.0.small {z = z} f) ∙ c.if-x-top.true))

pub returns-else-x-top : goal.returns-else-x-top
unfolding link_of word_of
returns-else-x-top c =
    let z = c.raw-x.result in
    let f = sfits_of {w = w32} {z = c.raw-x.result} c.raw-x.type_inv in
    rw (← c.raw-x.ensures) (link-none _ z (sym (within-is _ c.requires.0.small {z = z} f) ∙ c.if-x-top.false))
