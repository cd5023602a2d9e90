-- `tally::moves::Rows::removed` meets its contract: there is room for the cell, and then its four kids can be had, one after the other.
use native.Mathlib.Omega.{arith}
use mathlib.Core.Path.{refl}
use Rattle.tally.proofs.CountLaws.{room, come, onward, there-first, moved-four}
use Rattle.tally.proofs.moves.Rows.removed.Goals as goal

pub add-requires : goal.add-requires
add-requires c = room c.requires.3 c.place_of.ensures

pub take_kid-requires : goal.take_kid-requires
take_kid-requires c =
    let p = c.requires in
    let t = come p.3 c.place_of.ensures c.add.ensures in
    (p.0, omega arith, omega arith, p.2, there-first _ _ _ t)

pub take_kid-requires-2 : goal.take_kid-requires-2
take_kid-requires-2 c =
    let p = c.requires in
    let t = onward (come p.3 c.place_of.ensures c.add.ensures) c.take_kid.ensures in
    (p.0, omega arith, omega arith, p.2, there-first _ _ _ t)

pub take_kid-requires-3 : goal.take_kid-requires-3
take_kid-requires-3 c =
    let p = c.requires in
    let t = onward (onward (come p.3 c.place_of.ensures c.add.ensures) c.take_kid.ensures) c.take_kid-2.ensures in
    (p.0, omega arith, omega arith, p.2, there-first _ _ _ t)

pub take_kid-requires-4 : goal.take_kid-requires-4
take_kid-requires-4 c =
    let p = c.requires in
    let t = onward (onward (onward (come p.3 c.place_of.ensures c.add.ensures) c.take_kid.ensures) c.take_kid-2.ensures) c.take_kid-3.ensures in
    (p.0, omega arith, omega arith, p.2, there-first _ _ _ t)

pub returns : goal.returns
returns c =
    moved-four _ _ c.place_of.ensures c.add.ensures refl c.take_kid.ensures c.take_kid-2.ensures c.take_kid-3.ensures c.take_kid-4.ensures
