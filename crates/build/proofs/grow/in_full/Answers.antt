-- `build::grow::in_full` meets its contract.
use Rattle.header.specs.Headers.{header_of}
use Rattle.build.proofs.FullPlaces.{full-test}
use Rattle.build.proofs.grow.in_full.Goals as goal

pub returns : goal.returns
returns c =
    let a = c.args in
    full-test (header_of a.header).grid a.up a.i a.j c.last_j.ensures.1
