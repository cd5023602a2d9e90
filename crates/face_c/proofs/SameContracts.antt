-- The contract of each export is that of the function of `face` of the same name, at any model: what its clauses say, and the whole. So what is shown
-- of the latter is shown of the exports, that each has one outcome (`face/proofs/ExportedOnce`) among it.
-- Assumes nothing.
use mathlib.Core.Path.{◌≡◌, refl}
use borrow.Fn.World.{World}
use Rattle.face.specs.contracts.grid_build as build-within
use Rattle.face_c.specs.contracts.grid_build as build
use Rattle.face.specs.contracts.grid_tape as tape-within
use Rattle.face_c.specs.contracts.grid_tape as tape
use Rattle.face.specs.contracts.grid_check as check-within
use Rattle.face_c.specs.contracts.grid_check as check
use Rattle.face.specs.contracts.grid_count as count-within
use Rattle.face_c.specs.contracts.grid_count as count
use Rattle.face.specs.contracts.grid_scan as scan-within
use Rattle.face_c.specs.contracts.grid_scan as scan
use Rattle.face.specs.contracts.grid_lookup as lookup-within
use Rattle.face_c.specs.contracts.grid_lookup as lookup
use Rattle.face.specs.contracts.grid_page as page-within
use Rattle.face_c.specs.contracts.grid_page as page

module _ (w : World) where
  pub build-same : (build.clauses w.𝓛 w.𝓜.mem w.𝓡.run ≡ build-within.clauses w.𝓛 w.𝓜.mem w.𝓡.run) × (build.spec w.𝓛 w.𝓜.mem w.𝓡.run ≡ build-within.spec w.𝓛 w.𝓜.mem w.𝓡.run)
  build-same = (refl, refl)

  pub tape-same : (tape.clauses w.𝓛 w.𝓜.mem w.𝓡.run ≡ tape-within.clauses w.𝓛 w.𝓜.mem w.𝓡.run) × (tape.spec w.𝓛 w.𝓜.mem w.𝓡.run ≡ tape-within.spec w.𝓛 w.𝓜.mem w.𝓡.run)
  tape-same = (refl, refl)

  pub check-same : (check.clauses w.𝓛 w.𝓜.mem w.𝓡.run ≡ check-within.clauses w.𝓛 w.𝓜.mem w.𝓡.run) × (check.spec w.𝓛 w.𝓜.mem w.𝓡.run ≡ check-within.spec w.𝓛 w.𝓜.mem w.𝓡.run)
  check-same = (refl, refl)

  pub count-same : (count.clauses w.𝓛 w.𝓜.mem w.𝓡.run ≡ count-within.clauses w.𝓛 w.𝓜.mem w.𝓡.run) × (count.spec w.𝓛 w.𝓜.mem w.𝓡.run ≡ count-within.spec w.𝓛 w.𝓜.mem w.𝓡.run)
  count-same = (refl, refl)

  pub scan-same : (scan.clauses w.𝓛 w.𝓜.mem w.𝓡.run ≡ scan-within.clauses w.𝓛 w.𝓜.mem w.𝓡.run) × (scan.spec w.𝓛 w.𝓜.mem w.𝓡.run ≡ scan-within.spec w.𝓛 w.𝓜.mem w.𝓡.run)
  scan-same = (refl, refl)

  pub lookup-same : (lookup.clauses w.𝓛 w.𝓜.mem w.𝓡.run ≡ lookup-within.clauses w.𝓛 w.𝓜.mem w.𝓡.run) × (lookup.spec w.𝓛 w.𝓜.mem w.𝓡.run ≡ lookup-within.spec w.𝓛 w.𝓜.mem w.𝓡.run)
  lookup-same = (refl, refl)

  pub page-same : (page.clauses w.𝓛 w.𝓜.mem w.𝓡.run ≡ page-within.clauses w.𝓛 w.𝓜.mem w.𝓡.run) × (page.spec w.𝓛 w.𝓜.mem w.𝓡.run ≡ page-within.spec w.𝓛 w.𝓜.mem w.𝓡.run)
  page-same = (refl, refl)
