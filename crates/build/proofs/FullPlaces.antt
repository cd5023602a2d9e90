-- Which places of the full rectangle are patches, by halving.
-- Assumes nothing.
use Prim.Native.Nat.{ℕ, ◌*◌, ◌/◌, ◌^◌}
use native.Mathlib.Nat.{le-div_iff_mul-le, one-le-pow}
use native.Mathlib.Omega.{arith}
use mathlib.Core.Path.{◌≡◌, ap, ap₂, ◌∙◌}
use mathlib.Core.Bool.{◌&&◌}
use lib.Dec.{leb, leb→le, le→leb}
use Rattle.mesh.specs.Place.{Grid}
use Rattle.mesh.specs.Seam.{last_j}
use Rattle.place_laws.proofs.Bools.{bool-ext}
use Rattle.edit_laws.specs.Built.{in_full}

halved-test : (i n k : ℕ) → leb i (k / 2 ^ n) ≡ leb (i * 2 ^ n) k
halved-test i n k =
    bool-ext (leb i (k / 2 ^ n)) (leb (i * 2 ^ n) k)
    (λ t. le→leb _ _ ((le-div_iff_mul-le {k = 2 ^ n} {x = i} {y = k} (one-le-pow n 2 (omega arith))).0 (leb→le _ _ t)))
    (λ t. le→leb _ _ ((le-div_iff_mul-le {k = 2 ^ n} {x = i} {y = k} (one-le-pow n 2 (omega arith))).1 (leb→le _ _ t)))

pub full-test : (g : Grid) (up i j : ℕ) → {k : ℕ} → k ≡ last_j g → (leb i (g.columns / 2 ^ up) && leb j (k / 2 ^ up)) ≡ in_full g up i j
full-test g up i j e = ap₂ ◌&&◌ (halved-test i up g.columns) (ap (λ (x : ℕ). leb j (x / 2 ^ up)) e ∙ halved-test j up (last_j g))
