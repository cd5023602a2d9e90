-- The values of a pruned list: a freed number had no cell, so that its value was +0 already.
-- Assumes nothing.
use mathlib.Core.Path.{◌≡◌, refl, ap, ◌∙◌}
use Prim.Native.Nat.{ℕ}
use mathlib.Core.Bool.{Bool, true, false, cond}
use mathlib.Core.Option.{none, some}
use mathlib.Core.List.{List, map-map}
use lib.Dec.{T}
use lib.Ieee.{Float}
use Rattle.mesh.specs.Place.{Place, Grid}
use Rattle.mesh.specs.Mesh.{patch}
use Rattle.mesh.specs.State.{Entry, nil, free, used, value_of, amount, entry, cells}
use Rattle.mesh.specs.Request.{pruned, prune}
use Rattle.number_laws.proofs.Entries.{cell-there}
use Rattle.number_laws.proofs.Pruning.{pruned-kept}
use Rattle.edit_laws.proofs.Setting.{map_same}
use Rattle.edit_laws.proofs.Celling.{values_of}

pub prune-values : (g : Grid) (es : List Entry) → ((q : Place) → T (cells es q) → T (patch g (cells es) q)) → values_of (prune g es) ≡ values_of es
unfolding prune
prune-values g es h = map-map amt (pruned g (cells es)) es ∙ map_same (λ e. amt (pruned g (cells es) e)) amt nil es (λ n. one n (entry es n) refl)
  where
    amt : Entry → Float
    amt e = amount (value_of e)

    bare : (q : Place) (b : Bool) → amt (cond b (used q none) free) ≡ amt (used q none)
    bare q true = refl
    bare q false = refl

    one : (n : ℕ) (e : Entry) → entry es n ≡ e → amt (pruned g (cells es) e) ≡ amt e
    one n nil i = refl
    one n free i = refl
    one n (used q none) i = bare q (patch g (cells es) q)
    one n (used q (some x)) i = ap amt (pruned-kept g (cells es) (used q (some x)) q refl (h q (cell-there es n q x i)))
