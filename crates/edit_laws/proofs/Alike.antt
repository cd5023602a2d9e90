-- A linked table knows of what stands at its places only the status: other cells with the same status give the same table.
-- Assumes nothing.
use Prim.Native.Nat.{ℕ, suc}
use mathlib.Core.Path.{◌≡◌, refl, ap, ap₂, ◌∙◌, fun_ext}
use mathlib.Core.Bool.{cond}
use mathlib.Core.Option.{Option}
use mathlib.Core.List.{List, [], ◌∷◌, ◌++◌, map}
use lib.IntN.{ℤ}
use Rattle.number_laws.specs.Numbered.{written}
use Rattle.mesh.specs.Tools.{first, flat}
use Rattle.mesh.specs.Place.{Place, Grid, same}
use Rattle.mesh.specs.State.{Entry, nil, used, Cell, status, value_of, stands, number}
use Rattle.edit_laws.specs.Linked.{Flags, fields_with, row_with, table_with}
use Rattle.edit_laws.proofs.Setting.{row-numbers}

module _ (x y : Place → Option Cell) (k : ℕ) where
  -- ---- numbers

  first_alike : (p : Place) (n : ℕ) (ps : List Place) → first (stands p) n (written x k ps) ≡ first (stands p) n (written y k ps)
  first_alike p n [] = refl
  first_alike p n (q ∷ ps) = ap (cond (same p q) n) (first_alike p (suc n) ps)

  pub number-alike : (ps : List Place) (p : Place) → number (nil ∷ written x k ps) p ≡ number (nil ∷ written y k ps) p
  unfolding number
  number-alike ps p = first_alike p 1 ps

  -- ---- rows

  module _ (g : Grid) (f : Flags) (alike : (p : Place) → status (value_of (used p (x p))) ≡ status (value_of (used p (y p)))) where
    rows_alike : (es : List Entry) (ps : List Place) → map (row_with g es f) (written x k ps) ≡ map (row_with g es f) (written y k ps)
    unfolding row_with fields_with
    rows_alike es [] = refl
    rows_alike es (q ∷ ps) = ap₂ ◌∷◌ (rw (alike q)) (rows_alike es ps)

    pub table-alike : (ps : List Place) → table_with g (nil ∷ written x k ps) f ≡ table_with g (nil ∷ written y k ps) f
    unfolding table_with
    table-alike ps =
        ap (λ (h : Entry → List ℤ). flat (map h (nil ∷ written x k ps))) (fun_ext (row-numbers g (nil ∷ written y k ps) (nil ∷ written x k ps) f (number-alike ps)))
        ∙ ap (λ (rows : List (List ℤ)). row_with g (nil ∷ written y k ps) f nil ++ flat rows) (rows_alike (nil ∷ written y k ps) ps)
