-- What an entry says, and where in the list an entry with a place or a cell stands.
-- Assumes nothing.
use Prim.Native.Nat.{ℕ, ◌<◌}
use native.Mathlib.Omega.{arith}
use native.Mathlib.Decide.{dec_lt}
use mathlib.Core.Path.{◌≡◌, refl, sym, ap, ◌∙◌}
use mathlib.Core.Bool.{true}
use mathlib.Core.Option.{Option, none, some, none-ne-some, some-injective}
use mathlib.Core.List.{List}
use lib.Dec.{T}
use lib.ListN.{length, get_or-eq_default}
use Rattle.mesh.specs.Tools.{any, is_some}
use Rattle.mesh.specs.Place.{Place, same}
use Rattle.mesh.specs.State.{Entry, nil, free, used, Cell, place_of, cell_of, is_nil, is_free, is_used, is_cell, stands, cell_at, entry, cells}
use Rattle.place_laws.proofs.Bools.{and_both, and_left, and_right}
use Rattle.place_laws.proofs.Lists.{any_at, any-hit}
use Rattle.place_laws.proofs.Places.{same_refl, same-is}

-- ---- one entry

-- an entry stands at p exactly if p is its place
pub stands-place : (p : Place) (e : Entry) → T (stands p e) → place_of e ≡ some p
stands-place p nil t = absurd t
stands-place p free t = absurd t
stands-place p (used q x) t = ap some (sym (same-is p q t))

pub place-stands : (p : Place) (e : Entry) → place_of e ≡ some p → T (stands p e)
place-stands p nil h = absurd (none-ne-some _ h)
place-stands p free h = absurd (none-ne-some _ h)
place-stands p (used q x) h = rw (some-injective _ _ h) (same_refl p)

pub place-used : (e : Entry) (p : Place) → place_of e ≡ some p → e ≡ used p (cell_of e)
place-used nil p h = absurd (none-ne-some _ h)
place-used free p h = absurd (none-ne-some _ h)
place-used (used q x) p h = ap (λ (r : Place). used r x) (some-injective _ _ h)

some_is : (o : Option Cell) → T (is_some o) → (x : Cell) × (o ≡ some x)
some_is none t = absurd t
some_is (some x) t = (x, refl)

-- an entry is a cell at p
pub cell-at : (p : Place) (e : Entry) → T (cell_at p e) → (x : Cell) × (e ≡ used p (some x))
cell-at p e t =
    let (x, h) = some_is (cell_of e) (and_right (stands p e) (is_cell e) t) in
    (x, place-used e p (stands-place p e (and_left (stands p e) (is_cell e) t)) ∙ ap (used p) h)

pub is-cell-at : (p : Place) (e : Entry) (x : Cell) → e ≡ used p (some x) → T (cell_at p e)
is-cell-at p e x h = rw h (and_both (same p p) true (same_refl p) tt)

pub used-is : (e : Entry) → T (is_used e) → (p : Place) × (place_of e ≡ some p)
used-is nil t = absurd t
used-is free t = absurd t
used-is (used p x) t = (p, refl)

pub free-is : (e : Entry) → T (is_free e) → e ≡ free
free-is nil t = absurd t
free-is free t = refl
free-is (used p x) t = absurd t

pub nil_is : (e : Entry) → T (is_nil e) → e ≡ nil
nil_is nil t = refl
nil_is free t = absurd t
nil_is (used p x) t = absurd t

-- ---- in the list

-- a number with a place lies in the list
pub in_list : (es : List Entry) (n : ℕ) (p : Place) → place_of (entry es n) ≡ some p → n < length es
in_list es n p h = go (dec_lt n (length es))
  where
    go : Dec (n < length es) → n < length es
    go (yes l) = l
    go (no l) = absurd (none-ne-some _ (sym (ap place_of (get_or-eq_default es nil (omega (arith, l)))) ∙ h))

pub stands-in : (es : List Entry) (n : ℕ) (p : Place) → place_of (entry es n) ≡ some p → T (any (stands p) es)
stands-in es n p h = any_at (stands p) nil es n (in_list es n p h) (place-stands p (entry es n) h)

pub in-stands : (es : List Entry) (p : Place) → T (any (stands p) es) → (n : ℕ) × (n < length es) × (place_of (entry es n) ≡ some p)
in-stands es p t = let (n, l, h) = any-hit (stands p) nil es t in (n, l, stands-place p (entry es n) h)

pub cell-there : (es : List Entry) (n : ℕ) (p : Place) (x : Cell) → entry es n ≡ used p (some x) → T (cells es p)
unfolding cells
cell-there es n p x e = any_at (cell_at p) nil es n (in_list es n p (ap place_of e)) (is-cell-at p (entry es n) x e)

pub cell-somewhere : (es : List Entry) (p : Place) → T (cells es p) → (n : ℕ) × (x : Cell) × (entry es n ≡ used p (some x))
unfolding cells
cell-somewhere es p t =
    let (n, l, h) = any-hit (cell_at p) nil es t in
    let (x, e) = cell-at p (entry es n) h in
    (n, x, e)
