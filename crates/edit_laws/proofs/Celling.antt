-- Several places get another cell or none, one after the other: the flags of each row are written and what it carries.
-- Assumes nothing.
use Prim.Native.Nat.{ℕ}
use native.Mathlib.Omega.{arith}
use mathlib.Core.Path.{◌≡◌, refl, sym, ap, ap₂, ◌∙◌, fun_ext}
use mathlib.Core.Logic.{◌≢◌}
use mathlib.Core.Bool.{Bool, true, false, ◌||◌, cond}
use mathlib.Core.Option.{Option, some}
use mathlib.Core.List.{List, [], ◌∷◌, map, map-map}
use lib.Ieee.{Float}
use lib.IntN.{ℤ}
use lib.ListN.{set}
use borrow.Author.Tests.{ne_eqb}
use Rattle.edit_laws.specs.Rooted.{Rooted}
use Rattle.number_laws.specs.Numbered.{Numbered}
use Rattle.mesh.specs.Tools.{any}
use Rattle.mesh.specs.Place.{Place, Grid, same, In}
use Rattle.mesh.specs.State.{Entry, nil, free, used, Cell, amount, value_of, place_of, entry, number}
use Rattle.mesh.specs.Request.{filled, fill}
use Rattle.place_laws.proofs.Places.{in-here, in-there, in_one}
use Rattle.number_laws.proofs.NumberedPlaces.{number-place}
use Rattle.number_laws.proofs.Filling.{fill-number}
use Rattle.carried.specs.Carried.{put_status, put_amount}
use Rattle.edit_laws.specs.Linked.{Flags, table_with, with_flags}
use Rattle.edit_laws.specs.Tables.{Spot, kid_at, over_spots, each_at, rewritten, put_cell, put_cell_amount, put_cells, put_amounts}
use Rattle.edit_laws.proofs.FreeNumbers.{Alive}
use Rattle.edit_laws.proofs.Setting.{map_same, map-but, filled-other, filled-here, carried_in, put-flags, put-status, fill-rooted, fill-first}
use Rattle.edit_laws.proofs.Named.{AllNamed, no_more, one_more, named-same, kid_at_lem}

-- these places' flags are others
abbrev pub with_all : List Place → ℕ → Flags → Flags
with_all qs x f p = cond (any (same p) qs) x (f p)

pub all-alive : (qs : List Place) {f : Flags} → Alive f → Alive (with_all qs 0 f)
all-alive qs {f} alive p = go (any (same p) qs)
  where
    go : (b : Bool) → cond b 0 (f p) ≢ 8192
    go true e = omega arith
    go false e = alive p e

-- ---- filling

filled_none : (y : Option Cell) (e : Entry) → filled [] y e ≡ e
filled_none y nil = refl
filled_none y free = refl
filled_none y (used p x) = refl

pub fill_none : (y : Option Cell) (es : List Entry) → fill [] y es ≡ es
unfolding fill
fill_none y [] = refl
fill_none y (e ∷ es) = λ i. filled_none y e i ∷ fill_none y es i

-- the order of the places does not count
pub fill-same : (ps qs : List Place) (y : Option Cell) (es : List Entry) → ((p : Place) → any (same p) ps ≡ any (same p) qs) → fill ps y es ≡ fill qs y es
unfolding fill
fill-same ps qs y es h = map_same (filled ps y) (filled qs y) nil es (λ n. go (entry es n))
  where
    go : (e : Entry) → filled ps y e ≡ filled qs y e
    go nil = refl
    go free = refl
    go (used p x) = rw (h p)

-- ---- one place

-- the value of each entry
abbrev pub values_of : List Entry → List Float
values_of es = map (λ e. amount (value_of e)) es

module _ (g : Grid) (es : List Entry) (u : Numbered es) (n : ℕ) (q : Place) (there : place_of (entry es n) ≡ some q) (y : Option Cell) where
  pub put-cell : (f : Flags) (x : ℕ) → rewritten x (carried_in y) (table_with g es f) n ≡ table_with g (fill (q ∷ []) y es) (with_flags q x f)
  put-cell f x = ap (λ (t : List ℤ). put_status t n (carried_in y)) (put-flags g es u f n q there x) ∙ put-status g es u (with_flags q x f) n q there y

  pub put-amount : put_amount (values_of es) n (carried_in y) ≡ values_of (fill (q ∷ []) y es)
  unfolding fill
  put-amount =
      ap (set (values_of es) n) (sym (ap amt (filled-here (q ∷ []) y (entry es n) q there (in-here q q [] refl))))
      ∙ map-but amt (λ e. amt (filled (q ∷ []) y e)) nil es n (λ m w. sym (ap amt (filled-other (q ∷ []) y (entry es m) (λ p h i. w (u.once m n q (h ∙ ap some (in_one p q i)) there)))))
      ∙ sym (map-map amt (filled (q ∷ []) y) es)
    where
      amt : Entry → Float
      amt e = amount (value_of e)

-- ---- one place after the other

pub cells-put : {g : Grid} {cap : ℕ} {es : List Entry} → Rooted g cap es → (f : Flags) (x : ℕ) (y : Option Cell) {e : ℕ} {xs : List Spot} (qs : List Place)
    → AllNamed es e xs (map some qs) → ((q : Place) → In q qs → number es q ≢ 0)
    → (put_cells x (carried_in y) cap xs (table_with g es f) ≡ table_with g (fill qs y es) (with_all qs x f))
    × (put_amounts x (carried_in y) cap xs (table_with g es f) (values_of es) ≡ values_of (fill qs y es))
unfolding over_spots put_amounts
cells-put {g} {cap} {es} r f x y [] no_more there = (ap (λ (ds : List Entry). table_with g ds f) (sym (fill_none y es)), ap values_of (sym (fill_none y es)))
cells-put {g} {cap} {es} r f x y (q ∷ qs) (one_more {x = spot} {xs = xs} n ns) there =
    let c = carried_in y in
    let t = table_with g es f in
    let k = number es q in
    let z : k ≢ 0 = there q (in-here q q qs refl) in
    let h = number-place es q z in
    let one = fill (q ∷ []) y es in
    let same_number : (o : Place) → number es o ≡ number one o = λ o. sym (fill-number (q ∷ []) y es o) in
    let words : put_cell x c t (kid_at t cap spot) ≡ table_with g one (with_flags q x f) = rw (kid_at_lem r f n, ne_eqb k 0 z) (put-cell g es r.numbered k q h y f x) in
    let values : put_cell_amount c (values_of es) (kid_at t cap spot) ≡ values_of one = rw (kid_at_lem r f n, ne_eqb k 0 z) (put-amount g es r.numbered k q h y) in
    let (a, b) = cells-put {es = one} (fill-rooted (q ∷ []) y r) (with_flags q x f) x y qs (named-same (λ o d. same_number o) ns) (λ o i w. there o (in-there o q qs i) (same_number o ∙ w)) in (
      ap (each_at (put_cell x c) cap xs) words
          ∙ a
          ∙ ap (λ (ds : List Entry). table_with g ds (with_all qs x (with_flags q x f))) (sym (fill-first q qs y es))
          ∙ ap (table_with g (fill (q ∷ qs) y es)) (fun_ext (λ p. either (same p q) (any (same p) qs) (f p))),
      ap₂ (put_amounts x c cap xs) words values ∙ b ∙ ap values_of (sym (fill-first q qs y es)),
    )
  where
    either : (a b : Bool) (m : ℕ) → cond b x (cond a x m) ≡ cond (a || b) x m
    either true true m = refl
    either true false m = refl
    either false true m = refl
    either false false m = refl
