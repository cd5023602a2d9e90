-- One field of one row is set: the flags of a place become others, or what it carries becomes that of another cell. The links do not know either.
-- Assumes nothing.
use Prim.Native.Nat.{ℕ, zero, suc, ◌+◌, ◌*◌, ◌<◌}
use native.Mathlib.Omega.{arith}
use mathlib.Core.Path.{◌≡◌, refl, sym, ap, ap₂, ◌∙◌, fun_ext}
use mathlib.Core.Logic.{◌≢◌}
use mathlib.Core.Bool.{Bool, true, false, ◌||◌, cond}
use mathlib.Core.Option.{Option, some}
use mathlib.Core.List.{List, [], ◌∷◌, ◌++◌, map, map-map}
use lib.IntN.{ℤ, pos}
use lib.ListN.{length, get_or, set, get_or-map}
use Rattle.edit_laws.specs.Rooted.{Rooted}
use Rattle.number_laws.specs.Numbered.{Numbered}
use Rattle.mesh.specs.Tools.{any, flat, or_else}
use Rattle.mesh.specs.Place.{Place, Grid, same, around, In}
use Rattle.mesh.specs.State.{Entry, nil, free, used, Cell, blank, place_of, cell_of, entry, number}
use Rattle.mesh.specs.Picture.{row_words, status_word}
use Rattle.mesh.specs.Request.{filled, fill}
use Rattle.place_laws.proofs.Bools.{yes-is, no-is}
use Rattle.place_laws.proofs.Places.{same-is, same_refl, in-here, in_one}
use Rattle.number_laws.proofs.Entries.{place-used}
use Rattle.number_laws.proofs.Filling.{fill-length, fill-place, fill-number, fill-stands, fill-numbered}
use Rattle.picture_laws.proofs.Rows.{map-even, set-flat}
use Rattle.carried.specs.Carried.{carried_for, put_status}
use Rattle.carried.specs.declared.Carried.{Carried}
use Rattle.edit_laws.specs.Linked.{Flags, fields_with, row_with, table_with, with_flags}
use Rattle.edit_laws.specs.PatchSteps.{put_word}
use Rattle.edit_laws.proofs.Linked.{row-length}

-- ---- rows of entries, one of them changed

module _ {A B : Type 0} (h h' : A → B) (d : A) where
  pub map_same : (xs : List A) → ((n : ℕ) → h (get_or xs n d) ≡ h' (get_or xs n d)) → map h xs ≡ map h' xs
  map_same [] e = refl
  map_same (x ∷ xs) e = ap₂ ◌∷◌ (e 0) (map_same xs (λ n. e (suc n)))

  pub map-but : (xs : List A) (n : ℕ) → ((m : ℕ) → m ≢ n → h (get_or xs m d) ≡ h' (get_or xs m d)) → set (map h xs) n (h' (get_or xs n d)) ≡ map h' xs
  map-but [] n e = refl
  map-but (x ∷ xs) zero e = ap (λ (ys : List B). h' x ∷ ys) (map_same xs (λ m. e (suc m) (λ z. omega arith)))
  map-but (x ∷ xs) (suc n) e = ap₂ ◌∷◌ (e 0 (λ z. omega arith)) (map-but xs n (λ m z. e (suc m) (λ y. z (let i : m ≡ n = omega arith in i))))

-- a word of a row is set, and the other rows are as they were
set-row : (h h' : Entry → List ℤ) → ((e : Entry) → length (h e) ≡ row_words) → (es : List Entry) (n w : ℕ) (a : ℤ) → w < row_words
    → ((m : ℕ) → m ≢ n → h (entry es m) ≡ h' (entry es m)) → set (h (entry es n)) w a ≡ h' (entry es n)
    → set (flat (map h es)) (n * row_words + w) a ≡ flat (map h' es)
set-row h h' even es n w a l others own =
    set-flat row_words (map h es) (map-even row_words h even es) n w l a (h nil)
    ∙ ap (λ (r : List ℤ). flat (set (map h es) n (set r w a))) (get_or-map h es n nil)
    ∙ ap (λ (r : List ℤ). flat (set (map h es) n r)) own
    ∙ ap flat (map-but h h' nil es n others)

-- ---- flags

module _ (g : Grid) (es : List Entry) where
  row-flags : (f f' : Flags) (e : Entry) → ((p : Place) → place_of e ≡ some p → f p ≡ f' p) → row_with g es f e ≡ row_with g es f' e
  unfolding row_with fields_with
  row-flags f f' nil h = refl
  row-flags f f' free h = refl
  row-flags f f' (used p x) h = rw (h p refl)

  -- only the flags of places that stand are written
  pub flags-same : (f f' : Flags) → ((n : ℕ) (p : Place) → place_of (entry es n) ≡ some p → f p ≡ f' p) → table_with g es f ≡ table_with g es f'
  unfolding table_with
  flags-same f f' h = ap flat (map_same (row_with g es f) (row_with g es f') nil es (λ n. row-flags f f' (entry es n) (h n)))

  module _ (u : Numbered es) (f : Flags) (n : ℕ) (q : Place) (there : place_of (entry es n) ≡ some q) where
    others_apart : (m : ℕ) → m ≢ n → (p : Place) → place_of (entry es m) ≡ some p → p ≢ q
    others_apart m z p h e = z (u.once m n q (h ∙ ap some e) there)

    own-flags : (x : ℕ) (e : Entry) → e ≡ used q (cell_of e) → set (row_with g es f e) 12 (pos x) ≡ row_with g es (with_flags q x f) e
    unfolding row_with around fields_with
    own-flags x e h = rw h (rw (yes-is (same q q) (same_refl q)))

    pub put-flags : (x : ℕ) → put_word (table_with g es f) n 12 x ≡ table_with g es (with_flags q x f)
    unfolding table_with
    put-flags x =
        set-row (row_with g es f) (row_with g es (with_flags q x f)) (row-length g es f) es n 12 (pos x) (omega arith)
        (λ m z. row-flags f (with_flags q x f) (entry es m) (λ p h. sym (rw (no-is (same p q) (λ t. others_apart m z p h (same-is p q t))))))
        (own-flags x (entry es n) (place-used (entry es n) q there))

-- ---- another cell, or none

-- what its row carries
abbrev pub carried_in : Option Cell → Carried
carried_in y = carried_for (or_else blank (λ x. x.value) y)

-- the rows know the entries by their numbers alone
pub row-numbers : (g : Grid) (es ds : List Entry) (f : Flags) → ((p : Place) → number ds p ≡ number es p) → (e : Entry) → row_with g ds f e ≡ row_with g es f e
unfolding row_with
row-numbers g es ds f h e = ap (λ (k : Place → ℕ). map (λ o. pos (or_else 0 k o)) (around g (place_of e)) ++ fields_with g f e) (fun_ext h)

pub filled-other : (ps : List Place) (y : Option Cell) (e : Entry) → ((p : Place) → place_of e ≡ some p → In p ps → ⊥) → filled ps y e ≡ e
filled-other ps y nil h = refl
filled-other ps y free h = refl
filled-other ps y (used p x) h = rw (no-is (any (same p) ps) (h p refl))

pub filled-here : (ps : List Place) (y : Option Cell) (e : Entry) (q : Place) → place_of e ≡ some q → In q ps → filled ps y e ≡ used q y
filled-here ps y e q h i = ap (filled ps y) (place-used e q h) ∙ rw (yes-is (any (same q) ps) i)

module _ (g : Grid) (es : List Entry) (u : Numbered es) (f : Flags) (n : ℕ) (q : Place) (there : place_of (entry es n) ≡ some q) (y : Option Cell) where
  own-status : (e : Entry) → e ≡ used q (cell_of e) → set (row_with g es f e) status_word (carried_in y).status ≡ row_with g es f (used q y)
  unfolding row_with around fields_with
  own-status e h = rw h

  pub put-status : put_status (table_with g es f) n (carried_in y) ≡ table_with g (fill (q ∷ []) y es) f
  unfolding table_with fill
  put-status =
      set-row (row_with g es f) (λ e. row_with g (fill (q ∷ []) y es) f (filled (q ∷ []) y e)) (row-length g es f) es n status_word (carried_in y).status (omega arith)
      (λ m z. sym (row (entry es m) ∙ ap (row_with g es f) (filled-other (q ∷ []) y (entry es m) (λ p h i. others_apart g es u f n q there m z p h (in_one p q i)))))
      (own-status (entry es n) (place-used (entry es n) q there) ∙ sym (row (entry es n) ∙ ap (row_with g es f) (filled-here (q ∷ []) y (entry es n) q there (in-here q q [] refl))))
      ∙ ap flat (sym (map-map (row_with g (fill (q ∷ []) y es) f) (filled (q ∷ []) y) es))
    where
      row : (e : Entry) → row_with g (fill (q ∷ []) y es) f (filled (q ∷ []) y e) ≡ row_with g es f (filled (q ∷ []) y e)
      row e = row-numbers g es (fill (q ∷ []) y es) f (fill-number (q ∷ []) y es) (filled (q ∷ []) y e)

-- the tree stays
pub fill-rooted : {g : Grid} {cap : ℕ} {es : List Entry} (ps : List Place) (y : Option Cell) → Rooted g cap es → Rooted g cap (fill ps y es)
fill-rooted {g} {cap} {es} ps y r = record {
  numbered = fill-numbered ps y es r.numbered;
  long = fill-length ps y es ∙ r.long;
  sizes = r.sizes;
  laps = r.laps;
  first-root = fill-place ps y es 1 ∙ r.first-root;
  top = λ n p h. r.top n p (sym (fill-place ps y es n) ∙ h);
  deepest = λ n p h. r.deepest n p (sym (fill-place ps y es n) ∙ h);
  parents = λ n q p h e. rw (fill-stands ps y es p) (r.parents n q p (sym (fill-place ps y es n) ∙ h) e);
}

-- several places get it one after the other
pub fill-first : (q : Place) (qs : List Place) (y : Option Cell) (es : List Entry) → fill (q ∷ qs) y es ≡ fill qs y (fill (q ∷ []) y es)
unfolding fill
fill-first q qs y es = map_same (filled (q ∷ qs) y) (λ e. filled qs y (filled (q ∷ []) y e)) nil es (λ n. one (entry es n)) ∙ sym (map-map (filled qs y) (filled (q ∷ []) y) es)
  where
    either : (a b : Bool) (x : Option Cell) → cond (a || b) y x ≡ cond b y (cond (a || false) y x)
    either true true x = refl
    either true false x = refl
    either false true x = refl
    either false false x = refl

    one : (e : Entry) → filled (q ∷ qs) y e ≡ filled qs y (filled (q ∷ []) y e)
    one nil = refl
    one free = refl
    one (used p x) = ap (used p) (either (same p q) (any (same p) qs) x)
