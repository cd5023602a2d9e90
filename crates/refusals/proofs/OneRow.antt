-- The requests sentence and set value on the picture of a valid state: one entry alone is another, with the same place, so that one word of one row
-- changes, and for set value one value. What they leave is the picture of the state that the rules give.
-- Assumes nothing.
use Prim.Native.Nat.{ℕ, ◌+◌, ◌*◌, ◌^◌, ◌<◌}
use native.Mathlib.Nat.{pow-suc, mul_comm, mul_assoc}
use native.Mathlib.Omega.{arith}
use native.Mathlib.Decide.{ℕ_discrete}
use mathlib.Core.Path.{◌≡◌, refl, sym, ap, ◌∙◌, fun_ext}
use mathlib.Core.Logic.{◌≢◌}
use mathlib.Core.Bool.{Bool, true, false, cond}
use mathlib.Core.Option
use mathlib.Core.Option.{some}
use mathlib.Core.List.{List, [], ◌∷◌, ◌++◌, map}
use lib.Dec.{lit<}
use lib.Ieee.{Float}
use lib.IntN.{ℤ, pos}
use lib.ListN.{length, get_or, set, length-set, get_or-map}
use lib.Seq.{get_or-set_same, get_or-set_other, set-get_or, ext_get_or}
use Rattle.mesh.specs.Tools.{flat, digits, any, or_else}
use Rattle.mesh.specs.Place.{Place, Grid, same, around, In}
use Rattle.mesh.specs.Mesh.{derived, flags}
use Rattle.mesh.specs.State.{State, Entry, nil, free, used, Cell, plus_zero, amount, value_of, place_of, cell_of, is_sentenced, entry, cells, number, place_at, grid_of, with_entries}
use Rattle.mesh.specs.Valid.{Valid}
use Rattle.mesh.specs.Picture.{row_words, status_word, fields, row_of, table, amounts}
use Rattle.mesh.specs.Refusal.{refusal}
use Rattle.mesh.specs.Carrying.{sentenced_cell, measured_cell}
use Rattle.mesh.specs.Request.{sentence, set_value, loose_checks, effect, fill, filled, new_cell}
use Rattle.table.specs.Words.{word_of, flag_of}
use Rattle.carried.specs.Carried.{put_status, put_amount, measured_as}
use Rattle.place_laws.proofs.Bools.{yes-is, is-yes, no-is}
use Rattle.place_laws.proofs.Lists.{map-set}
use Rattle.place_laws.proofs.Places.{in_one, same_refl}
use Rattle.number_laws.proofs.Entries.{in_list}
use Rattle.number_laws.proofs.NumberedPlaces.{valid-numbered, place-number, not-zero}
use Rattle.number_laws.proofs.Filling.{fill-entry, fill-length, fill-number, fill-cells}
use Rattle.number_laws.proofs.Naming.{Named, named, named_in}
use Rattle.picture_laws.proofs.Rows.{map-even, row-length, set-flat, amounts-at}
use Rattle.table_laws.proofs.Pictured.{word_flags, sentenced-flag}
use Rattle.refusals.specs.OneRow.{sentence_table}

-- ---- binary digits

digits_append : (xs ys : List Bool) → digits (xs ++ ys) ≡ digits xs + 2 ^ length xs * digits ys
digits_append [] ys = let h : digits ys ≡ 0 + 1 * digits ys = omega arith in h
digits_append (x ∷ xs) ys =
    rw (digits_append xs ys, pow-suc 2 (length xs), mul_comm (2 ^ length xs) 2, mul_assoc)
    (let h : cond x 1 0 + 2 * (digits xs + 2 ^ length xs * digits ys) ≡ cond x 1 0 + 2 * digits xs + 2 * (2 ^ length xs * digits ys) = omega arith in h)

-- ---- rows

-- a row asks of the entries the numbers and the cells alone
rows-by : (g : Grid) (xs ys : List Entry) → number xs ≡ number ys → cells xs ≡ cells ys → row_of g xs ≡ row_of g ys
unfolding row_of fields
rows-by g xs ys a b = fun_ext row
  where
    said : (e : Entry) → fields g xs e ≡ fields g ys e
    said nil = refl
    said free = refl
    said (used p x) = rw b

    row : (e : Entry) → row_of g xs e ≡ row_of g ys e
    row e = λ i. map (λ o. pos (or_else 0 (a i) o)) (around g (place_of e)) ++ said e i

module _ (s : State) (v : Valid s) (n : ℕ) (d : Named s n) where
  abbrev g : Grid
  g = grid_of s

  abbrev es : List Entry
  es = s.entries

  abbrev p : Place
  p = place_at s.entries n

  its-place : place_of (entry es n) ≡ some p
  its-place = ap place_of d.is-entry

  in-entries : n < length es
  in-entries = in_list es n p its-place

  -- ---- one entry is another

  module _ (y : Cell) where
    abbrev new : List Entry
    new = fill (p ∷ []) (some y) es

    new-set : new ≡ set es n (used p (some y))
    new-set =
        ext_get_or nil new (set es n (used p (some y))) (fill-length (p ∷ []) (some y) es ∙ sym (length-set es n (used p (some y)))) (λ k _.
        fill-entry (p ∷ []) (some y) es k ∙ go k (ℕ_discrete k n) (entry es k) refl)
      where
        here : filled (p ∷ []) (some y) (used p (some d.its)) ≡ used p (some y)
        here = rw (yes-is (same p p) (same_refl p))

        other : (k : ℕ) → k ≢ n → (e : Entry) → entry es k ≡ e → filled (p ∷ []) (some y) e ≡ e
        other k z nil h = refl
        other k z free h = refl
        other k z (used q x) h = rw (no-is (any (same q) (p ∷ [])) (λ t. z (v.once k n p (ap place_of h ∙ ap some (in_one q p t)) its-place)))

        go : (k : ℕ) → Dec (k ≡ n) → (e : Entry) → entry es k ≡ e → filled (p ∷ []) (some y) (entry es k) ≡ get_or (set es n (used p (some y))) k nil
        go k (yes z) e h =
            ap (λ (m : ℕ). filled (p ∷ []) (some y) (entry es m)) z
            ∙ ap (filled (p ∷ []) (some y)) d.is-entry
            ∙ here
            ∙ sym (ap (λ (m : ℕ). get_or (set es n (used p (some y))) m nil) z ∙ get_or-set_same es n (used p (some y)) nil in-entries)
        go k (no z) e h = ap (filled (p ∷ []) (some y)) h ∙ other k z e h ∙ sym h ∙ sym (get_or-set_other es n k (used p (some y)) nil z)

    -- the rows say of other entries what they said
    same_rows : row_of g new ≡ row_of g es
    same_rows = rows-by g new es (fun_ext (fill-number (p ∷ []) (some y) es)) (fun_ext same-cells)
      where
        there : (q : Place) → In q (p ∷ []) → number es q ≢ 0
        there q i z = not-zero es (valid-numbered v) n p its-place (sym (place-number es (valid-numbered v) n p its-place) ∙ ap (number es) (sym (in_one q p i)) ∙ z)

        same-cells : (q : Place) → cells new q ≡ cells es q
        same-cells q = fill-cells (p ∷ []) (some y) es (valid-numbered v) there q ∙ go (any (same q) (p ∷ [])) refl
          where
            go : (b : Bool) → any (same q) (p ∷ []) ≡ b → cond b true (cells es q) ≡ cells es q
            go true e = sym (yes-is (cells es q) (named_in d q (is-yes (any (same q) (p ∷ [])) e)))
            go false e = refl

    new-table : table (with_entries s new) ≡ flat (set (map (row_of g es) es) n (row_of g es (used p (some y))))
    unfolding table
    new-table = ap (λ (f : Entry → List ℤ). flat (map f new)) same_rows ∙ ap (λ (xs : List Entry). flat (map (row_of g es) xs)) new-set ∙ ap flat (map-set (row_of g es) es n (used p (some y)))

    -- one word of the row is another
    new_word : (w : ℕ) (a : ℤ) → w < row_words → set (row_of g es (used p (some d.its))) w a ≡ row_of g es (used p (some y)) → set (table s) (n * row_words + w) a ≡ table (with_entries s new)
    unfolding table
    new_word w a l e =
        set-flat row_words (map (row_of g es) es) (map-even row_words (row_of g es) (row-length g es) es) n w l a (row_of g es nil)
        ∙ ap (λ (x : List ℤ). flat (set (map (row_of g es) es) n (set x w a))) (get_or-map (row_of g es) es n nil ∙ ap (row_of g es) d.is-entry)
        ∙ ap (λ (x : List ℤ). flat (set (map (row_of g es) es) n x)) e
        ∙ sym new-table

    new-amounts : amounts (with_entries s new) ≡ set (amounts s) n (amount y.value)
    unfolding amounts
    new-amounts = ap (map (λ e. amount (value_of e))) new-set ∙ map-set (λ e. amount (value_of e)) es n (used p (some y))

  -- ---- the words that change

  flags-word : (b : Bool) → digits (flags g (cells es) p b) + cond b 0 4096 ≡ digits (flags g (cells es) p true)
  unfolding flags derived
  flags-word b = sum b ∙ go b ∙ sym (parts true)
    where
      low : ℕ
      low = digits (derived g (cells es) p)

      parts : (b : Bool) → digits (flags g (cells es) p b) ≡ low + 2048 * digits (false ∷ b ∷ false ∷ [])
      parts b = digits_append (derived g (cells es) p) (false ∷ b ∷ false ∷ [])

      sum : (b : Bool) → digits (flags g (cells es) p b) + cond b 0 4096 ≡ low + 2048 * digits (false ∷ b ∷ false ∷ []) + cond b 0 4096
      sum b = ap (λ (k : ℕ). k + cond b 0 4096) (parts b)

      go : (b : Bool) → low + 2048 * digits (false ∷ b ∷ false ∷ []) + cond b 0 4096 ≡ low + 2048 * digits (false ∷ true ∷ false ∷ [])
      go true = omega arith
      go false = omega arith

  new-flags : word_of (table s) n 12 + cond (flag_of (table s) 12 n) 0 4096 ≡ digits (flags g (cells es) p true)
  new-flags = rw (word_flags s n p its-place, sentenced-flag s n p its-place) (flags-word (is_sentenced (entry es n)))

-- ---- "sentence"

module _ (s : State) (v : Valid s) (n : ℕ) where
  its-new : (d : Named s n) (f : Cell → Cell) → new_cell s n f ≡ some (f d.its)
  its-new d f = ap (λ (e : Entry). Option.map f (cell_of e)) d.is-entry

  module _ (ok : refusal (loose_checks s (sentence n)) ≡ 0) where
    sentence-named : Named s n
    unfolding loose_checks
    sentence-named = (named s v n _ ok).0

    pub sentence-table : sentence_table (table s) n ≡ table (effect s (sentence n))
    unfolding sentence_table effect row_of around fields
    sentence-table =
        let d = sentence-named in
        rw (its-new d sentenced_cell, new-flags s v n d)
        (new_word s v n d (sentenced_cell d.its) 12 (pos (digits (flags (grid_of s) (cells s.entries) (place_at s.entries n) true))) (lit< tt) refl)

    pub sentence-amounts : amounts s ≡ amounts (effect s (sentence n))
    unfolding effect
    sentence-amounts =
        let d = sentence-named in
        rw (its-new d sentenced_cell)
        (sym (new-amounts s v n d (sentenced_cell d.its)
        ∙ ap (set (amounts s) n) (sym (amounts-at s n ∙ ap (λ (e : Entry). amount (value_of e)) d.is-entry))
        ∙ set-get_or (amounts s) n plus_zero))

  -- ---- "set value, status 1"

  module _ (x : Float) (ok : refusal (loose_checks s (set_value n x)) ≡ 0) where
    set-named : Named s n
    unfolding loose_checks
    set-named = (named s v n _ ok).0

    pub set-table : put_status (table s) n (measured_as x) ≡ table (effect s (set_value n x))
    unfolding effect row_of around fields
    set-table =
        let d = set-named in
        rw (its-new d (measured_cell x))
        (new_word s v n d (measured_cell x d.its) status_word (pos 1) (lit< tt) refl)

    pub set-amounts : put_amount (amounts s) n (measured_as x) ≡ amounts (effect s (set_value n x))
    unfolding effect
    set-amounts =
        let d = set-named in
        rw (its-new d (measured_cell x)) (sym (new-amounts s v n d (measured_cell x d.its)))
