-- The place, the flags Complete, Sentenced and Dead, the status and the value of each row give a valid state back, so that a table and values
-- picture one valid state at most.
-- Assumes nothing.
use Prim.Native.Nat.{ℕ, suc, ◌+◌, ◌-◌, ◌*◌, ◌/◌, ◌%◌, ◌^◌, ◌≤◌, ◌<◌}
use native.Mathlib.Nat.{zero-lt-suc, pow-suc}
use native.Mathlib.Omega.{arith}
use native.Mathlib.Decide.{dec_lt}
use mathlib.Core.Path.{◌≡◌, refl, sym, ap, ◌∙◌}
use mathlib.Core.Bool.{Bool, true, false, not, cond}
use mathlib.Core.Option.{Option, none, some}
use mathlib.Core.List.{List, [], ◌∷◌, map, tail}
use lib.Dec.{T, eqb, lit<}
use lib.IntN.{pos, nat_abs, sub_ℕ, ◌+ℤ◌}
use lib.ListN.{length, get_or, drop}
use lib.Seq.{take_at, drop_at}
use borrow.Author.Tests.{lt-ltb, le-ltb, eq-eqb, ne_eqb}
use Rattle.mesh.specs.Tools.{flat, digits, is_some}
use Rattle.mesh.specs.Place.{Place, Grid, around, base, level}
use Rattle.mesh.specs.Mesh.{derived, flags}
use Rattle.mesh.specs.State.{State, Entry, nil, free, used, Cell, Value, blank, measured, carried, status, amount, place_of, cell_of, is_nil, is_cell, is_sentenced, value_of, entry, cells, grid_of}
use Rattle.mesh.specs.Valid.{Valid}
use Rattle.mesh.specs.Picture.{row_words, fields, row_of, table, amounts, picture}
use Rattle.mesh.specs.Decode.{digits_of, value_from, flag, place_from, entry_from, entries_from, decode}
use Rattle.place_laws.proofs.Places.{place-path}
use Rattle.number_laws.proofs.Entries.{place-used}
use Rattle.number_laws.proofs.NumberedPlaces.{valid-numbered, entry-contents, cells-contents}
use Rattle.picture_laws.proofs.Rows.{row-length}

-- ---- numbers

pub low_digit : (b : Bool) (n : ℕ) → eqb ((cond b 1 0 + 2 * n) % 2) 1 ≡ b
low_digit true n = eq-eqb ((1 + 2 * n) % 2) 1 (omega arith)
low_digit false n = ne_eqb ((0 + 2 * n) % 2) 1 (λ h. omega arith)

pub high-digits : (b : Bool) (n : ℕ) → (cond b 1 0 + 2 * n) / 2 ≡ n
high-digits true n = let h : (1 + 2 * n) / 2 ≡ n = omega arith in h
high-digits false n = let h : (0 + 2 * n) / 2 ≡ n = omega arith in h

pub digits-back : (bs : List Bool) → digits_of (length bs) (digits bs) ≡ bs
digits-back [] = refl
digits-back (b ∷ bs) = rw (low_digit b (digits bs), high-digits b (digits bs), digits-back bs)

pub digits_lt : (xs : List Bool) → digits xs < 2 ^ length xs
digits_lt [] = lit< tt
digits_lt (x ∷ xs) = rw (pow-suc 2 (length xs)) (go x (digits_lt xs))
  where
    go : (b : Bool) → digits xs < 2 ^ length xs → cond b 1 0 + 2 * digits xs < 2 ^ length xs * 2
    go true h = omega arith
    go false h = omega arith

pub level-back : (a b : ℕ) → nat_abs (sub_ℕ a b +ℤ pos b) ≡ a
level-back a b = go (dec_lt a b)
  where
    go : Dec (a < b) → nat_abs (sub_ℕ a b +ℤ pos b) ≡ a
    go (yes h) = rw (lt-ltb a b h) (rw (le-ltb b (suc (b - suc a)) (omega arith)) (let r : b - suc (b - suc a) ≡ a = omega arith in r))
    go (no h) = rw (le-ltb a b (omega (arith, h))) (let r : a - b + b ≡ a = omega (arith, h) in r)

value-back : (v : Value) → value_from (status v) (amount v) ≡ v
value-back blank = refl
value-back (measured x) = refl
value-back (carried x) = refl

-- ---- one row

module _ (g : Grid) (es : List Entry) where
  -- what is read of a patch's row
  pub flag-back : (p : Place) (o : Option Cell) (k : ℕ) → flag (row_of g es (used p o)) k ≡ get_or (flags g (cells es) p (is_sentenced (used p o))) k false
  unfolding row_of around fields flags derived
  flag-back p o k = ap (λ (l : List Bool). get_or l k false) (digits-back (flags g (cells es) p (is_sentenced (used p o))))

  pub place-back : (p : Place) (o : Option Cell) → place_from g (row_of g es (used p o)) ≡ p
  unfolding row_of around fields level
  place-back p o = place-path (place_from g (row_of g es (used p o))) p (level-back p.depth (base g)) refl refl

  -- an entry that is not nil comes back, if it is a cell exactly where the list has one
  pub row_back : (e : Entry) → T (not (is_nil e)) → ((p : Place) → place_of e ≡ some p → cells es p ≡ is_cell e) → entry_from g (row_of g es e) (amount (value_of e)) ≡ e
  unfolding row_of around fields flags derived
  row_back nil t c = absurd t
  row_back free t c = refl
  row_back (used p none) t c =
      let dead : flag (row_of g es (used p none)) 13 ≡ false = flag-back p none 13 in
      let complete : flag (row_of g es (used p none)) 0 ≡ false = flag-back p none 0 ∙ c p refl in
      rw (dead, complete, place-back p none)
  row_back (used p (some x)) t c =
      let dead : flag (row_of g es (used p (some x))) 13 ≡ false = flag-back p (some x) 13 in
      let complete : flag (row_of g es (used p (some x))) 0 ≡ true = flag-back p (some x) 0 ∙ c p refl in
      let sentenced : flag (row_of g es (used p (some x))) 12 ≡ x.sentenced = flag-back p (some x) 12 in
      rw (dead, complete, sentenced, place-back p (some x), value-back x.value)

  -- ---- the rows

  pub entries-back : (ds : List Entry) → ((n : ℕ) → n < length ds → entry_from g (row_of g es (entry ds n)) (amount (value_of (entry ds n))) ≡ entry ds n)
      → entries_from g (flat (map (row_of g es) ds)) (map (λ e. amount (value_of e)) ds) ≡ ds
  entries-back [] h = refl
  entries-back (e ∷ ds) h =
      rw (
        take_at (row_of g es e) (flat (map (row_of g es) ds)) row_words (row-length g es e),
        drop_at (row_of g es e) (flat (map (row_of g es) ds)) row_words (row-length g es e),
        h 0 (zero-lt-suc _),
        entries-back ds (λ n l. h (suc n) (omega (arith, l))),
      )

module _ (s : State) (v : Valid s) where
  -- each number after 0
  entry-back : (n : ℕ) (e : Entry) → entry s.entries n ≡ e → 1 ≤ n → n < length s.entries → entry_from (grid_of s) (row_of (grid_of s) s.entries e) (amount (value_of e)) ≡ e
  entry-back n e h l m =
      row_back (grid_of s) s.entries e (rw h at (v.others n l (omega arith)))
      (λ p a. cells-contents s.entries (valid-numbered v) p ∙ ap is_some (entry-contents s.entries (valid-numbered v) n p (cell_of e) (h ∙ place-used e p a)))

  all_back : (es : List Entry) → s.entries ≡ es → nil ∷ entries_from (grid_of s) (drop row_words (flat (map (row_of (grid_of s) s.entries) es))) (tail (map (λ e. amount (value_of e)) es)) ≡ es
  all_back [] h = absurd (let z : length s.entries ≡ 0 = rw h in omega (arith, v.sizes.0))
  all_back (e ∷ es) h =
      let r = row_of (grid_of s) s.entries in
      let first : e ≡ nil = ap (λ (l : List Entry). entry l 0) (sym h) ∙ v.zeroth in
      let size : length s.entries ≡ suc (length es) = rw h in
      let others = entries-back (grid_of s) s.entries es (λ n l. entry-back (suc n) (entry es n) (ap (λ (l : List Entry). entry l (suc n)) h) (omega arith) (omega arith)) in
      rw (drop_at (r e) (flat (map r es)) row_words (row-length (grid_of s) s.entries e), others, first)

  -- decoding the picture of a valid state gives it back
  pub decode-back : decode (picture s) ≡ s
  unfolding decode table amounts
  decode-back = λ i. record { header = s.header; entries = all_back s.entries refl i }

-- so a picture has one valid state at most
pub picture-one : (s t : State) → Valid s → Valid t → picture s ≡ picture t → s ≡ t
picture-one s t v w e = sym (decode-back s v) ∙ ap decode e ∙ decode-back t w
