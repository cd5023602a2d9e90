-- An accepted refinement on the table: the nine patches are supplied where they are missing, the kids become cells with what they inherit, and
-- the rows around them are refreshed. What is left is the picture of the refined state, and the values are those of it.
-- Assumes nothing.
use Prim.Native.Nat.{ℕ, ◌≤◌}
use native.Mathlib.Omega.{arith}
use mathlib.Core.Path.{◌≡◌, refl, sym, ap, ap₂, ◌∙◌, subst}
use mathlib.Core.Logic.{◌≢◌}
use mathlib.Core.Bool.{Bool, true, false, ◌||◌, cond}
use mathlib.Core.Option.{some}
use mathlib.Core.List.{List, map}
use lib.Dec.{T}
use lib.IntN.{ℤ}
use lib.Ieee.{Float}
use lib.ListN.{length-map, get_or-map}
use lib.Seq.{ext_get_or}
use Rattle.number_laws.specs.Numbered.{Numbered}
use Rattle.mesh.specs.Tools.{any, or_else}
use Rattle.mesh.specs.Place.{Place, Grid, base, same, kids, parent, to_east, In}
use Rattle.mesh.specs.State.{State, Entry, nil, Cell, Value, blank, measured, carried, amount, plus_zero, value_of, place_of, stands, entry, cells, number, grid_of, capacity, with_entries, contents}
use Rattle.mesh.specs.Valid.{Valid}
use Rattle.mesh.specs.Picture.{table, amounts}
use Rattle.mesh.specs.Refusal.{refusal}
use Rattle.mesh.specs.Carrying.{inherited, kid_cell}
use Rattle.mesh.specs.Request.{refine, wanted, loose_checks, give, fill, effect}
use Rattle.place_laws.proofs.Bools.{no-is}
use Rattle.place_laws.proofs.Kids.{parent-depth, up, up_is, in-parent}
use Rattle.place_laws.proofs.Near.{Corner, c-east, corner-up}
use Rattle.place_laws.proofs.Tree.{touched-patch}
use Rattle.place_laws.proofs.Base.{lap-many}
use Rattle.place_laws.proofs.Wanted.{wanted-corner, wanted-distinct, kid-wanted}
use Rattle.place_laws.proofs.Frames.{grown-else}
use Rattle.number_laws.proofs.NumberedPlaces.{valid-numbered, numbered-not-zero}
use Rattle.number_laws.proofs.Filling.{fill-place, fill-number}
use Rattle.number_laws.proofs.Giving.{Change, stays, taken, Gave, kept-place, kept-number}
use Rattle.number_laws.proofs.Refining.{Refinable, refinable, have, here, kids-there, after-numbered, after-contents, after-cells, after-valid, effect_is}
use Rattle.table.specs.Words.{free_at}
use Rattle.carried.specs.Carried.{carried_of, carried_for, passed_down}
use Rattle.carried.specs.declared.Carried.{Carried}
use Rattle.table_laws.proofs.Pictured.{carried-there}
use Rattle.table_laws.proofs.LinkedRows.{corner-numbered}
use Rattle.edit_laws.specs.Linked.{Flags, table_with, flags_of}
use Rattle.edit_laws.specs.Tables.{kid_spots, wanted_spots, put_cells, put_amounts, supplied_near, refine_table, refine_values}
use Rattle.edit_laws.proofs.Linked.{picture-linked}
use Rattle.edit_laws.proofs.Rooted.{valid-rooted}
use Rattle.edit_laws.proofs.Setting.{fill-rooted}
use Rattle.edit_laws.proofs.FlagsAnew.{bit}
use Rattle.edit_laws.proofs.Named.{AllNamed, kids_in_turn, kids-turn, kids-named, wanted-named}
use Rattle.edit_laws.proofs.Celling.{with_all, fill-same, values_of, cells-put}
use Rattle.edit_laws.proofs.FreeNumbers.{free-at, fill-frees}
use Rattle.edit_laws.proofs.Supplying.{Shows, give-shows}
use Rattle.edit_laws.proofs.Starting.{start_flags, start-stands, start-blank, start-alive, start-complete, start-sentenced, picture-start, free-numbers}
use Rattle.edit_laws.proofs.Nearby.{Nearly, refresh-near}

-- "kids of a blank cell are blank, otherwise carried"
passed-down : (w : Value) → passed_down (carried_for w) ≡ carried_for (inherited w)
passed-down blank = refl
passed-down (measured y) = refl
passed-down (carried y) = refl

module _ (s : State) (v : Valid s) (n : ℕ) (p : Place) (x : Cell) (r : Refinable s n p x) where
  abbrev g : Grid
  g = grid_of s

  abbrev es : List Entry
  es = s.entries

  abbrev cap : ℕ
  cap = capacity s

  abbrev f : Flags
  f = start_flags (grid_of s) s.entries

  abbrev given : State
  given = give s (wanted (grid_of s) p)

  abbrev after : List Entry
  after = fill (kids p) (some (kid_cell x)) given.entries

  u : Numbered es
  u = valid-numbered v

  gave : Gave s given (wanted g p)
  gave = have s v n p x r

  own : place_of (entry es n) ≡ some p
  own = ap place_of r.stood

  -- ---- the patches that stand

  low : base g ≤ p.depth
  low = v.mesh.low p (here s v n p x r)

  -- the places above the nine are among them
  above-stands : (q o : Place) → In q (wanted g p) → parent q ≡ some o → number es o ≢ 0
  above-stands q o i e =
      let (k, a, c) = wanted-corner g p low q i in
      corner-numbered s v (here s v n p x r) (subst (λ (z : Place). Corner g p z) (up_is q o e) (subst (λ (z : Place). Corner g z (up q)) (up_is k p a) (corner-up (omega (arith, low, parent-depth k p a)) c)))

  given-own : place_of (entry given.entries n) ≡ some p
  given-own = kept-place gave n p own

  kids-stand : (q : Place) → In q (kids_in_turn p) → number given.entries q ≢ 0
  kids-stand q i = kids-there s v n p x r q (subst T (kids-turn p q) i)

  after-own : place_of (entry after n) ≡ some p
  after-own = fill-place (kids p) (some (kid_cell x)) given.entries n ∙ given-own

  after-number : (q : Place) → number after q ≡ number given.entries q
  after-number = fill-number (kids p) (some (kid_cell x)) given.entries

  east-stands : number after (to_east g p) ≢ 0
  east-stands z = let y = corner-numbered s v (here s v n p x r) c-east in y (sym (after-number (to_east g p) ∙ kept-number gave (to_east g p) y) ∙ z)

  -- ---- the flags before the rows are refreshed

  abbrev flags_then : Flags
  flags_then = with_all (kids_in_turn p) 1 f

  nearly : Nearly g after p (cells es) flags_then
  unfolding flags_of
  nearly = record {
    mesh = (after-valid s v n p x r).mesh;
    low = low;
    else = λ q h. grown-else (cells es) (kids p) q (λ i. h (in-parent q p i)) ∙ ap (λ (c : Place → Bool). c q) (sym (after-cells s v n p x r));
    stood = λ q e t. (after-valid s v n p x r).every q (touched-patch g (cells after) q (omega (arith, low)) t);
    complete = λ q t. rw (kids-turn p q, after-cells s v n p x r) (complete q (any (same q) (kids p)));
    sentenced = λ q t. rw (kids-turn p q, after-contents s v n p x r q) (sentenced q (any (same q) (kids p)));
    away = λ q t out. rw (kids-turn p q, after-contents s v n p x r q, no-is (any (same q) (kids p)) (λ i. out (kid-wanted g p q i))) (start-stands g es q (old q t out));
  }
    where
      complete : (q : Place) (b : Bool) → bit 0 (cond b 1 (f q)) ≡ (cells es q || b)
      complete q b = go b (cells es q) (start-complete g es u q)
        where
          go : (b d : Bool) → bit 0 (f q) ≡ d → bit 0 (cond b 1 (f q)) ≡ (d || b)
          go true true e = refl
          go true false e = refl
          go false true e = e
          go false false e = e

      sentenced : (q : Place) (b : Bool) → bit 12 (cond b 1 (f q)) ≡ or_else false (λ y. y.sentenced) (cond b (some (kid_cell x)) (contents es q))
      sentenced q true = refl
      sentenced q false = start-sentenced g es u q

      old : (q : Place) → T (any (stands q) after) → (In q (wanted g p) → ⊥) → number es q ≢ 0
      old q t out z = numbered-not-zero after (after-numbered s v n p x r) q t (after-number q ∙ gave.elsewhere q out ∙ z)

  -- ---- the new patches

  supplied-table : Shows g cap f given (supplied_near (table s) cap (base g) n)
  supplied-table =
      let names : AllNamed es p.depth (wanted_spots (table s) cap n) (map some (wanted g p)) = rw (picture-start s u) (wanted-named (valid-rooted v) f n p own (corner-numbered s v (here s v n p x r) c-east)) in
      give-shows (start-alive g es) r.low low (wanted g p) (record { rooted = valid-rooted v; is-table = picture-start s u; blank = start-blank g es }) names above-stands (wanted-distinct g p (lap-many g v.rectangle p.depth)) r.room

  -- ---- the kids are cells

  kids-carry : passed_down (carried_of (table s) (amounts s) n) ≡ carried_for (inherited x.value)
  kids-carry = ap passed_down (carried-there s n ∙ ap (λ (e : Entry). carried_for (value_of e)) r.stood) ∙ passed-down x.value

  in-turn : fill (kids_in_turn p) (some (kid_cell x)) given.entries ≡ after
  in-turn = fill-same (kids_in_turn p) (kids p) (some (kid_cell x)) given.entries (kids-turn p)

  cell-table : put_cells 1 (passed_down (carried_of (table s) (amounts s) n)) cap (kid_spots (table s) cap n) (supplied_near (table s) cap (base g) n) ≡ table_with g after flags_then
  cell-table =
      ap₂ (λ (c : Carried) (t : List ℤ). put_cells 1 c cap (kid_spots t cap n) t) kids-carry supplied-table.is-table
      ∙ (cells-put supplied-table.rooted f 1 (some (kid_cell x)) (kids_in_turn p) (kids-named supplied-table.rooted f n p given-own) kids-stand).0
      ∙ ap (λ (ds : List Entry). table_with g ds flags_then) in-turn

  abbrev value : Entry → Float
  value e = amount (value_of e)

  -- new patches have no value
  given-values : values_of given.entries ≡ values_of es
  given-values =
      ext_get_or plus_zero (values_of given.entries) (values_of es) (length-map given.entries value ∙ gave.long_same ∙ sym (length-map es value))
      (λ k l. get_or-map value given.entries k nil ∙ one k (gave.change k) ∙ sym (get_or-map value es k nil))
    where
      one : (k : ℕ) → Change (wanted g p) (entry es k) (entry given.entries k) → value (entry given.entries k) ≡ value (entry es k)
      one k (stays e) = ap value e
      one k (taken q a b i) = ap value b ∙ sym (ap value a)

  refined-values : refine_values (table s) (amounts s) cap (base g) n ≡ amounts (with_entries s after)
  unfolding refine_values amounts
  refined-values =
      ap₂ (λ (c : Carried) (t : List ℤ). put_amounts 1 c cap (kid_spots t cap n) t (values_of es)) kids-carry supplied-table.is-table
      ∙ ap (put_amounts 1 (carried_for (inherited x.value)) cap (kid_spots (table s) cap n) (table_with g given.entries f)) (sym given-values)
      ∙ (cells-put supplied-table.rooted f 1 (some (kid_cell x)) (kids_in_turn p) (kids-named supplied-table.rooted f n p given-own) kids-stand).1
      ∙ ap values_of in-turn

  -- ---- the flags around them

  refined : refine_table (table s) (amounts s) cap (base g) n ≡ table (with_entries s after)
  unfolding refine_table
  refined =
      rw cell-table
      (refresh-near nearly (fill-rooted (kids p) (some (kid_cell x)) supplied-table.rooted) n after-own east-stands
      ∙ sym (picture-linked (with_entries s after) (after-numbered s v n p x r)))

  -- ---- the free numbers are those left by the new patches

  free-left : free_at (supplied_near (table s) cap (base g) n) ≡ free_at (table (with_entries s after))
  free-left =
      ap free_at supplied-table.is-table
      ∙ free-at g given.entries f (start-alive g es)
      ∙ sym (free-numbers (with_entries s after) (after-numbered s v n p x r) ∙ fill-frees (kids p) (some (kid_cell x)) given.entries)

-- ---- an accepted refinement

module _ (s : State) (v : Valid s) (n : ℕ) (ok : refusal (loose_checks s (refine n)) ≡ 0) where
  pub refine-table : refine_table (table s) (amounts s) (capacity s) (base (grid_of s)) n ≡ table (effect s (refine n))
  refine-table = let (p, x, r) = refinable s v n ok in rw (effect_is s v n p x r) (refined s v n p x r)

  pub refine-values : refine_values (table s) (amounts s) (capacity s) (base (grid_of s)) n ≡ amounts (effect s (refine n))
  refine-values = let (p, x, r) = refinable s v n ok in rw (effect_is s v n p x r) (refined-values s v n p x r)

  -- the free numbers are those that the new patches leave
  pub refine-free : free_at (supplied_near (table s) (capacity s) (base (grid_of s)) n) ≡ free_at (table (effect s (refine n)))
  refine-free = let (p, x, r) = refinable s v n ok in rw (effect_is s v n p x r) (free-left s v n p x r)
