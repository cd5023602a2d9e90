-- The five requests: what each checks, in order, and what it makes of a state (01, 'Build and requests'; 02, No. 1).
-- Assumes nothing.
use Rattle.std.specs.Prelude.{ℕ, ◌+◌, ◌%◌, Bool, not, cond, List, [], ◌∷◌, ◌++◌, map, ltb, eqb, length, set, Float}
use Rattle.std.proofs.Math.Option
use Rattle.std.proofs.Math.Option.{Option, none}
use Rattle.mesh.specs.Tools.{any, keep}
use Rattle.mesh.specs.Place.{Place, Grid, NE, SE, SW, NW, same, to_north, to_east, kid, kids}
use Rattle.mesh.specs.Mesh.{patch}
use Rattle.mesh.specs.State.{State, Entry, nil, free, used, Cell, is_used, cell_of, entry, cells, number, place_at, free_count, grid_of, with_entries, next_free, contents}
use Rattle.mesh.specs.Carrying.{kid_cell, sentenced_cell, measured_cell}
use Rattle.mesh.specs.Deed.{Deed, refined, sentenced, removed, killed, measured, loose_deed_checks, deed_checks}
use Rattle.mesh.specs.Refusal.{Check, ◌if◌, refusal}

pub data Request : Type 0 where
  refine sentence remove kill : ℕ → Request
  set_value : ℕ → Float → Request

-- ---- what the checks ask

-- "refine makes kids SW, SE, NW, NE; then of the patch north SW, SE; of the patch east NW, SW; of the patch north-east SW"
unfoldable pub wanted : Grid → Place → List Place
wanted g p =
    let n = to_north g p in
    let e = to_east g p in
    kid SW p ∷ kid SE p ∷ kid NW p ∷ kid NE p ∷ kid SW n ∷ kid SE n ∷ kid NW e ∷ kid SW e ∷ kid SW (to_north g e) ∷ []

-- "each only where missing"
unfoldable pub missing : State → Place → List Place
missing s p = keep (λ q. eqb (number s.entries q) 0) (wanted (grid_of s) p)

-- the number that a request names, and the request as a deed at the place under it
abbrev pub number_named : Request → ℕ
number_named (refine n) = n
number_named (sentence n) = n
number_named (remove n) = n
number_named (kill n) = n
number_named (set_value n x) = n

abbrev pub deed_of : List Entry → Request → Deed
deed_of es (refine n) = refined (place_at es n)
deed_of es (sentence n) = sentenced (place_at es n)
deed_of es (remove n) = removed (place_at es n)
deed_of es (kill n) = killed (place_at es n)
deed_of es (set_value n x) = measured (place_at es n) x

-- 6: "number 0, above capacity, or free"; 11: "fewer free numbers than needed", which refine alone asks, last. The other refusals are the deed's
-- (`Deed`), for the cell under the number.
module _ (s : State) where
  abbrev pub no6 : ℕ → Check
  no6 n = 6 if not (is_used (entry s.entries n))

  abbrev pub no11 : ℕ → Check
  no11 n = 11 if ltb (free_count s.entries) (length (missing s (place_at s.entries n)))

  abbrev pub last_checks : Request → List Check
  last_checks (refine n) = no11 n ∷ []
  last_checks (sentence n) = []
  last_checks (remove n) = []
  last_checks (kill n) = []
  last_checks (set_value n x) = []

  -- the column 'Checks in order' of 01's table: what a request's effect rests on, without No. 1
  unfoldable pub loose_checks : Request → List Check
  loose_checks r = no6 (number_named r) ∷ loose_deed_checks (grid_of s) (contents s.entries) (deed_of s.entries r) ++ last_checks r

  -- what a request is refused by
  unfoldable pub checks : Request → List Check
  checks r = no6 (number_named r) ∷ deed_checks (grid_of s) (contents s.entries) (deed_of s.entries r) ++ last_checks r

-- ---- what the requests make

-- a new patch, without a cell, at a place where it is missing; at each of several places, one after the other
unfoldable pub supply : State → Place → State
supply s q = cond (eqb (number s.entries q) 0) (with_entries s (set s.entries (next_free s) (used q none))) s

unfoldable pub give : State → List Place → State
give s [] = s
give s (q ∷ qs) = give (supply s q) qs

-- the patches at these places have this cell, or none
abbrev pub filled : List Place → Option Cell → Entry → Entry
filled ps x nil = nil
filled ps x free = free
filled ps x (used q y) = used q (cond (any (same q) ps) x y)

unfoldable pub fill : List Place → Option Cell → List Entry → List Entry
fill ps x es = map (filled ps x) es

-- "free every patch that no longer exists"
abbrev pub pruned : Grid → (Place → Bool) → Entry → Entry
pruned g c nil = nil
pruned g c free = free
pruned g c (used q x) = cond (patch g c q) (used q x) free

unfoldable pub prune : Grid → List Entry → List Entry
prune g es = map (pruned g (cells es)) es

-- what f makes of the cell under a number
abbrev pub new_cell : State → ℕ → (Cell → Cell) → Option Cell
new_cell s n f = Option.map f (cell_of (entry s.entries n))

unfoldable pub effect : State → Request → State
effect s (refine n) =
    let p = place_at s.entries n in
    let t = give s (wanted (grid_of s) p) in
    with_entries t (fill (kids p) (new_cell s n kid_cell) t.entries)
effect s (sentence n) = with_entries s (fill (place_at s.entries n ∷ []) (new_cell s n sentenced_cell) s.entries)
effect s (remove n) = with_entries s (prune (grid_of s) (fill (kids (place_at s.entries n)) none s.entries))
effect s (kill n) = with_entries s (prune (grid_of s) (fill (place_at s.entries n ∷ []) none s.entries))
effect s (set_value n x) = with_entries s (fill (place_at s.entries n ∷ []) (new_cell s n (measured_cell x)) s.entries)

-- "each accepted request adds 1 to the mark, and 65,535 is followed by 0"
unfoldable pub marked : State → State
marked s = record { header = record { grid = grid_of s; mark = (s.header.mark + 1) % 65536 }; entries = s.entries }

pub data Result : Type 0 where
  refused : ℕ → Result
  accepted : State → Result

unfoldable pub request : State → Request → Result
request s r =
    let n = refusal (checks s r) in
    cond (eqb n 0) (accepted (marked (effect s r))) (refused n)
