-- A state: the header, and for each number what stands under it (01, 'Rows and header'). Everything else of a table is worked out from this.
-- Assumes nothing.
use Rattle.std.specs.Prelude.{ℕ, ◌-◌, Bool, true, false, ◌&&◌, List, length, get_or, Float, pos}
use Rattle.std.proofs.Math.Option.{Option, none, some}
use Rattle.std.specs.Float.{fin}
use Rattle.mesh.specs.Tools.{any, count, first, or_else, is_some}
use Rattle.mesh.specs.Place.{Place, Grid, same, root}

-- ---- values: "status 0 blank, 1 measured, 2 carried down from the parent"

pub data Value : Type 0 where
  blank : Value
  measured carried : Float → Value

abbrev pub status : Value → ℕ
status blank = 0
status (measured x) = 1
status (carried x) = 2

-- "status 0 has the bits of +0"
abbrev pub plus_zero : Float
plus_zero = fin false 0 (pos 0)

abbrev pub amount : Value → Float
amount blank = plus_zero
amount (measured x) = x
amount (carried x) = x

abbrev pub is_blank : Value → Bool
is_blank blank = true
is_blank (measured x) = false
is_blank (carried x) = false

-- ---- entries: what stands under a number

-- what a cell carries
pub record Cell : Type 0 where
  pub sentenced : Bool
  pub value : Value

-- number 0 is the nil patch; every other number is free, or in use for a patch that has a cell or has none
pub data Entry : Type 0 where
  nil free : Entry
  used : Place → Option Cell → Entry

abbrev pub place_of : Entry → Option Place
place_of nil = none
place_of free = none
place_of (used p x) = some p

abbrev pub cell_of : Entry → Option Cell
cell_of nil = none
cell_of free = none
cell_of (used p x) = x

abbrev pub is_nil : Entry → Bool
is_nil nil = true
is_nil free = false
is_nil (used p x) = false

abbrev pub is_free : Entry → Bool
is_free nil = false
is_free free = true
is_free (used p x) = false

abbrev pub is_used : Entry → Bool
is_used e = is_some (place_of e)

abbrev pub is_cell : Entry → Bool
is_cell e = is_some (cell_of e)

abbrev pub is_sentenced : Entry → Bool
is_sentenced e = or_else false (λ x. x.sentenced) (cell_of e)

abbrev pub value_of : Entry → Value
value_of e = or_else blank (λ x. x.value) (cell_of e)

-- the entry stands at p; it is a cell there
abbrev pub stands : Place → Entry → Bool
stands p e = or_else false (same p) (place_of e)

abbrev pub cell_at : Place → Entry → Bool
cell_at p e = stands p e && is_cell e

-- ---- a list of entries, by number

abbrev pub entry : List Entry → ℕ → Entry
entry es n = get_or es n nil

-- the set of cells
unfoldable pub cells : List Entry → Place → Bool
cells es p = any (cell_at p) es

-- the number of the patch at a place, 0 if none stands there
unfoldable pub number : List Entry → Place → ℕ
number es p = first (stands p) 0 es

abbrev pub number_of : List Entry → Option Place → ℕ
number_of es o = or_else 0 (number es) o

-- the place under a number, the root's where there is none; the place of a patch's number is the patch's
abbrev pub place_at : List Entry → ℕ → Place
place_at es n = or_else root (λ p. p) (place_of (entry es n))

unfoldable pub free_count : List Entry → ℕ
free_count es = count is_free es

unfoldable pub in_use : List Entry → ℕ
in_use es = count is_used es

-- ---- the state

-- "columns, rows, and a 16-bit edit mark"
pub record Header : Type 0 where
  pub grid : Grid
  pub mark : ℕ

pub record State : Type 0 where
  pub header : Header
  pub entries : List Entry

abbrev pub grid_of : State → Grid
grid_of s = s.header.grid

abbrev pub capacity : State → ℕ
capacity s = length s.entries - 1

abbrev pub with_entries : State → List Entry → State
with_entries s es = record { header = s.header; entries = es }

-- "each new patch takes the smallest free number", 0 if there is none: the one place that says which number a new patch takes
unfoldable pub next_free : State → ℕ
next_free s = first is_free 0 s.entries

-- the cell at a place, or none
abbrev pub contents : List Entry → Place → Option Cell
contents es p = cell_of (entry es (number es p))
