-- The test that a state is valid, the rules of `Valid` asked of each entry in turn, and the test that a table is sound.
-- Assumes nothing.
use Rattle.std.specs.Prelude.{◌+◌, Bool, true, false, not, ◌&&◌, ◌||◌, leb, ltb, eqb, Float, ℤ, pos, negsuc}
use Rattle.std.specs.Bool.{beq}
use mathlib.Core.List.{List, [], ◌∷◌, tail}
use Rattle.std.specs.Float.{nan, inf, fin}
use Rattle.mesh.specs.Tools.{any, all, every, or_else, same_list}
use Rattle.mesh.specs.Place.{Place, Grid, is_ring, in_rectangle, root, base, parent, kids, to_north, to_east}
use Rattle.mesh.specs.Mesh.{on, patch, has_kids, leaf}
use Rattle.mesh.specs.State.{State, Entry, Cell, Value, blank, measured, carried, amount, is_blank, is_nil, place_of, cell_of, stands, entry, cells, grid_of, capacity}
use Rattle.mesh.specs.Valid.{finite, above_of}
use Rattle.mesh.specs.Picture.{table, amounts, Lent}
use Rattle.mesh.specs.Decode.{decode}

-- ---- equal words, equal bits

abbrev pub same_int : ℤ → ℤ → Bool
same_int (pos a) (pos b) = eqb a b
same_int (pos a) (negsuc b) = false
same_int (negsuc a) (pos b) = false
same_int (negsuc a) (negsuc b) = eqb a b

-- finite, and the same bits
abbrev pub same_float : Float → Float → Bool
same_float nan y = false
same_float (inf s) y = false
same_float (fin s m e) nan = false
same_float (fin s m e) (inf t) = false
same_float (fin s m e) (fin t n d) = beq s t && (eqb m n && same_int e d)

-- ---- a valid state

-- a test of places, asked of an entry that stands at one; a test of cells, asked of an entry that is one
abbrev pub of_patch : (Place → Bool) → Entry → Bool
of_patch f e = or_else true f (place_of e)

abbrev pub of_cell : (Place → Cell → Bool) → Entry → Bool
of_cell f e = of_patch (λ p. or_else true (f p) (cell_of e)) e

-- an entry stands there
abbrev pub there : List Entry → Place → Bool
there es p = any (stands p) es

-- the rules of a mesh, of one cell
unfoldable pub mesh_tests : Grid → (Place → Bool) → Place → List Bool
mesh_tests g c p =
    (not (eqb p.depth (base g)) || in_rectangle g p.i p.j) ∷
    leb (base g) p.depth ∷
    leb p.depth (base g + 12) ∷
    (not (ltb (base g) p.depth) || on g c (parent p)) ∷
    (not (has_kids g c p) || all c (kids p)) ∷
    []

-- no two entries stand at one place
abbrev pub apart : List Entry → Bool
apart [] = true
apart (e ∷ es) = of_patch (λ p. not (there es p)) e && apart es

-- the four patches that a cell makes stand in the table
unfoldable pub corners_there : Grid → List Entry → Place → Bool
corners_there g es p = there es p && (there es (to_east g p) && (there es (to_north g p) && there es (to_north g (to_east g p))))

unfoldable pub value_test : State → Place → Value → Bool
value_test s p blank = is_blank (above_of s p)
value_test s p (measured x) = finite x
value_test s p (carried x) = every (ltb (base (grid_of s)) p.depth ∷ finite x ∷ not (is_blank (above_of s p)) ∷ same_float (amount (above_of s p)) x ∷ [])

-- the tests, in the order of the fields of `Valid`
unfoldable pub tests : State → List Bool
tests s =
    let g = grid_of s in
    let es = s.entries in
    let c = cells es in
    leb 5 (capacity s) ∷
    leb (capacity s) 4095 ∷
    leb 1 g.columns ∷
    leb g.columns 32 ∷
    leb 1 g.rows ∷
    leb g.rows 32 ∷
    leb g.mode 1 ∷
    (not (is_ring g) || leb 3 g.rows) ∷
    is_nil (entry es 0) ∷
    all (λ e. not (is_nil e)) (tail es) ∷
    any (λ e. not (of_cell (λ p x. not (eqb p.depth (base g))) e)) es ∷
    all (of_cell (λ p x. every (mesh_tests g c p))) es ∷
    all (of_patch (patch g c)) es ∷
    all (of_patch (λ p. or_else true (there es) (parent p))) es ∷
    all (of_cell (λ p x. corners_there g es p)) es ∷
    apart es ∷
    stands root (entry es 1) ∷
    all (of_cell (λ p x. not x.sentenced || (ltb (base g) p.depth && leaf g c p))) es ∷
    all (of_cell (λ p x. value_test s p x.value)) es ∷
    []

unfoldable pub valid : State → Bool
valid s = every (tests s)

-- ---- a sound table

-- what its fields say is a valid state, and the table and the values are that state's
unfoldable pub sound_tests : Lent → List Bool
sound_tests l =
    let s = decode l in
    valid s ∷
    same_list same_int l.words (table s) ∷
    same_list same_float l.values (amounts s) ∷
    []

unfoldable pub sound : Lent → Bool
sound l = every (sound_tests l)
