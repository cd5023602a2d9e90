-- Adjacent places, by depth, column and row alone (01, 'What a mesh is'): "neighbours are the .. patches on the same level one step away", and a
-- cell's kids are "(k+1, 2i+l, 2j+m), l and m in 0,1". Nothing here knows of the steps and kids that a table's rows are drawn with, or of a table.
-- Assumes nothing.
use Rattle.std.specs.Prelude.{ℕ, ◌+◌, ◌/◌, ◌%◌, ◌≡◌, List, [], ◌∷◌, get_or}
use Rattle.mesh.specs.Place.{Place, Grid, lap}

-- "one step away": q lies one step north of p, one step east of p. These two alone know how the rows and the columns of a level run: in a ring
-- "row index on level k counts modulo rows × 2^k" (02, No. 4), and modulo 0, where a level has no last row, is not at all.
abbrev pub NorthOf : Grid → Place → Place → Type 0
NorthOf g q p = (q.depth ≡ p.depth) × (q.i ≡ p.i) × (q.j ≡ (p.j + 1) % lap g p.depth)

abbrev pub EastOf : Grid → Place → Place → Type 0
EastOf g q p = (q.depth ≡ p.depth) × (q.i ≡ p.i + 1) × (q.j ≡ p.j)

-- "halve the indices, rounding down": q lies one deeper than p, and p has its indices halved
abbrev pub KidOf : Place → Place → Type 0
KidOf q p = (q.depth ≡ p.depth + 1) × (q.i / 2 ≡ p.i) × (q.j / 2 ≡ p.j)

-- the kid with l and m: in the eastern half l is 1 and the column odd, in the northern half m is 1 and the row odd
abbrev pub KidAt : ℕ → ℕ → Place → Place → Type 0
KidAt l m q p = KidOf q p × (q.i % 2 ≡ l) × (q.j % 2 ≡ m)

-- how q can be adjacent to p, in the order of a row's words: "0 parent; 1 to 4 kids NE, SE, SW, NW; 5 to 8 neighbours N, E, S, W"
abbrev pub ways : Grid → Place → Place → List (Type 0)
ways g p q =
    KidOf p q ∷
    KidAt 1 1 q p ∷
    KidAt 1 0 q p ∷
    KidAt 0 0 q p ∷
    KidAt 0 1 q p ∷
    NorthOf g q p ∷
    EastOf g q p ∷
    NorthOf g p q ∷
    EastOf g p q ∷
    []

-- q is adjacent to p in the direction of the word w
abbrev pub Adjacent : Grid → ℕ → Place → Place → Type 0
Adjacent g w p q = get_or (ways g p q) w ⊥
