-- What a build knows of its table between two steps: what stands there so far, which kids, which rows of a level and which levels are still to
-- grow, and that there is room for them.
-- Assumes nothing.
use Rattle.std.specs.Prelude.{ℕ, suc, ◌+◌, ◌*◌, ◌≤◌, ◌-◌, ◌<◌, ◌≡◌, List, [], ◌∷◌, ◌++◌, map, length, T}
use Rattle.std.proofs.Math.Option.{some, none}
use Rattle.mesh.specs.Place.{Grid, base, Wind, NE, SE, SW, NW, Place, kid, In, Distinct}
use Rattle.table.specs.Words.{word_of, depth_of}
use Rattle.mesh.specs.Call.{Rectangle}
use Rattle.edit_laws.specs.Built.{in_full, Growth}
use Rattle.mesh.specs.Mesh.{patch}
use Rattle.mesh.specs.State.{Entry, entry, place_of, nil}
use Rattle.mesh.specs.Tools.{keep}
use Rattle.mesh.specs.Seam.{opened}
use Rattle.number_laws.specs.Numbered.{written, Patches}
use Rattle.mesh.specs.Build.{full, next_level, levels}
use Rattle.mesh.specs.Picture.{i_word, j_word}
use Rattle.edit_laws.specs.Linked.{Flags, table_with}
use Rattle.edit_laws.specs.Rooted.{Rooted}

-- no flag anywhere
abbrev pub dark : Flags
dark p = 0

-- the places under the numbers from 1 on, without a cell, and free numbers behind
abbrev pub bare : ℕ → List Place → List Entry
bare cap ps = nil ∷ written (λ p. none) (cap - length ps) ps

-- the table so far, and the next number: links over a seam come last, so they are those of an open grid
pub record Grown (g : Grid) (cap : ℕ) (ps : List Place) (r : Growth) : Type 0 where
  pub rooted : Rooted (opened g) cap (bare cap ps)
  pub words_are : r.words ≡ table_with (opened g) (bare cap ps) dark
  pub next-is : r.next ≡ length ps + 1

-- these places stand under the numbers from p on
abbrev pub InTurn : List Entry → ℕ → List Place → Type 0
InTurn es p [] = Unit {0}
InTurn es p (q ∷ qs) = (place_of (entry es p) ≡ some q) × InTurn es (p + 1) qs

-- what is to grow has room, and none of it stands yet
abbrev pub Room : ℕ → List Place → Type 0
Room cap ps = Distinct ps × (length ps ≤ cap)

-- the kids to these winds that the rectangle has
abbrev pub toward : Grid → Place → List Wind → List Place
toward g o ws = keep (patch g (full g)) (map (λ w. kid w o) ws)

-- "kids in the order SW, NW, SE, NE"
abbrev pub born : Grid → Place → List Place
born g o = toward g o (SW ∷ NW ∷ SE ∷ NE ∷ [])

-- the kids of the row p to these winds, so many levels below level 0
pub record KidsToGrow (g : Grid) (cap up p : ℕ) (ws : List Wind) (r : Growth) : Type 0 where
  pub in-range : Rectangle g
  pub ps : List Place
  pub o : Place
  pub grown : Grown g cap ps r
  pub there : place_of (entry (bare cap ps) p) ≡ some o
  pub deep : o.depth + suc up ≡ base g
  pub is-patch : T (patch g (full g) o)
  pub room : Room cap (ps ++ toward g o ws)

-- the kids of n rows from p on
pub record LevelToGrow (g : Grid) (cap up n p : ℕ) (r : Growth) : Type 0 where
  pub in-range : Rectangle g
  pub ps : List Place
  pub qs : List Place
  pub grown : Grown g cap ps r
  pub turn : InTurn (bare cap ps) p qs
  pub many : length qs ≡ n
  pub deep : (q : Place) → In q qs → (q.depth + suc up ≡ base g) × T (patch g (full g) q)
  pub room : Room cap (ps ++ next_level g qs)

-- so many levels more, the last one from p on
pub record LevelsToGrow (g : Grid) (cap up p : ℕ) (r : Growth) : Type 0 where
  pub in-range : Rectangle g
  pub e : ℕ
  pub ps : List Place
  pub qs : List Place
  pub grown : Grown g cap (ps ++ qs) r
  pub from : p ≡ length ps + 1
  pub deep : e + up ≡ base g
  pub patches : Patches g e e qs
  pub room : Room cap (ps ++ levels g up qs)

-- what the step for one kid asks for
pub record Able (g : Grid) (cap d up p l m : ℕ) (r : Growth) : Type 0 where
  pub parent_in : p ≤ cap
  pub next-in : r.next ≤ cap + 1
  pub level_in : up < 6
  pub tall : 1 ≤ g.rows
  pub i : word_of r.words p i_word ≤ 32
  pub j : word_of r.words p j_word ≤ 32
  pub depth : depth_of r.words d p < 6
  pub room : T (in_full g up (2 * word_of r.words p i_word + l) (2 * word_of r.words p j_word + m)) → r.next ≤ cap
