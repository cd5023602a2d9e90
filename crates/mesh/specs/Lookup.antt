-- What a lookup answers (01, 'Walks, points, page'; 02, No. 2 and No. 4): the leaf that holds the point, or else one of the points it is tried again at.
-- Assumes nothing.
use Rattle.std.specs.Prelude.{ℕ, ◌-◌, ◌*◌, Bool, ◌&&◌, cond, List, [], ◌∷◌, map, leb, eqb}
use Rattle.mesh.specs.Tools.{foremost}
use Rattle.mesh.specs.Place.{Grid, is_ring}
use Rattle.mesh.specs.State.{State, grid_of}
use Rattle.mesh.specs.Refusal.{Check, ◌if◌}
use Rattle.mesh.specs.Holding.{leaf_at}

-- the point itself, and then, "in this order, one unit to the left, one unit down, then both": so many units to the left, so many down
abbrev pub tries : List (ℕ × ℕ)
tries = (0, 0) ∷ (1, 0) ∷ (0, 1) ∷ (1, 1) ∷ []

-- what is there at a try, "skipping a try below 0"
abbrev pub tried : (ℕ → ℕ → ℕ) → ℕ → ℕ → ℕ × ℕ → ℕ
tried there u v (left, down) = cond (leb left u && leb down v) (there (u - left) (v - down)) 0

-- what the first of them finds that finds anything, 0 for none
unfoldable pub first_found : (ℕ → ℕ → ℕ) → ℕ → ℕ → ℕ
first_found there u v = foremost (map (tried there u v) tries)

-- "in a ring, lookup gives 19 at once for a load of rows × 4096 or more" (02, No. 4)
abbrev pub beyond : Grid → ℕ → Bool
beyond g v = is_ring g && leb (g.rows * 4096) v

-- "the first leaf found is the answer": its number, 0 for none
unfoldable pub lookup : State → ℕ → ℕ → ℕ
lookup s u v = cond (beyond (grid_of s) v) 0 (first_found (leaf_at s) u v)

-- 19: "no leaf holds the point", "if none" is found
unfoldable pub lookup_checks : State → ℕ → ℕ → List Check
lookup_checks s u v = (19 if eqb (lookup s u v) 0) ∷ []
