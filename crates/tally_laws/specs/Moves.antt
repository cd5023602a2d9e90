-- What leaves the leaf counts and what comes to them by a request (02, No. 5): by the level and the status of the cell that it names, and of its kids.
-- Assumes nothing.
use Rattle.std.specs.Prelude.{ℕ, suc, ◌+◌, ◌*◌, cond, ◌&&◌, List, [], ◌∷◌, eqb}
use Rattle.mesh.specs.Place.{Place, Grid, base, kids}
use Rattle.mesh.specs.State.{State, status, value_of, entry, number, place_at, grid_of}
use Rattle.mesh.specs.Carrying.{inherited}
use Rattle.mesh.specs.Request.{Request, refine, sentence, remove, kill, set_value}

-- 1 for a leaf of this depth and status, counted on level l with the status k
abbrev pub spot : Grid → ℕ → ℕ → ℕ → ℕ → ℕ
spot g l k e t = cond (eqb e (base g + l) && eqb t k) 1 0

abbrev pub sum_over : (Place → ℕ) → List Place → ℕ
sum_over w [] = 0
sum_over w (q ∷ qs) = w q + sum_over w qs

-- the depth and the status of the cell under n
abbrev pub its_depth : State → ℕ → ℕ
its_depth s n = (place_at s.entries n).depth

abbrev pub its_status : State → ℕ → ℕ
its_status s n = status (value_of (entry s.entries n))

-- the leaves that go, and those that come: "kids of a blank cell are blank, otherwise carried"
unfoldable pub leaving : State → Request → ℕ → ℕ → ℕ
leaving s (refine n) l k = spot (grid_of s) l k (its_depth s n) (its_status s n)
leaving s (sentence n) l k = 0
leaving s (remove n) l k = sum_over (λ q. spot (grid_of s) l k (suc (its_depth s n)) (its_status s (number s.entries q))) (kids (place_at s.entries n))
leaving s (kill n) l k = spot (grid_of s) l k (its_depth s n) (its_status s n)
leaving s (set_value n x) l k = spot (grid_of s) l k (its_depth s n) (its_status s n)

unfoldable pub coming : State → Request → ℕ → ℕ → ℕ
coming s (refine n) l k = 4 * spot (grid_of s) l k (suc (its_depth s n)) (status (inherited (value_of (entry s.entries n))))
coming s (sentence n) l k = 0
coming s (remove n) l k = spot (grid_of s) l k (its_depth s n) (its_status s n)
coming s (kill n) l k = 0
coming s (set_value n x) l k = spot (grid_of s) l k (its_depth s n) 1
