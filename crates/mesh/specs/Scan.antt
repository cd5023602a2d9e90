-- Scans, over the tree of patches (01, 'Walks, points, page').
-- Assumes nothing.
use Rattle.std.specs.Prelude.{ℕ, zero, suc, Bool, not, ◌&&◌, ◌||◌, cond, List, [], ◌∷◌, ◌++◌, map, leb, ltb, eqb, length, ℤ, ◌-ℤ◌, nat_abs}
use Rattle.std.proofs.Math.Option.{some}
use Rattle.std.specs.Int.Signed.{lt_z, le_z}
use Rattle.mesh.specs.Tools.{any, keep, flat}
use Rattle.mesh.specs.Place.{Place, Wind, NE, SE, SW, NW, level, base, kid}
use Rattle.mesh.specs.Mesh.{leaf, wall_h, wall_v, is_wall}
use Rattle.mesh.specs.State.{State, Entry, cells, number, place_at, grid_of}
use Rattle.mesh.specs.Refusal.{Check, ◌if◌}
use Rattle.mesh.specs.Request.{no6}

-- "1 patches, 2 cells, 3 leaves, 4 H-walls, 5 V-walls, 6 points (levels 0 up)"
unfoldable pub listed : State → ℕ → Place → Bool
listed s k p =
    let g = grid_of s in
    let c = cells s.entries in
    eqb k 1 ||
    ((eqb k 2 && c p) ||
    ((eqb k 3 && leaf g c p) ||
    ((eqb k 4 && is_wall (wall_h g c (some p))) ||
    ((eqb k 5 && is_wall (wall_v g c (some p))) ||
    (eqb k 6 && leb (base g) p.depth)))))

-- the kids of a place that stand in the table, in the given order
abbrev pub standing : List Entry → List Wind → Place → List Place
standing es o p = keep (λ q. not (eqb (number es q) 0)) (map (λ w. kid w p) o)

abbrev pub own : List Entry → (Place → Bool) → Place → List ℕ
own es f p = cond (f p) (number es p ∷ []) []

-- "tree order, a patch before its kids, kids in the given order": the numbers of those that f lists, for so many levels more
unfoldable pub walk : List Entry → (Place → Bool) → List Wind → ℕ → Place → List ℕ
walk es f o zero p = own es f p
walk es f o (suc n) p = own es f p ++ flat (map (walk es f o n) (standing es o p))

-- the kid winds by their words: NE 1, SE 2, SW 3, NW 4
abbrev pub wind_of : ℕ → Wind
wind_of w = cond (eqb w 1) NE (cond (eqb w 2) SE (cond (eqb w 3) SW NW))

-- each of 1 to 4 once
abbrev pub permutation : List ℕ → Bool
permutation o = eqb (length o) 4 && (any (eqb 1) o && (any (eqb 2) o && (any (eqb 3) o && any (eqb 4) o)))

-- "for levels from-level to to-level, both ends counted"
unfoldable pub scan : State → ℕ → List ℕ → ℕ → ℤ → ℤ → List ℕ
scan s n o k from to =
    let g = grid_of s in
    let p = place_at s.entries n in
    walk s.entries (λ q. le_z from (level g q) && listed s k q) (map wind_of o) (nat_abs (to -ℤ level g p)) p

-- 17: "scan order no permutation of the four kid winds, scan kind outside 1 to 6, from-level below the start's level, or to-level below
-- from-level"; 18: "output too short"
abbrev pub no17 : State → ℕ → List ℕ → ℕ → ℤ → ℤ → Check
no17 s n o k from to =
    17 if (not (permutation o) || (not (leb 1 k && leb k 6) || (lt_z from (level (grid_of s) (place_at s.entries n)) || lt_z to from)))

abbrev pub no18 : ℕ → List ℕ → Check
no18 room written = 18 if ltb room (length written)

unfoldable pub scan_checks : State → ℕ → ℕ → List ℕ → ℕ → ℤ → ℤ → List Check
scan_checks s room n o k from to = no6 s n ∷ no17 s n o k from to ∷ no18 room (scan s n o k from to) ∷ []
