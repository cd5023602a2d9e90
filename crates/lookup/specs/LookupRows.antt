-- Lookup as the code meets the rows, and what it answers past the first checks.
-- Assumes nothing.
use Rattle.std.specs.Prelude.{ℕ, zero, suc, ◌+◌, ◌/◌, ◌%◌, ◌^◌, ◌&&◌, cond, List, [], ◌∷◌, eqb, ltb, ℤ, Float, Result}
use Rattle.mesh.specs.State.{Value, blank, measured, carried}
use Rattle.mesh.specs.Refusal.{◌if◌, refusal}
use Rattle.mesh.specs.Place.{Grid}
use Rattle.mesh.specs.Lookup.{first_found, beyond}
use Rattle.mesh.specs.Call.{Found, unless}
use Rattle.table.specs.Words.{link_of}
use Rattle.carried.specs.Carried.{carried_of, value_carried}
use Rattle.worked.specs.Worked.{kid_word}
use Rattle.walk.specs.WalkRows.{leaf_row}
use Rattle.answer.specs.declared.Refusal.{Refusal}
use Rattle.answer.specs.Answered.{refusal_of, value_or}
use Rattle.lookup.specs.declared.Leaf.{Leaf}
use Rattle.lookup.specs.declared.Reading.{Reading}
use Rattle.lookup.specs.declared.Reading.TheVariants.{Measured, Carried, Blank}

module _ (t : List ℤ) (cap : ℕ) where
  -- the leaf that holds a point, by the digits of its coordinates, so many levels down from the row n; 0 where there is none
  unfoldable pub row_find : ℕ → ℕ → ℕ → ℕ → ℕ
  row_find u v zero n = cond (leaf_row t cap n) n 0
  row_find u v (suc l) n = cond (leaf_row t cap n) n (cond (eqb n 0) 0 (row_find u v l (link_of t cap n (kid_word (u / 2 ^ l % 2) (v / 2 ^ l % 2)))))

module _ (t : List ℤ) (cap d : ℕ) where
  -- from the root, which is as wide as 2 ^ (d + 12)
  unfoldable pub row_at : ℕ → ℕ → ℕ
  row_at u v = cond (ltb u (2 ^ (d + 12)) && ltb v (2 ^ (d + 12))) (row_find t cap u v (d + 12) 1) 0

  -- "the first leaf found": that of the point, or else of the points it is tried again at
  abbrev pub row_found : ℕ → ℕ → ℕ
  row_found u v = first_found row_at u v

-- none "at once for a load of rows × 4096 or more"
abbrev pub row_lookup : Grid → List ℤ → ℕ → ℕ → ℕ → ℕ → ℕ
row_lookup g t cap d u v = cond (beyond g v) 0 (row_found t cap d u v)

-- ---- the call

module _ (g : Grid) (t : List ℤ) (v : List Float) where
  unfoldable pub row_lookup_out : ℕ → ℕ → ℕ → ℕ → Found
  row_lookup_out cap d x y =
      let n = row_lookup g t cap d x y in
      unless (refusal ((19 if eqb n 0) ∷ [])) (λ k. record { refusal = k; leaf = 0; value = blank }) (record { refusal = 0; leaf = n; value = value_carried (carried_of t v n) })

-- the answer, as the call's definition says it
abbrev pub value_of_reading : Reading → Value
value_of_reading (Measured x) = measured x
value_of_reading (Carried x) = carried x
value_of_reading Blank = blank

-- "number 0 and blank"
abbrev pub no_leaf : Leaf
no_leaf = record { number = 0; reading = Blank }

abbrev pub found_of : Result Leaf Refusal → Found
found_of r = let leaf = value_or no_leaf r in record { refusal = refusal_of r; leaf = leaf.number; value = value_of_reading leaf.reading }
