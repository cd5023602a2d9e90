-- What a scan answers past the first checks, by the rows of a table.
-- Assumes nothing.
use Rattle.std.specs.Prelude.{ℕ, ◌+◌, ◌*◌, ◌≤◌, ◌≡◌, not, ◌&&◌, ◌||◌, List, [], ◌∷◌, ◌++◌, leb, length, get_or, ℤ, pos, ◌-ℤ◌, nat_abs}
use Rattle.std.specs.Int.Signed.{lt_z}
use Rattle.mesh.specs.Picture.{row_words, level_word}
use Rattle.mesh.specs.Refusal.{Check, ◌if◌, refusal}
use Rattle.mesh.specs.Scan.{permutation, no18}
use Rattle.mesh.specs.Call.{Wrote, wrote}
use Rattle.table.specs.Words.{taken}
use Rattle.walk.specs.WalkRows.{row_walk}
use Rattle.listing.specs.ListedRows.{scans}

module _ (t : List ℤ) where
  -- the level that a row's word says
  abbrev pub level_of : ℕ → ℤ
  level_of n = get_or t (n * row_words + level_word) (pos 0)

  -- 6: "number 0, above capacity, or free"; 17: "scan order no permutation of the four kid winds, scan kind outside 1 to 6, from-level below the
  -- start's level, or to-level below from-level"
  abbrev pub start_checks : ℕ → ℕ → List ℕ → ℕ → ℤ → ℤ → List Check
  start_checks cap n o k from to =
      (6 if not (taken t cap n)) ∷
      (17 if (not (permutation o) || (not (leb 1 k && leb k 6) || (lt_z from (level_of n) || lt_z to from)))) ∷
      []

  module _ (cap d n : ℕ) (o : List ℕ) (k : ℕ) (from to : ℤ) where
    -- "for levels from-level to to-level": down from the start's level to the last one
    unfoldable pub row_scan : List ℕ
    row_scan = row_walk t cap (scans t cap d from k) o (nat_abs (to -ℤ level_of n)) n

    -- it lists no more numbers than the table has rows, as in every table that was checked
    abbrev pub Few : Type 0
    Few = refusal (start_checks cap n o k from to) ≡ 0 → length row_scan ≤ cap + 1

    -- and 18: "output too short"
    unfoldable pub row_scan_out : List ℕ → Wrote
    row_scan_out out = wrote (refusal (start_checks cap n o k from to ++ (no18 (length out) row_scan ∷ []))) row_scan out
