-- Each public call as one total function: from what is lent at entry to the answer and to what every lent list and the header hold at exit.
-- "Checks go 1, 2, 3, then the call's own .. a refused call returns count 0 .. and the refused step changes nothing" (01, 'Numbered refusals').
-- Assumes nothing.
use Rattle.std.specs.Prelude.{ℕ, zero, suc, ◌+◌, ◌*◌, ◌≤◌, Bool, not, ◌&&◌, ◌||◌, ◌≡◌, List, [], ◌∷◌, ◌++◌, leb, ltb, eqb, T, length, get_or, drop, ℤ}
use Rattle.mesh.specs.Tools.{every, same_list}
use Rattle.mesh.specs.Place.{Grid, is_ring}
use Rattle.mesh.specs.State.{Value, blank, value_of, entry, in_use}
use Rattle.mesh.specs.Picture.{row_words, Lent}
use Rattle.mesh.specs.LeafCounts.{count_places, count_place, leaf_counts, Counted, counted}
use Rattle.mesh.specs.Decode.{decode}
use Rattle.mesh.specs.Test.{sound}
use Rattle.mesh.specs.Refusal.{Check, ◌if◌, refusal}
use Rattle.mesh.specs.Build.{numbered, built}
use Rattle.mesh.specs.Tape.{run}
use Rattle.mesh.specs.Scan.{scan, scan_checks, no18}
use Rattle.mesh.specs.Lookup.{lookup, lookup_checks}
use Rattle.mesh.specs.Page.{page, page_checks}

-- ---- the first checks

abbrev pub outside : ℕ → ℕ → ℕ → Bool
outside low high n = not (leb low n && leb n high)

-- 1: "table length is not 14 × (capacity+1), value list is not capacity+1, or capacity outside 5 to 4,095"
abbrev pub size_tests : ℕ → Lent → List Bool
size_tests cap l =
    eqb (length l.words) (row_words * (cap + 1)) ∷
    eqb (length l.values) (cap + 1) ∷
    leb 5 cap ∷
    leb cap 4095 ∷
    []

abbrev pub missized : ℕ → Lent → Bool
missized cap l = not (every (size_tests cap l))

-- what it does not refuse
pub record Sizes (cap : ℕ) (l : Lent) : Type 0 where
  pub words : length l.words ≡ row_words * (cap + 1)
  pub values : length l.values ≡ cap + 1
  pub low : 5 ≤ cap
  pub high : cap ≤ 4095

abbrev pub no1 : ℕ → Lent → Check
no1 cap l = 1 if missized cap l

-- "1 also if the list has not 39 places" (02, No. 5)
abbrev pub no1-counts : List ℕ → Check
no1-counts c = 1 if not (eqb (length c) count_places)

-- 2: "columns or rows outside 1 to 32"; "2 also for a mode that is neither, or a ring with fewer than 3 rows"
abbrev pub misfit : Grid → Bool
misfit g = outside 1 32 g.columns || (outside 1 32 g.rows || (ltb 1 g.mode || (is_ring g && ltb g.rows 3)))

-- the grids that it does not refuse
abbrev pub Rectangle : Grid → Type 0
Rectangle g = (1 ≤ g.columns) × (g.columns ≤ 32) × (1 ≤ g.rows) × (g.rows ≤ 32) × (g.mode ≤ 1) × (T (is_ring g) → 3 ≤ g.rows)

abbrev pub no2 : Grid → Check
no2 g = 2 if misfit g

-- 3: "table, values and header are not sound"
abbrev pub no3 : Lent → Check
no3 l = 3 if not (sound l)

-- "3 also if the list disagrees with the table"
abbrev pub no3-counts : Counted → Check
no3-counts l = 3 if not (same_list eqb l.counts (leaf_counts (decode l.lent)))

-- what scan, lookup and page begin with
unfoldable pub lent_checks : ℕ → Lent → List Check
lent_checks cap l = no1 cap l ∷ no2 l.header.grid ∷ no3 l ∷ []

unfoldable pub lent_refusal : ℕ → Lent → ℕ
lent_refusal cap l = refusal (lent_checks cap l)

-- what the checker asks, and a tape begins with
unfoldable pub counted_checks : ℕ → Counted → List Check
counted_checks cap l = no1 cap l.lent ∷ no1-counts l.counts ∷ no2 l.lent.header.grid ∷ no3 l.lent ∷ no3-counts l ∷ []

-- what a call answers if it is refused with a number above 0, and if it is not
unfoldable pub unless : {A : Type 0} → ℕ → (ℕ → A) → A → A
unless zero refused done = done
unless (suc n) refused done = refused (suc n)

-- ---- check: 0 for yes

unfoldable pub check_call : ℕ → Counted → ℕ
check_call cap l = refusal (counted_checks cap l)

-- ---- build: "build checks 1, 2, 11"

pub record Built : Type 0 where
  pub refusal : ℕ
  pub in_use : ℕ
  pub lent : Counted

unfoldable pub build_checks : ℕ → Counted → Grid → List Check
build_checks cap l g = no1 cap l.lent ∷ no1-counts l.counts ∷ no2 g ∷ (11 if ltb cap (length (numbered g))) ∷ []

unfoldable pub build_call : ℕ → Counted → Grid → Built
build_call cap l g =
    unless (refusal (build_checks cap l g))
    (λ n. record { refusal = n; in_use = 0; lent = l })
    (record { refusal = 0; in_use = in_use (built g cap).entries; lent = counted (built g cap) })

-- ---- tape: "a tape: those done; for 1 to 3 count and offset 0"; it begins with the checks of the checker

pub record Taped : Type 0 where
  pub done : ℕ
  pub refusal : ℕ
  pub offset : ℕ
  pub lent : Counted

unfoldable pub tape_call : ℕ → Counted → List ℕ → Taped
tape_call cap l bytes =
    let r = run (decode l.lent) bytes in
    unless (check_call cap l)
    (λ n. record { done = 0; refusal = n; offset = 0; lent = l })
    (record { done = r.done; refusal = r.refusal; offset = r.offset; lent = counted r.state })

-- ---- scan and page: "places past the count stay"

pub record Wrote : Type 0 where
  pub refusal : ℕ
  pub count : ℕ
  pub out : List ℕ

abbrev pub over : List ℕ → List ℕ → List ℕ
over xs out = xs ++ drop (length xs) out

-- what is to be written, if no check refuses it
abbrev pub wrote : ℕ → List ℕ → List ℕ → Wrote
wrote r xs out = unless r (λ n. record { refusal = n; count = 0; out = out }) (record { refusal = 0; count = length xs; out = over xs out })

-- bytes to be written: refused 18 if the output is too short for them, else in its first places
abbrev pub writing : List ℕ → List ℕ → Wrote
writing xs out = wrote (refusal (no18 (length out) xs ∷ [])) xs out

unfoldable pub scan_call : ℕ → Lent → ℕ → List ℕ → ℕ → ℤ → ℤ → List ℕ → Wrote
scan_call cap l n o k from to out =
    let s = decode l in
    wrote (refusal (lent_checks cap l ++ scan_checks s (length out) n o k from to)) (scan s n o k from to) out

unfoldable pub page_call : ℕ → Lent → List ℕ → Wrote
page_call cap l out =
    let s = decode l in
    wrote (refusal (lent_checks cap l ++ page_checks s (length out))) (page s) out

-- ---- lookup: "the answer is the leaf's number and is a measured value, a carried value, or blank"; refused, "number 0 and blank"

pub record Found : Type 0 where
  pub refusal : ℕ
  pub leaf : ℕ
  pub value : Value

unfoldable pub lookup_call : ℕ → Lent → ℕ → ℕ → Found
lookup_call cap l u v =
    let s = decode l in
    unless (refusal (lent_checks cap l ++ lookup_checks s u v))
    (λ n. record { refusal = n; leaf = 0; value = blank })
    (record { refusal = 0; leaf = lookup s u v; value = value_of (entry s.entries (lookup s u v)) })

-- ---- count: "how many cells still lack a measurement?" (02, No. 5): "the question is lent the list alone"

pub record Count : Type 0 where
  pub refusal : ℕ
  pub count : ℕ

-- "23 for a level or status out of range, after 1 in the question"
unfoldable pub count_checks : List ℕ → ℕ → ℕ → List Check
count_checks c l k = no1-counts c ∷ (23 if (ltb 12 l || ltb 2 k)) ∷ []

unfoldable pub count_call : List ℕ → ℕ → ℕ → Count
count_call c l k = unless (refusal (count_checks c l k)) (λ n. record { refusal = n; count = 0 }) (record { refusal = 0; count = get_or c (count_place l k) 0 })
