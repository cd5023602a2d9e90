-- The reference grids P1 to P11 and the page of 07 01 01 (01, 'Reference grids'), and those of the change requests: one list of what the calls'
-- rules give and what is said.
-- Assumes nothing.
use Rattle.std.specs.Prelude.{ℕ, ◌+◌, ◌*◌, ◌%◌, ◌≡◌, List, [], ◌∷◌, ◌++◌, map, eqb, get_or, replicate, ℤ, pos, negsuc, nat_abs}
use Rattle.mesh.specs.Tools.{keep}
use Rattle.mesh.specs.Place.{Grid, rectangle}
use Rattle.mesh.specs.State.{State, in_use, plus_zero}
use Rattle.mesh.specs.Picture.{row_words, level_word, i_word, j_word, flags_word, free_flags}
use Rattle.mesh.specs.LeafCounts.{count_places, leaf_counts, Counted, counted}
use Rattle.mesh.specs.Decode.{decode}
use Rattle.mesh.specs.Build.{built}
use Rattle.mesh.specs.Request.{refine, set_value, effect}
use Rattle.mesh.specs.Tape.{run}
use Rattle.mesh.specs.Page.{head_line}
use Rattle.mesh.specs.Call.{check_call, Built, build_call, Taped, tape_call, scan_call, lookup_call, count_call}
use Rattle.mesh.specs.Program.{program}

-- ---- how 01's words read what a call leaves

-- lists of the right length that hold nothing of use
abbrev pub empty : ℕ → Counted
empty cap = record {
  lent = record { header = record { grid = rectangle 0 0; mark = 7 }; words = replicate (row_words * (cap + 1)) (negsuc 0); values = replicate (cap + 1) plus_zero };
  counts = replicate count_places 7;
}

-- a build with so many columns, rows and numbers, and then a tape
abbrev pub build : ℕ → ℕ → ℕ → Built
build c r cap = build_call cap (empty cap) (rectangle c r)

abbrev pub tape : ℕ → ℕ → ℕ → List ℕ → Taped
tape c r cap bytes = tape_call cap (build c r cap).lent bytes

-- the same in a ring, or in a mode that is neither
abbrev in_mode : ℕ → ℕ → ℕ → ℕ → Built
in_mode m c r cap = build_call cap (empty cap) (record { columns = c; rows = r; mode = m })

abbrev ring : ℕ → ℕ → ℕ → Built
ring c r cap = in_mode 1 c r cap

-- a tape on what a build leaves, where the first checks have no part in what is claimed: the run alone
abbrev ran_on : Grid → ℕ → List ℕ → Taped
ran_on g cap bytes = let r = run (built g cap) bytes in record { done = r.done; refusal = r.refusal; offset = r.offset; lent = counted r.state }

abbrev ran : ℕ → ℕ → ℕ → List ℕ → Taped
ran c r cap bytes = ran_on (rectangle c r) cap bytes

abbrev ring_ran : ℕ → ℕ → ℕ → List ℕ → Taped
ring_ran c r cap bytes = ran_on (record { columns = c; rows = r; mode = 1 }) cap bytes

-- what is lent, with the header of another mode
abbrev with_mode : ℕ → Counted → Counted
with_mode m l =
    let h = l.lent.header in
    let g = h.grid in
    record {
      lent = record { header = record { grid = record { columns = g.columns; rows = g.rows; mode = m }; mark = h.mark }; words = l.lent.words; values = l.lent.values };
      counts = l.counts;
    }

-- what is lent, with another list of counts
abbrev with_counts : List ℕ → Counted → Counted
with_counts c l = record { lent = l.lent; counts = c }

-- the word w of the row n, where no sign is to be seen
abbrev word_at : Counted → ℕ → ℕ → ℕ
word_at l w n = nat_abs (get_or l.lent.words (n * row_words + w) (pos 0))

abbrev pub flags_at : Counted → List ℕ → List ℕ
flags_at l ns = map (word_at l flags_word) ns

-- level, i and j of the rows with these numbers
abbrev spots_at : Counted → List ℕ → List (ℤ × ℕ × ℕ)
spots_at l ns = map (λ n. (get_or l.lent.words (n * row_words + level_word) (pos 0), word_at l i_word n, word_at l j_word n)) ns

-- places of one level
abbrev on : ℤ → List (ℕ × ℕ) → List (ℤ × ℕ × ℕ)
on k ps = map (λ p. (k, p.0, p.1)) ps

abbrev used_in : Counted → ℕ
used_in l = in_use (decode l.lent).entries

-- the numbers, among these, whose rows are free; that are cells
abbrev free_among : Counted → List ℕ → List ℕ
free_among l ns = keep (λ n. eqb (word_at l flags_word n) free_flags) ns

abbrev cells_among : Counted → List ℕ → List ℕ
cells_among l ns = keep (λ n. eqb (word_at l flags_word n % 2) 1) ns

-- requests done, refusal, offset
abbrev pub outcome : Taped → ℕ × ℕ × ℕ
outcome r = (r.done, r.refusal, r.offset)

-- the leaf's number, refusal
abbrev lookup : ℕ → Counted → ℕ → ℕ → ℕ × ℕ
lookup cap l u v = let f = lookup_call cap l.lent u v in (f.leaf, f.refusal)

-- the number, refusal
abbrev asked : List ℕ → ℕ → ℕ → ℕ × ℕ
asked c l k = let a = count_call c l k in (a.count, a.refusal)

-- one claim: what the rules give, and what 01 says that it is
pub record Claim : Type 1 where
  pub What : Type 0
  pub gives : What
  pub says : What

infix 20 ◌is◌
abbrev ◌is◌ : {A : Type 0} → A → A → Claim
◌is◌ {A} a b = record { What = A; gives = a; says = b }

abbrev pub Hold : List Claim → Type 0
Hold [] = Unit {0}
Hold (c ∷ cs) = (c.gives ≡ c.says) × Hold cs

abbrev numbers : List ℕ
numbers = 1 ∷ 2 ∷ 3 ∷ 4 ∷ 5 ∷ 6 ∷ 7 ∷ 8 ∷ 9 ∷ 10 ∷ 11 ∷ 12 ∷ 13 ∷ 14 ∷ 15 ∷ 16 ∷ 17 ∷ 18 ∷ 19 ∷ 20 ∷ []

-- the tapes of the grids, each going on from the one before
abbrev pub refine2 : List ℕ
refine2 = 1 ∷ 0 ∷ 2 ∷ []

abbrev pub away : List ℕ
away = refine2 ++ (2 ∷ 0 ∷ 6 ∷ 2 ∷ 0 ∷ 7 ∷ 2 ∷ 0 ∷ 8 ∷ 2 ∷ 0 ∷ 9 ∷ 3 ∷ 0 ∷ 2 ∷ [])

abbrev refine4 : List ℕ
refine4 = 1 ∷ 0 ∷ 4 ∷ []

abbrev kill : ℕ → List ℕ
kill n = 4 ∷ 0 ∷ n ∷ []

abbrev killed : List ℕ
killed = refine4 ++ kill 6

abbrev refine10 : List ℕ
refine10 = killed ++ (1 ∷ 0 ∷ 10 ∷ [])

-- the cell 4 and its kid 11, which lies beside the cell 6
abbrev refine11 : List ℕ
refine11 = 1 ∷ 0 ∷ 11 ∷ []

-- in a ring of 1×3 the cell 8 of the last row, the cell 4 of the first, and a kid of 8 beside 4
abbrev refine8 : List ℕ
refine8 = 1 ∷ 0 ∷ 8 ∷ []

abbrev refine12 : List ℕ
refine12 = 1 ∷ 0 ∷ 12 ∷ []

-- both cells refined, then 11; the kids of 6, named and sentenced, and it is to lose them
abbrev doom6 : List ℕ
doom6 = refine4 ++ (1 ∷ 0 ∷ 6 ∷ []) ++ refine11 ++ (2 ∷ 0 ∷ 17 ∷ 2 ∷ 0 ∷ 19 ∷ 2 ∷ 0 ∷ 16 ∷ 2 ∷ 0 ∷ 20 ∷ 3 ∷ 0 ∷ 6 ∷ [])

-- of two cells, 4 and 6, the one measured
abbrev measured4 : ℕ → State
measured4 cap = effect (built (rectangle 2 1) cap) (set_value 4 plus_zero)

unfoldable pub grids : List Claim
grids =
    -- P1
    ((build 1 1 14).in_use is 5) ∷
    (spots_at (build 1 1 14).lent (1 ∷ 2 ∷ 3 ∷ 4 ∷ 5 ∷ []) is ((negsuc 0, 0, 0) ∷ on (pos 0) ((0, 0) ∷ (0, 1) ∷ (1, 0) ∷ (1, 1) ∷ []))) ∷
    -- P2
    (flags_at (build 1 1 14).lent (2 ∷ 3 ∷ 4 ∷ 5 ∷ []) is (127 ∷ 26 ∷ 44 ∷ 8 ∷ [])) ∷
    -- P3
    (spots_at (tape 1 1 14 refine2).lent (6 ∷ 7 ∷ 8 ∷ 9 ∷ 10 ∷ 11 ∷ 12 ∷ 13 ∷ 14 ∷ []) is
    on (pos 1) ((0, 0) ∷ (1, 0) ∷ (0, 1) ∷ (1, 1) ∷ (0, 2) ∷ (1, 2) ∷ (2, 1) ∷ (2, 0) ∷ (2, 2) ∷ [])) ∷
    (outcome (tape 1 1 14 refine2) is (1, 0, 3)) ∷
    (outcome (tape 1 1 13 refine2) is (0, 11, 0)) ∷
    -- P4: the rows were free before
    (flags_at (build 1 1 14).lent (6 ∷ 7 ∷ 8 ∷ 9 ∷ []) is (8192 ∷ 8192 ∷ 8192 ∷ 8192 ∷ [])) ∷
    (flags_at (tape 1 1 14 refine2).lent (6 ∷ 7 ∷ 8 ∷ 9 ∷ []) is (127 ∷ 95 ∷ 111 ∷ 71 ∷ [])) ∷
    -- P5
    ((tape 1 1 14 away).lent.lent.words is (build 1 1 14).lent.lent.words) ∷
    ((tape 1 1 14 away).lent.lent.header.mark is 6) ∷
    -- P6
    ((build 2 1 20).in_use is 9) ∷
    (cells_among (build 2 1 20).lent numbers is (4 ∷ 6 ∷ [])) ∷
    (used_in (ran 2 1 20 refine4).lent is 18) ∷
    (flags_at (ran 2 1 20 refine4).lent (17 ∷ 16 ∷ 11 ∷ 18 ∷ []) is (652 ∷ 644 ∷ 1119 ∷ 136 ∷ [])) ∷
    -- P7: 19 and 20 were free before
    (free_among (ran 2 1 20 killed).lent numbers is (3 ∷ 8 ∷ 9 ∷ 19 ∷ 20 ∷ [])) ∷
    (flags_at (ran 2 1 20 killed).lent (17 ∷ 16 ∷ 11 ∷ 18 ∷ []) is (44 ∷ 44 ∷ 95 ∷ 8 ∷ [])) ∷
    -- P8: the words 3, 2, 4 and 1 are the kids SW, SE, NW and NE
    (map (λ w. word_at (ran 2 1 24 refine10).lent w 10) (3 ∷ 2 ∷ 4 ∷ 1 ∷ []) is (3 ∷ 8 ∷ 9 ∷ 19 ∷ [])) ∷
    -- P9: the words 6 and 8 are the neighbours E and W
    (used_in (ran 3 1 16 (kill 6)).lent is 11) ∷
    (word_at (ran 3 1 16 (kill 6)).lent 6 6 is 8) ∷
    (word_at (ran 3 1 16 (kill 6)).lent 8 8 is 6) ∷
    -- P10
    (outcome (tape 1 1 14 (refine2 ++ refine2)) is (1, 8, 3)) ∷
    -- P11
    (lookup 14 (build 1 1 14).lent 4095 4095 is (2, 0)) ∷
    (lookup 14 (build 1 1 14).lent 4096 0 is (2, 0)) ∷
    (lookup 14 (build 1 1 14).lent 4097 0 is (0, 19)) ∷
    -- the page of 07 01 01
    (program (7 ∷ 1 ∷ 1 ∷ []) is (
    109 ∷ 97 ∷ 112 ∷ 32 ∷ 49 ∷ 32 ∷ 49 ∷ 32 ∷ 48 ∷ 32 ∷ 111 ∷ 112 ∷ 101 ∷ 110 ∷ 10 ∷
    50 ∷ 32 ∷ 48 ∷ 32 ∷ 48 ∷ 32 ∷ 48 ∷ 32 ∷ 110 ∷ 32 ∷
    48 ∷ 48 ∷ 48 ∷ 48 ∷ 48 ∷ 48 ∷ 48 ∷ 48 ∷ 48 ∷ 48 ∷ 48 ∷ 48 ∷ 48 ∷ 48 ∷ 48 ∷ 48 ∷ 10 ∷
    99 ∷ 101 ∷ 108 ∷ 108 ∷ 115 ∷ 32 ∷ 49 ∷ 32 ∷ 115 ∷ 117 ∷ 109 ∷ 32 ∷ 50 ∷ 50 ∷ 55 ∷ 56 ∷ 10 ∷ [])) ∷
    -- 'Slips that look right': a scan from level 0 to 0 lists the inner patch at from-level; columns come before rows
    (scan_call 14 (tape 1 1 14 refine2).lent.lent 1 (3 ∷ 4 ∷ 2 ∷ 1 ∷ []) 2 (pos 0) (pos 0) (7 ∷ 7 ∷ []) is record { refusal = 0; count = 1; out = 2 ∷ 7 ∷ [] }) ∷
    (map (λ n. word_at (build 2 1 20).lent 10 n) (4 ∷ 6 ∷ []) is (0 ∷ 1 ∷ [])) ∷
    -- "touching at a corner only does not count": the middle of 3×3 once the cell at (2,2) is killed
    (flags_at (ran 3 3 21 (kill 18)).lent (9 ∷ []) is (7 ∷ [])) ∷
    -- No. 1: beside a coarser leaf 21, after 10 and before 11; beside a finer one 22
    (outcome (ran 2 1 20 (refine4 ++ refine11)) is (1, 21, 3)) ∷
    (outcome (ran 2 1 20 (refine4 ++ (2 ∷ 0 ∷ 11 ∷ []) ++ refine11)) is (2, 10, 6)) ∷
    (outcome (ran 2 1 33 doom6) is (7, 22, 21)) ∷
    -- No. 2: on 2×2 without the cell at (1,1), which is 9, left before down, and none two units off; without the one at (0,1), which is 7, no try
    -- below 0; on 1×1 both
    (lookup 14 (ran 2 2 14 (kill 9)).lent 4096 4096 is (7, 0)) ∷
    (lookup 14 (ran 2 2 14 (kill 9)).lent 4097 4097 is (0, 19)) ∷
    (lookup 14 (ran 2 2 14 (kill 7)).lent 0 4096 is (6, 0)) ∷
    (lookup 14 (build 1 1 14).lent 4096 4096 is (2, 0)) ∷
    -- No. 4: a ring of 1×3. Its numbers: the root, two ghosts, and no patch in a row 3
    ((ring 1 3 12).in_use is 9) ∷
    (spots_at (ring 1 3 12).lent (1 ∷ 2 ∷ 3 ∷ 4 ∷ 5 ∷ 6 ∷ 7 ∷ 8 ∷ 9 ∷ []) is
    ((negsuc 1, 0, 0) ∷ on (negsuc 0) ((0, 0) ∷ (0, 1) ∷ []) ++ on (pos 0) ((0, 0) ∷ (0, 1) ∷ (1, 0) ∷ (1, 1) ∷ (0, 2) ∷ (1, 2) ∷ []))) ∷
    -- its flags: every wall between two rows is internal
    (flags_at (ring 1 3 12).lent (4 ∷ 5 ∷ 8 ∷ 6 ∷ 7 ∷ 9 ∷ []) is (111 ∷ 111 ∷ 111 ∷ 44 ∷ 44 ∷ 44 ∷ [])) ∷
    -- its links over the seam, N (word 5) of the last row and S (word 7) of the first
    (map (word_at (ring 1 3 12).lent 5) (8 ∷ 9 ∷ []) is (4 ∷ 6 ∷ [])) ∷
    (map (word_at (ring 1 3 12).lent 7) (4 ∷ 6 ∷ []) is (8 ∷ 9 ∷ [])) ∷
    -- ghosts link as in the open mode: those of level -1 in a ring of 1×4, 3 and 4, are neighbours on one side
    (map (word_at (ring 1 4 16).lent 5) (3 ∷ 4 ∷ 10 ∷ []) is (4 ∷ 0 ∷ 5 ∷ [])) ∷
    (map (word_at (ring 1 4 16).lent 7) (3 ∷ 4 ∷ 5 ∷ []) is (0 ∷ 3 ∷ 10 ∷ [])) ∷
    -- refine at the seam, from the last row: the patches north of the kids lie in row 0
    (spots_at (ring_ran 1 3 18 refine8).lent (10 ∷ 11 ∷ 12 ∷ 13 ∷ 14 ∷ 15 ∷ 16 ∷ 17 ∷ 18 ∷ []) is
    on (pos 1) ((0, 4) ∷ (1, 4) ∷ (0, 5) ∷ (1, 5) ∷ (0, 0) ∷ (1, 0) ∷ (2, 5) ∷ (2, 4) ∷ (2, 0) ∷ [])) ∷
    (flags_at (ring_ran 1 3 18 refine8).lent (12 ∷ 14 ∷ []) is (1135 ∷ 394 ∷ [])) ∷
    -- and from the first row as well: the wall between the two is internal
    (flags_at (ring_ran 1 3 24 (refine8 ++ refine4)).lent (12 ∷ 14 ∷ []) is (111 ∷ 111 ∷ [])) ∷
    (word_at (ring_ran 1 3 24 (refine8 ++ refine4)).lent 5 12 is 14) ∷
    (word_at (ring_ran 1 3 24 (refine8 ++ refine4)).lent 7 14 is 12) ∷
    -- No. 1 over the seam: 12 lies beside the coarse leaf 4
    (outcome (ring_ran 1 3 30 (refine8 ++ refine12)) is (1, 21, 3)) ∷
    -- kill at the seam: the wall of the cell across becomes boundary, H of 4 or of 8's place
    (flags_at (ring_ran 1 3 12 (kill 8)).lent (4 ∷ 8 ∷ 9 ∷ []) is (127 ∷ 26 ∷ 8 ∷ [])) ∷
    (flags_at (ring_ran 1 3 12 (kill 4)).lent (5 ∷ 4 ∷ 8 ∷ []) is (127 ∷ 26 ∷ 111 ∷ [])) ∷
    -- lookups in the last row, and past it 19 at once, though the leaf 8 ends there
    (lookup 12 (ring 1 3 12).lent 0 12287 is (8, 0)) ∷
    (lookup 12 (ring 1 3 12).lent 0 12288 is (0, 19)) ∷
    -- 2 for a ring of 2 rows and for a mode that is neither
    ((ring 1 2 12).refusal is 2) ∷
    ((in_mode 2 1 3 12).refusal is 2) ∷
    -- the page's first line: map 1 3 0 ring
    (head_line (ring 1 3 12).lent.lent.header is (109 ∷ 97 ∷ 112 ∷ 32 ∷ 49 ∷ 32 ∷ 51 ∷ 32 ∷ 48 ∷ 32 ∷ 114 ∷ 105 ∷ 110 ∷ 103 ∷ 10 ∷ [])) ∷
    -- a table that is sound as a ring and not open, and the other way round
    (map (check_call 12) ((ring 1 3 12).lent ∷ with_mode 0 (ring 1 3 12).lent ∷ (build 1 3 12).lent ∷ with_mode 1 (build 1 3 12).lent ∷ []) is (0 ∷ 3 ∷ 0 ∷ 3 ∷ [])) ∷
    -- what these tapes leave is sound
    (map (check_call 20) ((ran 2 1 20 refine4).lent ∷ (ran 2 1 20 killed).lent ∷ []) is (0 ∷ 0 ∷ [])) ∷
    (map (check_call 18) ((ring_ran 1 3 18 refine8).lent ∷ (ring_ran 1 3 18 (kill 8)).lent ∷ []) is (0 ∷ 0 ∷ [])) ∷
    -- No. 5: a build has blank leaves on level 0 alone; a blank cell refined has four blank kids, and a measured one four that are carried
    ((build 2 1 20).lent.counts is (2 ∷ replicate 38 0)) ∷
    ((ran 2 1 20 refine4).lent.counts is (1 ∷ 0 ∷ 0 ∷ 4 ∷ replicate 35 0)) ∷
    (leaf_counts (measured4 20) is (1 ∷ 1 ∷ replicate 37 0)) ∷
    (leaf_counts (effect (measured4 20) (refine 4)) is (1 ∷ 0 ∷ 0 ∷ 0 ∷ 0 ∷ 4 ∷ replicate 33 0)) ∷
    -- the cell that lost its kids is a leaf again
    ((tape 1 1 14 away).lent.counts is (build 1 1 14).lent.counts) ∷
    -- 1 for 38 and 40 places; 3 for a number too many, and for the right sum in a wrong place
    (map (λ c. check_call 20 (with_counts c (build 2 1 20).lent)) (replicate 38 0 ∷ replicate 40 0 ∷ (3 ∷ replicate 38 0) ∷ (1 ∷ 1 ∷ replicate 37 0) ∷ []) is (1 ∷ 1 ∷ 3 ∷ 3 ∷ [])) ∷
    ((build_call 20 (with_counts [] (empty 20)) (rectangle 0 0)).refusal is 1) ∷
    -- the question, of a list that need not be anything's counts: 1, then 23
    (map (λ (q : ℕ × ℕ). asked (replicate 38 0 ++ (9 ∷ [])) q.0 q.1) ((12, 2) ∷ (12, 1) ∷ (13, 0) ∷ (0, 3) ∷ []) is ((9, 0) ∷ (0, 0) ∷ (0, 23) ∷ (0, 23) ∷ [])) ∷
    (asked (replicate 38 9) 13 3 is (0, 1)) ∷
    []
