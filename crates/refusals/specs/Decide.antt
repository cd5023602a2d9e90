-- What a request is refused for, by the words of a table: the checks of 01 and of 02, No. 1, and the refusal of each kind of request.
-- Assumes nothing.
use Rattle.std.specs.Prelude.{ℕ, not, List, [], ◌∷◌, eqb, ltb, ℤ, Float}
use Rattle.mesh.specs.Valid.{finite}
use Rattle.mesh.specs.Refusal.{Check, ◌if◌, refusal}
use Rattle.mesh.specs.Picture.{level_word}
use Rattle.mesh.specs.Mesh.{complete_bit, grn_cell_bit, sentenced_bit}
use Rattle.table.specs.Words.{word_of, flag_of, taken}
use Rattle.asks.specs.Asks.{parental, kids_sentenced, lacking, finer_round, other_under}
use Rattle.free.specs.Free.{free_total}

module _ (t : List ℤ) (cap : ℕ) where
  module _ (n : ℕ) where
    abbrev pub row6 : Check
    row6 = 6 if not (taken t cap n)

    abbrev pub row7 : Check
    row7 = 7 if not (flag_of t complete_bit n)

    abbrev pub row8 : Check
    row8 = 8 if parental t cap n

    -- by the word of the level
    abbrev pub row9 : Check
    row9 = 9 if eqb (word_of t n level_word) 12

    abbrev pub row10 : Check
    row10 = 10 if flag_of t sentenced_bit n

    abbrev pub row11 : Check
    row11 = 11 if ltb (free_total t) (lacking t cap n)

    abbrev pub row12-sentence : Check
    row12-sentence = 12 if eqb (word_of t n level_word) 0

    abbrev pub row12-kill : Check
    row12-kill = 12 if not (eqb (word_of t n level_word) 0)

    abbrev pub row13 : Check
    row13 = 13 if not (parental t cap n)

    abbrev pub row14 : Check
    row14 = 14 if not (kids_sentenced t cap n)

    -- No. 1 needs no search: where a coarser leaf lies beside a cell, a wall of the cell is green, and its row has the flag GrnCell; and what lies
    -- beside the kids, outside the four, are eight rows that the kids' links name
    abbrev pub row21 : Check
    row21 = 21 if flag_of t grn_cell_bit n

    abbrev pub row22 : Check
    row22 = 22 if finer_round t cap n

    abbrev pub refine_rows : List Check
    refine_rows = row6 ∷ row7 ∷ row8 ∷ row9 ∷ row10 ∷ row21 ∷ row11 ∷ []

    unfoldable pub refine_refusal : ℕ
    refine_refusal = refusal refine_rows

    abbrev pub sentence_rows : List Check
    sentence_rows = row6 ∷ row7 ∷ row8 ∷ row12-sentence ∷ []

    unfoldable pub sentence_refusal : ℕ
    sentence_refusal = refusal sentence_rows

    abbrev pub remove_rows : List Check
    remove_rows = row6 ∷ row7 ∷ row13 ∷ row14 ∷ row22 ∷ []

    unfoldable pub remove_refusal : ℕ
    remove_refusal = refusal remove_rows

    abbrev pub set_rows : Float → List Check
    set_rows x = row6 ∷ row7 ∷ row8 ∷ (16 if not (finite x)) ∷ []

    unfoldable pub set_refusal : Float → ℕ
    set_refusal x = refusal (set_rows x)

  -- with level 0 at depth d
  module _ (d n : ℕ) where
    abbrev pub row15 : Check
    row15 = 15 if not (other_under t cap n d 1)

    abbrev pub kill_rows : List Check
    kill_rows = row6 n ∷ row7 n ∷ row12-kill n ∷ row8 n ∷ row15 ∷ []

    unfoldable pub kill_refusal : ℕ
    kill_refusal = refusal kill_rows
