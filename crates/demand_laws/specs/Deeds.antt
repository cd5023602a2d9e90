-- The set rules over a history (demand 3): the deeds of tapes, and what they make of the cells, one after the other. A deed's place is that of the
-- number which the request named when it was made.
-- Assumes nothing.
use Rattle.std.specs.Prelude.{ℕ, zero, suc, List, [], ◌∷◌, ◌++◌}
use Rattle.std.proofs.Math.Option.{Option, none, some}
use Rattle.mesh.specs.State.{State, Entry}
use Rattle.mesh.specs.Deed.{Deed, Contents, set_rule}
use Rattle.mesh.specs.Request.{deed_of}
use Rattle.mesh.specs.Tape.{Kind, kind, asks, stop, next, step_by, run}

-- one deed after the other
unfoldable pub set_rules : List Deed → Contents → Contents
set_rules [] c = c
set_rules (d ∷ ds) c = set_rules ds (set_rule d c)

-- ---- the deeds of a tape

-- what the bytes behind a kind byte ask for
abbrev pub asked_by : List Entry → Option Kind → List ℕ → List Deed
asked_by es none bs = []
asked_by es (some k) bs = deed_of es (asks k bs) ∷ []

-- the accepted requests of the rest of a tape, of which so many bytes are to be passed over
unfoldable pub deeds_from : ℕ → State → List ℕ → List Deed
deeds_from l s [] = []
deeds_from zero s (k ∷ bs) =
    elim (step_by s (kind k) bs) [
      | stop r ↦ []
      | next t l ↦ asked_by s.entries (kind k) bs ++ deeds_from l t bs
    ]
deeds_from (suc l) s (b ∷ bs) = deeds_from l s bs

-- ---- lists of tapes, refused requests among them

-- the state after the tapes
unfoldable pub after : State → List (List ℕ) → State
after s [] = s
after s (t ∷ ts) = after (run s t).state ts

-- the accepted requests of all the tapes
unfoldable pub deeds : State → List (List ℕ) → List Deed
deeds s [] = []
deeds s (t ∷ ts) = deeds_from 0 s t ++ deeds (run s t).state ts
