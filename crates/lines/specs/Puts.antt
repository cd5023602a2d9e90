-- Bytes or numbers put into a lent list, where there is room for all of them.
-- Assumes nothing.
use Rattle.std.specs.Prelude.{◌≡◌, ℕ, ◌+◌, List, length}
use Rattle.std.proofs.lemmas.List.Edits.{sets}

-- xs put into d from the place at on: that leaves e, with r as the next place
pub record Put (d : List ℕ) (at : ℕ) (xs e : List ℕ) (r : ℕ) : Type 0 where
  pub stored : e ≡ sets d at xs
  pub next : r ≡ at + length xs
