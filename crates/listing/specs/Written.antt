-- A list of numbers written into a lent list, as far as it fits.
-- Assumes nothing.
use Rattle.std.specs.Prelude.{ℕ, ◌+◌, min, ◌≡◌, List, length}
use Rattle.std.proofs.lemmas.List.Edits.{sets}

-- xs written into d from n on leaves e, with m as the next place
pub record WroteWhatFits (d : List ℕ) (n : ℕ) (xs : List ℕ) (e : List ℕ) (m : ℕ) : Type 0 where
  pub stored : e ≡ sets d n xs
  pub next : m ≡ min (n + length xs) (length d)
