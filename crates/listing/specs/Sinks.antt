-- What the sinks of a walk are after they took numbers.
-- Assumes nothing.
use Rattle.std.specs.Prelude.{ℕ, ◌+◌, ◌≤◌, min, ◌≡◌, List, length}
use Rattle.listing.specs.Written.{WroteWhatFits}
use Rattle.listing.specs.declared.sinks.Numbers.{Numbers}
use Rattle.listing.specs.declared.sinks.Count.{Count}

-- xs written into the same list from the place on, as far as they fit
pub record Wrote (s : Numbers) (xs : List ℕ) (e : Numbers) : Type 0 where
  pub same : e.out.ghost_name ≡ s.out.ghost_name
  pub wrote : s.at ≤ length s.out.now → WroteWhatFits s.out.now s.at xs e.out.now e.at

-- xs counted up to the same bound
pub record Counted (s : Count) (xs : List ℕ) (e : Count) : Type 0 where
  pub same : e.bound ≡ s.bound
  pub counted : s.at ≤ s.bound → e.at ≡ min (s.at + length xs) s.bound
