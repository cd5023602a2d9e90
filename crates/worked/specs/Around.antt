-- The rows around a cell, as the code has them.
-- Assumes nothing.
use Rattle.std.specs.Prelude.{ℕ, ◌≡◌, ◌≤◌, List, ℤ}
use Rattle.mesh.specs.Picture.{east_word, north_word, south_word, west_word}
use Rattle.table.specs.Words.{link_of}
use Rattle.worked.specs.declared.around.Around.{Around}

pub record IsAround (t : List ℤ) (cap n : ℕ) (a : Around) : Type 0 where
  pub north : a.north ≡ link_of t cap n north_word
  pub east : a.east ≡ link_of t cap n east_word
  pub both : a.both ≡ link_of t cap a.east north_word
  pub south : a.south ≡ link_of t cap n south_word
  pub west : a.west ≡ link_of t cap n west_word

pub record Within (cap : ℕ) (a : Around) : Type 0 where
  pub north : a.north ≤ cap
  pub east : a.east ≤ cap
  pub both : a.both ≤ cap
  pub south : a.south ≤ cap
  pub west : a.west ≤ cap
