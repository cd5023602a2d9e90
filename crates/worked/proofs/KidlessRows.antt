-- What a row without kids says of its links.
-- Assumes nothing.
use mathlib.Core.Path.{◌≡◌}
use mathlib.Core.Bool.{true}
use mathlib.Core.List.{List}
use Prim.Native.Nat.{ℕ}
use lib.IntN.{ℤ}
use borrow.Author.Tests.{eqb-true}
use Rattle.mesh.specs.Picture.{ne_word, se_word, sw_word, nw_word}
use Rattle.table.specs.Words.{link_of}
use Rattle.worked.specs.Worked.{kidless}
use Rattle.table.proofs.Tests.{both-pass}

-- each link to a kid is 0
pub bare-links : (t : List ℤ) (cap n : ℕ) → kidless t cap n ≡ true → (link_of t cap n ne_word ≡ 0) × (link_of t cap n se_word ≡ 0) × (link_of t cap n sw_word ≡ 0) × (link_of t cap n nw_word ≡ 0)
bare-links t cap n h =
    let (x, more) = both-pass _ _ h in
    let (y, rest) = both-pass _ _ more in
    let (z, u) = both-pass _ _ rest in
    (eqb-true (link_of t cap n ne_word) 0 x, eqb-true (link_of t cap n se_word) 0 y, eqb-true (link_of t cap n sw_word) 0 z, eqb-true (link_of t cap n nw_word) 0 u)
