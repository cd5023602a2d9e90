-- A number in a range and the test of the first checks that it is outside of it; lists of their sizes and the test of refusal 1.
-- Assumes nothing.
use Prim.Native.Nat.{ℕ, ◌+◌, ◌*◌, ◌≤◌}
use mathlib.Core.Path.{◌≡◌}
use mathlib.Core.Bool.{false}
use lib.Dec.{leb, leb→le, eqb→eq}
use lib.ListN.{length}
use borrow.Author.Tests.{le-leb, leb-true, eq-eqb, not-false}
use Rattle.mesh.specs.Tools.{every}
use Rattle.mesh.specs.Picture.{row_words, Lent}
use Rattle.mesh.specs.Call.{outside, size_tests, missized, Sizes}
use Rattle.place_laws.proofs.Bools.{both_true, is-yes}
use Rattle.place_laws.proofs.Lists.{every-at}

pub within-outside : (low high n : ℕ) → low ≤ n → n ≤ high → outside low high n ≡ false
within-outside low high n a b = rw (le-leb low n a, le-leb n high b)

pub outside-within : (low high n : ℕ) → outside low high n ≡ false → (low ≤ n) × (n ≤ high)
outside-within low high n e = let (a, b) = both_true (leb low n) (leb n high) e in (leb-true low n a, leb-true n high b)

-- ---- refusal 1

module _ (cap : ℕ) (l : Lent) where
  pub fits-sizes : missized cap l ≡ false → Sizes cap l
  fits-sizes e =
      let b = every (size_tests cap l) in
      let nth = every-at (size_tests cap l) (is-yes b (not-false b e)) in
      record { words = eqb→eq _ _ (nth 0); values = eqb→eq _ _ (nth 1); low = leb→le _ _ (nth 2); high = leb→le _ _ (nth 3) }

  pub sizes-fit : Sizes cap l → missized cap l ≡ false
  sizes-fit z =
      rw (
        eq-eqb (length l.words) (row_words * (cap + 1)) z.words,
        eq-eqb (length l.values) (cap + 1) z.values,
        le-leb 5 cap z.low,
        le-leb cap 4095 z.high,
      )
