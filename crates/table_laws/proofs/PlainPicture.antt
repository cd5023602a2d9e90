-- The picture of a valid state is plain: every row has its place in it, its links name rows or none, and its flags are fourteen digits.
-- Assumes nothing.
use Prim.Native.Nat.{ℕ, ◌<◌}
use native.Mathlib.Omega.{arith}
use mathlib.Core.Path.{◌≡◌, refl, ap}
use lib.ListN.{get_or}
use mathlib.Core.Option.{none}
use lib.Dec.{lit<}
use Rattle.table.specs.Words.{word_of}
use Rattle.table.specs.Plain.{Plain}
use Rattle.mesh.specs.Picture.{table}
use Rattle.mesh.specs.State.{State, capacity, Entry, cells, grid_of, entry, place_of, nil, free, used, is_sentenced}
use Rattle.mesh.specs.Valid.{Valid}
use Rattle.mesh.specs.Place.{around}
use Rattle.mesh.specs.Mesh.{flags, derived}
use Rattle.number_laws.proofs.Entries.{in_list}
use Rattle.picture_laws.proofs.Rows.{table-length}
use Rattle.picture_laws.proofs.Decoding.{digits_lt}
use Rattle.table_laws.proofs.Pictured.{word-link, number-le, nil-words, free-flags, word_flags}

-- the flags' word of any row is one of fourteen digits
pub flags-small : (s : State) (n : ℕ) → word_of (table s) n 12 < 16384
unfolding flags derived
flags-small s n = go (entry s.entries n) refl
  where
    go : (e : Entry) → entry s.entries n ≡ e → word_of (table s) n 12 < 16384
    go nil h = rw (nil-words s n 12 h (lit< tt)) (lit< tt)
    go free h = rw (free-flags s n h) (lit< tt)
    go (used p x) h = rw (word_flags s n p (ap place_of h)) (digits_lt (flags (grid_of s) (cells s.entries) p (is_sentenced (entry s.entries n))))

pub plain-picture : (s : State) → Valid s → Plain (table s) (capacity s)
plain-picture s v = record {
  sized = record { words = omega (arith, table-length s, in_list s.entries 1 _ v.first-root); small = v.sizes.1 };
  links = λ n w _ l. rw (word-link s n w l) (number-le s (get_or (around (grid_of s) (place_of (entry s.entries n))) w none));
  flags = λ n _. omega (arith, flags-small s n);
}
