-- A word without a sign is its own code, a word within the capacity is the link itself, and a level and the depth of level 0 add up to the depth.
-- Assumes nothing.
use mathlib.Core.Path.{◌≡◌, refl, ap, subst, sym, ◌∙◌}
use mathlib.Core.List.{List}
use Prim.Native.Nat.{ℕ, ◌+◌, ◌*◌, ◌≤◌, ◌<◌}
use native.Mathlib.Omega.{arith}
use lib.Dec.{T, le→leb}
use lib.ListN.{get_or}
use lib.IntN.{ℤ, pos, negsuc, nat_abs, ◌+ℤ◌}
use lib.Signed.{le_z}
use mir.Syntax.{w32}
use mir.Val.{SFits, to_z, of_z}
use Rattle.mesh.specs.Picture.{row_words}
use Rattle.table.specs.Words.{code, word_of, link_of, depth_from, depth_of}
use Rattle.table.specs.Plain.{Unsigned}
use Rattle.table.proofs.Signed.{Plus, depth-sum}
use Rattle.table.proofs.LinkRanges.{link-word}

-- a word below 2 ^ 31 is not negative
pub word-unsigned : (t : List ℤ) (n w : ℕ) → word_of t n w < 2147483648 → Unsigned t n w
unfolding word_of
word-unsigned t n w h = go (get_or t (n * row_words + w) (pos 0)) h
  where
    go : (z : ℤ) → code z < 2147483648 → T (le_z (pos 0) z)
    go (pos n) h = le→leb 0 n (omega arith)
    go (negsuc n) h = absurd (omega arith)

-- such a word where it was read
pub read-unsigned : (t : List ℤ) (n w : ℕ) {z : ℤ} → SFits w32 z → z ≡ get_or t (n * row_words + w) (pos 0) → Unsigned t n w → Plus z
read-unsigned t n w {z} f e h = go z f (rw e h)
  where
    go : (z : ℤ) → SFits w32 z → T (le_z (pos 0) z) → Plus z
    go (pos n) f h = record { size = n; is = refl; small = f.sfits }
    go (negsuc n) f h = absurd h

pub size-code : {z : ℤ} → Plus z → nat_abs z ≡ code z
size-code p = rw p.is

-- a link that is read as the word is
pub link-read : (t : List ℤ) (cap n w : ℕ) {r : ℕ} → r ≡ word_of t n w → word_of t n w ≤ cap → (r ≤ cap) × (r ≡ link_of t cap n w)
link-read t cap n w e h = (subst (λ (x : ℕ). x ≤ cap) (sym e) h, e ∙ sym (link-word t cap n w h))

-- a level that is read and the depth of level 0 add up to the depth
pub depth-read : (t : List ℤ) (d n : ℕ) {z : ℤ} → SFits w32 z → z ≡ get_or t (n * row_words + 9) (pos 0) → d ≤ 32 → word_of t n 9 < 2147483648 + d → to_z w32 (of_z w32 z) +ℤ to_z w32 d ≡ pos (depth_of t d n)
unfolding word_of depth_of
depth-read t d n {z} f e h l = depth-sum d {z = z} f h (rw e l) ∙ ap (λ (y : ℤ). pos (depth_from d (code y))) e
