-- What the words of a row are read as is in range: a link within the capacity, and a level's word as the depth that was written.
-- Assumes nothing.
use mathlib.Core.Path.{◌≡◌, sym, ◌∙◌}
use mathlib.Core.Logic.{◌≢◌}
use mathlib.Core.List.{List}
use Prim.Native.Nat.{ℕ, suc, ◌+◌, ◌-◌, ◌<◌, ◌≤◌}
use native.Mathlib.Omega.{arith}
use native.Mathlib.Decide.{dec_lt, ℕ_discrete}
use borrow.Author.Tests.{eq-eqb, ne_eqb, le-leb, lt-ltb, le-ltb}
use lib.Dec.{eqb}
use lib.IntN.{ℤ, sub_ℕ}
use Rattle.mesh.specs.Picture.{link_words}
use Rattle.table.specs.Words.{code, word_of, link_of, depth_from, depth_of}
use Rattle.table.specs.Plain.{Plain}
use Rattle.table.proofs.Tests.{kept-within}

pub link-within : (t : List ℤ) (cap n w : ℕ) → link_of t cap n w ≤ cap
unfolding link_of
link-within t cap n w = kept-within (word_of t n w) cap

-- a word within the capacity is the link itself
pub link-word : (t : List ℤ) (cap n w : ℕ) → word_of t n w ≤ cap → link_of t cap n w ≡ word_of t n w
unfolding link_of
link-word t cap n w h = rw (le-leb (word_of t n w) cap h)

-- in a table that is read as it stands, each word of a link is the link
pub kept-as-is : {t : List ℤ} {cap n : ℕ} → Plain t cap → n ≤ cap → (w : ℕ) → w < link_words → link_of t cap n w ≡ word_of t n w
kept-as-is {t} {cap} {n} p h w l = link-word t cap n w (p.links n w h l)

-- the depth comes back from the level's word
pub depth-back : (d e : ℕ) → e < 2147483648 → depth_from d (code (sub_ℕ e d)) ≡ e
depth-back d e h = go (dec_lt e d)
  where
    ghost : (x : ℕ) → x < d → depth_from d (2147483648 + x) ≡ d - 1 - x
    ghost x a =
        let z : 2147483648 + x - 2147483648 ≡ x = omega arith in
        rw (le-ltb (2147483648 + x) 2147483648 (omega arith), z, lt-ltb x d a)

    go : Dec (e < d) → depth_from d (code (sub_ℕ e d)) ≡ e
    go (yes a) = rw (lt-ltb e d a) (ghost (d - suc e) (omega arith) ∙ omega arith)
    go (no a) = rw (le-ltb e d (omega arith)) (rw (lt-ltb (e - d) 2147483648 (omega arith)) (let z : e - d + d ≡ e = omega arith in z))

-- the level of a depth is not below that of depth 0
pub level-of : (d e : ℕ) → e < 2147483648 → code (sub_ℕ e d) < 2147483648 + d
level-of d e h = go (dec_lt e d)
  where
    go : Dec (e < d) → code (sub_ℕ e d) < 2147483648 + d
    go (yes a) = rw (lt-ltb e d a) (omega arith)
    go (no a) = rw (le-ltb e d (omega arith)) (omega arith)

-- and so is one that says a depth
pub level-from : (t : List ℤ) (d n : ℕ) → depth_of t d n < d + 13 → word_of t n 9 < 2147483648 + d
unfolding depth_of
level-from t d n h = go (word_of t n 9) h (dec_lt (word_of t n 9) (2147483648 + d))
  where
    go : (c : ℕ) → depth_from d c < d + 13 → Dec (c < 2147483648 + d) → c < 2147483648 + d
    go c h (yes l) = l
    go c h (no l) = absurd (let z : d + 13 < d + 13 = rw (le-ltb c 2147483648 (omega (arith, l)), le-ltb (c - 2147483648) d (omega (arith, l))) at h in omega arith)

-- a row is on level 0 exactly if its level's word is 0
pub level-zero : (t : List ℤ) (d n : ℕ) → eqb (depth_of t d n) d ≡ eqb (word_of t n 9) 0
unfolding depth_of
level-zero t d n = go (word_of t n 9) (ℕ_discrete (word_of t n 9) 0)
  where
    other : (c : ℕ) → c ≢ 0 → Dec (c < 2147483648) → Dec (c - 2147483648 < d) → depth_from d c ≢ d
    other c z (yes h) k = rw (lt-ltb c 2147483648 h) (λ e. z (omega arith))
    other c z (no h) (yes k) = rw (le-ltb c 2147483648 (omega (arith, h)), lt-ltb (c - 2147483648) d k) (λ e. omega arith)
    other c z (no h) (no k) = rw (le-ltb c 2147483648 (omega (arith, h)), le-ltb (c - 2147483648) d (omega (arith, k))) (λ e. omega arith)

    go : (c : ℕ) → Dec (c ≡ 0) → eqb (depth_from d c) d ≡ eqb c 0
    go c (yes e) = rw e (eq-eqb (0 + d) d (omega arith))
    go c (no e) = ne_eqb (depth_from d c) d (other c e (dec_lt c 2147483648) (dec_lt (c - 2147483648) d)) ∙ sym (ne_eqb c 0 e)
