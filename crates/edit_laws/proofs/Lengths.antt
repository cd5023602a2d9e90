-- As many words as there were: after words are written in their place, and after links to a row are.
-- Assumes nothing.
use Prim.Native.Nat.{ℕ, ◌%◌}
use mathlib.Core.Path.{◌≡◌, refl}
use mathlib.Core.Bool.{Bool, true, false, cond}
use mathlib.Core.List.{List}
use lib.Dec.{eqb}
use lib.IntN.{ℤ}
use lib.ListN.{length, length-set}
use Rattle.mesh.specs.Place.{Wind, N, E, S, W, compass}
use Rattle.mesh.specs.Winds.{word_of_wind}
use Rattle.table.specs.Words.{word_of, link_of}
use Rattle.worked.specs.Worked.{kid_word}
use Rattle.edit_laws.specs.PatchSteps.{put_word, put_unless_nil, drop_side}

-- ---- words

length-cond : {A : Type 0} (b : Bool) {n : ℕ} (t u : List A) → length t ≡ n → length u ≡ n → length (cond b t u) ≡ n
length-cond true t u e h = e
length-cond false t u e h = h

pub length-put_word : (t : List ℤ) (n w x : ℕ) → length (put_word t n w x) ≡ length t
length-put_word t n w x = simp length-set

pub length-put_unless_nil : (t : List ℤ) (n w x : ℕ) → length (put_unless_nil t n w x) ≡ length t
length-put_unless_nil t n w x = length-cond (eqb n 0) _ _ refl (length-put_word t n w x)

-- ---- a patch that goes

pub length-drop_side : (t : List ℤ) (cap k : ℕ) (w : Wind) → length (drop_side t cap k w) ≡ length t
unfolding drop_side
length-drop_side t cap k w = length-put_unless_nil t (link_of t cap k (word_of_wind w)) (word_of_wind (compass w).opposite) 0

-- the table in which no other row names the row k
abbrev pub unnamed : List ℤ → ℕ → ℕ → List ℤ
unnamed t cap k =
    let t₁ = put_word t (link_of t cap k 0) (kid_word (word_of t k 10 % 2) (word_of t k 11 % 2)) 0 in
    drop_side (drop_side (drop_side (drop_side t₁ cap k N) cap k E) cap k S) cap k W

pub length-unnamed : (t : List ℤ) (cap k : ℕ) → length (unnamed t cap k) ≡ length t
length-unnamed t cap k = simp (length-drop_side, length-set)
