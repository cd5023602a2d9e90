-- Up from a row to the root, by the parents' places: no two rows stand at one place, since their parents are one row and it names both at one
-- corner; and the indices of a row are below 2 to its depth.
-- Assumes nothing.
use Prim.Native.Nat.{ℕ, zero, suc, ◌^◌, ◌≤◌, ◌<◌}
use native.Mathlib.Nat.{pow-suc}
use native.Mathlib.Omega.{arith}
use native.Mathlib.Decide.{ℕ_discrete}
use mathlib.Core.Path.{◌≡◌, refl, sym, ap, ◌∙◌}
use mathlib.Core.Logic.{◌≢◌}
use mathlib.Core.Option.{some-injective}
use mathlib.Core.List.{List}
use lib.IntN.{ℤ}
use lib.Ieee.{Float}
use lib.Pow.{pow_mono}
use Rattle.mesh.specs.Call.{Rectangle}
use Rattle.mesh.specs.Place.{Place, Grid, root, base, parent}
use Rattle.mesh.specs.Picture.{parent_word, i_word, j_word}
use Rattle.table.specs.Words.{word_of, link_of, depth_of}
use Rattle.place_laws.proofs.Kids.{parent-depth}
use Rattle.place_laws.proofs.Base.{halved, base-range}
use Rattle.checker_laws.proofs.Facts.{Used, said_place, Tested}

-- ---- what a row's place is made of

pub said-depth : (g : Grid) (t : List ℤ) (n : ℕ) → (said_place g t n).depth ≡ depth_of t (base g) n
unfolding said_place
said-depth g t n = refl

pub said-i : (g : Grid) (t : List ℤ) (n : ℕ) → (said_place g t n).i ≡ word_of t n i_word
unfolding said_place
said-i g t n = refl

pub said-j : (g : Grid) (t : List ℤ) (n : ℕ) → (said_place g t n).j ≡ word_of t n j_word
unfolding said_place
said-j g t n = refl

module _ {g : Grid} {cap : ℕ} {t : List ℤ} {v : List Float} (ok : Tested g cap t v) where
  -- ---- the root

  pub root_said : said_place g t 1 ≡ root
  root_said = ((ok.row 1 ok.root-used).top refl).1

  pub not_root : (n : ℕ) → 0 < (said_place g t n).depth → n ≢ 1
  not_root n h e = let z : (said_place g t n).depth ≡ 0 = rw (e, root_said) in omega arith

  pub child-depth : (n : ℕ) → Used cap t n → n ≢ 1 → (said_place g t n).depth ≡ suc (said_place g t (link_of t cap n parent_word)).depth
  child-depth n u z = parent-depth (said_place g t n) (said_place g t (link_of t cap n parent_word)) ((ok.row n u).child z).halved

  pub depth-zero : (n : ℕ) → Used cap t n → (said_place g t n).depth ≡ 0 → n ≡ 1
  depth-zero n u e = go (ℕ_discrete n 1)
    where
      go : Dec (n ≡ 1) → n ≡ 1
      go (yes z) = z
      go (no z) = absurd (omega (arith, child-depth n u z))

  -- ---- one row at a place

  once_by : (e n m : ℕ) → (said_place g t n).depth ≡ e → Used cap t n → Used cap t m → said_place g t n ≡ said_place g t m → n ≡ m
  once_by zero n m d a b s =
      let d' : (said_place g t m).depth ≡ 0 = rw s at d in
      depth-zero n a d ∙ sym (depth-zero m b d')
  once_by (suc e) n m d a b s =
      let d' : (said_place g t m).depth ≡ suc e = rw s at d in
      let zn : n ≢ 1 = not_root n (omega arith) in
      let zm : m ≢ 1 = not_root m (omega arith) in
      let cn = (ok.row n a).child zn in
      let cm = (ok.row m b).child zm in
      let above : link_of t cap n parent_word ≡ link_of t cap m parent_word =
      once_by e (link_of t cap n parent_word) (link_of t cap m parent_word) (omega (arith, child-depth n a zn)) cn.above cm.above
      (some-injective _ _ (sym cn.halved ∙ ap parent s ∙ cm.halved)) in
      let x : word_of t n i_word ≡ word_of t m i_word = sym (said-i g t n) ∙ ap (λ (p : Place). p.i) s ∙ said-i g t m in
      let y : word_of t n j_word ≡ word_of t m j_word = sym (said-j g t n) ∙ ap (λ (p : Place). p.j) s ∙ said-j g t m in
      sym cn.named ∙ rw (x, y, above) cm.named

  pub said-once : (n m : ℕ) → Used cap t n → Used cap t m → said_place g t n ≡ said_place g t m → n ≡ m
  said-once n m a b s = once_by (said_place g t n).depth n m refl a b s

  -- ---- the indices are small

  small_by : (e n : ℕ) → (said_place g t n).depth ≡ e → Used cap t n → ((said_place g t n).i < 2 ^ e) × ((said_place g t n).j < 2 ^ e)
  small_by zero n d u = rw (depth-zero n u d, root_said) (omega arith, omega arith)
  small_by (suc e) n d u =
      let z : n ≢ 1 = not_root n (omega arith) in
      let (x, y) = small_by e (link_of t cap n parent_word) (omega (arith, child-depth n u z)) ((ok.row n u).child z).above in
      let (i, j) = halved (said_place g t n) (said_place g t (link_of t cap n parent_word)) ((ok.row n u).child z).halved in
      rw (pow-suc 2 e) (omega arith, omega arith)

  pub said-small : Rectangle g → (n : ℕ) → Used cap t n → (word_of t n i_word < 262144) × (word_of t n j_word < 262144)
  said-small r n u =
      let d : (said_place g t n).depth ≤ 18 = omega (arith, (ok.row n u).deep, base-range g r, said-depth g t n) in
      let b : 2 ^ (said_place g t n).depth ≤ 2 ^ 18 = pow_mono d in
      let (x, y) = small_by (said_place g t n).depth n refl u in
      (omega (arith, said-i g t n), omega (arith, said-j g t n))
