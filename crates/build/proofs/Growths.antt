-- The kids, rows and levels that are still to grow, as the code passes them on.
-- Assumes nothing.
use Prim.Native.Nat.{ℕ, suc, ◌+◌, ◌-◌, ◌*◌, ◌/◌, ◌≤◌, ◌<◌}
use native.Mathlib.Omega.{arith}
use mathlib.Core.Path.{◌≡◌, sym, ap, ◌∙◌, subst}
use mathlib.Core.Bool.{Bool, true, false, not}
use mathlib.Core.List.{List, ◌∷◌}
use borrow.Author.Tests.{not-true, not-false}
use lib.IntN.{ℤ}
use Rattle.edit_laws.specs.BuildSoFar.{dark, Able, KidsToGrow, LevelToGrow, LevelsToGrow}
use Rattle.mesh.specs.Place.{Grid, base, compass, Wind}
use Rattle.place_laws.proofs.Bools.{is-yes}
use Rattle.table.specs.Words.{word_of}
use Rattle.edit_laws.specs.PatchSteps.{link_in}
use Rattle.table.specs.Plain.{Plain}
use Rattle.table.proofs.LinkRanges.{level-from}
use Rattle.patch.specs.Small.{Small}
use Rattle.edit_laws.proofs.PlainKept.{linked-plain}
use Rattle.edit_laws.specs.Built.{Growth, in_full, grow, grow_kids, grow_level, grow_levels, ground_from}
use Rattle.edit_laws.proofs.Sprouts.{kid-able, kids-rest, level-kids, level-rest, levels-level, levels-rest, levels-bounds}
use Rattle.build.specs.BuildSteps.{growth, in_turn, Reached}

module _ (g : Grid) (cap d : ℕ) where
  -- ---- one kid

  module _ (up p l m k : ℕ) {i j x y : ℕ} (t : List ℤ) {there : Bool} (a : Able g cap d up p l m (growth t k)) (l-is : l ≡ x) (m-is : m ≡ y) (i-is : i ≡ word_of t p 10) (j-is : j ≡ word_of t p 11)
      (there-is : there ≡ in_full g up (2 * i + x) (2 * j + y)) where
    test-is : there ≡ in_full g up (2 * word_of t p 10 + l) (2 * word_of t p 11 + m)
    test-is = rw (i-is, j-is, ← l-is, ← m-is) at there-is

    pub kid-room : not there ≡ false → k ≤ cap
    kid-room h = a.room (is-yes _ (sym test-is ∙ not-false there h))

    pub kid-not : not there ≡ true → growth t k ≡ grow g cap d up p l m (growth t k)
    unfolding grow
    kid-not h = rw (← test-is, not-true there h)

    pub kid-new : {u : List ℤ} → not there ≡ false → u ≡ link_in t cap d p x y k → growth u (k + 1) ≡ grow g cap d up p l m (growth t k)
    unfolding grow
    kid-new h e = rw (← test-is, not-false there h, e, ← l-is, ← m-is)

  pub kid-small : {up p l m k : ℕ} {t : List ℤ} → Able g cap d up p l m (growth t k) → Small 1073741824 t d p
  kid-small a = record { i = omega (arith, a.i); j = omega (arith, a.j); level = level-from _ _ _ (omega (arith, a.depth)); depth = omega (arith, a.depth) }

-- the table between two kids is a linked one without a flag
pub kids-plain : {g : Grid} {cap up p k : ℕ} {ws : List Wind} {t : List ℤ} → KidsToGrow g cap up p ws (growth t k) → Plain t cap
kids-plain {cap = cap} s = rw s.grown.words_are (linked-plain s.grown.rooted dark (λ q. omega arith))

module _ (g : Grid) (cap d : ℕ) (ground : d ≡ base g) where
  -- ---- kids

  module _ (up p : ℕ) (w : Wind) (ws : List Wind) where
    pub able : (r : Growth) → KidsToGrow g cap up p (w ∷ ws) r → Able g cap d up p ((compass w).east / 2) ((compass w).north / 2) r
    able r k = subst (λ (x : ℕ). Able g cap x up p ((compass w).east / 2) ((compass w).north / 2) r) (sym ground) (kid-able k)

    pub kids-on : (r u : Growth) → KidsToGrow g cap up p (w ∷ ws) r → u ≡ grow g cap d up p ((compass w).east / 2) ((compass w).north / 2) r → KidsToGrow g cap up p ws u
    kids-on r u k e =
        subst (λ (x : Growth). KidsToGrow g cap up p ws x) (sym (e ∙ ap (λ (x : ℕ). grow g cap x up p ((compass w).east / 2) ((compass w).north / 2) r) ground)) (kids-rest k)

  pub four-kids : (up p : ℕ) (r a b c e : Growth) → a ≡ grow g cap d up p 0 0 r → b ≡ grow g cap d up p 0 1 a → c ≡ grow g cap d up p 1 0 b → e ≡ grow g cap d up p 1 1 c → e ≡ grow_kids g cap d up p r
  unfolding grow_kids
  four-kids up p r a b c e h₁ h₂ h₃ h₄ =
      h₄ ∙ ap (grow g cap d up p 1 1) (h₃ ∙ ap (grow g cap d up p 1 0) (h₂ ∙ ap (grow g cap d up p 0 1) h₁))

  -- ---- rows

  module _ (up : ℕ) where
    pub row-kids : (n b : ℕ) (r : Growth) → n < b → LevelToGrow g cap up (b - n) n r → KidsToGrow g cap up n in_turn r
    row-kids n b r h k =
        let m : b - n ≡ suc (b - (n + 1)) = omega arith in
        level-kids (subst (λ (x : ℕ). LevelToGrow g cap up x n r) m k)

    pub row-rest : (n b : ℕ) (r u : Growth) → n < b → LevelToGrow g cap up (b - n) n r → u ≡ grow_kids g cap d up n r → LevelToGrow g cap up (b - (n + 1)) (n + 1) u
    row-rest n b r u h k e =
        let m : b - n ≡ suc (b - (n + 1)) = omega arith in
        subst (λ (x : Growth). LevelToGrow g cap up (b - (n + 1)) (n + 1) x) (sym (e ∙ ap (λ (x : ℕ). grow_kids g cap x up n r) ground))
        (level-rest (subst (λ (x : ℕ). LevelToGrow g cap up x n r) m k))

  -- ---- levels

  module _ (up p : ℕ) (h : 0 < up) (r : Growth) where
    one_left : up ≡ suc (up - 1)
    one_left = omega arith

    pub next_level : LevelsToGrow g cap up p r → LevelToGrow g cap (up - 1) (r.next - p) p r
    next_level k = levels-level (subst (λ (x : ℕ). LevelsToGrow g cap x p r) one_left k)

    module _ (u : Growth) (e : u ≡ grow_level g cap d (up - 1) (r.next - p) p r) where
      pub levels-on : grow_levels g cap d up p r ≡ grow_levels g cap d (up - 1) r.next u
      unfolding grow_levels
      levels-on = ap (λ (x : ℕ). grow_levels g cap d x p r) one_left ∙ ap (grow_levels g cap d (up - 1) r.next) (sym e)

      pub ground-on : ground_from g cap d up p r ≡ ground_from g cap d (up - 1) r.next u
      unfolding ground_from
      ground-on = ap (λ (x : ℕ). ground_from g cap d x p r) one_left ∙ ap (ground_from g cap d (up - 1) r.next) (sym e)

      pub levels-left : LevelsToGrow g cap up p r → LevelsToGrow g cap (up - 1) r.next u
      levels-left k =
          subst (λ (x : Growth). LevelsToGrow g cap (up - 1) r.next x) (sym (e ∙ ap (λ (x : ℕ). grow_level g cap x (up - 1) (r.next - p) p r) ground))
          (levels-rest (subst (λ (x : ℕ). LevelsToGrow g cap x p r) one_left k))

  pub reached : (up p : ℕ) (r u : Growth) → up ≤ 0 → grow_levels g cap d d 1 r ≡ grow_levels g cap d up p u → ground_from g cap d d 1 r ≡ ground_from g cap d up p u
      → LevelsToGrow g cap up p u → Reached g cap d r u p
  unfolding grow_levels ground_from
  reached up p r u h i j k =
      let z : up ≡ 0 = omega arith in
      let (a, b, c) = levels-bounds up k in
      record {
        grown = sym (i ∙ ap (λ (x : ℕ). grow_levels g cap d x p u) z);
        from = sym (j ∙ ap (λ (x : ℕ). ground_from g cap d x p u) z);
        low = a;
        before = b;
        high = c;
      }
