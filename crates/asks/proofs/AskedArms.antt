-- What is asked of rows, where a branch of the code has decided a test.
-- Assumes nothing.
use Prim.Native.Nat.{ℕ, zero, suc, ◌+◌, ◌-◌}
use native.Mathlib.Omega.{arith}
use mathlib.Core.Path.{◌≡◌, refl, sym, ◌∙◌}
use mathlib.Core.Logic.{◌≢◌}
use mathlib.Core.Bool.{Bool, true, false, not, ◌&&◌, ◌||◌, cond, or-false, or_assoc}
use mathlib.Core.List.{List, [], ◌∷◌}
use lib.Dec.{eqb}
use lib.IntN.{ℤ}
use borrow.Author.Tests.{ne_eqb}
use Rattle.mesh.specs.Tools.{any, every}
use Rattle.table.specs.Words.{link_of, flag_of}
use Rattle.asks.specs.Asks.{parental, kids_sentenced, lacking, beside_kid, finer_round, other_under}

-- ---- tests

every-four : (a b c d : Bool) → (a && (b && (c && d))) ≡ every (a ∷ b ∷ c ∷ d ∷ [])
every-four true true true true = refl
every-four true true true false = refl
every-four true true false d = refl
every-four true false c d = refl
every-four false b c d = refl

-- ---- a row's kids and the rows around it

module _ (t : List ℤ) (cap n : ℕ) where
  pub sentenced-four : (a b c d : Bool)
      → a ≡ flag_of t 12 (link_of t cap n 1) → b ≡ flag_of t 12 (link_of t cap n 2) → c ≡ flag_of t 12 (link_of t cap n 3) → d ≡ flag_of t 12 (link_of t cap n 4)
      → (a && (b && (c && d))) ≡ kids_sentenced t cap n
  unfolding kids_sentenced
  sentenced-four a b c d e f g h = every-four a b c d ∙ rw (e, f, g, h)

  -- 1 where the word w of the row names none
  abbrev none : ℕ → ℕ → ℕ
  none m w = cond (eqb (link_of t cap m w) 0) 1 0

  pub lacking-sum : (north east far a b c d e f g h i : ℕ)
      → north ≡ link_of t cap n 5 → east ≡ link_of t cap n 6 → far ≡ link_of t cap east 5
      → a ≡ none n 3 → b ≡ none n 2 → c ≡ none n 4 → d ≡ none n 1
      → e ≡ none north 3 → f ≡ none north 2 → g ≡ none east 4 → h ≡ none east 3 → i ≡ none far 3
      → a + b + c + d + (e + f) + (g + h) + i ≡ lacking t cap n
  unfolding lacking
  lacking-sum north east far a b c d e f g h i x y z α β γ δ ε ζ η θ ι =
      let u = rw x at ε in
      let v = rw x at ζ in
      let w = rw y at η in
      let q = rw y at θ in
      let r = rw (z, y) at ι in
      omega arith

  -- one of two rows beside a kid has kids
  abbrev finer : ℕ → ℕ → ℕ → Bool
  finer k x y = parental t cap (beside_kid t cap n k x) || parental t cap (beside_kid t cap n k y)

  pub finer-two : (kid one other x y k a b : ℕ)
      → kid ≡ link_of t cap n k → one ≡ link_of t cap kid a → other ≡ link_of t cap kid b → x ≡ link_of t cap one 1 → y ≡ link_of t cap other 1
      → (not (eqb x 0) || not (eqb y 0)) ≡ finer k a b
  unfolding parental
  finer-two kid one other x y k a b d e f g h = rw (g, h, e, f, d)

  pub finer-four : (a b c d : Bool) → a ≡ finer 1 5 6 → b ≡ finer 2 6 7 → c ≡ finer 3 7 8 → d ≡ finer 4 5 8 → (a || (b || (c || d))) ≡ finer_round t cap n
  unfolding finer_round
  finer-four a b c d e f g h = rw (e, f, g, h) (simp (or_assoc, or-false))

-- ---- the walk to another cell

module _ (t : List ℤ) (cap n : ℕ) where
  pub walk-nil : (l m : ℕ) → m ≡ 0 → false ≡ other_under t cap n l m
  unfolding other_under
  walk-nil zero m e = rw e
  walk-nil (suc l) m e = rw e

  pub walk_end : (l m : ℕ) (b : Bool) → m ≢ 0 → l ≡ 0 → b ≡ flag_of t 0 m → (b && not (eqb m n)) ≡ other_under t cap n l m
  unfolding other_under
  walk_end zero m b z e f = rw (ne_eqb m 0 z, f)
  walk_end (suc l) m b z e f = absurd (omega arith)

  module _ (l m : ℕ) where
    -- what is found under the kid of a word, by the row that the word names
    abbrev below : ℕ → Bool
    below w = other_under t cap n (l - 1) (link_of t cap m w)

    -- the walk of some kids comes to b
    pub record Walked (ws : List ℕ) (b : Bool) : Type 0 where
      pub any_below : any below ws ≡ b

    pub walk-last : (r : Bool) (k w : ℕ) → k ≡ link_of t cap m w → r ≡ other_under t cap n (l - 1) k → Walked (w ∷ []) r
    walk-last r k w e f = record { any_below = rw (← e, ← f) (or-false r) }

    pub walk-hit : (r : Bool) (k w : ℕ) (ws : List ℕ) → k ≡ link_of t cap m w → r ≡ other_under t cap n (l - 1) k → r ≡ true → Walked (w ∷ ws) true
    walk-hit r k w ws e f h = record { any_below = rw (← e, ← f, h) }

    pub walk-miss : (r : Bool) (k w : ℕ) {ws : List ℕ} {b : Bool} → k ≡ link_of t cap m w → r ≡ other_under t cap n (l - 1) k → r ≡ false → Walked ws b → Walked (w ∷ ws) b
    walk-miss r k w e f h d = record { any_below = rw (← e, ← f, h) d.any_below }

    pub walk-kids : {b : Bool} → m ≢ 0 → l ≢ 0 → Walked (3 ∷ 2 ∷ 4 ∷ 1 ∷ []) b → b ≡ other_under t cap n l m
    unfolding other_under
    walk-kids {b} z y d = sym d.any_below ∙ go l y
      where
        go : (j : ℕ) → j ≢ 0 → any (λ w. other_under t cap n (j - 1) (link_of t cap m w)) (3 ∷ 2 ∷ 4 ∷ 1 ∷ []) ≡ other_under t cap n j m
        go zero x = absurd (x refl)
        go (suc j) x = let e : suc j - 1 ≡ j = omega arith in rw (e, ne_eqb m 0 z)
