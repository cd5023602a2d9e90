-- The words of a row's links, and the slots that a step to each of the four sides writes.
-- Assumes nothing.
use Prim.Native.Nat.{ℕ, zero, suc, ◌≤◌, ◌<◌}
use native.Mathlib.Omega.{arith}
use mathlib.Core.Path.{◌≡◌, refl}
use mathlib.Core.Logic.{◌⊎◌, inl, inr}
use mathlib.Core.Option
use mathlib.Core.Option.{Option, none}
use mathlib.Core.List.{List, [], ◌∷◌, map}
use lib.Dec.{T}
use lib.IntN.{ℤ}
use lib.ListN.{get_or}
use Rattle.mesh.specs.Tools.{all, flat}
use Rattle.mesh.specs.Place.{Place, Grid, kid, around, side_winds, Wind, NE, SE, SW, NW, N, E, S, W}
use Rattle.mesh.specs.Winds.{word_of_wind}
use Rattle.place_laws.proofs.Bools.{and_left, and_right}
use Rattle.place_laws.proofs.SideDigits.{kid_by, aside, among-sides}
use Rattle.worked.specs.Worked.{kid_word}
use Rattle.edit_laws.proofs.Slots.{Slot, Hit, hit-early, hit_later, hit-cases, Off}

-- ---- the words 0 to 8

-- the word of a kid by its digits
pub around-kid-by : (g : Grid) (l m : ℕ) → l ≤ 1 → m ≤ 1 → (o : Option Place) → get_or (around g o) (kid_word l m) none ≡ Option.map (kid_by l m) o
unfolding around kid kid_by
around-kid-by g zero zero a b o = refl
around-kid-by g zero (suc zero) a b o = refl
around-kid-by g (suc zero) zero a b o = refl
around-kid-by g (suc zero) (suc zero) a b o = refl
around-kid-by g zero (suc (suc m)) a b o = absurd (omega arith)
around-kid-by g (suc zero) (suc (suc m)) a b o = absurd (omega arith)
around-kid-by g (suc (suc l)) m a b o = absurd (omega arith)

pub side-word-lt : (w : Wind) → T (aside w) → (5 ≤ word_of_wind w) × (word_of_wind w < 9)
side-word-lt N t = (omega arith, omega arith)
side-word-lt E t = (omega arith, omega arith)
side-word-lt S t = (omega arith, omega arith)
side-word-lt W t = (omega arith, omega arith)
side-word-lt NE t = absurd t
side-word-lt SE t = absurd t
side-word-lt SW t = absurd t
side-word-lt NW t = absurd t

-- a link's word is the parent's, a kid's or a side's
pub data Link (v : ℕ) : Type 0 where
  to-parent : v ≡ 0 → Link v
  to-kid : (l m : ℕ) → l ≤ 1 → m ≤ 1 → v ≡ kid_word l m → Link v
  to-side : (w : Wind) → T (aside w) → v ≡ word_of_wind w → Link v

pub link-word : (v : ℕ) → v < 9 → Link v
link-word zero l = to-parent refl
link-word (suc zero) l = to-kid 1 1 (omega arith) (omega arith) refl
link-word (suc (suc zero)) l = to-kid 1 0 (omega arith) (omega arith) refl
link-word (suc (suc (suc zero))) l = to-kid 0 0 (omega arith) (omega arith) refl
link-word (suc (suc (suc (suc zero)))) l = to-kid 0 1 (omega arith) (omega arith) refl
link-word (suc (suc (suc (suc (suc zero))))) l = to-side N tt refl
link-word (suc (suc (suc (suc (suc (suc zero)))))) l = to-side E tt refl
link-word (suc (suc (suc (suc (suc (suc (suc zero))))))) l = to-side S tt refl
link-word (suc (suc (suc (suc (suc (suc (suc (suc zero)))))))) l = to-side W tt refl
link-word (suc (suc (suc (suc (suc (suc (suc (suc (suc v))))))))) l = absurd (omega arith)

-- ---- slots of the four sides

pub hit-side : (h : Wind → List Slot) (n v : ℕ) (w : Wind) → T (aside w) → Hit n v (h w) → Hit n v (flat (map h side_winds))
hit-side h n v = among-sides (λ w. Hit n v (h w)) (λ ws. Hit n v (flat (map h ws))) (λ w ws. hit-early n v (h w) (flat (map h ws))) (λ w ws. hit_later n v (h w) (flat (map h ws)))

pub side-hit : (h : Wind → List Slot) (n v : ℕ) (ws : List Wind) → T (all aside ws) → Hit n v (flat (map h ws)) → (w : Wind) × T (aside w) × Hit n v (h w)
side-hit h n v [] t i = absurd i
side-hit h n v (w ∷ ws) t i = go (hit-cases n v (h w) (flat (map h ws)) i) (side-hit h n v ws (and_right (aside w) (all aside ws) t))
  where
    go : Hit n v (h w) ⊎ Hit n v (flat (map h ws)) → (Hit n v (flat (map h ws)) → (w : Wind) × T (aside w) × Hit n v (h w)) → (w : Wind) × T (aside w) × Hit n v (h w)
    go (inl a) r = (w, and_left (aside w) (all aside ws) t, a)
    go (inr a) r = r a

-- a write for each of some sides, one after the other
abbrev pub turn : (List ℤ → Wind → List ℤ) → List ℤ → List Wind → List ℤ
turn h t [] = t
turn h t (w ∷ ws) = turn h (h t w) ws

pub turned : {u : List ℤ} (h : List ℤ → Wind → List ℤ) (ss : Wind → List Slot)
    → ((w : Wind) (ws : List Wind) → T (all aside (w ∷ ws)) → (t : List ℤ) → Off t u (flat (map ss (w ∷ ws))) → Off (h t w) u (flat (map ss ws)))
    → (ws : List Wind) → T (all aside ws) → (t : List ℤ) → Off t u (flat (map ss ws)) → Off (turn h t ws) u []
turned h ss one [] sides t off = off
turned h ss one (w ∷ ws) sides t off = turned h ss one ws (and_right (aside w) (all aside ws) sides) (h t w) (one w ws sides t off)
