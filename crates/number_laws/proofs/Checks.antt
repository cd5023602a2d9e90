-- A call that is not refused has passed each of its checks, and checks that are passed leave the answer to those behind them.
-- Assumes nothing.
use Prim.Native.Nat.{ℕ, ◌≤◌}
use native.Mathlib.Omega.{arith}
use mathlib.Core.Path.{◌≡◌, refl}
use mathlib.Core.Logic.{◌≢◌}
use mathlib.Core.Bool.{Bool, true, false, ◌&&◌, cond}
use mathlib.Core.List.{List, [], ◌∷◌, ◌++◌}
use lib.Dec.{T, eqb, leb, leb→le}
use Rattle.mesh.specs.Jump.{coarse_beside, finer_beside}
use Rattle.mesh.specs.State.{State, place_at, grid_of, contents}
use Rattle.mesh.specs.Deed.{held}
use Rattle.mesh.specs.Refusal.{Check, ◌if◌, refusal, behind}
use Rattle.mesh.specs.Request.{Request, refine, sentence, remove, kill, set_value, loose_checks, checks}
use Rattle.place_laws.proofs.Bools.{and_left, and_right}

-- the first check passes, and so do the others
pub passes : (k : ℕ) (b : Bool) (cs : List Check) → k ≢ 0 → refusal ((k if b) ∷ cs) ≡ 0 → (b ≡ false) × (refusal cs ≡ 0)
unfolding refusal
passes k true cs h e = absurd (h e)
passes k false cs h e = (refl, e)

-- every number is m or above
abbrev pub from : ℕ → List Check → Bool
from m [] = true
from m ((k if b) ∷ cs) = leb m k && from m cs

pub refused-from : (m : ℕ) (cs : List Check) → T (from m cs) → refusal cs ≢ 0 → m ≤ refusal cs
unfolding refusal
refused-from m [] t e = absurd (e refl)
refused-from m ((k if true) ∷ cs) t e = leb→le m k (and_left (leb m k) (from m cs) t)
refused-from m ((k if false) ∷ cs) t e = refused-from m cs (and_right (leb m k) (from m cs) t) e

pub past : (cs ds : List Check) → T (from 1 cs) → refusal cs ≡ 0 → refusal (cs ++ ds) ≡ refusal ds
unfolding refusal
past [] ds t e = refl
past ((k if true) ∷ cs) ds t e = absurd (omega (arith, leb→le 1 k (and_left (leb 1 k) (from 1 cs) t)))
past ((k if false) ∷ cs) ds t e = past cs ds (and_right (leb 1 k) (from 1 cs) t) e

-- a refusal stays, whatever is checked behind it
pub kept : (cs ds : List Check) → refusal cs ≢ 0 → refusal (cs ++ ds) ≡ refusal cs
unfolding refusal
kept [] ds h = absurd (h refl)
kept ((k if true) ∷ cs) ds h = refl
kept ((k if false) ∷ cs) ds h = kept cs ds h

-- one more check behind a listed one: it passes, and so do the others
abbrev listed : ℕ → List Check → Bool
listed k [] = false
listed k ((n if b) ∷ cs) = cond (eqb n k) true (listed k cs)

pub behind-passes : (k j : ℕ) (b : Bool) (cs : List Check) → j ≢ 0 → T (from 1 cs) → T (listed k cs) → refusal (behind k (j if b) cs) ≡ 0 → (b ≡ false) × (refusal cs ≡ 0)
unfolding refusal
behind-passes k j b [] z t l e = absurd l
behind-passes k j b ((n if true) ∷ cs) z t l e = absurd (omega (arith, leb→le 1 n (and_left (leb 1 n) (from 1 cs) t)))
behind-passes k j b ((n if false) ∷ cs) z t l e = go (eqb n k) l e (behind-passes k j b cs z (and_right (leb 1 n) (from 1 cs) t))
  where
    go : (x : Bool) → T (cond x true (listed k cs)) → refusal (cond x ((j if b) ∷ cs) (behind k (j if b) cs)) ≡ 0
        → (T (listed k cs) → refusal (behind k (j if b) cs) ≡ 0 → (b ≡ false) × (refusal cs ≡ 0)) → (b ≡ false) × (refusal cs ≡ 0)
    go true l e further = passes j b cs z e
    go false l e further = further l e

-- ---- a request

module _ (s : State) where
  -- "21 for refine": it passes where a refinement is not refused, and so do the checks that the effect rests on
  pub refine-passes : (n : ℕ) → refusal (checks s (refine n)) ≡ 0 → (coarse_beside (grid_of s) (held (contents s.entries)) (place_at s.entries n) ≡ false) × (refusal (loose_checks s (refine n)) ≡ 0)
  unfolding loose_checks checks
  refine-passes n ok = behind-passes 10 21 _ (loose_checks s (refine n)) (λ z. omega arith) tt tt ok

  -- "22 for remove"
  pub remove-passes : (n : ℕ) → refusal (checks s (remove n)) ≡ 0 → (finer_beside (grid_of s) (held (contents s.entries)) (place_at s.entries n) ≡ false) × (refusal (loose_checks s (remove n)) ≡ 0)
  unfolding loose_checks checks
  remove-passes n ok = behind-passes 14 22 _ (loose_checks s (remove n)) (λ z. omega arith) tt tt ok

  -- a request that is not refused passes the checks that its effect rests on
  pub loosely : (r : Request) → refusal (checks s r) ≡ 0 → refusal (loose_checks s r) ≡ 0
  unfolding loose_checks checks
  loosely (refine n) ok = (refine-passes n ok).1
  loosely (sentence n) ok = ok
  loosely (remove n) ok = (remove-passes n ok).1
  loosely (kill n) ok = ok
  loosely (set_value n x) ok = ok
