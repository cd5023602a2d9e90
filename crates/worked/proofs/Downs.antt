-- From the root down, digit by digit: one kid more for one digit more.
-- Assumes nothing.
use Prim.Native.Nat.{ℕ, zero, suc, ◌+◌, ◌-◌, ◌/◌, ◌%◌, ◌^◌, ◌<◌, ◌≤◌}
use native.Mathlib.Nat.{pow-suc, div-div-eq-div-mul}
use native.Mathlib.Omega.{arith}
use mathlib.Core.Path.{◌≡◌, sym, ap, ◌∙◌}
use mathlib.Core.Bool.{cond}
use mathlib.Core.List.{List}
use lib.Dec.{eqb}
use lib.IntN.{ℤ}
use Rattle.table.specs.Words.{link_of}
use Rattle.worked.specs.Worked.{kid_word, down_to}

-- the digits past the place e, halved once more
halved : (i e : ℕ) → i / 2 ^ e / 2 ≡ i / 2 ^ suc e
halved i e = div-div-eq-div-mul i (2 ^ e) 2 ∙ ap (λ (n : ℕ). i / n) (sym (pow-suc 2 e))

module _ (t : List ℤ) (cap d i j : ℕ) where
  -- the row so far, when the digits below the place e are to come
  abbrev pub sofar : ℕ → ℕ
  sofar e = down_to t cap (d - e) (i / 2 ^ e) (j / 2 ^ e)

  -- none yet
  pub down-start : (n : ℕ) → n ≡ cond (eqb (i / 2 ^ d + j / 2 ^ d) 0) 1 0 → n ≡ sofar d
  unfolding down_to
  down-start n h = let z : d - d ≡ 0 = omega arith in rw z h

  pub one_down : (e : ℕ) → e < d → let n = sofar (suc e) in cond (eqb n 0) 0 (link_of t cap n (kid_word (i / 2 ^ e % 2) (j / 2 ^ e % 2))) ≡ sofar e
  unfolding down_to
  one_down e l = let s : d - e ≡ suc (d - suc e) = omega arith in rw (s, halved i e, halved j e)

  -- one digit more, as a loop takes it
  pub down-again : (e n w r : ℕ) → 0 < e → e ≤ d → n ≡ sofar e → w ≡ kid_word (i / 2 ^ (e - 1) % 2) (j / 2 ^ (e - 1) % 2) → r ≡ cond (eqb n 0) 0 (link_of t cap n w) → r ≡ sofar (e - 1)
  down-again zero n w r l h a b c = absurd (omega arith)
  down-again (suc e) n w r l h a b c = let z : suc e - 1 ≡ e = omega arith in c ∙ rw (b, a, z) (one_down e (omega arith))
