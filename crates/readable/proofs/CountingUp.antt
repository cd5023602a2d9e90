-- A test of the numbers below n, as a loop that counts up by one meets them.
-- Assumes nothing.
use mathlib.Core.Path.{◌≡◌, refl, ap, ◌∙◌}
use mathlib.Core.Bool.{Bool, true, false, ◌&&◌, and-false, and-true}
use mathlib.Core.Logic.{⊎_elim}
use Prim.Native.Nat.{ℕ, zero, suc, ◌+◌, ◌<◌}
use native.Mathlib.Nat.{eq-or-lt_of_le, le_of_suc-le-suc, not-suc-le-zero}
use native.Mathlib.Numerals.{add-one}
use native.Mathlib.Omega.{arith}
use Rattle.std.specs.List.{list_all, range_with_len}
use Rattle.checker_laws.specs.Rowwise.{below}

module _ (f : ℕ → Bool) where
  pub below_more : (k : ℕ) → below k f ≡ true → f k ≡ true → below (k + 1) f ≡ true
  below_more k a h = rw (add-one, a, h)

  pub below_fails : (n k : ℕ) → k < n → f k ≡ false → below n f ≡ false
  below_fails zero k l h = absurd (not-suc-le-zero l)
  below_fails (suc n) k l h =
      ⊎_elim
      (λ e. rw (← e, h) (and-false (below k f)))
      (λ lt. rw (below_fails n k lt h))
      (eq-or-lt_of_le (le_of_suc-le-suc l))

  pub below_all : (n : ℕ) → ((k : ℕ) → k < n → f k ≡ true) → below n f ≡ true
  below_all zero h = refl
  below_all (suc n) h = rw (below_all n (λ k l. h k (omega arith)), h n (omega arith))

  -- the same, of the numbers in a list
  all_last : (n a k : ℕ) → a + n ≡ k → list_all f (range_with_len a (suc n)) ≡ (list_all f (range_with_len a n) && f k)
  all_last zero a k e =
      let z : a ≡ k = omega arith in
      rw z (and-true (f k))
  all_last (suc n) a k e = rw (all_last n (a + 1) k (omega arith)) (both (f a) (list_all f (range_with_len (a + 1) n)) (f k))
    where
      both : (x y z : Bool) → (x && (y && z)) ≡ ((x && y) && z)
      both true y z = refl
      both false y z = refl

  from_none : (n : ℕ) → list_all f (range_with_len 0 n) ≡ below n f
  from_none zero = refl
  from_none (suc n) = all_last n 0 n (omega arith) ∙ ap (λ b. b && f n) (from_none n)

  pub all_below : (n k : ℕ) → n ≡ k → list_all f (range_with_len 0 n) ≡ below k f
  all_below n k e = rw (← e) (from_none n)
