-- The free rows of a table: none lies past the capacity, so that the smallest free number of all is that of the table.
-- Assumes nothing.
use Prim.Native.Nat.{ℕ, zero, suc, ◌+◌, ◌-◌, ◌*◌, ◌≤◌, ◌<◌}
use native.Mathlib.Omega.{arith}
use mathlib.Core.Path.{◌≡◌, refl, ap, ◌∙◌}
use mathlib.Core.Logic.{◌≢◌}
use mathlib.Core.Bool.{Bool, true, false, cond}
use mathlib.Core.List.{List}
use lib.IntN.{ℤ, pos}
use lib.ListN.{length, get_or-eq_default}
use Rattle.mesh.specs.Picture.{row_words, flags_word}
use Rattle.table.specs.Words.{word_of, free_at}
use Rattle.free.specs.FreeMap.{first_from}
use Rattle.free.specs.Free.{next_in}
use Rattle.free.proofs.FirstFree.{search-none}

-- numbers at the end may be left out of a search where none of them is free
search-fewer : (f : ℕ → Bool) (n d k : ℕ) → ((j : ℕ) → k + n ≤ j → f j ≡ false) → first_from f (n + d) k ≡ first_from f n k
unfolding first_from
search-fewer f zero d k h = let z : zero + d ≡ d = omega arith in rw z (search-none f d k (λ j a b. h j (omega arith)))
search-fewer f (suc n) d k h = let z : suc n + d ≡ suc (n + d) = omega arith in rw z (ap (cond (f k) k) (search-fewer f n d (k + 1) (λ j a. h j (omega arith))))

module _ (t : List ℤ) (cap : ℕ) (long : length t ≡ row_words * (cap + 1)) where
  pub free-within : (n : ℕ) → cap < n → free_at t n ≡ false
  unfolding free_at word_of
  free-within n l = rw (get_or-eq_default t (pos 0) {n = n * row_words + flags_word} (omega arith))

  pub next-in : {r : ℕ} → cap ≤ 4095 → r ≡ first_from (free_at t) 4095 1 → r ≡ next_in t cap
  unfolding next_in
  next-in l e =
      let z : 4095 ≡ cap + (4095 - cap) = omega arith in
      e ∙ ap (λ (n : ℕ). first_from (free_at t) n 1) z ∙ search-fewer (free_at t) cap (4095 - cap) 1 (λ j a. free-within j (omega arith))

-- ---- what is found

record Found (f : ℕ → Bool) (n k r : ℕ) : Type 0 where
  less : r < k + n
  holds : r ≢ 0 → f r ≡ true

found-by : (f : ℕ → Bool) (n k : ℕ) → 0 < k → Found f n k (first_from f n k)
unfolding first_from
found-by f zero k p = record { less = omega arith; holds = λ z. absurd (z refl) }
found-by f (suc n) k p = go (f k) refl (found-by f n (k + 1) (omega arith))
  where
    go : (c : Bool) → f k ≡ c → Found f n (k + 1) (first_from f n (k + 1)) → Found f (suc n) k (cond c k (first_from f n (k + 1)))
    go true e h = record { less = omega arith; holds = λ z. e }
    go false e h = record { less = omega (arith, h.less); holds = h.holds }

module _ (t : List ℤ) (cap : ℕ) {r : ℕ} (e : r ≡ next_in t cap) where
  pub next-within : r ≤ cap
  unfolding next_in
  next-within = rw e (let h = found-by (free_at t) cap 1 (omega arith) in omega (arith, h.less))

  pub next-free : r ≢ 0 → free_at t r ≡ true
  unfolding next_in
  next-free z = rw e ((found-by (free_at t) cap 1 (omega arith)).holds (rw e at z))
