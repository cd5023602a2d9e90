-- The first free number from one on: it is in the word of that one, or in the first word after it that is not 0.
-- Assumes nothing.
use Prim.Native.Nat.{ℕ, zero, suc, ◌+◌, ◌-◌, ◌*◌, ◌/◌, ◌%◌, ◌^◌, ◌≤◌, ◌<◌}
use native.Mathlib.Omega.{arith}
use native.Mathlib.Decide.{dec_lt, ℕ_discrete}
use mathlib.Core.Path.{◌≡◌, refl, sym, ap, ◌∙◌}
use mathlib.Core.Bool.{Bool, true, false, cond}
use mathlib.Core.List.{List}
use lib.Dec.{eqb}
use lib.ListN.{get_or}
use borrow.Author.Tests.{ne_eqb}
use Rattle.free.specs.FreeMap.{bit, Low, map_bit, Maps, Kept, First, first_from}
use Rattle.free.proofs.MapBits.{bit-of-zero, bit_below, bit-shr}

-- ---- what a bit says

bit-none : (c : Bool) → ◌≡◌ {A = ℕ} (cond c 1 0) 0 → c ≡ false
bit-none true h = absurd (omega arith)
bit-none false h = refl

bit-hit : (c : Bool) → ◌≡◌ {A = ℕ} (cond c 1 0) 1 → c ≡ true
bit-hit true h = refl
bit-hit false h = absurd (omega arith)

word_none : (x : ℕ) → ◌≡◌ {A = ℕ} (cond (eqb x 0) 0 1) 0 → x ≡ 0
word_none x h = go (ℕ_discrete x 0)
  where
    go : Dec (x ≡ 0) → x ≡ 0
    go (yes e) = e
    go (no e) = let o : ◌≡◌ {A = ℕ} 1 0 = rw (ne_eqb x 0 e) at h in absurd (omega arith)

word_some : (x : ℕ) → ◌≡◌ {A = ℕ} (cond (eqb x 0) 0 1) 1 → 0 < x
word_some zero h = absurd (omega arith)
word_some (suc x) h = omega arith

-- the bit of a number that is given by its word and its place there
bit-by : (m : List ℕ) (n w b : ℕ) → n ≡ w * 64 + b → b < 64 → map_bit m n ≡ bit (get_or m w 0) b
unfolding map_bit
bit-by m n w b e l =
    let q : n / 64 ≡ w = omega arith in
    let r : n % 64 ≡ b = omega arith in
    rw (q, r)

-- r is the first number from s on whose bit is set, or 4096
pub record Bits (m : List ℕ) (s r : ℕ) : Type 0 where
  pub from : s ≤ r
  pub to : r ≤ 4096
  pub none : (n : ℕ) → s ≤ n → n < r → map_bit m n ≡ 0
  pub hit : r < 4096 → map_bit m r ≡ 1

pub first_of : {m : List ℕ} {s r : ℕ} → Bits m s r → (f : ℕ → Bool) → Maps m f → First f s r
first_of {m} {s} {r} b f h =
    record {
      from = b.from;
      to = b.to;
      none = λ n a l. let t = b.to in bit-none (f n) (sym (h.each n (omega arith)) ∙ b.none n a l);
      hit = λ l. bit-hit (f r) (sym (h.each r l) ∙ b.hit l);
    }

module _ {m : List ℕ} {top s : ℕ} (l : s < 4096) (k : Kept m top) where
  -- ---- in the word of s itself
  module _ {h : ℕ} (e : h ≡ get_or m (s / 64) 0 / 2 ^ (s % 64)) where
    here-at : (j : ℕ) → s % 64 + j < 64 → map_bit m (s + j) ≡ bit h j
    here-at j b = bit-by m (s + j) (s / 64) (s % 64 + j) (omega arith) b ∙ sym (ap (λ (x : ℕ). bit x j) e ∙ bit-shr (get_or m (s / 64) 0) (s % 64) j)

    here_in : (j : ℕ) → get_or m (s / 64) 0 < 2 ^ 64 → bit h j ≡ 1 → s % 64 + j < 64
    here_in j b o = bit_below (get_or m (s / 64) 0) 64 (s % 64 + j) b (sym (ap (λ (x : ℕ). bit x j) e ∙ bit-shr (get_or m (s / 64) 0) (s % 64) j) ∙ o)

    pub in-word : {r : ℕ} → get_or m (s / 64) 0 < 2 ^ 64 → Low h r → Bits m s (s + r)
    in-word {r} b o =
        let i = here_in r b o.here in
        record {
          from = omega arith;
          to = omega arith;
          none = λ n a c. let z : n ≡ s + (n - s) = omega arith in rw z (here-at (n - s) (omega arith) ∙ o.under (n - s) (omega arith));
          hit = λ a. here-at r i ∙ o.here;
        }

    -- ---- past it
    none_here : h ≡ 0 → (n : ℕ) → s ≤ n → n / 64 ≡ s / 64 → map_bit m n ≡ 0
    none_here z n a c =
        let y : n ≡ s + (n - s) = omega arith in
        rw y (here-at (n - s) (omega arith) ∙ ap (λ (x : ℕ). bit x (n - s)) z ∙ bit-of-zero (n - s))

    module _ (z : h ≡ 0) {a : ℕ} (d : a ≡ top / 2 ^ (s / 64) / 2 ^ 1) where
      above_at : (j : ℕ) → bit a j ≡ bit top (s / 64 + (1 + j))
      above_at j = ap (λ (x : ℕ). bit x j) d ∙ bit-shr (top / 2 ^ (s / 64)) 1 j ∙ bit-shr top (s / 64) (1 + j)

      -- a word whose bit above is 0
      empty : (w : ℕ) → s / 64 < w → w < 64 → bit a (w - s / 64 - 1) ≡ 0 → get_or m w 0 ≡ 0
      empty w p q o =
          let y : s / 64 + (1 + (w - s / 64 - 1)) ≡ w = omega arith in
          word_none _ (sym (k.tops w q) ∙ ap (bit top) (sym y) ∙ sym (above_at (w - s / 64 - 1)) ∙ o)

      -- so no number before the word v is free
      none-past : (v : ℕ) → v ≤ 64 → ((j : ℕ) → j < v - s / 64 - 1 → bit a j ≡ 0) → (n : ℕ) → s ≤ n → n / 64 < v → map_bit m n ≡ 0
      none-past v q o n p c = by (dec_lt (s / 64) (n / 64))
        where
          by : Dec (s / 64 < n / 64) → map_bit m n ≡ 0
          by (yes y) =
              bit-by m n (n / 64) (n % 64) (omega arith) (omega arith)
              ∙ ap (λ (x : ℕ). bit x (n % 64)) (empty (n / 64) y (omega arith) (o (n / 64 - s / 64 - 1) (omega arith))) ∙ bit-of-zero (n % 64)
          by (no y) = none_here z n p (omega arith)

      pub in-none : a ≡ 0 → Bits m s 4096
      in-none o =
          record {
            from = omega arith;
            to = omega arith;
            none = λ n p c. none-past 64 (omega arith) (λ j i. ap (λ (x : ℕ). bit x j) o ∙ bit-of-zero j) n p (omega arith);
            hit = λ i. absurd (omega arith);
          }

      module _ {i : ℕ} (t : top < 2 ^ 64) (o : Low a i) where
        top-here : bit top (s / 64 + (1 + i)) ≡ 1
        top-here = sym (above_at i) ∙ o.here

        pub word_in : s / 64 + 1 + i < 64
        word_in = let y = bit_below top 64 (s / 64 + (1 + i)) t top-here in omega arith

        pub word-pos : 0 < get_or m (s / 64 + 1 + i) 0
        word-pos =
            let y : s / 64 + (1 + i) ≡ s / 64 + 1 + i = omega arith in
            word_some _ (sym (k.tops (s / 64 + 1 + i) word_in) ∙ ap (bit top) (sym y) ∙ top-here)

        pub in-later : {r : ℕ} → Low (get_or m (s / 64 + 1 + i) 0) r → Bits m s ((s / 64 + 1 + i) * 64 + r)
        in-later {r} b =
            let y = word_in in
            let q = b.short in
            record {
              from = omega arith;
              to = omega arith;
              none = λ n p c. by n p c (dec_lt (n / 64) (s / 64 + 1 + i));
              hit = λ u. bit-by m _ (s / 64 + 1 + i) r refl q ∙ b.here;
            }
          where
            by : (n : ℕ) → s ≤ n → n < (s / 64 + 1 + i) * 64 + r → Dec (n / 64 < s / 64 + 1 + i) → map_bit m n ≡ 0
            by n p c (yes u) = let y = word_in in none-past (s / 64 + 1 + i) (omega arith) (λ j g. o.under j (omega arith)) n p u
            by n p c (no u) =
                let q = b.short in
                bit-by m n (s / 64 + 1 + i) (n - (s / 64 + 1 + i) * 64) (omega arith) (omega arith) ∙ b.under (n - (s / 64 + 1 + i) * 64) (omega arith)

-- ---- the first as the search gives it

module _ (f : ℕ → Bool) where
  pub search-none : (n k : ℕ) → ((j : ℕ) → k ≤ j → j < k + n → f j ≡ false) → first_from f n k ≡ 0
  unfolding first_from
  search-none zero k h = refl
  search-none (suc n) k h = rw (h k (omega arith) (omega arith)) (search-none n (k + 1) (λ j a b. h j (omega arith) (omega arith)))

  pub search-hit : (n k d r : ℕ) → r ≡ k + d → d < n → ((j : ℕ) → k ≤ j → j < r → f j ≡ false) → f r ≡ true → first_from f n k ≡ r
  unfolding first_from
  search-hit zero k d r e l h t = absurd (omega arith)
  search-hit (suc n) k zero r e l h t = let z : k ≡ r = omega arith in rw (z, t)
  search-hit (suc n) k (suc d) r e l h t =
      rw (h k (omega arith) (omega arith)) (search-hit n (k + 1) d r (omega arith) (omega arith) (λ j a b. h j (omega arith) b) t)

  pub first-hit : {s r : ℕ} → First f s r → r < 4096 → r ≡ first_from f (4096 - s) s
  first-hit {s} {r} h l = let g = h.from in sym (search-hit (4096 - s) s (r - s) r (omega arith) (omega arith) h.none (h.hit l))

  pub first-none : {s r : ℕ} → s ≤ 4096 → First f s r → 4096 ≤ r → 0 ≡ first_from f (4096 - s) s
  first-none {s} {r} k h l = sym (search-none (4096 - s) s (λ j a b. h.none j a (omega arith)))
