-- A number becomes free, or is no longer: one word changes in one bit, the word over them follows, and so does the count.
-- Assumes nothing.
use Prim.Native.Nat.{ℕ, zero, suc, ◌+◌, ◌/◌, ◌%◌, ◌≤◌, ◌<◌}
use native.Mathlib.Omega.{arith}
use native.Mathlib.Decide.{ℕ_discrete}
use mathlib.Core.Path.{◌≡◌, refl, sym, ap, ◌∙◌}
use mathlib.Core.Logic.{◌≢◌}
use mathlib.Core.Bool.{Bool, true, false, cond}
use mathlib.Core.List.{List}
use lib.Dec.{eqb}
use lib.ListN.{get_or, set, length-set}
use lib.Seq.{get_or-set_same, get_or-set_other}
use borrow.Author.Tests.{eq-eqb, ne_eqb}
use Rattle.free.specs.FreeMap.{bit, on, off, map_bit, Maps, Kept, Mapped, switched, total}
use Rattle.free.proofs.MapBits.{bit-pos, on-here, on-there, off-here, off-there, off-pos}

-- ---- how many there are

pub switched-here : (f : ℕ → Bool) (n : ℕ) (c : Bool) → switched f n c n ≡ c
unfolding switched
switched-here f n c = rw (eq-eqb n n refl)

pub switched-there : (f : ℕ → Bool) (n : ℕ) (c : Bool) (k : ℕ) → k ≢ n → switched f n c k ≡ f k
unfolding switched
switched-there f n c k h = rw (ne_eqb k n h)

pub total-same : (f g : ℕ → Bool) (n : ℕ) → ((k : ℕ) → k < n → f k ≡ g k) → total f n ≡ total g n
unfolding total
total-same f g zero h = refl
total-same f g (suc n) h = rw (total-same f g n (λ k l. h k (omega arith)), h n (omega arith))

digit-le : (c : Bool) → cond c 1 0 ≤ 1
digit-le true = omega arith
digit-le false = omega arith

pub total-le : (f : ℕ → Bool) (n : ℕ) → total f n ≤ n
unfolding total
total-le f zero = omega arith
total-le f (suc n) = let i = total-le f n in let o = digit-le (f n) in omega arith

pub total-none : (n : ℕ) → total (λ k. false) n ≡ 0
unfolding total
total-none zero = refl
total-none (suc n) = rw (total-none n)

total-switched : (f : ℕ → Bool) (n : ℕ) (c : Bool) (m : ℕ) → n < m → total (switched f n c) m + cond (f n) 1 0 ≡ total f m + cond c 1 0
unfolding total
total-switched f n c zero l = absurd (omega arith)
total-switched f n c (suc m) l = go (λ k. total-switched f n c m k) (ℕ_discrete m n)
  where
    go : (n < m → total (switched f n c) m + cond (f n) 1 0 ≡ total f m + cond c 1 0)
        → Dec (m ≡ n) → total (switched f n c) m + cond (switched f n c m) 1 0 + cond (f n) 1 0 ≡ total f m + cond (f m) 1 0 + cond c 1 0
    go rest (yes e) =
        let t = total-same (switched f n c) f m (λ k h. switched-there f n c k (λ z. omega arith)) in
        let t' = rw e at t in
        rw (e, switched-here f n c, t') (omega arith)
    go rest (no e) = let i = rest (omega (arith, e)) in rw (switched-there f n c m e) (omega arith)

pub mapped-few : {f : ℕ → Bool} {m : List ℕ} {top count : ℕ} → Mapped f m top count → count ≤ 4096
mapped-few {f} h = let t = total-le f 4096 in omega (arith, h.counts)

bits-same : {f g : ℕ → Bool} {m : List ℕ} → Maps m f → ((n : ℕ) → n < 4096 → f n ≡ g n) → Maps m g
bits-same h e = record { each = λ n l. h.each n l ∙ ap (λ (c : Bool). cond c 1 0) (e n l) }

pub mapped-same : {f g : ℕ → Bool} {m : List ℕ} {top count : ℕ} → Mapped f m top count → ((n : ℕ) → n < 4096 → f n ≡ g n) → Mapped g m top count
mapped-same {f} {g} h e = record {
  kept = h.kept;
  maps = bits-same h.maps e;
  counts = h.counts ∙ total-same f g 4096 e;
}

-- ---- the count after a number is given, and after one is taken

module _ {f : ℕ → Bool} {m : List ℕ} {n count : ℕ} (l : n < 4096) (h : Maps m f) (t : count ≡ total f 4096) where
  moved : (b c : Bool) → f n ≡ b → (map_bit m n ≡ cond b 1 0) × (total (switched f n c) 4096 + cond b 1 0 ≡ count + cond c 1 0)
  moved b c i = (rw i at (h.each n l), rw (t, ← i) (total-switched f n c 4096 l))

  pub count-given : (more : ℕ) → more + map_bit m n ≡ 1 → count + more ≡ total (switched f n true) 4096
  count-given more e = go (f n) refl
    where
      go : (b : Bool) → f n ≡ b → count + more ≡ total (switched f n true) 4096
      go true i = omega (arith, e, moved true true i)
      go false i = omega (arith, e, moved false true i)

  pub count-taken : (less : ℕ) → less ≡ map_bit m n → total (switched f n false) 4096 + less ≡ count
  count-taken less e = go (f n) refl
    where
      go : (b : Bool) → f n ≡ b → total (switched f n false) 4096 + less ≡ count
      go true i = omega (arith, e, moved true false i)
      go false i = omega (arith, e, moved false false i)

-- ---- one bit of a word

-- the word x becomes v: only the bit b, which becomes c
record Word (x b : ℕ) (c : Bool) (v : ℕ) : Type 0 where
  here : bit v b ≡ cond c 1 0
  there : (k : ℕ) → k ≢ b → bit v k ≡ bit x k

-- the word over the words: bit w is as the word v, and the others stay
record Over (top w v r : ℕ) : Type 0 where
  here : bit r w ≡ cond (eqb v 0) 0 1
  there : (k : ℕ) → k ≢ w → bit r k ≡ bit top k

-- the words m become u, and the word over them r: the bit of n becomes c
pub record Becomes (m : List ℕ) (n : ℕ) (c : Bool) (u : List ℕ) (r : ℕ) : Type 0 where
  pub kept : Kept u r
  pub bits : (f : ℕ → Bool) → Maps m f → Maps u (switched f n c)

module _ (m : List ℕ) (top n v r : ℕ) (c : Bool) (p : n ≡ 0 → c ≡ false) (l : n < 4096) (k : Kept m top) (word : Word (get_or m (n / 64) 0) (n % 64) c v) (over : Over top (n / 64) v r) where
  word-here : get_or (set m (n / 64) v) (n / 64) 0 ≡ v
  word-here = let e = k.long in get_or-set_same m (n / 64) v 0 (omega arith)

  bit-here : map_bit (set m (n / 64) v) n ≡ cond c 1 0
  unfolding map_bit
  bit-here = rw word-here word.here

  bit-there : (j : ℕ) → j ≢ n → map_bit (set m (n / 64) v) j ≡ map_bit m j
  unfolding map_bit
  bit-there j h = go (ℕ_discrete (j / 64) (n / 64))
    where
      go : Dec (j / 64 ≡ n / 64) → map_bit (set m (n / 64) v) j ≡ map_bit m j
      go (yes e) = rw (e, word-here) (word.there (j % 64) (λ z. h (omega arith)))
      go (no e) = rw (get_or-set_other m (n / 64) (j / 64) v 0 e)

  -- that of the number 0 stays cleared
  nil-kept : Dec (0 ≡ n) → map_bit (set m (n / 64) v) 0 ≡ 0
  nil-kept (yes e) = ap (map_bit (set m (n / 64) v)) e ∙ bit-here ∙ ap (λ (b : Bool). cond b 1 0) (p (sym e))
  nil-kept (no e) = bit-there 0 e ∙ k.none

  tops-all : (w : ℕ) → w < 64 → bit r w ≡ cond (eqb (get_or (set m (n / 64) v) w 0) 0) 0 1
  tops-all w s = go (ℕ_discrete w (n / 64))
    where
      go : Dec (w ≡ n / 64) → bit r w ≡ cond (eqb (get_or (set m (n / 64) v) w 0) 0) 0 1
      go (yes e) = rw (e, word-here) over.here
      go (no e) = rw (get_or-set_other m (n / 64) w v 0 e) (over.there w e ∙ k.tops w s)

  set-bits : (f : ℕ → Bool) → Maps m f → Maps (set m (n / 64) v) (switched f n c)
  unfolding switched
  set-bits f h = record { each = λ j s. go j s (ℕ_discrete j n) }
    where
      go : (j : ℕ) → j < 4096 → Dec (j ≡ n) → map_bit (set m (n / 64) v) j ≡ cond (cond (eqb j n) c (f j)) 1 0
      go j s (yes e) = rw (eq-eqb j n e, e) bit-here
      go j s (no e) = rw (ne_eqb j n e) (bit-there j e ∙ h.each j s)

  set-becomes : Becomes m n c (set m (n / 64) v) r
  set-becomes = record {
    kept = record { long = length-set m (n / 64) v ∙ k.long; none = nil-kept (ℕ_discrete 0 n); tops = tops-all };
    bits = set-bits;
  }

-- ---- a number given, and a number taken

module _ {m u : List ℕ} {top n x r : ℕ} (l : n < 4096) (k : Kept m top) (e : u ≡ set m (n / 64) x) where
  pub given : 0 < n → x ≡ on (get_or m (n / 64) 0) (n % 64) → r ≡ on top (n / 64) → Becomes m n true u r
  given p a b = rw e (set-becomes m top n x r true (λ z. absurd (omega arith)) l k word (rw b over))
    where
      word : Word (get_or m (n / 64) 0) (n % 64) true x
      word = rw a (record { here = on-here _ (n % 64); there = on-there _ (n % 64) })

      over : Over top (n / 64) x (on top (n / 64))
      over =
          let o : 0 < x = rw a (bit-pos _ (n % 64) (on-here _ _)) in
          record { here = rw (ne_eqb x 0 (λ q. omega arith)) (on-here top (n / 64)); there = on-there top (n / 64) }

  pub taken : x ≡ off (get_or m (n / 64) 0) (n % 64) → (x ≡ 0 → r ≡ off top (n / 64)) × (0 < x → r ≡ top) → Becomes m n false u r
  taken a b = rw e (set-becomes m top n x r false (λ z. refl) l k word (over (ℕ_discrete x 0)))
    where
      word : Word (get_or m (n / 64) 0) (n % 64) false x
      word = rw a (record { here = off-here _ (n % 64); there = off-there _ (n % 64) })

      over : Dec (x ≡ 0) → Over top (n / 64) x r
      over (yes q) = rw (b.0 q, q) (record { here = off-here top (n / 64); there = off-there top (n / 64) })
      over (no q) =
          let s : 0 < x = omega (arith, q) in
          let o : 0 < get_or m (n / 64) 0 = off-pos _ (n % 64) (rw a at s) in
          rw (b.1 s)
          (record {
            here = k.tops (n / 64) (omega arith) ∙ rw (ne_eqb x 0 q, ne_eqb (get_or m (n / 64) 0) 0 (λ y. omega arith)) refl;
            there = λ j i. refl;
          })

-- and the whole map, where it was not free
pub given-mapped : {f : ℕ → Bool} {m u : List ℕ} {top n r count : ℕ} → n < 4096 → Mapped f m top count → Becomes m n true u r → map_bit m n ≡ 0 → Mapped (switched f n true) u r (count + 1)
given-mapped {f} l h s z = record { kept = s.kept; maps = s.bits f h.maps; counts = count-given l h.maps h.counts 1 (omega arith) }
