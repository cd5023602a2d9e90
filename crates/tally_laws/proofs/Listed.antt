-- The list of 39 counts: which stands at which place, that these are all of the list, and that neither the edit mark
-- nor a sentence has a part in it.
-- Assumes nothing.
use Prim.Native.Nat.{ℕ, zero, suc, ◌+◌, ◌*◌, ◌/◌, ◌%◌, ◌<◌, ◌≤◌}
use native.Mathlib.Omega.{arith}
use native.Mathlib.Decide.{dec_lt}
use mathlib.Core.Path.{◌≡◌, refl, sym, ap, ◌∙◌}
use mathlib.Core.List.{List, [], ◌∷◌, ◌++◌}
use lib.ListN.{length, get_or, length-append, get_or-append}
use lib.Seq.{ext_get_or, get_or_at}
use Rattle.mesh.specs.State.{State, cells, grid_of}
use Rattle.mesh.specs.Valid.{Valid}
use Rattle.mesh.specs.Refusal.{refusal}
use Rattle.mesh.specs.Request.{sentence, loose_checks, effect, marked}
use Rattle.mesh.specs.LeafCounts.{count_places, count_place, is_counted, leaf_count, counts_below, leaf_counts}
use Rattle.tally_laws.specs.Moves.{leaving, coming}
use Rattle.place_laws.proofs.Lists.{keep-length}
use Rattle.place_laws.proofs.Counting.{length-keep}
use Rattle.tally_laws.proofs.RequestCounts.{effect-counts}

-- ---- the first places

module _ (s : State) where
  below_length : (n : ℕ) → length (counts_below s n) ≡ n
  unfolding counts_below
  below_length zero = refl
  below_length (suc n) = length-append (counts_below s n) (leaf_count s (n / 3) (n % 3) ∷ []) ∙ (let e : length (counts_below s n) + 1 ≡ suc n = omega (arith, below_length n) in e)

  below_at : (n i : ℕ) → i < n → get_or (counts_below s n) i 0 ≡ leaf_count s (i / 3) (i % 3)
  unfolding counts_below
  below_at zero i h = absurd (omega arith)
  below_at (suc n) i h = go (dec_lt i n) (below_at n i)
    where
      go : Dec (i < n) → (i < n → get_or (counts_below s n) i 0 ≡ leaf_count s (i / 3) (i % 3)) → get_or (counts_below s n ++ (leaf_count s (n / 3) (n % 3) ∷ [])) i 0 ≡ leaf_count s (i / 3) (i % 3)
      go (yes l) ih = get_or-append (counts_below s n) (leaf_count s (n / 3) (n % 3) ∷ []) 0 i (omega (arith, below_length n)) ∙ ih l
      go (no l) ih =
          let e : n ≡ i = omega arith in
          get_or_at (counts_below s n) (leaf_count s (n / 3) (n % 3)) [] 0 i (below_length n ∙ e) ∙ ap (λ (j : ℕ). leaf_count s (j / 3) (j % 3)) e

-- ---- the list

pub counts-length : (s : State) → length (leaf_counts s) ≡ count_places
unfolding leaf_counts
counts-length s = below_length s count_places

-- "level l and status s at place 3l + s"
pub counts-at : (s : State) (l k : ℕ) → l ≤ 12 → k ≤ 2 → get_or (leaf_counts s) (count_place l k) 0 ≡ leaf_count s l k
unfolding leaf_counts
counts-at s l k a b =
    let level : (3 * l + k) / 3 ≡ l = omega arith in
    let rest : (3 * l + k) % 3 ≡ k = omega arith in
    below_at s count_places (count_place l k) (omega arith) ∙ ap (λ (i : ℕ). leaf_count s i ((3 * l + k) % 3)) level ∙ ap (leaf_count s l) rest

-- a list of 39 that has them is the list
pub counts-are : (s : State) (c : List ℕ) → length c ≡ count_places → ((l k : ℕ) → l ≤ 12 → k ≤ 2 → get_or c (count_place l k) 0 ≡ leaf_count s l k) → c ≡ leaf_counts s
unfolding leaf_counts
counts-are s c e h =
    ext_get_or 0 c (leaf_counts s) (e ∙ sym (counts-length s)) (λ i b.
    let there : 3 * (i / 3) + i % 3 ≡ i = omega arith in
    ap (λ (j : ℕ). get_or c j 0) (sym there) ∙ h (i / 3) (i % 3) (omega arith) (omega arith) ∙ sym (below_at s count_places i (omega arith)))

marked-count : (s : State) (l k : ℕ) → leaf_count (marked s) l k ≡ leaf_count s l k
unfolding marked leaf_count
marked-count s l k = refl

pub marked-counts : (s : State) → leaf_counts (marked s) ≡ leaf_counts s
marked-counts s = counts-are s (leaf_counts (marked s)) (counts-length (marked s)) (λ l k a b. counts-at (marked s) l k a b ∙ marked-count s l k)

-- ---- one count

pub count_most : (s : State) (l k : ℕ) → leaf_count s l k ≤ length s.entries
unfolding leaf_count
count_most s l k =
    let f = is_counted (grid_of s) (cells s.entries) l k in
    omega (arith, length-keep f s.entries, keep-length f s.entries)

-- a sentence leaves every count
pub sentence-counts : (s : State) → Valid s → (n : ℕ) → refusal (loose_checks s (sentence n)) ≡ 0 → leaf_counts s ≡ leaf_counts (effect s (sentence n))
unfolding leaving coming
sentence-counts s v n ok = counts-are (effect s (sentence n)) (leaf_counts s) (counts-length s) (λ l k a b. omega (arith, counts-at s l k a b, effect-counts s v (sentence n) ok l k))
