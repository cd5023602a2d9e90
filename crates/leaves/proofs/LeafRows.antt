-- The leaves from a row on, as the code finds them: a row's own, and then those of its kids.
-- Assumes nothing.
use Prim.Native.Nat.{ℕ, zero, suc, ◌+◌, ◌-◌, ◌≤◌, ◌<◌}
use native.Mathlib.Omega.{arith}
use native.Mathlib.Decide.{dec_le}
use mathlib.Core.Path.{◌≡◌, refl, ap, ◌∙◌}
use mathlib.Core.Logic.{◌≢◌}
use mathlib.Core.Bool.{Bool, true, false, cond}
use mathlib.Core.List.{List, [], ◌∷◌, ◌++◌, map, append_assoc}
use lib.ListN.{length, get_or, length-append}
use lib.IntN.{ℤ}
use Rattle.mesh.specs.Tools.{flat}
use Rattle.table.specs.Words.{link_of}
use Rattle.table.proofs.LinkRanges.{link-within}
use Rattle.walk.specs.WalkRows.{is_end, leaf_row}
use Rattle.walk.proofs.WalkSteps.{parts, parts_more, parts_all, walk_none, walk_end, walk-on}
use Rattle.lines.proofs.Puts.{put-more, put_as}
use Rattle.leaves.specs.LeavesFrom.{leaves_from, own_leaf}
use Rattle.leaves.specs.Founds.{FoundAlso}
use Rattle.leaves.specs.declared.Found.{Found}

-- the words of the kids, in the order of the page
abbrev kid_words : List ℕ
kid_words = 3 ∷ 4 ∷ 2 ∷ 1 ∷ []

-- the first parts and the next are no longer than all of them
parts-few : (part : ℕ → List ℕ) (o : List ℕ) (q : ℕ) → q < length o → length (parts part o q) + length (part (get_or o q 0)) ≤ length (flat (map part o))
parts-few part [] q h = absurd (omega arith)
parts-few part (w ∷ o) zero h = omega (arith, length-append (part w) (flat (map part o)))
parts-few part (w ∷ o) (suc q) h =
    omega (arith, length-append (part w) (parts part o q), length-append (part w) (flat (map part o)), parts-few part o q (omega arith))

module _ (t : List ℤ) (cap : ℕ) where
  -- those of the kid of a word
  abbrev kid_leaves : ℕ → ℕ → ℕ → List ℕ
  kid_leaves l n w = leaves_from t cap (l - 1) (link_of t cap n w)

  pub leaves_none : (l n : ℕ) → n ≡ 0 → [] ≡ leaves_from t cap l n
  unfolding leaves_from
  leaves_none l n e = walk_none t cap (leaf_row t cap) kid_words l n e

  pub leaves_end : (l n : ℕ) → n ≢ 0 → is_end t l n ≡ true → own_leaf t cap n ≡ leaves_from t cap l n
  unfolding leaves_from own_leaf
  leaves_end l n h e = walk_end t cap (leaf_row t cap) kid_words l n refl h tt e

  leaves_on : (l n : ℕ) → n ≢ 0 → l ≢ 0 → own_leaf t cap n ++ flat (map (kid_leaves l n) kid_words) ≡ leaves_from t cap l n
  unfolding leaves_from own_leaf
  leaves_on l n h z = walk-on t cap (leaf_row t cap) kid_words l n refl h z

  -- how many they are
  leaves-count : (l n : ℕ) → n ≢ 0 → l ≢ 0 → length (own_leaf t cap n) + length (flat (map (kid_leaves l n) kid_words)) ≡ length (leaves_from t cap l n)
  leaves-count l n h z = rw (← leaves_on l n h z, length-append (own_leaf t cap n))

  -- a row's own, and those of its first kids
  abbrev pub first_leaves : ℕ → ℕ → ℕ → List ℕ
  first_leaves l n q = own_leaf t cap n ++ parts (kid_leaves l n) kid_words q

  pub first_more : (l n q k : ℕ) → q < length kid_words → k ≡ link_of t cap n (get_or kid_words q 0) → first_leaves l n q ++ leaves_from t cap (l - 1) k ≡ first_leaves l n (q + 1)
  first_more l n q k h e =
      rw e
      (append_assoc (own_leaf t cap n) (parts (kid_leaves l n) kid_words q) (kid_leaves l n (get_or kid_words q 0))
      ∙ ap (λ (xs : List ℕ). own_leaf t cap n ++ xs) (parts_more (kid_leaves l n) kid_words q h))

  pub first_all : (l n q : ℕ) → n ≢ 0 → l ≢ 0 → length kid_words ≤ q → first_leaves l n q ≡ leaves_from t cap l n
  first_all l n q h z e = ap (λ (xs : List ℕ). own_leaf t cap n ++ xs) (parts_all (kid_leaves l n) kid_words q e) ∙ leaves_on l n h z

  pub first_few : (l n q k : ℕ) → n ≢ 0 → l ≢ 0 → q < length kid_words → k ≡ link_of t cap n (get_or kid_words q 0)
      → length (first_leaves l n q) + length (leaves_from t cap (l - 1) k) ≤ length (leaves_from t cap l n)
  first_few l n q k h z f e =
      rw e (omega (arith, length-append (own_leaf t cap n) (parts (kid_leaves l n) kid_words q), parts-few (kid_leaves l n) kid_words q f, leaves-count l n h z))

  pub own-few : (l n : ℕ) → n ≢ 0 → length (own_leaf t cap n) ≤ length (leaves_from t cap l n)
  own-few zero n h = rw (← leaves_end zero n h refl) (omega arith)
  own-few (suc l) n h = omega (arith, leaves-count (suc l) n h (λ e. omega arith))

  pub own-one : (n : ℕ) → leaf_row t cap n ≡ true → (n ∷ []) ≡ own_leaf t cap n
  unfolding own_leaf
  own-one n h = rw h

  pub own-none : (n : ℕ) → leaf_row t cap n ≡ false → [] ≡ own_leaf t cap n
  unfolding own_leaf
  own-none n h = rw h

  -- ---- they are rows of the table

  abbrev Within : List ℕ → Type 0
  Within ns = (i : ℕ) → get_or ns i 0 ≤ cap

  within-append : (xs ys : List ℕ) → Within xs → Within ys → Within (xs ++ ys)
  within-append [] ys f g i = g i
  within-append (x ∷ xs) ys f g zero = f zero
  within-append (x ∷ xs) ys f g (suc i) = within-append xs ys (λ k. f (suc k)) g i

  within-flat : (part : ℕ → List ℕ) (o : List ℕ) → ((w : ℕ) → Within (part w)) → Within (flat (map part o))
  within-flat part [] f = λ i. omega arith
  within-flat part (w ∷ o) f = within-append (part w) (flat (map part o)) (f w) (within-flat part o f)

  own-within : (n : ℕ) → n ≤ cap → Within (own_leaf t cap n)
  unfolding own_leaf
  own-within n h = go (leaf_row t cap n)
    where
      go : (b : Bool) → Within (cond b (n ∷ []) [])
      go true zero = h
      go true (suc i) = omega arith
      go false i = omega arith

  within-levels : (l n : ℕ) → n ≤ cap → Dec (n ≤ 0) → Within (leaves_from t cap l n)
  within-levels l n b (yes z) = rw (← leaves_none l n (omega arith)) (λ i. omega arith)
  within-levels zero n b (no z) = rw (← leaves_end zero n (λ e. omega arith) refl) (own-within n b)
  within-levels (suc l) n b (no z) =
      let one_less : suc l - 1 ≡ l = omega arith in
      rw (← leaves_on (suc l) n (λ e. omega arith) (λ e. omega arith))
      (within-append (own_leaf t cap n) (flat (map (kid_leaves (suc l) n) kid_words)) (own-within n b)
      (within-flat (kid_leaves (suc l) n) kid_words (λ w. rw one_less (within-levels l (link_of t cap n w) (link-within t cap n w) (dec_le (link_of t cap n w) 0)))))

  pub leaves-within : (l n : ℕ) → n ≤ cap → (i : ℕ) → get_or (leaves_from t cap l n) i 0 ≤ cap
  leaves-within l n b = within-levels l n b (dec_le n 0)

-- ---- added one after the other

pub none_also : (s : Found) → FoundAlso s [] s
none_also s = record { same = refl; put = record { stored = refl; next = omega arith } }

pub more_also : {s e f : Found} {xs ys : List ℕ} → FoundAlso s xs e → FoundAlso e ys f → FoundAlso s (xs ++ ys) f
more_also w u = record { same = u.same ∙ w.same; put = put-more w.put u.put }

pub also_as : {s e : Found} {xs ys : List ℕ} → xs ≡ ys → FoundAlso s xs e → FoundAlso s ys e
also_as h w = record { same = w.same; put = put_as h w.put }
