-- What the row-by-row test says of a table, by names: of row 0, of a free row, and of a row in use.
-- Assumes nothing.
use Prim.Native.Nat.{ℕ, zero, suc, pred, ◌+◌, ◌/◌, ◌%◌, ◌≤◌, ◌<◌}
use native.Mathlib.Omega.{arith}
use native.Mathlib.Decide.{ℕ_discrete, dec_le}
use mathlib.Core.Path.{◌≡◌, sym, ap, ◌∙◌}
use mathlib.Core.Logic.{◌≢◌, ◌⊎◌, inl, inr}
use mathlib.Core.Bool.{Bool, true, not, ◌&&◌, ◌||◌, cond}
use mathlib.Core.Option.{some}
use mathlib.Core.List.{List}
use lib.Dec.{T, T_not, eqb, leb, eqb→eq, eqb_refl, leb→le}
use lib.ListN.{get_or}
use lib.IntN.{ℤ}
use lib.Ieee.{Float}
use borrow.Author.Tests.{le-leb, lt-leb, eq-eqb, ne_eqb, lt-ltb, le-ltb}
use Rattle.mesh.specs.Tools.{every}
use Rattle.mesh.specs.Place.{Place, Grid, at, root, base, parent, Wind, NE, SE, SW, NW, N, E, S, W}
use Rattle.mesh.specs.Winds.{word_of_wind}
use Rattle.mesh.specs.State.{plus_zero}
use Rattle.mesh.specs.Picture.{parent_word, i_word, j_word, flags_word, free_flags}
use Rattle.table.specs.Words.{word_of, link_of, free_at, depth_of}
use Rattle.carried.specs.Carried.{carried_of, status_of, is_blank, is_zero}
use Rattle.worked.specs.Worked.{kid_word, side_in}
use Rattle.checker_laws.specs.Rowwise.{below, empty_ok, zero_ok, root_tests, root_ok, child_tests, child_ok, place_ok, kid_tests, kid_ok, kids_tests, kids_ok, side_tests, sides_ok, ghost_ok, point_ok, value_ok, used_tests, used_ok, row_ok, rowwise}
use Rattle.place_laws.proofs.Bools.{and_left, and_right, or_cases}
use Rattle.place_laws.proofs.Lists.{every-at}
use Rattle.place_laws.proofs.Places.{place-path}
use Rattle.place_laws.proofs.Kids.{up, parent_up}
use Rattle.place_laws.proofs.SideDigits.{aside}
use Rattle.picture_laws.proofs.Equal.{float_is}

-- ---- tests

pub below_at : (n : ℕ) (f : ℕ → Bool) → T (below n f) → (k : ℕ) → k < n → T (f k)
below_at zero f t k l = absurd (omega arith)
below_at (suc n) f t k l = go (ℕ_discrete k n) (below_at n f (and_left (below n f) (f n) t))
  where
    go : Dec (k ≡ n) → ((k : ℕ) → k < n → T (f k)) → T (f k)
    go (yes e) r = rw e (and_right (below n f) (f n) t)
    go (no e) r = r k (omega (arith, e))

pub unequal : (a b : ℕ) → T (not (eqb a b)) → a ≢ b
unequal a b t e = T_not (eqb a b) t (rw e (eqb_refl b))

-- ---- rows and links

-- a row in use
pub record Used (cap : ℕ) (t : List ℤ) (n : ℕ) : Type 0 where
  pub low : 1 ≤ n
  pub high : n ≤ cap
  pub taken : word_of t n flags_word ≢ free_flags

-- where it says that it stands
unfoldable pub said_place : Grid → List ℤ → ℕ → Place
said_place g t n = at (depth_of t (base g) n) (word_of t n i_word) (word_of t n j_word)

module _ (t : List ℤ) (cap : ℕ) where
  pub link-high : (n w : ℕ) → link_of t cap n w ≤ cap
  unfolding link_of
  link-high n w = go (dec_le (word_of t n w) cap)
    where
      go : Dec (word_of t n w ≤ cap) → cond (leb (word_of t n w) cap) (word_of t n w) 0 ≤ cap
      go (yes h) = rw (le-leb (word_of t n w) cap h) h
      go (no h) = rw (lt-leb (word_of t n w) cap (omega (arith, h))) (omega arith)

  -- a link that is not 0 names a row of the table
  pub link-used : (n w : ℕ) → link_of t cap n w ≢ 0 → word_of t (link_of t cap n w) flags_word ≢ free_flags → Used cap t (link_of t cap n w)
  link-used n w z f = record { low = omega (arith, z); high = link-high n w; taken = f }

-- ---- a row in use, by what its words say

-- the parent: a row in use at the halved place, which names the row at its corner
pub record Child (g : Grid) (cap : ℕ) (t : List ℤ) (n : ℕ) : Type 0 where
  pub is_word : word_of t n parent_word ≡ link_of t cap n parent_word
  pub above : Used cap t (link_of t cap n parent_word)
  pub halved : parent (said_place g t n) ≡ some (said_place g t (link_of t cap n parent_word))
  pub named : word_of t (link_of t cap n parent_word) (kid_word (word_of t n i_word % 2) (word_of t n j_word % 2)) ≡ n

-- the row that a kid's word names
pub record Kid (cap : ℕ) (t : List ℤ) (n k l m : ℕ) : Type 0 where
  pub here : Used cap t k
  pub back : word_of t k parent_word ≡ n
  pub i : word_of t k i_word % 2 ≡ l
  pub j : word_of t k j_word % 2 ≡ m

pub record Row (g : Grid) (cap : ℕ) (t : List ℤ) (v : List Float) (n : ℕ) : Type 0 where
  pub deep : depth_of t (base g) n ≤ base g + 12
  pub top : n ≡ 1 → (word_of t n parent_word ≡ 0) × (said_place g t n ≡ root)
  pub child : n ≢ 1 → Child g cap t n
  pub kid-word : (l m : ℕ) → l ≤ 1 → m ≤ 1 → word_of t n (kid_word l m) ≡ link_of t cap n (kid_word l m)
  pub kid : (l m : ℕ) → l ≤ 1 → m ≤ 1 → link_of t cap n (kid_word l m) ≢ 0 → Kid cap t n (link_of t cap n (kid_word l m)) l m
  pub side : (w : Wind) → T (aside w) → word_of t n (word_of_wind w) ≡ side_in g t cap n w
  pub ghost : depth_of t (base g) n < base g → T (ghost_ok t cap n)
  pub point : base g ≤ depth_of t (base g) n → T (point_ok g t cap (base g) n)
  pub value : T (value_ok t cap v n)

-- the words of a row without a patch but its flags, and its value
pub record Empty (t : List ℤ) (v : List Float) (n : ℕ) : Type 0 where
  pub words : (w : ℕ) → w < flags_word → word_of t n w ≡ 0
  pub status : status_of (carried_of t v n) ≡ 0
  pub value : (carried_of t v n).value ≡ plus_zero

pub record Tested (g : Grid) (cap : ℕ) (t : List ℤ) (v : List Float) : Type 0 where
  pub zeroth : Empty t v 0
  pub zero_flags : word_of t 0 flags_word ≡ 0
  pub root-used : Used cap t 1
  pub row : (n : ℕ) → Used cap t n → Row g cap t v n
  pub empty : (n : ℕ) → 1 ≤ n → n ≤ cap → word_of t n flags_word ≡ free_flags → Empty t v n

-- ---- from the tests

module _ (g : Grid) (cap : ℕ) (t : List ℤ) (v : List Float) where
  empty-facts : (n : ℕ) → T (empty_ok t v n) → Empty t v n
  unfolding empty_ok
  empty-facts n h =
      let a = below flags_word (λ w. eqb (word_of t n w) 0) in
      let b = is_blank (carried_of t v n) in
      let c = is_zero (carried_of t v n) in
      record {
        words = λ w l. eqb→eq _ _ (below_at flags_word (λ w. eqb (word_of t n w) 0) (and_left a (b && c) h) w l);
        status = eqb→eq _ _ (and_left b c (and_right a (b && c) h));
        value = float_is _ _ (and_right b c (and_right a (b && c) h));
      }

  root-facts : (n : ℕ) → T (root_ok t (base g) n) → (word_of t n parent_word ≡ 0) × (said_place g t n ≡ root)
  unfolding root_ok said_place
  root-facts n h =
      let nth = every-at (root_tests t (base g) n) h in
      (eqb→eq _ _ (nth 0), place-path (at (depth_of t (base g) n) (word_of t n i_word) (word_of t n j_word)) root (eqb→eq _ _ (nth 1)) (eqb→eq _ _ (nth 2)) (eqb→eq _ _ (nth 3)))

  child-facts : (n : ℕ) → T (child_ok t cap (base g) n) → Child g cap t n
  unfolding child_ok said_place up free_at
  child-facts n h =
      let p = link_of t cap n parent_word in
      let nth = every-at (child_tests t cap (base g) n) h in
      let d : depth_of t (base g) p + 1 ≡ depth_of t (base g) n = eqb→eq _ _ (nth 3) in
      let x : word_of t p i_word ≡ word_of t n i_word / 2 = eqb→eq _ _ (nth 4) in
      let y : word_of t p j_word ≡ word_of t n j_word / 2 = eqb→eq _ _ (nth 5) in
      let u : pred (depth_of t (base g) n) ≡ depth_of t (base g) p = omega arith in
      record {
        is_word = eqb→eq _ _ (nth 1);
        above = link-used t cap n parent_word (unequal p 0 (nth 0)) (unequal _ _ (nth 2));
        halved = parent_up (said_place g t n) (omega arith) ∙ ap some (place-path (up (said_place g t n)) (said_place g t p) u (sym x) (sym y));
        named = eqb→eq _ _ (nth 6);
      }

  kid-word-facts : (n l m : ℕ) → T (kid_ok t cap n l m) → word_of t n (kid_word l m) ≡ link_of t cap n (kid_word l m)
  unfolding kid_ok
  kid-word-facts n l m h =
      let k = link_of t cap n (kid_word l m) in
      eqb→eq _ _ (and_left (eqb (word_of t n (kid_word l m)) k) (eqb k 0 || every (kid_tests t n l m k)) h)

  kid-facts : (n l m : ℕ) → T (kid_ok t cap n l m) → link_of t cap n (kid_word l m) ≢ 0 → Kid cap t n (link_of t cap n (kid_word l m)) l m
  unfolding kid_ok free_at
  kid-facts n l m h z = go (or_cases (eqb k 0) (every bs) (and_right (eqb (word_of t n (kid_word l m)) k) (eqb k 0 || every bs) h))
    where
      k : ℕ
      k = link_of t cap n (kid_word l m)

      bs : List Bool
      bs = kid_tests t n l m k

      go : T (eqb k 0) ⊎ T (every bs) → Kid cap t n k l m
      go (inl e) = absurd (z (eqb→eq k 0 e))
      go (inr e) =
          let nth = every-at bs e in
          record {
            here = link-used t cap n (kid_word l m) z (unequal _ _ (nth 0));
            back = eqb→eq _ _ (nth 1);
            i = eqb→eq _ _ (nth 2);
            j = eqb→eq _ _ (nth 3);
          }

  kid_at : (n : ℕ) → T (kids_ok t cap n) → (l m : ℕ) → l ≤ 1 → m ≤ 1 → T (kid_ok t cap n l m)
  unfolding kids_ok
  kid_at n h l m a b = go l m a b
    where
      nth : (i : ℕ) → T (get_or (kids_tests t cap n) i true)
      nth = every-at (kids_tests t cap n) h

      go : (l m : ℕ) → l ≤ 1 → m ≤ 1 → T (kid_ok t cap n l m)
      go zero zero a b = nth 2
      go zero (suc zero) a b = nth 3
      go (suc zero) zero a b = nth 1
      go (suc zero) (suc zero) a b = nth 0
      go (suc (suc l)) m a b = absurd (omega arith)
      go zero (suc (suc m)) a b = absurd (omega arith)
      go (suc zero) (suc (suc m)) a b = absurd (omega arith)

  side-facts : (n : ℕ) → T (sides_ok g t cap n) → (w : Wind) → T (aside w) → word_of t n (word_of_wind w) ≡ side_in g t cap n w
  unfolding sides_ok
  side-facts n h w a = go w a
    where
      nth : (i : ℕ) → T (get_or (side_tests g t cap n) i true)
      nth = every-at (side_tests g t cap n) h

      go : (w : Wind) → T (aside w) → word_of t n (word_of_wind w) ≡ side_in g t cap n w
      go N a = eqb→eq _ _ (nth 0)
      go E a = eqb→eq _ _ (nth 1)
      go S a = eqb→eq _ _ (nth 2)
      go W a = eqb→eq _ _ (nth 3)
      go NE a = absurd a
      go SE a = absurd a
      go SW a = absurd a
      go NW a = absurd a

  row-facts : (n : ℕ) → T (used_ok g t cap v n) → Row g cap t v n
  unfolding used_ok place_ok
  row-facts n h =
      let d = depth_of t (base g) n in
      let nth = every-at (used_tests g t cap v n) h in
      let high = leb d (base g + 12) in
      let place = cond (eqb n 1) (root_ok t (base g) n) (child_ok t cap (base g) n) in
      record {
        deep = leb→le d (base g + 12) (and_left high place (nth 0));
        top = λ e. root-facts n (rw (eq-eqb n 1 e) at (and_right high place (nth 0)));
        child = λ e. child-facts n (rw (ne_eqb n 1 e) at (and_right high place (nth 0)));
        kid-word = λ l m a b. kid-word-facts n l m (kid_at n (nth 2) l m a b);
        kid = λ l m a b z. kid-facts n l m (kid_at n (nth 2) l m a b) z;
        side = side-facts n (nth 1);
        ghost = λ l. rw (lt-ltb d (base g) l) at (nth 3);
        point = λ l. rw (le-ltb d (base g) l) at (nth 3);
        value = nth 4;
      }

  pub rowwise-tested : 1 ≤ cap → T (rowwise g t cap v) → Tested g cap t v
  unfolding rowwise zero_ok row_ok free_at
  rowwise-tested l h =
      let z = zero_ok t v in
      let r = not (free_at t 1) in
      let b = below cap (λ k. row_ok g t cap v (suc k)) in
      let zero_ok_lem = and_left z (r && b) h in
      let rest = and_right z (r && b) h in
      record {
        zeroth = empty-facts 0 (and_left (empty_ok t v 0) (eqb (word_of t 0 flags_word) 0) zero_ok_lem);
        zero_flags = eqb→eq _ _ (and_right (empty_ok t v 0) (eqb (word_of t 0 flags_word) 0) zero_ok_lem);
        root-used = record { low = omega arith; high = l; taken = unequal _ _ (and_left r b rest) };
        row = λ n u. row-facts n (rw (ne_eqb (word_of t n flags_word) free_flags u.taken) at (nth (and_right r b rest) n u.low u.high));
        empty = λ n low high e. empty-facts n (rw (eq-eqb (word_of t n flags_word) free_flags e) at (nth (and_right r b rest) n low high));
      }
    where
      nth : T (below cap (λ k. row_ok g t cap v (suc k))) → (n : ℕ) → 1 ≤ n → n ≤ cap → T (row_ok g t cap v n)
      nth h zero low high = absurd (omega arith)
      nth h (suc k) low high = below_at cap (λ k. row_ok g t cap v (suc k)) h k (omega arith)
