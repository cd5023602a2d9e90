-- What the small functions on lists do.
-- Assumes nothing.
use Prim.Native.Nat.{ℕ, zero, suc, ◌+◌, ◌≤◌, ◌<◌}
use native.Mathlib.Nat.{not-suc-le-zero, le_of_suc-le-suc, add-zero, zero-lt-suc}
use native.Mathlib.Omega.{arith}
use mathlib.Core.Path.{◌≡◌, refl, ap, ◌∙◌}
use mathlib.Core.Logic.{◌≢◌, ◌⊎◌, inl, inr}
use mathlib.Core.Bool.{Bool, true, false, not, ◌||◌, cond}
use mathlib.Core.List.{List, [], ◌∷◌, ◌++◌, map}
use lib.Dec.{T, eqb}
use lib.ListN.{length, get_or, set, length-set}
use lib.Seq.{get_or-set_same, set-set, set-get_or}
use Rattle.mesh.specs.Tools.{any, all, keep, count, first, foremost, every}
use Rattle.place_laws.proofs.Bools.{yes-is, is-yes, or_left, or_right, or_cases, and_both, and_left, and_right, neither}

-- ---- lists of tests

pub every-at : (bs : List Bool) → T (every bs) → (k : ℕ) → T (get_or bs k true)
every-at [] t k = tt
every-at (b ∷ bs) t zero = and_left b (every bs) t
every-at (b ∷ bs) t (suc k) = every-at bs (and_right b (every bs) t) k

abbrev pub Tests : List Bool → Type 0
Tests [] = Unit {0}
Tests (b ∷ bs) = T b × Tests bs

pub at_every : (bs : List Bool) → Tests bs → T (every bs)
at_every [] h = tt
at_every (b ∷ bs) h = and_both b (every bs) h.0 (at_every bs h.1)

module _ {A : Type 0} (f : A → Bool) (d : A) where
  -- ---- any, all: by index

  pub any_at : (xs : List A) (k : ℕ) → k < length xs → T (f (get_or xs k d)) → T (any f xs)
  any_at [] k h t = absurd (not-suc-le-zero h)
  any_at (x ∷ xs) zero h t = rw (yes-is (f x) t) tt
  any_at (x ∷ xs) (suc k) h t = or_right (f x) (any f xs) (any_at xs k (le_of_suc-le-suc h) t)

  pub any-hit : (xs : List A) → T (any f xs) → (k : ℕ) × (k < length xs) × T (f (get_or xs k d))
  any-hit [] t = absurd t
  any-hit (x ∷ xs) t = go (f x) refl (any-hit xs)
    where
      go : (b : Bool) → f x ≡ b → (T (any f xs) → (k : ℕ) × (k < length xs) × T (f (get_or xs k d))) → (k : ℕ) × (k < length (x ∷ xs)) × T (f (get_or (x ∷ xs) k d))
      go true e ih = (0, zero-lt-suc _, rw e tt)
      go false e ih = let r = ih (rw e at t) in (suc r.0, omega (arith, r.1), r.2)

  pub all-at : (xs : List A) → T (all f xs) → (k : ℕ) → k < length xs → T (f (get_or xs k d))
  all-at [] t k l = absurd (not-suc-le-zero l)
  all-at (x ∷ xs) t zero l = and_left (f x) (all f xs) t
  all-at (x ∷ xs) t (suc k) l = all-at xs (and_right (f x) (all f xs) t) k (le_of_suc-le-suc l)

  pub at_all : (xs : List A) → ((k : ℕ) → k < length xs → T (f (get_or xs k d))) → T (all f xs)
  at_all [] h = tt
  at_all (x ∷ xs) h = and_both (f x) (all f xs) (h 0 (zero-lt-suc _)) (at_all xs (λ k l. h (suc k) (omega (arith, l))))

  -- ---- first

  -- a number that is not 0 is where the first one that passes stands
  pub first-hit : (n : ℕ) (xs : List A) → first f n xs ≢ 0 → (k : ℕ) × (first f n xs ≡ n + k) × (k < length xs) × T (f (get_or xs k d))
  first-hit n [] h = absurd (h refl)
  first-hit n (x ∷ xs) h = go (f x) refl (first-hit (suc n) xs)
    where
      go : (b : Bool) → f x ≡ b → (first f (suc n) xs ≢ 0 → (k : ℕ) × (first f (suc n) xs ≡ suc n + k) × (k < length xs) × T (f (get_or xs k d))) → (k : ℕ) × (first f n (x ∷ xs) ≡ n + k) × (k < length (x ∷ xs)) × T (f (get_or (x ∷ xs) k d))
      go true e ih = (0, rw (e, add-zero), zero-lt-suc _, rw e tt)
      go false e ih =
          let r = ih (rw e at h) in
          (suc r.0, rw e (r.1 ∙ omega arith), omega (arith, r.2), r.3)

  -- nothing before the first one passes
  pub first-before : (n : ℕ) (xs : List A) (k j : ℕ) → first f n xs ≡ n + k → j < k → f (get_or xs j d) ≡ false
  first-before n [] k j e h = absurd (omega arith)
  first-before n (x ∷ xs) k j e h = go (f x) refl j k h e (first-before (suc n) xs)
    where
      go : (b : Bool) → f x ≡ b → (j k : ℕ) → j < k → first f n (x ∷ xs) ≡ n + k → ((k j : ℕ) → first f (suc n) xs ≡ suc n + k → j < k → f (get_or xs j d) ≡ false) → f (get_or (x ∷ xs) j d) ≡ false
      go true b j k h e ih = absurd (let z : n ≡ n + k = rw b at e in omega arith)
      go false b zero k h e ih = b
      go false b (suc j) zero h e ih = absurd (omega arith)
      go false b (suc j) (suc k) h e ih = ih k j (let z : first f (suc n) xs ≡ n + suc k = rw b at e in omega arith) (omega arith)

  -- where one place alone passes, it is the first
  pub first-at : (n : ℕ) (xs : List A) (k : ℕ) → k < length xs → T (f (get_or xs k d)) → ((j : ℕ) → j < length xs → T (f (get_or xs j d)) → j ≡ k) → first f n xs ≡ n + k
  first-at n [] k h t u = absurd (not-suc-le-zero h)
  first-at n (x ∷ xs) zero h t u = rw (yes-is (f x) t, add-zero)
  first-at n (x ∷ xs) (suc k) h t u = go (f x) refl (first-at (suc n) xs k (le_of_suc-le-suc h) t (λ j hj tj. let z : suc j ≡ suc k = u (suc j) (omega arith) tj in omega arith))
    where
      go : (b : Bool) → f x ≡ b → first f (suc n) xs ≡ suc n + k → first f n (x ∷ xs) ≡ n + suc k
      go true e ih = absurd (let z : 0 ≡ suc k = u 0 (zero-lt-suc _) (is-yes (f x) e) in omega arith)
      go false e ih = rw e (ih ∙ omega arith)

  -- ---- after a change of one element

  pub count_set : (xs : List A) (n : ℕ) (a : A) → n < length xs → T (f (get_or xs n d)) → f a ≡ false → count f xs ≡ suc (count f (set xs n a))
  count_set [] n a l t e = absurd (not-suc-le-zero l)
  count_set (x ∷ xs) zero a l t e = rw (yes-is (f x) t, e) (let h : 1 + count f xs ≡ suc (0 + count f xs) = omega arith in h)
  count_set (x ∷ xs) (suc n) a l t e = rw (count_set xs n a (le_of_suc-le-suc l) t e) (let h : cond (f x) 1 0 + suc (count f (set xs n a)) ≡ suc (cond (f x) 1 0 + count f (set xs n a)) = omega arith in h)

  -- one more passes
  pub count-more : (xs : List A) (n : ℕ) (a : A) → n < length xs → f (get_or xs n d) ≡ false → T (f a) → count f (set xs n a) ≡ suc (count f xs)
  count-more xs n a l e t =
      count_set (set xs n a) n (get_or xs n d) (rw length-set l) (rw (get_or-set_same xs n a d l) t) e
      ∙ ap (λ (ys : List A). suc (count f ys)) (set-set xs n a (get_or xs n d) ∙ set-get_or xs n d)

  pub any-set : (xs : List A) (n : ℕ) (a : A) → f a ≡ f (get_or xs n d) → any f (set xs n a) ≡ any f xs
  any-set [] n a e = refl
  any-set (x ∷ xs) zero a e = rw e
  any-set (x ∷ xs) (suc n) a e = rw (any-set xs n a e)

  pub first-set : (k : ℕ) (xs : List A) (n : ℕ) (a : A) → f a ≡ f (get_or xs n d) → first f k (set xs n a) ≡ first f k xs
  first-set k [] n a e = refl
  first-set k (x ∷ xs) zero a e = rw e
  first-set k (x ∷ xs) (suc n) a e = rw (first-set (suc k) xs n a e)

  -- where one passes, and numbers are counted from above 0, there is a first one
  pub first_found_lem : (k : ℕ) (xs : List A) → 0 < k → 0 < count f xs → first f k xs ≢ 0
  first_found_lem k [] h c = λ z. omega arith
  first_found_lem k (x ∷ xs) h c = go (f x) refl (first_found_lem (suc k) xs (omega arith))
    where
      go : (b : Bool) → f x ≡ b → (0 < count f xs → first f (suc k) xs ≢ 0) → first f k (x ∷ xs) ≢ 0
      go true e ih = rw e (λ z. omega arith)
      go false e ih = rw e (ih (let c' : 0 < 0 + count f xs = rw e at c in omega arith))

module _ {A : Type 0} where
  pub any_append : (f : A → Bool) (xs ys : List A) → any f (xs ++ ys) ≡ (any f xs || any f ys)
  any_append f [] ys = refl
  any_append f (x ∷ xs) ys = go (f x) (any_append f xs ys)
    where
      go : (b : Bool) → any f (xs ++ ys) ≡ (any f xs || any f ys) → (b || any f (xs ++ ys)) ≡ (b || any f xs || any f ys)
      go true e = refl
      go false e = e

  -- a stricter test
  pub any-weaken : (f h : A → Bool) → ((x : A) → T (f x) → T (h x)) → (xs : List A) → T (any f xs) → T (any h xs)
  any-weaken f h w [] t = t
  any-weaken f h w (x ∷ xs) t = go (or_cases (f x) (any f xs) t) (any-weaken f h w xs)
    where
      go : T (f x) ⊎ T (any f xs) → (T (any f xs) → T (any h xs)) → T (any h (x ∷ xs))
      go (inl a) r = or_left (h x) (any h xs) (w x a)
      go (inr a) r = or_right (h x) (any h xs) (r a)

  pub all-weaken : (f h : A → Bool) → ((x : A) → T (f x) → T (h x)) → (xs : List A) → T (all f xs) → T (all h xs)
  all-weaken f h w [] t = t
  all-weaken f h w (x ∷ xs) t = and_both (h x) (all h xs) (w x (and_left (f x) (all f xs) t)) (all-weaken f h w xs (and_right (f x) (all f xs) t))

  pub keep_append : (f : A → Bool) (xs ys : List A) → keep f (xs ++ ys) ≡ keep f xs ++ keep f ys
  keep_append f [] ys = refl
  keep_append f (x ∷ xs) ys = go (f x) (keep_append f xs ys)
    where
      go : (b : Bool) → keep f (xs ++ ys) ≡ keep f xs ++ keep f ys → cond b (x ∷ keep f (xs ++ ys)) (keep f (xs ++ ys)) ≡ cond b (x ∷ keep f xs) (keep f xs) ++ keep f ys
      go true e = ap (λ (zs : List A). x ∷ zs) e
      go false e = e

  pub keep-length : (f : A → Bool) (xs : List A) → length (keep f xs) ≤ length xs
  keep-length f [] = omega arith
  keep-length f (x ∷ xs) = go (f x) (keep-length f xs)
    where
      go : (b : Bool) → length (keep f xs) ≤ length xs → length (cond b (x ∷ keep f xs) (keep f xs)) ≤ suc (length xs)
      go true ih = omega arith
      go false ih = omega arith

-- ---- maps

pub any-map : {A B : Type 0} (h : B → Bool) (f : A → B) (xs : List A) → any h (map f xs) ≡ any (λ x. h (f x)) xs
any-map h f [] = refl
any-map h f (x ∷ xs) = ap (λ b. h (f x) || b) (any-map h f xs)

pub first-map : {A B : Type 0} (h : B → Bool) (f : A → B) (n : ℕ) (xs : List A) → first h n (map f xs) ≡ first (λ x. h (f x)) n xs
first-map h f n [] = refl
first-map h f n (x ∷ xs) = ap (cond (h (f x)) n) (first-map h f (suc n) xs)

pub count_map : {A B : Type 0} (h : B → Bool) (f : A → B) (xs : List A) → count h (map f xs) ≡ count (λ x. h (f x)) xs
count_map h f [] = refl
count_map h f (x ∷ xs) = ap (λ k. cond (h (f x)) 1 0 + k) (count_map h f xs)

pub map-set : {A B : Type 0} (f : A → B) (xs : List A) (n : ℕ) (a : A) → map f (set xs n a) ≡ set (map f xs) n (f a)
map-set f [] n a = refl
map-set f (x ∷ xs) zero a = refl
map-set f (x ∷ xs) (suc n) a = ap (λ l. f x ∷ l) (map-set f xs n a)

-- ---- foremost

-- numbers that are 0 exactly where a test fails
module _ {A : Type 0} (f : A → ℕ) (b : A → Bool) (h : (x : A) → eqb (f x) 0 ≡ not (b x)) where
  pub foremost-any : (xs : List A) → eqb (foremost (map f xs)) 0 ≡ not (any b xs)
  foremost-any [] = refl
  foremost-any (x ∷ xs) = rw (h x) (go (b x) (h x) (foremost-any xs))
    where
      go : (c : Bool) → eqb (f x) 0 ≡ not c → eqb (foremost (map f xs)) 0 ≡ not (any b xs)
          → eqb (cond (not c) (foremost (map f xs)) (f x)) 0 ≡ not (c || any b xs)
      go true e ih = e
      go false e ih = ih

  -- the first that passes
  pub foremost-first : (xs ys : List A) (x : A) → any b xs ≡ false → T (b x) → foremost (map f (xs ++ x ∷ ys)) ≡ f x
  foremost-first [] ys x n t = rw (h x, yes-is (b x) t)
  foremost-first (y ∷ xs) ys x n t =
      let (p, q) = neither (b y) (any b xs) n in
      rw (h y, p) (foremost-first xs ys x q t)
