-- Small functions on lists that the rules are written with.
-- Assumes nothing.
use Rattle.std.specs.Prelude.{ℕ, zero, suc, ◌+◌, ◌*◌, Bool, true, false, ◌&&◌, ◌||◌, cond, List, [], ◌∷◌, ◌++◌, eqb}
use Rattle.std.proofs.Math.Option.{Option, none, some}

module _ {A : Type 0} where
  -- some element passes; every element passes
  abbrev pub any : (A → Bool) → List A → Bool
  any f [] = false
  any f (x ∷ xs) = f x || any f xs

  abbrev pub all : (A → Bool) → List A → Bool
  all f [] = true
  all f (x ∷ xs) = f x && all f xs

  -- the elements that pass, in their order; how many they are
  abbrev pub keep : (A → Bool) → List A → List A
  keep f [] = []
  keep f (x ∷ xs) = cond (f x) (x ∷ keep f xs) (keep f xs)

  abbrev pub count : (A → Bool) → List A → ℕ
  count f [] = 0
  count f (x ∷ xs) = cond (f x) 1 0 + count f xs

  -- the first element that passes, if one does
  abbrev pub find : (A → Bool) → List A → Option A
  find f [] = none
  find f (x ∷ xs) = cond (f x) (some x) (find f xs)

  -- the index of the first element that passes, counted from n; 0 if none does
  abbrev pub first : (A → Bool) → ℕ → List A → ℕ
  first f n [] = 0
  first f n (x ∷ xs) = cond (f x) n (first f (suc n) xs)

  -- one list after the other
  abbrev pub flat : List (List A) → List A
  flat [] = []
  flat (x ∷ xs) = x ++ flat xs

  -- two lists have the same elements, by a test of two elements
  abbrev pub same_list : (A → A → Bool) → List A → List A → Bool
  same_list f [] [] = true
  same_list f [] (y ∷ ys) = false
  same_list f (x ∷ xs) [] = false
  same_list f (x ∷ xs) (y ∷ ys) = f x y && same_list f xs ys

  -- f of what is there, and otherwise z
  abbrev pub or_else : {B : Type 0} → B → (A → B) → Option A → B
  or_else z f none = z
  or_else z f (some x) = f x

  abbrev pub is_some : Option A → Bool
  is_some none = false
  is_some (some x) = true

-- the first number that is not 0; 0 if there is none
abbrev pub foremost : List ℕ → ℕ
foremost [] = 0
foremost (n ∷ ns) = cond (eqb n 0) (foremost ns) n

-- every test of a list passes
abbrev pub every : List Bool → Bool
every [] = true
every (b ∷ bs) = b && every bs

-- the number whose binary digits these are, lowest first
abbrev pub digits : List Bool → ℕ
digits [] = 0
digits (b ∷ bs) = cond b 1 0 + 2 * digits bs

-- some number below n passes
abbrev pub any_below : (ℕ → Bool) → ℕ → Bool
any_below f zero = false
any_below f (suc n) = f n || any_below f n
