-- The tree of places: a place's kids are the places whose parent it is.
-- Assumes nothing.
use Prim.Native.Nat.{ℕ, zero, suc, pred, ◌+◌, ◌*◌, ◌/◌, ◌%◌, ◌<◌}
use native.Mathlib.Omega.{arith}
use native.Mathlib.Decide.{dec_lt}
use mathlib.Core.Path.{◌≡◌, refl, sym, ap, ◌∙◌}
use mathlib.Core.Bool.{Bool, not}
use mathlib.Core.Option.{none, some, some-injective}
use mathlib.Core.List.{List, [], ◌∷◌, map}
use lib.Dec.{T, T_not, not_T}
use Rattle.mesh.specs.Tools.{any, all}
use Rattle.mesh.specs.Place.{Place, Grid, at, before, compass, kid, kids, kid_winds, parent, Wind, NE, SE, SW, NW, In}
use Rattle.mesh.specs.Mesh.{has_kids, leaf}
use Rattle.mesh.proofs.Winds.{rule}
use Rattle.place_laws.proofs.Bools.{and_both, and_left, and_right}
use Rattle.place_laws.proofs.Counting.{in_map}
use Rattle.place_laws.proofs.Places.{place-path, in-here, in-there, any-in, in-any, all_in, in_all, before-is, mapped}

-- ---- the parent's place

-- the parent's place, of a place that is not the root
unfoldable pub up : Place → Place
up p = at (pred p.depth) (p.i / 2) (p.j / 2)

pub parent_up : (p : Place) → 0 < p.depth → parent p ≡ some (up p)
unfolding parent up
parent_up p h = go p.depth refl
  where
    go : (e : ℕ) → p.depth ≡ e → parent p ≡ some (up p)
    go zero e = absurd (omega arith)
    go (suc n) e = rw e

pub no-parent : (p : Place) → p.depth ≡ 0 → parent p ≡ none
unfolding parent
no-parent p e = rw e

pub parent-depth : (q p : Place) → parent q ≡ some p → q.depth ≡ suc p.depth
unfolding parent
parent-depth q p e =
    let (d, b, f) = mapped (λ e. at e (q.i / 2) (q.j / 2)) p (before q.depth) e in
    before-is q.depth d b ∙ ap (λ (x : Place). suc x.depth) f

pub up_depth : (p : Place) → 0 < p.depth → suc (up p).depth ≡ p.depth
unfolding up
up_depth p h = let e : suc (pred p.depth) ≡ p.depth = omega arith in e

pub up_is : (q p : Place) → parent q ≡ some p → up q ≡ p
up_is q p e = some-injective _ _ (sym (parent_up q (omega (arith, parent-depth q p e))) ∙ e)

-- ---- the kids' places

pub kid-depth : (w : Wind) (p : Place) → (kid w p).depth ≡ suc p.depth
unfolding kid
kid-depth w p = refl

pub parent-kid : (w : Wind) (p : Place) → parent (kid w p) ≡ some p
unfolding kid parent
parent-kid w p =
    let x : (2 * p.i + (compass w).east / 2) / 2 ≡ p.i = omega (arith, (rule w).east-back) in
    let y : (2 * p.j + (compass w).north / 2) / 2 ≡ p.j = omega (arith, (rule w).north-back) in
    ap some (place-path (at p.depth ((2 * p.i + (compass w).east / 2) / 2) ((2 * p.j + (compass w).north / 2) / 2)) p refl x y)

pub kid-parent : {p q : Place} (w : Wind) → q ≡ kid w p → parent q ≡ some p
kid-parent {p} w e = ap parent e ∙ parent-kid w p

pub up-kid : (w : Wind) (p : Place) → up (kid w p) ≡ p
unfolding up kid
up-kid w p = some-injective _ _ (sym (parent_up (kid w p) (omega arith)) ∙ parent-kid w p)

pub some-kid : (p q : Place) (ws : List Wind) → In q (map (λ w. kid w p) ws) → parent q ≡ some p
some-kid p q ws t = let (w, e) = in_map (λ w. kid w p) q ws t in kid-parent w e

-- ---- "(k+1, 2i+l, 2j+m), l and m in 0,1": which of the four a place is

-- 2l + m, by a kid's wind and by its place
abbrev pub turn : Wind → ℕ
turn w = 2 * ((compass w).east / 2) + (compass w).north / 2

unfoldable pub turn_of : Place → ℕ
turn_of q = 2 * (q.i % 2) + q.j % 2

pub turn-kid : (w : Wind) (p : Place) → turn_of (kid w p) ≡ turn w
unfolding turn_of kid
turn-kid w p =
    let e : 2 * ((2 * p.i + (compass w).east / 2) % 2) + (2 * p.j + (compass w).north / 2) % 2 ≡ turn w = omega (arith, (rule w).east-back, (rule w).north-back) in
    e

-- the kid's wind, by the last digit of the column and of the row
pub kid-wind : (q p : Place) → parent q ≡ some p → (w : Wind) × (kid w p ≡ q) × In q (kids p)
unfolding parent kid kids
kid-wind q p e =
    let (d, b, f) = mapped (λ e. at e (q.i / 2) (q.j / 2)) p (before q.depth) e in
    let dep : suc p.depth ≡ q.depth = ap (λ (x : Place). suc x.depth) (sym f) ∙ sym (before-is q.depth d b) in
    let c : q.i / 2 ≡ p.i = ap (λ (x : Place). x.i) f in
    let r : q.j / 2 ≡ p.j = ap (λ (x : Place). x.j) f in
    go dep c r (dec_lt (q.i % 2) 1) (dec_lt (q.j % 2) 1)
  where
    is : (l m : ℕ) → suc p.depth ≡ q.depth → 2 * p.i + l ≡ q.i → 2 * p.j + m ≡ q.j → at (suc p.depth) (2 * p.i + l) (2 * p.j + m) ≡ q
    is l m dep x y = place-path (at (suc p.depth) (2 * p.i + l) (2 * p.j + m)) q dep x y

    go : suc p.depth ≡ q.depth → q.i / 2 ≡ p.i → q.j / 2 ≡ p.j → Dec (q.i % 2 < 1) → Dec (q.j % 2 < 1) → (w : Wind) × (kid w p ≡ q) × In q (kids p)
    go dep c r (no x) (no y) = let k = is 1 1 dep (omega arith) (omega arith) in (NE, k, in-here q (kid NE p) (kid SE p ∷ kid SW p ∷ kid NW p ∷ []) (sym k))
    go dep c r (no x) (yes y) = let k = is 1 0 dep (omega arith) (omega arith) in (SE, k, in-there q (kid NE p) (kid SE p ∷ kid SW p ∷ kid NW p ∷ []) (in-here q (kid SE p) (kid SW p ∷ kid NW p ∷ []) (sym k)))
    go dep c r (yes x) (yes y) = let k = is 0 0 dep (omega arith) (omega arith) in (SW, k, in-there q (kid NE p) (kid SE p ∷ kid SW p ∷ kid NW p ∷ []) (in-there q (kid SE p) (kid SW p ∷ kid NW p ∷ []) (in-here q (kid SW p) (kid NW p ∷ []) (sym k))))
    go dep c r (yes x) (no y) = let k = is 0 1 dep (omega arith) (omega arith) in (NW, k, in-there q (kid NE p) (kid SE p ∷ kid SW p ∷ kid NW p ∷ []) (in-there q (kid SE p) (kid SW p ∷ kid NW p ∷ []) (in-there q (kid SW p) (kid NW p ∷ []) (in-here q (kid NW p) [] (sym k)))))

-- the kids are the places whose parent it is
pub parent_in : (q p : Place) → parent q ≡ some p → In q (kids p)
parent_in q p e = (kid-wind q p e).2

pub in-parent : (q p : Place) → In q (kids p) → parent q ≡ some p
unfolding kids
in-parent q p t = some-kid p q kid_winds t

pub kid_in : (w : Wind) (p : Place) → In (kid w p) (kids p)
kid_in w p = parent_in (kid w p) p (parent-kid w p)

-- ---- tests of the kids

pub any-kid : (f : Place → Bool) (p : Place) → T (any f (kids p)) → (q : Place) × (parent q ≡ some p) × T (f q)
any-kid f p t = let (q, i, h) = any-in f (kids p) t in (q, in-parent q p i, h)

pub kid-any : (f : Place → Bool) (p q : Place) → parent q ≡ some p → T (f q) → T (any f (kids p))
kid-any f p q e t = in-any f (kids p) q (parent_in q p e) t

pub all-kids : (f : Place → Bool) (p : Place) → T (all f (kids p)) → (q : Place) → parent q ≡ some p → T (f q)
all-kids f p t q e = all_in f (kids p) t q (parent_in q p e)

pub kids-all : (f : Place → Bool) (p : Place) → ((q : Place) → parent q ≡ some p → T (f q)) → T (all f (kids p))
kids-all f p h = in_all f (kids p) (λ q i. h q (in-parent q p i))

module _ (g : Grid) (c : Place → Bool) where
  pub has-kid : (p : Place) → T (has_kids g c p) → (q : Place) × (parent q ≡ some p) × T (c q)
  unfolding has_kids
  has-kid p t = any-kid c p t

  pub kid-has : (p q : Place) → parent q ≡ some p → T (c q) → T (has_kids g c p)
  unfolding has_kids
  kid-has p q e t = kid-any c p q e t

  -- a leaf is a cell none of whose kids' places is a cell
  pub leaf-cell : (p : Place) → T (leaf g c p) → T (c p)
  unfolding leaf
  leaf-cell p t = and_left (c p) (not (has_kids g c p)) t

  pub leaf-kidless : (p : Place) → T (leaf g c p) → (q : Place) → parent q ≡ some p → T (c q) → ⊥
  unfolding leaf
  leaf-kidless p t q e u = T_not (has_kids g c p) (and_right (c p) (not (has_kids g c p)) t) (kid-has p q e u)

  pub is_leaf : (p : Place) → T (c p) → ((q : Place) → parent q ≡ some p → T (c q) → ⊥) → T (leaf g c p)
  unfolding leaf
  is_leaf p t h = and_both (c p) (not (has_kids g c p)) t (not_T (has_kids g c p) (λ x. let (q, e, u) = has-kid p x in h q e u))
