-- A walk meets each patch that it lists once, and nothing else: the part of a kid has the patches under that kid, and no patch lies under two.
-- Assumes nothing.
use Prim.Native.Nat.{ℕ, zero, suc, ◌+◌, ◌≤◌}
use native.Mathlib.Nat.{zero-add}
use native.Mathlib.Omega.{arith}
use mathlib.Core.Path.{◌≡◌, refl, sym, ap, ◌∙◌, subst}
use mathlib.Core.Logic.{◌≢◌, ◌⊎◌, inl, inr}
use mathlib.Core.Bool.{Bool, true, false, not, ◌&&◌, cond}
use mathlib.Core.Option.{Option, none, some, none-ne-some, some-injective}
use mathlib.Core.List.{List, ◌++◌, map}
use lib.Dec.{T, T_not, not_T, eqb, eqb→eq, eqb_refl}
use Rattle.number_laws.specs.Numbered.{Numbered}
use Rattle.mesh.specs.Tools.{any, count, flat, is_some, or_else}
use Rattle.mesh.specs.Place.{Place, Wind, root, base, same, kid, parent, In}
use Rattle.mesh.specs.Mesh.{patch}
use Rattle.mesh.specs.State.{State, Entry, place_of, is_used, entry, cells, number, place_at, grid_of}
use Rattle.mesh.specs.Valid.{Valid}
use Rattle.mesh.specs.Scan.{standing, own, walk}
use Rattle.place_laws.proofs.Bools.{yes-is, is-yes, or_cases}
use Rattle.place_laws.proofs.Lists.{any_append}
use Rattle.place_laws.proofs.Places.{same-is, same_refl}
use Rattle.place_laws.proofs.Counting.{count-append, count_none, count-keep, any-parts, count-parts}
use Rattle.place_laws.proofs.Distinct.{keep-in}
use Rattle.place_laws.proofs.Kids.{parent-depth, some-kid}
use Rattle.place_laws.proofs.Tree.{patch-high}
use Rattle.number_laws.proofs.Entries.{stands-in}
use Rattle.number_laws.proofs.NumberedPlaces.{valid-numbered, number-place, place-number, numbered-not-zero}
use Rattle.walk_laws.proofs.Below.{Below, below-here, below-same, below-kid, below-which, below_one, patch-above, root-above}

-- ---- orders

-- an order of the kids: it names each kid of a place once
abbrev pub Order : List Wind → Type 0
Order ws = (p r : Place) → parent r ≡ some p → count (same r) (map (λ w. kid w p) ws) ≡ 1

-- ---- what a walk meets

-- a number that a walk meets: a patch that it lists, so many levels under the start
pub record Met (es : List Entry) (f : Place → Bool) (n : ℕ) (p : Place) (k : ℕ) : Type 0 where
  pub there : Place
  pub down : ℕ
  pub near : down ≤ n
  pub under : Below p down there
  pub lists : T (f there)
  pub its : place_of (entry es k) ≡ some there

module _ (es : List Entry) (f : Place → Bool) (ws : List Wind) where
  -- "tree order, a patch before its kids, kids in the given order"
  pub walk-order : (n : ℕ) (p : Place) → walk es f ws (suc n) p ≡ own es f p ++ flat (map (walk es f ws n) (standing es ws p))
  unfolding walk
  walk-order n p = refl

  pub standing-kid : (p r : Place) → In r (standing es ws p) → (number es r ≢ 0) × (parent r ≡ some p)
  standing-kid p r t =
      let (i, h) = keep-in (λ q. not (eqb (number es q) 0)) (map (λ w. kid w p) ws) r t in
      ((λ z. T_not (eqb (number es r) 0) h (rw z tt)), some-kid p r ws i)

  own-met : (n : ℕ) (p : Place) (k : ℕ) → number es p ≢ 0 → T (any (eqb k) (own es f p)) → Met es f n p k
  own-met n p k h t = go (f p) refl
    where
      go : (b : Bool) → f p ≡ b → Met es f n p k
      go true e = record {
        there = p;
        down = 0;
        near = omega arith;
        under = below-here p;
        lists = is-yes (f p) e;
        its = ap (λ (i : ℕ). place_of (entry es i)) (one (or_cases (eqb k (number es p)) false (rw e at t))) ∙ number-place es p h;
      }
        where
          one : T (eqb k (number es p)) ⊎ T false → k ≡ number es p
          one (inl a) = eqb→eq k (number es p) a
          one (inr a) = absurd a
      go false e = absurd (let z : T false = rw e at t in z)

  -- every number of a walk is a patch under the start that the walk lists
  pub walk-met : (n : ℕ) (p : Place) (k : ℕ) → number es p ≢ 0 → T (any (eqb k) (walk es f ws n p)) → Met es f n p k
  unfolding walk
  walk-met zero p k h t = own-met 0 p k h t
  walk-met (suc n) p k h t = go (or_cases (any (eqb k) (own es f p)) (any (eqb k) parts) (rw (any_append (eqb k) (own es f p) parts) at t)) (walk-met n)
    where
      parts : List ℕ
      parts = flat (map (walk es f ws n) (standing es ws p))

      go : T (any (eqb k) (own es f p)) ⊎ T (any (eqb k) parts) → ((r : Place) (k : ℕ) → number es r ≢ 0 → T (any (eqb k) (walk es f ws n r)) → Met es f n r k) → Met es f (suc n) p k
      go (inl a) ih = own-met (suc n) p k h a
      go (inr a) ih =
          let (r, i, b) = any-parts (eqb k) (walk es f ws n) (standing es ws p) a in
          let (z, e) = standing-kid p r i in
          let m = ih r k z b in
          record { there = m.there; down = suc m.down; near = omega arith; under = below-kid e m.under; lists = m.lists; its = m.its }

  -- ---- each patch once

  -- a patch with all that stands above it is met once from each place above it, where the walk goes down so far and lists it
  module _ (ord : Order ws) (q : Place) (t : T (f q)) (above : (m : ℕ) (r : Place) → Below r m q → number es r ≢ 0) where
    -- where q is met, it lies under the start
    met-q : (n : ℕ) (p : Place) → number es p ≢ 0 → T (any (eqb (number es q)) (walk es f ws n p)) → (m : ℕ) × (m ≤ n) × Below p m q
    met-q n p h u =
        let m = walk-met n p (number es q) h u in
        let e : m.there ≡ q = some-injective _ _ (sym m.its ∙ number-place es q (above 0 q (below-here q))) in
        (m.down, m.near, subst (λ (x : Place). Below p m.down x) e m.under)

    own-here : count (eqb (number es q)) (own es f q) ≡ 1
    own-here = rw (yes-is (f q) t, yes-is (eqb (number es q) (number es q)) (eqb_refl (number es q)))

    own-none : (p : Place) (m : ℕ) → Below p (suc m) q → count (eqb (number es q)) (own es f p) ≡ 0
    unfolding walk
    own-none p m b =
        count_none (eqb (number es q)) (own es f p) (λ u.
        let (j, l, d) = met-q 0 p (above (suc m) p b) u in
        omega (arith, l, d.deep, b.deep))

    pub walk-once : (n m : ℕ) (p : Place) → m ≤ n → Below p m q → count (eqb (number es q)) (walk es f ws n p) ≡ 1
    unfolding walk
    walk-once zero zero p h b = rw (← below-same b) own-here
    walk-once zero (suc m) p h b = absurd (omega arith)
    walk-once (suc n) zero p h b = rw (← below-same b) (count-append (eqb (number es q)) (own es f q) (parts q) ∙ rw (own-here, nothing) refl)
      where
        parts : Place → List ℕ
        parts p = flat (map (walk es f ws n) (standing es ws p))

        nothing : count (eqb (number es q)) (parts q) ≡ 0
        nothing =
            count_none (eqb (number es q)) (parts q) (λ u.
            let (r, i, a) = any-parts (eqb (number es q)) (walk es f ws n) (standing es ws q) u in
            let (z, e) = standing-kid q r i in
            let (m, l, d) = met-q n r z a in
            omega (arith, parent-depth r q e, d.deep))
    walk-once (suc n) (suc m) p h b =
        let (r, e, d) = below-which b in
        count-append (eqb (number es q)) (own es f p) (flat (map (walk es f ws n) (standing es ws p)))
        ∙ rw (own-none p m b, zero-add) (count-parts (eqb (number es q)) (walk es f ws n) r (standing es ws p) (part r e d (walk-once n m r (omega arith) d)) ∙ one r e d)
      where
        one : (r : Place) → parent r ≡ some p → Below r m q → count (same r) (standing es ws p) ≡ 1
        one r e d = count-keep (same r) (λ x. not (eqb (number es x) 0)) (λ x u. not_T (eqb (number es x) 0) (λ z. above m r d (ap (number es) (same-is r x u) ∙ eqb→eq _ _ z))) (map (λ w. kid w p) ws) ∙ ord p r e

        part : (r : Place) → parent r ≡ some p → Below r m q → count (eqb (number es q)) (walk es f ws n r) ≡ 1 → (x : Place) → In x (standing es ws p) → count (eqb (number es q)) (walk es f ws n x) ≡ cond (same r x) 1 0
        part r e d ih x i = go (same r x) refl
          where
            go : (b : Bool) → same r x ≡ b → count (eqb (number es q)) (walk es f ws n x) ≡ cond b 1 0
            go true y = rw (← same-is r x (is-yes (same r x) y)) ih
            go false y = count_none (eqb (number es q)) (walk es f ws n x) (λ u.
                let (z, c) = standing-kid p x i in
                let (j, l, a) = met-q n x z u in
                let v : r ≡ x = below_one (omega (arith, parent-depth r p e, parent-depth x p c)) d a in
                let w : T (same r x) = rw (← v) (same_refl r) in
                let w' : T false = rw y at w in w')

-- ---- all the patches

module _ (s : State) (v : Valid s) where
  -- a patch with all that lies above it stands in the table
  pub stands-above : (q : Place) → T (patch (grid_of s) (cells s.entries) q) → (m : ℕ) (r : Place) → Below r m q → number s.entries r ≢ 0
  stands-above q t m r b = numbered-not-zero s.entries (valid-numbered v) r (v.every r (patch-above (grid_of s) (cells s.entries) v.mesh m b t))

  pub root_stands : number s.entries root ≢ 0
  root_stands = numbered-not-zero s.entries (valid-numbered v) root (stands-in s.entries 1 root v.first-root)

  -- a walk from the root through all levels meets each patch that it lists once, and nothing else
  pub walk-all : (f : Place → Bool) (ws : List Wind) → Order ws → (n : ℕ) → base (grid_of s) + 12 ≤ n → (k : ℕ) → count (eqb k) (walk s.entries f ws n root) ≡ cond (is_used (entry s.entries k) && f (place_at s.entries k)) 1 0
  walk-all f ws ord n h k = go (place_of (entry s.entries k)) refl
    where
      u : Numbered s.entries
      u = valid-numbered v

      met : T (any (eqb k) (walk s.entries f ws n root)) → Met s.entries f n root k
      met t = walk-met s.entries f ws n root k root_stands t

      here : (q : Place) (b : Bool) → place_of (entry s.entries k) ≡ some q → f q ≡ b → count (eqb k) (walk s.entries f ws n root) ≡ cond b 1 0
      here q true e y =
          let t = v.each k q e in
          let l = patch-high (grid_of s) (cells s.entries) v.mesh q t in
          rw (← place-number s.entries u k q e) (walk-once s.entries f ws ord q (is-yes (f q) y) (stands-above q t) n q.depth root (omega arith) (root-above (grid_of s) (cells s.entries) v.mesh v.rectangle q t))
      here q false e y =
          count_none (eqb k) (walk s.entries f ws n root) (λ t.
          let m = met t in
          let z : T (f q) = subst (λ (x : Place). T (f x)) (some-injective _ _ (sym m.its ∙ e)) m.lists in
          let z' : T false = rw y at z in
          z')

      go : (o : Option Place) → place_of (entry s.entries k) ≡ o → count (eqb k) (walk s.entries f ws n root) ≡ cond (is_some o && f (or_else root (λ p. p) o)) 1 0
      go none e = count_none (eqb k) (walk s.entries f ws n root) (λ t. none-ne-some _ (sym e ∙ (met t).its))
      go (some q) e = here q (f q) e refl
