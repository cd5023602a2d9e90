-- A level-0 patch that no cell touches any more goes, and with it the ghosts above it that have no kid left: so each ghost that stays has a kid.
-- Assumes nothing.
use Prim.Native.Nat.{ℕ, zero, suc, ◌≤◌, ◌<◌}
use native.Mathlib.Omega.{arith}
use native.Mathlib.Decide.{dec_lt}
use mathlib.Core.Path.{◌≡◌, refl, sym, ap, ◌∙◌, subst}
use mathlib.Core.Logic.{◌≢◌, ◌⊎◌, inl, inr}
use mathlib.Core.Bool.{Bool, true, false, not, ◌&&◌, cond}
use mathlib.Core.Option.{some, some-injective}
use mathlib.Core.List.{List, [], ◌∷◌, map}
use lib.Dec.{T, eqb, eqb→eq}
use lib.IntN.{ℤ}
use lib.ListN.{set}
use borrow.Author.Tests.{ne_eqb, eqb-false}
use Rattle.worked.specs.Worked.{kidless, touched_in}
use Rattle.edit_laws.specs.Rooted.{Rooted}
use Rattle.mesh.specs.Tools.{any, all}
use Rattle.mesh.specs.Place.{Place, Grid, root, same, base, kid, kids, parent, In, Distinct}
use Rattle.mesh.specs.Mesh.{touched, patch}
use Rattle.mesh.specs.State.{Entry, free, place_of, stands, entry, number, number_of}
use Rattle.table.specs.Words.{link_of}
use Rattle.place_laws.proofs.Bools.{is-yes}
use Rattle.place_laws.proofs.Places.{in-here, in-there, in-cases, in_one, same-is, is_same}
use Rattle.place_laws.proofs.Kids.{up, parent_up, up_depth, in-parent, all-kids}
use Rattle.place_laws.proofs.SideDigits.{kid_by}
use Rattle.place_laws.proofs.Tree.{patch-touched, ghost-kid}
use Rattle.number_laws.proofs.Entries.{stands-in}
use Rattle.number_laws.proofs.NumberedPlaces.{number-place, numbered-not-zero}
use Rattle.edit_laws.specs.Linked.{Flags, table_with}
use Rattle.edit_laws.specs.PatchSteps.{take_out}
use Rattle.edit_laws.specs.Tables.{drop_up, drop_corner}
use Rattle.edit_laws.proofs.FlagsAnew.{Ready, link-parent}
use Rattle.edit_laws.proofs.Named.{kid-link}
use Rattle.edit_laws.proofs.Touching.{touched-row}
use Rattle.edit_laws.proofs.Thinning.{thinned-place, thinned-stands}
use Rattle.edit_laws.proofs.Dropping.{Less, Left, left-whole, left-then, less-ready, out-table, out-less, out-number, out-fewer, out_stays, out-gone}

-- ---- kids that stand

-- a list of which not every place passes
not-all : (f : Place → Bool) (ps : List Place) → all f ps ≡ false → (q : Place) × In q ps × (f q ≡ false)
not-all f [] e = absurd (let z : ◌≡◌ {A = ℕ} 0 1 = cc in omega arith)
not-all f (p ∷ ps) e = go (f p) refl (not-all f ps)
  where
    go : (b : Bool) → f p ≡ b → (all f ps ≡ false → (q : Place) × In q ps × (f q ≡ false)) → (q : Place) × In q (p ∷ ps) × (f q ≡ false)
    go true i ih = let (q, j, k) = ih (rw i at e) in (q, in-there q p ps j, k)
    go false i ih = (p, in-here p p ps refl, i)

-- a kid of the place stands
abbrev pub Kidded : List Entry → Place → Type 0
Kidded ds q = (z : Place) × (parent z ≡ some q) × T (any (stands z) ds)

-- every ghost has one, or every one but x
abbrev pub Budding : Grid → List Entry → Type 0
Budding g ds = (q : Place) → q.depth < base g → T (any (stands q) ds) → Kidded ds q

abbrev BuddingBut : Grid → List Entry → Place → Type 0
BuddingBut g ds x = (q : Place) → q.depth < base g → q ≢ x → T (any (stands q) ds) → Kidded ds q

module _ {g : Grid} {cap : ℕ} {ds : List Entry} (r : Rooted g cap ds) (f : Flags) where
  there-stands : (q : Place) → number ds q ≢ 0 → T (any (stands q) ds)
  there-stands q z = stands-in ds (number ds q) q (number-place ds q z)

  -- the four words of a row's kids
  kidless-is : (q : Place) → kidless (table_with g ds f) cap (number ds q) ≡ all (λ z. eqb (number ds z) 0) (kids q)
  unfolding kids kid kid_by
  kidless-is q =
      rw (kid-link r f 1 1 (omega arith) (omega arith) (some q), kid-link r f 1 0 (omega arith) (omega arith) (some q), kid-link r f 0 0 (omega arith) (omega arith) (some q), kid-link r f 0 1 (omega arith) (omega arith) (some q))
      (last (eqb (number ds (kid_by 1 1 q)) 0) (eqb (number ds (kid_by 1 0 q)) 0) (eqb (number ds (kid_by 0 0 q)) 0) (eqb (number ds (kid_by 0 1 q)) 0))
    where
      and-true : (b : Bool) → b ≡ (b && true)
      and-true true = refl
      and-true false = refl

      last : (a b c d : Bool) → (a && (b && (c && d))) ≡ (a && (b && (c && (d && true))))
      last a b c d = ap (λ (x : Bool). a && (b && (c && x))) (and-true d)

  kids-none : (q : Place) → kidless (table_with g ds f) cap (number ds q) ≡ true → (z : Place) → parent z ≡ some q → T (any (stands z) ds) → ⊥
  kids-none q e z k t = numbered-not-zero ds r.numbered z t (eqb→eq _ _ (all-kids (λ x. eqb (number ds x) 0) q (is-yes (all (λ x. eqb (number ds x) 0) (kids q)) (sym (kidless-is q) ∙ e)) z k))

  kids-some : (q : Place) → kidless (table_with g ds f) cap (number ds q) ≡ false → Kidded ds q
  kids-some q e =
      let (z, i, k) = not-all (λ x. eqb (number ds x) 0) (kids q) (sym (kidless-is q) ∙ e) in
      (z, in-parent z q i, there-stands z (eqb-false _ _ k))

-- ---- ghosts without a kid

-- Every ghost that is left has a kid. From level 0 up only the places qs may have gone, and
-- those of them that stay are touched.
pub record Withered (g : Grid) (cap : ℕ) (c : Place → Bool) (f : Flags) (es ds : List Entry) (t : List ℤ) (qs : List Place) : Type 0 where
  pub rest : Left g cap c f es ds t
  pub budding : Budding g rest.left
  pub others : (q : Place) → base g ≤ q.depth → (In q qs → ⊥) → number ds q ≡ number rest.left q
  pub only-touched : (q : Place) → In q qs → T (any (stands q) rest.left) → T (touched g c q)

up_step : (e : ℕ) (t : List ℤ) (cap k : ℕ) (a : Bool) → k ≢ 0 → kidless t cap k ≡ a → drop_up (suc e) t cap k ≡ cond (not a) t (drop_up e (take_out t cap k) cap (link_of t cap k 0))
unfolding drop_up
up_step e t cap k a z i = rw (ne_eqb k 0 z, i)

corner-step : (t : List ℤ) (cap d k : ℕ) (a : Bool) → k ≢ 0 → touched_in t cap k ≡ a → drop_corner t cap d k ≡ cond a t (drop_up d (take_out t cap k) cap (link_of t cap k 0))
unfolding drop_corner
corner-step t cap d k a z i = rw (ne_eqb k 0 z, i)

-- corner after corner, by their rows
abbrev pub drop_corners : List ℕ → List ℤ → ℕ → ℕ → List ℤ
drop_corners [] t cap d = t
drop_corners (k ∷ ks) t cap d = drop_corners ks (drop_corner t cap d k) cap d

module _ {g : Grid} (cap : ℕ) {es : List Entry} (f : Flags) {c : Place → Bool} (stood : (q : Place) → T (patch g c q) → T (any (stands q) es)) (top : T (patch g c root)) where
  -- a patch without kids goes, and of the ghosts its parent alone may have none left
  module _ {ds : List Entry} (h : Less g cap c es ds) (x : Place) (z : number ds x ≢ 0) (gone : T (patch g c x) → ⊥)
      (bare : (n : ℕ) (p : Place) → place_of (entry ds n) ≡ some p → parent p ≡ some x → ⊥) where
    not_root : x ≢ root
    not_root e = gone (subst (λ (y : Place). T (patch g c y)) (sym e) top)

    below : 0 < x.depth
    below = go (dec_lt 0 x.depth)
      where
        go : Dec (0 < x.depth) → 0 < x.depth
        go (yes l) = l
        go (no l) = absurd (not_root (h.rooted.top (number ds x) x (number-place ds x z) (omega (arith, l))))

    abbrev less : List Entry
    less = set ds (number ds x) free

    above-there : number ds (up x) ≢ 0
    above-there = numbered-not-zero ds h.rooted.numbered (up x) (h.rooted.parents (number ds x) x (up x) (number-place ds x z) (parent_up x below))

    above_other : up x ≢ x
    above_other e = omega (arith, up_depth x below, ap (λ (y : Place). y.depth) e)

    above_same : number less (up x) ≡ number ds (up x)
    above_same = out-number h f x z gone not_root bare (up x) above_other

    above-read : link_of (table_with g ds f) cap (number ds x) 0 ≡ number less (up x)
    above-read = link-parent h.rooted f (number ds x) x (number-place ds x z) ∙ ap (number_of ds) (parent_up x below) ∙ sym above_same

    pruned-but : BuddingBut g ds x → BuddingBut g less (up x)
    pruned-but bud q l o t =
        let (y, e, u) = bud q l (λ i. out-gone h f x z gone not_root bare (subst (λ (p : Place). T (any (stands p) less)) i t)) (out-fewer h f x z gone not_root bare q t) in
        (y, e, out_stays h f x z gone not_root bare y (λ i. o (some-injective _ _ (sym e ∙ ap parent i ∙ parent_up x below))) u)

    still-above : number less (up x) ≢ 0
    still-above y = above-there (sym above_same ∙ y)

    -- what is left above is left with it
    and_above : (e : ℕ) (t : List ℤ) → t ≡ drop_up e (take_out (table_with g ds f) cap (number ds x)) cap (link_of (table_with g ds f) cap (number ds x) 0)
        → Withered g cap c f es less (drop_up e (table_with g less f) cap (number less (up x))) [] → Withered g cap c f es ds t (x ∷ [])
    and_above e t i w = record {
      rest = left-then (out-fewer h f x z gone not_root bare) (i ∙ steps) w.rest;
      budding = w.budding;
      others = λ q l o. sym (out-number h f x z gone not_root bare q (λ y. o (in-here q x [] y))) ∙ w.others q l (λ k. k);
      only-touched = λ q k u. none-there (subst (λ (y : Place). T (any (stands y) less)) (in_one q x k) (w.rest.fewer q u));
    }
      where
        steps : drop_up e (take_out (table_with g ds f) cap (number ds x)) cap (link_of (table_with g ds f) cap (number ds x) 0) ≡ drop_up e (table_with g less f) cap (number less (up x))
        steps =
            ap (λ (u : List ℤ). drop_up e u cap (link_of (table_with g ds f) cap (number ds x) 0)) (out-table h f x z gone not_root bare)
            ∙ ap (drop_up e (table_with g less f) cap) above-read

        none-there : {A : Type 0} → T (any (stands x) less) → A
        none-there u = absurd (out-gone h f x z gone not_root bare u)

  -- up to the first ghost that has a kid
  climb : (e : ℕ) (ds : List Entry) → Less g cap c es ds → (x : Place) → x.depth < e → x.depth < base g → number ds x ≢ 0 → BuddingBut g ds x
      → Withered g cap c f es ds (drop_up e (table_with g ds f) cap (number ds x)) []
  climb zero ds h x l b z bud = absurd (omega arith)
  climb (suc e) ds h x l b z bud = go (kidless t cap (number ds x)) refl (climb e)
    where
      t : List ℤ
      t = table_with g ds f

      -- a ghost alone goes
      ghost : {u : List ℤ} → Withered g cap c f es ds u (x ∷ []) → Withered g cap c f es ds u []
      ghost w = record {
        rest = w.rest;
        budding = w.budding;
        others = λ q k o. w.others q k (λ i. omega (arith, ap (λ (p : Place). p.depth) (in_one q x i)));
        only-touched = λ q k. absurd k;
      }

      go : (a : Bool) → kidless t cap (number ds x) ≡ a
          → ((ds : List Entry) → Less g cap c es ds → (x : Place) → x.depth < e → x.depth < base g → number ds x ≢ 0 → BuddingBut g ds x → Withered g cap c f es ds (drop_up e (table_with g ds f) cap (number ds x)) [])
          → Withered g cap c f es ds (drop_up (suc e) t cap (number ds x)) []
      go false i ih = record {
        rest = left-whole h (up_step e t cap (number ds x) false z i);
        budding = λ q k u. one q k u (same q x) refl;
        others = λ q k o. refl;
        only-touched = λ q k. absurd k;
      }
        where
          one : (q : Place) → q.depth < base g → T (any (stands q) ds) → (a : Bool) → same q x ≡ a → Kidded ds q
          one q k u true s = subst (Kidded ds) (sym (same-is q x (is-yes (same q x) s))) (kids-some h.rooted f x i)
          one q k u false s = bud q k (λ e. let w : T false = rw s at (is_same q x e) in w) u
      go true i ih =
          let d = up_depth x (below h x z gone bare) in
          ghost (and_above h x z gone bare e (drop_up (suc e) t cap (number ds x)) (up_step e t cap (number ds x) true z i)
          (ih (set ds (number ds x) free) (out-less h f x z gone (not_root h x z gone bare) bare) (up x) (omega arith) (omega arith) (still-above h x z gone bare) (pruned-but h x z gone bare bud)))
        where
          gone : T (patch g c x) → ⊥
          gone u = let (y, k, w) = ghost-kid g c x b u in kids-none h.rooted f x i y k (thinned-stands h.thinned y w (stood y w))

          bare : (n : ℕ) (p : Place) → place_of (entry ds n) ≡ some p → parent p ≡ some x → ⊥
          bare n p k j = kids-none h.rooted f x i p j (stands-in ds n p k)

  -- ---- corners

  module _ (ready : Ready g es f c (base g))
      (bare : (q : Place) → q.depth ≡ base g → (T (touched g c q) → ⊥) → (n : ℕ) (z : Place) → place_of (entry es n) ≡ some z → parent z ≡ some q → ⊥) where
    cornered : {ds : List Entry} → Less g cap c es ds → Budding g ds → (q : Place) → q.depth ≡ base g → number ds q ≢ 0
        → Withered g cap c f es ds (drop_corner (table_with g ds f) cap (base g) (number ds q)) (q ∷ [])
    cornered {ds} h bud q d z = go (touched g c q) refl (touched-row h.rooted f c (base g) (omega arith) (less-ready h (omega arith) ready) (number ds q) q (number-place ds q z) d)
      where
        t : List ℤ
        t = table_with g ds f

        go : (a : Bool) → touched g c q ≡ a → touched_in t cap (number ds q) ≡ touched g c q → Withered g cap c f es ds (drop_corner t cap (base g) (number ds q)) (q ∷ [])
        go true i j = record {
          rest = left-whole h (corner-step t cap (base g) (number ds q) true z (j ∙ i));
          budding = bud;
          others = λ p k o. refl;
          only-touched = λ p k u. subst (λ (x : Place). T (touched g c x)) (sym (in_one p q k)) (is-yes (touched g c q) i);
        }
        go false i j =
            let e = up_depth q (below h q z gone no-kid) in
            and_above h q z gone no-kid (base g) (drop_corner t cap (base g) (number ds q)) (corner-step t cap (base g) (number ds q) false z (j ∙ i))
            (climb (base g) (set ds (number ds q) free) (out-less h f q z gone (not_root h q z gone no-kid) no-kid) (up q) (omega arith) (omega arith) (still-above h q z gone no-kid)
            (pruned-but h q z gone no-kid (λ p k o. bud p k)))
          where
            out : T (touched g c q) → ⊥
            out u = let w : T false = rw i at u in w

            gone : T (patch g c q) → ⊥
            gone u = out (patch-touched g c q (omega arith) u)

            no-kid : (n : ℕ) (p : Place) → place_of (entry ds n) ≡ some p → parent p ≡ some q → ⊥
            no-kid n p k = bare q d out n p (thinned-place h.thinned n p k)

    -- several, by the numbers that they had
    pub cornered-all : (qs : List Place) → Distinct qs → (at : Place → ℕ) {ds : List Entry} → Less g cap c es ds → Budding g ds
        → ((q : Place) → In q qs → (q.depth ≡ base g) × (at q ≡ number ds q) × (number ds q ≢ 0))
        → Withered g cap c f es ds (drop_corners (map at qs) (table_with g ds f) cap (base g)) qs
    cornered-all [] dis at {ds} h bud there = record { rest = left-whole h refl; budding = bud; others = λ p k o. refl; only-touched = λ p k. absurd k }
    cornered-all (q ∷ qs) dis at {ds} h bud there =
        let (d, i, z) = there q (in-here q q qs refl) in
        let a = cornered h bud q d z in
        let b = cornered-all qs dis.1 at a.rest.less a.budding (λ p k.
        let (e, j, y) = there p (in-there p q qs k) in
        let same_number : number ds p ≡ number a.rest.left p = a.others p (omega arith) (λ m. dis.0 (subst (λ (x : Place). In x qs) (in_one p q m) k)) in
        (e, j ∙ same_number, λ x. y (same_number ∙ x))) in
        record {
          rest =
              left-then a.rest.fewer
              (ap (λ (k : ℕ). drop_corners (map at qs) (drop_corner (table_with g ds f) cap (base g) k) cap (base g)) i ∙ ap (λ (t : List ℤ). drop_corners (map at qs) t cap (base g)) a.rest.is-table)
              b.rest;
          budding = b.budding;
          others = λ p k o. a.others p k (λ m. o (in-here p q qs (in_one p q m))) ∙ b.others p k (λ m. o (in-there p q qs m));
          only-touched = λ p k u. either p (in-cases p q qs k) (λ m. a.only-touched p (in-here p q [] m) (b.rest.fewer p u)) (λ m. b.only-touched p m u);
        }
      where
        either : (p : Place) → (p ≡ q) ⊎ In p qs → (p ≡ q → T (touched g c p)) → (In p qs → T (touched g c p)) → T (touched g c p)
        either p (inl m) x y = x m
        either p (inr m) x y = y m
