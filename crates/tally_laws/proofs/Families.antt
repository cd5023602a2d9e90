-- How the full count moves where a leaf becomes another, goes, gets kids or is left by them: contents that agree but at a cell and its kids differ by
-- what is counted there.
-- Assumes nothing.
use Prim.Native.Nat.{ℕ, suc, ◌+◌, ◌*◌}
use native.Mathlib.Omega.{arith}
use mathlib.Core.Path.{◌≡◌, refl, sym, ap, ◌∙◌, subst}
use mathlib.Core.Logic.{◌⊎◌, inl, inr}
use mathlib.Core.Bool.{Bool, cond, ◌&&◌, and-true, and-false}
use mathlib.Core.Option.{Option, none, some, some-injective}
use mathlib.Core.List.{List, [], ◌∷◌}
use lib.Dec.{T, eqb}
use Rattle.mesh.specs.Tools.{any, count, is_some}
use Rattle.mesh.specs.Place.{Place, Grid, NE, SE, SW, NW, same, base, kid, kids, parent, In, Distinct}
use Rattle.mesh.specs.Mesh.{Mesh, leaf}
use Rattle.mesh.specs.State.{Cell, status}
use Rattle.mesh.specs.Carrying.{inherited, kid_cell}
use Rattle.mesh.specs.Deed.{Contents, held, put}
use Rattle.tally_laws.specs.Moves.{spot, sum_over}
use Rattle.tally_laws.specs.LeavesOn.{status_at, leaves_on}
use Rattle.place_laws.proofs.Bools.{yes-is, no-is, bool-ext}
use Rattle.place_laws.proofs.Places.{in-here, in-there, in_one}
use Rattle.place_laws.proofs.Counting.{count_none}
use Rattle.place_laws.proofs.Kids.{parent-kid, parent-depth, in-parent, parent_in, any-kid, leaf-cell, leaf-kidless, is_leaf}
use Rattle.number_laws.proofs.Levels.{other-kids}
use Rattle.number_laws.proofs.ByPlace.{put-out, put-cases}
use Rattle.tally_laws.proofs.Shares.{counts-moved}
use Rattle.tally_laws.proofs.FullCounts.{level_places, level-distinct, counts, counts-cell, counts-in, leaves-on}

-- ---- a cell and its kids are five places

not-own-kid : (p : Place) → In p (kids p) → ⊥
not-own-kid p i = omega (arith, parent-depth p p (in-parent p p i))

family-distinct : (p : Place) → Distinct (p ∷ kids p)
unfolding kids
family-distinct p = (not-own-kid p, (other-kids p NE (SE ∷ SW ∷ NW ∷ []) tt, (other-kids p SE (SW ∷ NW ∷ []) tt, (other-kids p SW (NW ∷ []) tt, (other-kids p NW [] tt, tt)))))

-- ---- what is counted at a cell and its kids

sum-counted : (f : Place → Bool) (w : Place → ℕ) (qs : List Place) → ((q : Place) → In q qs → cond (f q) 1 0 ≡ w q) → count f qs ≡ sum_over w qs
sum-counted f w [] h = refl
sum-counted f w (q ∷ qs) h = rw (h q (in-here q q qs refl), sum-counted f w qs (λ r i. h r (in-there r q qs i)))

four_same : (w : Place → ℕ) (a : ℕ) (p : Place) → ((q : Place) → parent q ≡ some p → w q ≡ a) → sum_over w (kids p) ≡ 4 * a
unfolding kids
four_same w a p h = omega (arith, h (kid NE p) (parent-kid NE p), h (kid SE p) (parent-kid SE p), h (kid SW p) (parent-kid SW p), h (kid NW p) (parent-kid NW p))

module _ (g : Grid) (c : Contents) (l k : ℕ) where
  leaf-adds : (q : Place) → T (leaf g (held c) q) → cond (counts g c l k q) 1 0 ≡ spot g l k q.depth (status_at c q)
  leaf-adds q t = rw (yes-is (leaf g (held c) q) t, and-true (eqb q.depth (base g + l) && eqb (status_at c q) k))

  other-adds : (q : Place) → (T (leaf g (held c) q) → ⊥) → ◌≡◌ {A = ℕ} (cond (counts g c l k q) 1 0) 0
  other-adds q h = rw (no-is (leaf g (held c) q) h, and-false (eqb q.depth (base g + l) && eqb (status_at c q) k))

  -- a leaf, whose kids are no cells
  folded : (p : Place) → T (leaf g (held c) p) → count (counts g c l k) (p ∷ kids p) ≡ spot g l k p.depth (status_at c p)
  folded p t =
      omega (
        arith,
        leaf-adds p t,
        count_none (counts g c l k) (kids p) (λ a. let (q, e, u) = any-kid (counts g c l k) p a in leaf-kidless g (held c) p t q e (counts-cell g c l k q u)),
      )

  -- a cell whose kids are leaves
  unfolded : (p : Place) → ((q : Place) → parent q ≡ some p → T (leaf g (held c) q)) → count (counts g c l k) (p ∷ kids p) ≡ sum_over (λ q. spot g l k (suc p.depth) (status_at c q)) (kids p)
  unfolded p h =
      omega (
        arith,
        other-adds p (λ t. leaf-kidless g (held c) p t (kid NE p) (parent-kid NE p) (leaf-cell g (held c) (kid NE p) (h (kid NE p) (parent-kid NE p)))),
        sum-counted (counts g c l k) (λ q. spot g l k (suc p.depth) (status_at c q)) (kids p) (λ q i. leaf-adds q (h q (in-parent q p i)) ∙ ap (λ (e : ℕ). spot g l k e (status_at c q)) (parent-depth q p (in-parent q p i))),
      )

-- ---- two contents that agree but at some places

-- a place is a leaf or not by the cells there and on its kids
leaf-same : (g : Grid) (c d : Place → Bool) (q : Place) → d q ≡ c q → ((r : Place) → parent r ≡ some q → T (c q) → d r ≡ c r) → leaf g d q ≡ leaf g c q
leaf-same g c d q e h =
    bool-ext (leaf g d q) (leaf g c q)
    (λ t. let u : T (c q) = subst T e (leaf-cell g d q t) in is_leaf g c q u (λ r f w. leaf-kidless g d q t r f (subst T (sym (h r f u)) w)))
    (λ t. let u = leaf-cell g c q t in is_leaf g d q (subst T (sym e) u) (λ r f w. leaf-kidless g c q t r f (subst T (h r f u) w)))

-- a mesh whose cells at some places become another cell or none, which is a mesh again
pub record Changed (g : Grid) (c : Contents) (ps : List Place) (x : Option Cell) (d : Contents) : Type 0 where
  pub before : Mesh g (held c)
  pub after : Mesh g (held d)
  pub each : (q : Place) → d q ≡ put ps x c q

module _ {g : Grid} {c d : Contents} {ps : List Place} {x : Option Cell} (h : Changed g c ps x d) where
  on : (q : Place) → In q ps → d q ≡ x
  on q i = h.each q ∙ rw (yes-is (any (same q) ps) i)

  off : (q : Place) → (In q ps → ⊥) → d q ≡ c q
  off q i = h.each q ∙ put-out c ps x q i

  leaves-moved : (qs : List Place) → Distinct qs → ((q : Place) → In q ps → In q qs) → ((q r : Place) → (In q qs → ⊥) → parent r ≡ some q → T (held c q) → held d r ≡ held c r)
      → (l k : ℕ) → leaves_on g d l k + count (counts g c l k) qs ≡ leaves_on g c l k + count (counts g d l k) qs
  leaves-moved qs apart within same-kids l k =
      rw (leaves-on g c l k, leaves-on g d l k)
      (counts-moved (counts g c l k) (counts g d l k) (level_places g l) qs (level-distinct g l) apart (counts-in g c l k h.before) (counts-in g d l k h.after) agree)
    where
      agree : (q : Place) → (In q qs → ⊥) → counts g d l k q ≡ counts g c l k q
      agree q i =
          let e = off q (λ j. i (within q j)) in
          rw (leaf-same g (held c) (held d) q (ap is_some e) (λ r f t. same-kids q r i f t), e)

-- ---- a leaf that becomes another cell or none

module _ {g : Grid} {c d : Contents} {p : Place} {x : Option Cell} (h : Changed g c (p ∷ []) x d) (was : T (leaf g (held c) p)) (l k : ℕ) where
  pub leaf_changed : (y : Cell) → x ≡ some y → leaves_on g d l k + spot g l k p.depth (status_at c p) ≡ leaves_on g c l k + spot g l k p.depth (status y.value)
  leaf_changed y e =
      let now : T (leaf g (held d) p) = rw (leaf-same g (held c) (held d) p (same-cells p) (λ r f t. same-cells r)) was in
      let its : spot g l k p.depth (status_at d p) ≡ spot g l k p.depth (status y.value) = rw (on h p (in-here p p [] refl), e) in
      omega (arith, its, leaf-adds g c l k p was, leaf-adds g d l k p now, leaves-moved h (p ∷ []) (λ i. i, tt) (λ q i. i) (λ q r i f t. same-cells r) l k)
    where
      same-cells : (q : Place) → held d q ≡ held c q
      same-cells q = go (put-cases c (p ∷ []) x q)
        where
          go : (In q (p ∷ []) × (put (p ∷ []) x c q ≡ x)) ⊎ (put (p ∷ []) x c q ≡ c q) → held d q ≡ held c q
          go (inl (i, z)) = ap is_some (h.each q ∙ z ∙ e) ∙ sym (yes-is (held c q) (rw (in_one q p i) (leaf-cell g (held c) p was)))
          go (inr z) = ap is_some (h.each q ∙ z)

  -- on level 0 no cell loses it as a kid
  pub leaf-gone : x ≡ none → p.depth ≡ base g → leaves_on g d l k + spot g l k p.depth (status_at c p) ≡ leaves_on g c l k + 0
  leaf-gone e ground =
      let now : T (leaf g (held d) p) → ⊥ = λ t. let u = leaf-cell g (held d) p t in rw (on h p (in-here p p [] refl), e) at u in
      omega (arith, leaf-adds g c l k p was, other-adds g d l k p now, leaves-moved h (p ∷ []) (λ i. i, tt) (λ q i. i) same-kids l k)
    where
      same-kids : (q r : Place) → (In q (p ∷ []) → ⊥) → parent r ≡ some q → T (held c q) → held d r ≡ held c r
      same-kids q r i f t = ap is_some (off h r (λ j. omega (arith, ap (λ (o : Place). o.depth) (in_one r p j), parent-depth r q f, h.before.low q t)))

-- ---- a cell that loses its kids or gets them

module _ {g : Grid} {c d : Contents} (p : Place) {x : Option Cell} (h : Changed g c (kids p) x d) (l k : ℕ) where
  family-moved : leaves_on g d l k + count (counts g c l k) (p ∷ kids p) ≡ leaves_on g c l k + count (counts g d l k) (p ∷ kids p)
  family-moved =
      leaves-moved h (p ∷ kids p) (family-distinct p) (λ q i. in-there q p (kids p) i)
      (λ q r i f t. ap is_some (off h r (λ j. i (in-here q p (kids p) (some-injective _ _ (sym f ∙ in-parent r p j)))))) l k

  pub kids-gone : x ≡ none → T (held c p) → ((q : Place) → parent q ≡ some p → T (leaf g (held c) q))
      → leaves_on g d l k + sum_over (λ q. spot g l k (suc p.depth) (status_at c q)) (kids p) ≡ leaves_on g c l k + spot g l k p.depth (status_at c p)
  kids-gone e there leaves =
      let here = off h p (not-own-kid p) in
      let now = is_leaf g (held d) p (rw here there) (λ q f t. rw (on h q (parent_in q p f), e) at t) in
      let its : spot g l k p.depth (status_at d p) ≡ spot g l k p.depth (status_at c p) = rw here in
      omega (arith, family-moved, unfolded g c l k p leaves, folded g d l k p now, its)

  module _ (y : Cell) (e : x ≡ some (kid_cell y)) (was : T (leaf g (held c) p)) where
    kid-leaf : (q : Place) → parent q ≡ some p → T (leaf g (held d) q)
    kid-leaf q f = is_leaf g (held d) q (rw (on h q (parent_in q p f), e) tt) kidless
      where
        kidless : (r : Place) → parent r ≡ some q → T (held d r) → ⊥
        kidless r z t =
            let deep = parent-depth q p f in
            let deeper = parent-depth r q z in
            let low = h.before.low p (leaf-cell g (held c) p was) in
            let old : T (held c r) = rw (off h r (λ j. omega (arith, parent-depth r p (in-parent r p j)))) at t in
            leaf-kidless g (held c) p was q f (rw z at (h.before.above r old (omega arith)))

    pub kids-come : leaves_on g d l k + spot g l k p.depth (status_at c p) ≡ leaves_on g c l k + 4 * spot g l k (suc p.depth) (status (inherited y.value))
    kids-come =
        omega (arith, family-moved, folded g c l k p was, unfolded g d l k p kid-leaf, four_same (λ q. spot g l k (suc p.depth) (status_at d q)) (spot g l k (suc p.depth) (status (inherited y.value))) p its)
      where
        its : (q : Place) → parent q ≡ some p → spot g l k (suc p.depth) (status_at d q) ≡ spot g l k (suc p.depth) (status (inherited y.value))
        its q f = rw (on h q (parent_in q p f), e)
