-- A set of cells less some of them is a mesh if what goes takes its kids along, goes in fours, and leaves a level-0 cell; so it is for a cell's
-- kids, where they are leaves, and for one level-0 leaf.
-- Assumes nothing.
use native.Mathlib.Omega.{arith}
use mathlib.Core.Path.{◌≡◌, sym, ap, ◌∙◌}
use mathlib.Core.Bool.{Bool, not, ◌&&◌}
use mathlib.Core.Option.{some}
use mathlib.Core.List.{List, [], ◌∷◌}
use lib.Dec.{T, T_not, not_T}
use Rattle.mesh.specs.Tools.{any}
use Rattle.mesh.specs.Place.{Place, Grid, same, base, kids, parent, In}
use Rattle.mesh.specs.Mesh.{Mesh, leaf}
use Rattle.place_laws.proofs.Bools.{and_both, and_left, and_right}
use Rattle.place_laws.proofs.Places.{in_one}
use Rattle.place_laws.proofs.Kids.{up, parent_up, parent-depth, parent_in, in-parent, all-kids, kids-all, has-kid, kid-has, leaf-kidless}
use Rattle.place_laws.proofs.Tree.{cell-up}

-- the set less the places of a list
abbrev pub shrunk : (Place → Bool) → List Place → Place → Bool
shrunk c ps q = c q && not (any (same q) ps)

module _ (c : Place → Bool) (ps : List Place) where
  pub stays : (q : Place) → T (c q) → (In q ps → ⊥) → T (shrunk c ps q)
  stays q t h = and_both (c q) (not (any (same q) ps)) t (not_T (any (same q) ps) h)

  pub stayed : (q : Place) → T (shrunk c ps q) → T (c q)
  stayed q t = and_left (c q) (not (any (same q) ps)) t

  pub not-gone : (q : Place) → T (shrunk c ps q) → In q ps → ⊥
  not-gone q t = T_not (any (same q) ps) (and_right (c q) (not (any (same q) ps)) t)

-- ---- which places can go

-- what goes takes its kids along, goes in fours, and leaves a level-0 cell
pub record Removable (g : Grid) (c : Place → Bool) (ps : List Place) : Type 0 where
  pub below : (p q : Place) → In p ps → parent q ≡ some p → T (c q) → In q ps
  pub fours : (p q r : Place) → T (c p) → parent q ≡ some p → parent r ≡ some p → In q ps → In r ps
  pub left : (p : Place) × (p.depth ≡ base g) × T (shrunk c ps p)

module _ (g : Grid) (c : Place → Bool) (m : Mesh g c) where
  -- ---- the kids of a cell, each a leaf

  pub kids-removable : (p : Place) → T (c p) → ((q : Place) → parent q ≡ some p → T (leaf g c q)) → Removable g c (kids p)
  kids-removable p t l =
      let (o, d, u) = m.some-cell in
      record {
        below = λ q k i e b. absurd (leaf-kidless g c q (l q (in-parent q p i)) k e b);
        fours = λ q x y b e f i. parent_in y p (f ∙ sym e ∙ in-parent x p i);
        left = (o, d, stays c (kids p) o u (λ i. omega (arith, m.low p t, parent-depth o p (in-parent o p i))));
      }

  -- ---- a level-0 leaf that is not the only level-0 cell

  pub ground-removable : (p o : Place) → T (leaf g c p) → p.depth ≡ base g → o.depth ≡ base g → T (c o) → (o ≡ p → ⊥) → Removable g c (p ∷ [])
  ground-removable p o l d e u h = record {
    below = λ q k i f b. absurd (leaf-kidless g c p l k (f ∙ ap some (in_one q p i)) b);
    fours = λ q x y b f k i.
        let z : x.depth ≡ p.depth = ap (λ (r : Place). r.depth) (in_one x p i) in
        absurd (omega (arith, m.low q b, parent-depth x q f));
    left = (o, e, stays c (p ∷ []) o u (λ i. h (in_one o p i)));
  }

  -- ---- the law

  pub shrunk-mesh : (ps : List Place) → Removable g c ps → Mesh g (shrunk c ps)
  shrunk-mesh ps r = record {
    some-cell = r.left;
    inside = λ p t. m.inside p (stayed c ps p t);
    low = λ p t. m.low p (stayed c ps p t);
    high = λ p t. m.high p (stayed c ps p t);
    above = λ p t h.
        let e : parent p ≡ some (up p) = parent_up p (omega arith) in
        rw e (stays c ps (up p) (cell-up g c m p (stayed c ps p t) h) (λ i. not-gone c ps p t (r.below (up p) p i e (stayed c ps p t))));
    four = λ p t h.
        let (q, e, u) = has-kid g (shrunk c ps) p h in
        let a : T (c p) = stayed c ps p t in
        let k = all-kids c p (m.four p a (kid-has g c p q e (stayed c ps q u))) in
        kids-all (shrunk c ps) p (λ x f. stays c ps x (k x f) (λ i. not-gone c ps q u (r.fours p x q a f e i)));
  }
