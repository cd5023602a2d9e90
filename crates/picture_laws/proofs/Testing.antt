-- The test that a state is valid passes exactly at the valid states: each rule of `Valid`, said of numbers or places, is its test, asked of the
-- entries in turn.
-- Assumes nothing.
use Prim.Native.Nat.{ℕ, zero, suc, ◌-◌, ◌≤◌}
use native.Mathlib.Omega.{arith}
use mathlib.Core.Path.{◌≡◌, refl, ap}
use mathlib.Core.Bool.{Bool, true, not, ◌&&◌, ◌||◌}
use mathlib.Core.Option.{Option, none, some, none-ne-some}
use mathlib.Core.List.{List, [], ◌∷◌, tail}
use lib.Dec.{T, T_not, not_T, eqb, ltb, leb, leb→le, ltb→lt, eqb→eq, le→leb, lt→ltb}
use lib.ListN.{length, get_or}
use lib.Ieee.{Float}
use borrow.Author.Tests.{eq-eqb}
use Rattle.mesh.specs.Tools.{any, all, every, or_else}
use Rattle.mesh.specs.Place.{Place, Grid, is_ring, root, base, parent, kids, to_north, to_east}
use Rattle.mesh.specs.Mesh.{Mesh, on, under, patch, has_kids, leaf}
use Rattle.mesh.specs.State.{State, Entry, nil, free, used, Cell, Value, blank, measured, carried, amount, is_blank, is_nil, place_of, entry, cells, grid_of}
use Rattle.mesh.specs.Valid.{Valid, ValueRule, finite, above_of}
use Rattle.mesh.specs.Test.{same_float, of_patch, of_cell, there, mesh_tests, apart, corners_there, value_test, tests, valid}
use Rattle.place_laws.proofs.Bools.{is-yes, and_both, and_left, and_right, implied, implies, not-not}
use Rattle.place_laws.proofs.Lists.{every-at, any_at, any-hit, all-at, at_all}
use Rattle.place_laws.proofs.Kids.{any-kid}
use Rattle.place_laws.proofs.Near.{Corner, c-here, c-east, c-north, c-both, touched-corner}
use Rattle.place_laws.proofs.Tree.{corner-patch, patch-parent}
use Rattle.number_laws.proofs.Entries.{stands-place, place-stands, nil_is, in_list, stands-in, in-stands, cell-there, cell-somewhere}
use Rattle.picture_laws.proofs.Equal.{float_is, float-refl}

-- ---- tests, one after the other

infixr 40 ◌also◌
data Passed : List Bool → Type 0 where
  done : Passed []
  ◌also◌ : {b : Bool} {bs : List Bool} → T b → Passed bs → Passed (b ∷ bs)

passed : (bs : List Bool) → Passed bs → T (every bs)
passed [] done = tt
passed (b ∷ bs) (t also r) = and_both b (every bs) t (passed bs r)

-- ---- a test of all patches, of all cells, and of the entries after the first

module _ (es : List Entry) where
  patches-at : (f : Place → Bool) → T (all (of_patch f) es) → (n : ℕ) (p : Place) → place_of (entry es n) ≡ some p → T (f p)
  patches-at f t n p h = rw h at (all-at (of_patch f) nil es t n (in_list es n p h))

  at-patches : (f : Place → Bool) → ((n : ℕ) (p : Place) → place_of (entry es n) ≡ some p → T (f p)) → T (all (of_patch f) es)
  at-patches f h = at_all (of_patch f) nil es (λ n l. one (place_of (entry es n)) (h n))
    where
      one : (o : Option Place) → ((p : Place) → o ≡ some p → T (f p)) → T (or_else true f o)
      one none h = tt
      one (some p) h = h p refl

  cells_at : (f : Place → Cell → Bool) → T (all (of_cell f) es) → (n : ℕ) (p : Place) (x : Cell) → entry es n ≡ used p (some x) → T (f p x)
  cells_at f t n p x h = rw h at (all-at (of_cell f) nil es t n (in_list es n p (ap place_of h)))

  at_cells : (f : Place → Cell → Bool) → ((n : ℕ) (p : Place) (x : Cell) → entry es n ≡ used p (some x) → T (f p x)) → T (all (of_cell f) es)
  at_cells f h = at_all (of_cell f) nil es (λ n l. one (entry es n) (h n))
    where
      one : (e : Entry) → ((p : Place) (x : Cell) → e ≡ used p (some x) → T (f p x)) → T (of_cell f e)
      one nil h = tt
      one free h = tt
      one (used p none) h = tt
      one (used p (some x)) h = h p x refl

  -- the same of a test of places, which every cell's place passes
  cell-places : (f : Place → Bool) → T (all (of_cell (λ p x. f p)) es) → (p : Place) → T (cells es p) → T (f p)
  cell-places f t p h = let (n, x, e) = cell-somewhere es p h in cells_at (λ p x. f p) t n p x e

  places-cell : (f : Place → Bool) → ((p : Place) → T (cells es p) → T (f p)) → T (all (of_cell (λ p x. f p)) es)
  places-cell f h = at_cells (λ p x. f p) (λ n p x e. h p (cell-there es n p x e))

  tail_at : (n : ℕ) → get_or (tail es) n nil ≡ entry es (suc n)
  tail_at n = go es
    where
      go : (es : List Entry) → get_or (tail es) n nil ≡ entry es (suc n)
      go [] = refl
      go (e ∷ es) = refl

  tail-length : length (tail es) ≡ length es - 1
  tail-length = go es
    where
      go : (es : List Entry) → length (tail es) ≡ length es - 1
      go [] = refl
      go (e ∷ es) = let h : length es ≡ suc (length es) - 1 = omega arith in h

  others-at : (f : Entry → Bool) → T (all f (tail es)) → (n : ℕ) → 1 ≤ n → n ≤ length es - 1 → T (f (entry es n))
  others-at f t zero a b = absurd (omega arith)
  others-at f t (suc n) a b = rw tail_at at (all-at f nil (tail es) t n (rw tail-length b))

  at_others : (f : Entry → Bool) → ((n : ℕ) → 1 ≤ n → n ≤ length es - 1 → T (f (entry es n))) → T (all f (tail es))
  at_others f h = at_all f nil (tail es) (λ n l. rw tail_at (h (suc n) (omega arith) (rw tail-length at l)))

-- ---- no two entries stand at one place

apart-at : (es : List Entry) → T (apart es) → (n m : ℕ) (p : Place) → place_of (entry es n) ≡ some p → place_of (entry es m) ≡ some p → n ≡ m
apart-at [] t n m p a b = absurd (none-ne-some _ a)
apart-at (e ∷ es) t n m p a b = go n m a b (apart-at es (and_right (of_patch (λ p. not (there es p)) e) (apart es) t))
  where
    clash : (k : ℕ) → place_of e ≡ some p → place_of (entry es k) ≡ some p → ⊥
    clash k a b = T_not (there es p) (rw a at (and_left (of_patch (λ p. not (there es p)) e) (apart es) t)) (stands-in es k p b)

    go : (n m : ℕ) → place_of (entry (e ∷ es) n) ≡ some p → place_of (entry (e ∷ es) m) ≡ some p
        → ((n m : ℕ) (p : Place) → place_of (entry es n) ≡ some p → place_of (entry es m) ≡ some p → n ≡ m) → n ≡ m
    go zero zero a b r = refl
    go zero (suc m) a b r = absurd (clash m a b)
    go (suc n) zero a b r = absurd (clash n b a)
    go (suc n) (suc m) a b r = ap suc (r n m p a b)

once-apart : (es : List Entry) → ((n m : ℕ) (p : Place) → place_of (entry es n) ≡ some p → place_of (entry es m) ≡ some p → n ≡ m) → T (apart es)
once-apart [] h = tt
once-apart (e ∷ es) h =
    and_both (of_patch (λ p. not (there es p)) e) (apart es) (alone (place_of e) refl)
    (once-apart es (λ n m p a b. let z : suc n ≡ suc m = h (suc n) (suc m) p a b in omega arith))
  where
    alone : (o : Option Place) → place_of e ≡ o → T (or_else true (λ p. not (there es p)) o)
    alone none a = tt
    alone (some p) a = not_T (there es p) (λ t. let (n, l, b) = in-stands es p t in let z : 0 ≡ suc n = h 0 (suc n) p a b in omega arith)

module _ (g : Grid) (es : List Entry) where
  abbrev grounded : Entry → Bool
  grounded e = not (of_cell (λ p x. not (eqb p.depth (base g))) e)

  -- ---- the cells make a mesh

  tests-mesh : T (any grounded es) → T (all (of_cell (λ p x. every (mesh_tests g (cells es) p))) es) → Mesh g (cells es)
  unfolding mesh_tests
  tests-mesh a t = record {
    some-cell = let (n, l, b) = any-hit grounded nil es a in ground n (entry es n) refl b;
    inside = λ p h e.
        let b = implied (eqb p.depth (base g)) (ltb p.i g.columns && ltb p.j g.rows) (nth p h 0) (is-yes _ (eq-eqb p.depth (base g) e)) in
        (ltb→lt _ _ (and_left (ltb p.i g.columns) (ltb p.j g.rows) b), ltb→lt _ _ (and_right (ltb p.i g.columns) (ltb p.j g.rows) b));
    low = λ p h. leb→le _ _ (nth p h 1);
    high = λ p h. leb→le _ _ (nth p h 2);
    above = λ p h l. implied (ltb (base g) p.depth) (on g (cells es) (parent p)) (nth p h 3) (lt→ltb _ _ l);
    four = λ p h k. implied (has_kids g (cells es) p) (all (cells es) (kids p)) (nth p h 4) k;
  }
    where
      nth : (p : Place) → T (cells es p) → (k : ℕ) → T (get_or (mesh_tests g (cells es) p) k true)
      nth p h k = every-at (mesh_tests g (cells es) p) (cell-places es (λ p. every (mesh_tests g (cells es) p)) t p h) k

      ground : (n : ℕ) (e : Entry) → entry es n ≡ e → T (grounded e) → (p : Place) × (p.depth ≡ base g) × T (cells es p)
      ground n nil h b = absurd b
      ground n free h b = absurd b
      ground n (used p none) h b = absurd b
      ground n (used p (some x)) h b = (p, eqb→eq _ _ (not-not (eqb p.depth (base g)) b), cell-there es n p x h)

  module _ (m : Mesh g (cells es)) where
    mesh-ground : T (any grounded es)
    mesh-ground =
        let (p, d, t) = m.some-cell in
        let (n, x, e) = cell-somewhere es p t in
        any_at grounded nil es n (in_list es n p (ap place_of e)) (rw (e, eq-eqb p.depth (base g) d) tt)

    mesh-tests : (p : Place) → T (cells es p) → T (every (mesh_tests g (cells es) p))
    unfolding mesh_tests
    mesh-tests p h =
        passed (mesh_tests g (cells es) p) (
        implies (eqb p.depth (base g)) (ltb p.i g.columns && ltb p.j g.rows) (λ d.
        let r = m.inside p h (eqb→eq _ _ d) in and_both (ltb p.i g.columns) (ltb p.j g.rows) (lt→ltb _ _ r.0) (lt→ltb _ _ r.1))
        also le→leb _ _ (m.low p h)
        also le→leb _ _ (m.high p h)
        also implies (ltb (base g) p.depth) (on g (cells es) (parent p)) (λ l. m.above p h (ltb→lt _ _ l))
        also implies (has_kids g (cells es) p) (all (cells es) (kids p)) (m.four p h)
        also done
        )

  -- ---- the patches that the cells make stand in the list: a cell's four corners, and the parent of each that stands there

  corners-there : {r q : Place} → T (corners_there g es r) → Corner g r q → T (there es q)
  unfolding corners_there
  corners-there {r} {q} t k = go k
    where
      a₁ : Bool
      a₁ = there es r

      a₂ : Bool
      a₂ = there es (to_east g r)

      a₃ : Bool
      a₃ = there es (to_north g r)

      a₄ : Bool
      a₄ = there es (to_north g (to_east g r))

      go : {q : Place} → Corner g r q → T (there es q)
      go c-here = and_left a₁ (a₂ && (a₃ && a₄)) t
      go c-east = and_left a₂ (a₃ && a₄) (and_right a₁ (a₂ && (a₃ && a₄)) t)
      go c-north = and_left a₃ a₄ (and_right a₂ (a₃ && a₄) (and_right a₁ (a₂ && (a₃ && a₄)) t))
      go c-both = and_right a₃ a₄ (and_right a₂ (a₃ && a₄) (and_right a₁ (a₂ && (a₃ && a₄)) t))

  there-corners : (r : Place) → ((q : Place) → Corner g r q → T (there es q)) → T (corners_there g es r)
  unfolding corners_there
  there-corners r h =
      let a₂ = there es (to_east g r) in
      let a₃ = there es (to_north g r) in
      let a₄ = there es (to_north g (to_east g r)) in
      and_both (there es r) (a₂ && (a₃ && a₄)) (h r c-here)
      (and_both a₂ (a₃ && a₄) (h (to_east g r) c-east) (and_both a₃ a₄ (h (to_north g r) c-north) (h (to_north g (to_east g r)) c-both)))

  tests-every : T (all (of_patch (λ p. or_else true (there es) (parent p))) es) → T (all (of_cell (λ p x. corners_there g es p)) es)
      → (p : Place) → T (patch g (cells es) p) → T (there es p)
  unfolding patch under
  tests-every a b p t = walk (base g - p.depth) p t
    where
      parent-there : (q p : Place) → parent q ≡ some p → T (there es q) → T (there es p)
      parent-there q p e t = let (n, l, h) = in-stands es q t in rw e at (patches-at es (λ p. or_else true (there es) (parent p)) a n q h)

      walk : (n : ℕ) (p : Place) → T (under g (cells es) n p) → T (there es p)
      walk zero p t = let (r, k, h) = touched-corner g (cells es) p t in corners-there (cell-places es (corners_there g es) b r h) k
      walk (suc n) p t = let (q, e, u) = any-kid (under g (cells es) n) p t in parent-there q p e (walk n q u)

  module _ (m : Mesh g (cells es)) (h : (p : Place) → T (patch g (cells es) p) → T (there es p)) where
    every-corner : (r : Place) → T (cells es r) → T (corners_there g es r)
    every-corner r t = there-corners r (λ q k. h q (corner-patch g (cells es) (m.low r t) k t))

    every-parent : (p : Place) → T (patch g (cells es) p) → T (or_else true (there es) (parent p))
    every-parent p t = go (parent p) refl
      where
        go : (o : Option Place) → parent p ≡ o → T (or_else true (there es) o)
        go none e = tt
        go (some q) e = h q (patch-parent g (cells es) m p q e t)

-- ---- values

module _ (s : State) where
  abbrev carried_tests : Place → Float → List Bool
  carried_tests p x = ltb (base (grid_of s)) p.depth ∷ finite x ∷ not (is_blank (above_of s p)) ∷ same_float (amount (above_of s p)) x ∷ []

  test-value : (p : Place) (v : Value) → T (value_test s p v) → ValueRule s p v
  unfolding value_test
  test-value p blank t = t
  test-value p (measured x) t = t
  test-value p (carried x) t =
      let nth = every-at (carried_tests p x) t in
      (ltb→lt _ _ (nth 0), nth 1, nth 2, float_is (amount (above_of s p)) x (nth 3))

  value-test : (p : Place) (v : Value) → ValueRule s p v → T (value_test s p v)
  unfolding value_test
  value-test p blank r = r
  value-test p (measured x) r = r
  value-test p (carried x) r = passed (carried_tests p x) (lt→ltb _ _ r.0 also r.1 also r.2 also rw r.3 (float-refl x r.1) also done)

-- ---- the state

abbrev sentence_test : State → Place → Cell → Bool
sentence_test s p x = not x.sentenced || (ltb (base (grid_of s)) p.depth && leaf (grid_of s) (cells s.entries) p)

pub test-valid : (s : State) → T (valid s) → Valid s
unfolding valid tests
test-valid s t =
    let g = grid_of s in
    let es = s.entries in
    let nth = every-at (tests s) t in
    record {
      sizes = (leb→le _ _ (nth 0), leb→le _ _ (nth 1));
      rectangle = (leb→le _ _ (nth 2), leb→le _ _ (nth 3), leb→le _ _ (nth 4), leb→le _ _ (nth 5), leb→le _ _ (nth 6), λ t. leb→le _ _ (implied (is_ring g) (leb 3 g.rows) (nth 7) t));
      zeroth = nil_is (entry es 0) (nth 8);
      others = others-at es (λ e. not (is_nil e)) (nth 9);
      mesh = tests-mesh g es (nth 10) (nth 11);
      each = patches-at es (patch g (cells es)) (nth 12);
      every = tests-every g es (nth 13) (nth 14);
      once = apart-at es (nth 15);
      first-root = stands-place root (entry es 1) (nth 16);
      sentences = λ n p x e d.
          let a = ltb (base g) p.depth in
          let b = leaf g (cells es) p in
          let r = implied x.sentenced (a && b) (cells_at es (sentence_test s) (nth 17) n p x e) d in
          (ltb→lt _ _ (and_left a b r), and_right a b r);
      values = λ n p x e. test-value s p x.value (cells_at es (λ p x. value_test s p x.value) (nth 18) n p x e);
    }

pub valid-test : (s : State) → Valid s → T (valid s)
unfolding valid tests
valid-test s v =
    let g = grid_of s in
    let es = s.entries in
    let c = cells es in
    passed (tests s) (
    le→leb _ _ v.sizes.0
    also le→leb _ _ v.sizes.1
    also le→leb _ _ v.rectangle.0
    also le→leb _ _ v.rectangle.1
    also le→leb _ _ v.rectangle.2
    also le→leb _ _ v.rectangle.3
    also le→leb _ _ v.rectangle.4
    also implies (is_ring g) (leb 3 g.rows) (λ t. le→leb _ _ (v.rectangle.5 t))
    also rw v.zeroth tt
    also at_others es (λ e. not (is_nil e)) v.others
    also mesh-ground g es v.mesh
    also places-cell es (λ p. every (mesh_tests g c p)) (mesh-tests g es v.mesh)
    also at-patches es (patch g c) v.each
    also at-patches es (λ p. or_else true (there es) (parent p)) (λ n p h. every-parent g es v.mesh v.every p (v.each n p h))
    also places-cell es (corners_there g es) (every-corner g es v.mesh v.every)
    also once-apart es v.once
    also place-stands root (entry es 1) v.first-root
    also at_cells es (sentence_test s) (λ n p x e. implies x.sentenced (ltb (base g) p.depth && leaf g c p) (λ d.
    let r = v.sentences n p x e d in and_both (ltb (base g) p.depth) (leaf g c p) (lt→ltb _ _ r.0) r.1))
    also at_cells es (λ p x. value_test s p x.value) (λ n p x e. value-test s p x.value (v.values n p x e))
    also done
    )
