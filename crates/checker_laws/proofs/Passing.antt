-- The picture of a valid state passes the test row by row: each link leads where the geometry says, and what a test asks of the row there is a
-- rule of the state.
-- Assumes nothing.
use Prim.Native.Nat.{ℕ, zero, suc, ◌+◌, ◌/◌, ◌%◌, ◌≤◌, ◌<◌}
use native.Mathlib.Omega.{arith}
use native.Mathlib.Decide.{ℕ_discrete, dec_lt}
use mathlib.Core.Path.{◌≡◌, refl, sym, ap, ◌∙◌}
use mathlib.Core.Logic.{◌⊎◌, inl, inr}
use mathlib.Core.Bool.{Bool, true, false, not, ◌&&◌, ◌||◌, cond, beq, and-true}
use mathlib.Core.Option.{Option, none, some, some-injective}
use mathlib.Core.List.{List, [], ◌∷◌}
use lib.Dec.{T, T_not, not_T, eqb, ltb, eqb→eq, lit<, lit≤}
use borrow.Author.Tests.{le-leb, lt-ltb, le-ltb, eq-eqb, ne_eqb}
use Rattle.mesh.specs.Tools.{all, every, digits, or_else, is_some}
use Rattle.mesh.specs.Place.{Place, Grid, root, base, Wind, SW, N, E, S, W, side_winds, step, kids, parent, to_north, to_east}
use Rattle.mesh.specs.Winds.{word_of_wind, ◌of◌}
use Rattle.mesh.specs.Mesh.{on, patch, touched, has_kids, complete_bit, sentenced_bit}
use Rattle.mesh.specs.State.{State, Entry, nil, free, used, Cell, Value, blank, measured, carried, plus_zero, amount, status, is_blank, is_nil, place_of, cell_of, is_sentenced, value_of, entry, cells, number, number_of, grid_of, capacity}
use Rattle.mesh.specs.Valid.{Valid, ValueRule, finite, above_of}
use Rattle.mesh.specs.Picture.{table, amounts, parent_word, nw_word, north_word, east_word, south_word, west_word, i_word, j_word, flags_word}
use Rattle.mesh.specs.Test.{same_float}
use Rattle.table.specs.Words.{word_of, link_of, flag_of, free_at, depth_of}
use Rattle.carried.specs.Carried.{carried_of, carried_for, is_nothing}
use Rattle.worked.specs.Worked.{kid_word, side_in, flags_from, touched_in}
use Rattle.checker_laws.specs.Rowwise.{below, empty_ok, zero_ok, root_ok, child_ok, place_ok, kid_tests, kid_ok, kids_tests, kids_ok, side_tests, sides_ok, ghost_ok, kid_cells_are, inside_ok, cell_ok, sentence_tests, sentence_ok, point_tests, point_ok, carried_above, blank_ok, held_ok, value_ok, used_tests, used_ok, row_ok, rowwise}
use Rattle.place_laws.proofs.Bools.{is-yes, yes-is, no-is, and_both, or_left, or_right, implies, either, beq-refl}
use Rattle.place_laws.proofs.Lists.{at_every}
use Rattle.place_laws.proofs.Steps.{step-north, step-east, southwest}
use Rattle.place_laws.proofs.Kids.{up, parent_up, no-parent, parent-depth, all-kids, kids-all, kid-has, leaf-cell, leaf-kidless}
use Rattle.place_laws.proofs.SideDigits.{kid_by, parent_by, kid-by-parent, kid-by-digits}
use Rattle.place_laws.proofs.Near.{c-east, c-north, c-both}
use Rattle.place_laws.proofs.Tree.{patch-parent, patch-touched, ghost-kid, patch-high}
use Rattle.place_laws.proofs.Base.{halved, depth-zero-root}
use Rattle.number_laws.proofs.Entries.{place-used, cell-there}
use Rattle.number_laws.proofs.NumberedPlaces.{valid-numbered, number-place, place-number, not-zero, numbered-not-zero, cells-contents, entry-contents}
use Rattle.picture_laws.proofs.Equal.{float-refl}
use Rattle.picture_laws.proofs.Links.{wind-lt}
use Rattle.table_laws.proofs.Pictured.{link-word, carried-there, free-flags, free-words, nil-words, word-i, word-j, word_flags, sentenced-flag, patch-not-free}
use Rattle.table_laws.proofs.LinkedRows.{kid-word-lt, patch-numbered, corner-numbered, depth-of, link-parent, link-side, link-kid-of, kids_every, side-in}
use Rattle.table_laws.proofs.FlaggedRows.{sentenced-cell, cell-flag, ghost-flags, cell-of, cell-side, flags-from, cell-south}

-- ---- tests

at-below : (n : ℕ) (f : ℕ → Bool) → ((k : ℕ) → k < n → T (f k)) → T (below n f)
at-below zero f h = tt
at-below (suc n) f h = and_both (below n f) (f n) (at-below n f (λ k l. h k (omega arith))) (h n (omega arith))

is-eqb : (a b : ℕ) → a ≡ b → T (eqb a b)
is-eqb a b e = is-yes (eqb a b) (eq-eqb a b e)

-- ---- values

-- what the test asks of a row: is it a cell, its value, and the value above
abbrev value_test : Bool → Value → Value → Bool
value_test b w a =
    cond (eqb (status w) 0) (same_float (amount w) plus_zero && (not b || eqb (status a) 0))
    (every (b ∷ finite (amount w) ∷ (eqb (status w) 1 || every (eqb (status w) 2 ∷ not (eqb (status a) 0) ∷ same_float (amount a) (amount w) ∷ [])) ∷ []))

blank-status : (w : Value) → is_blank w ≡ eqb (status w) 0
blank-status blank = refl
blank-status (measured x) = refl
blank-status (carried x) = refl

-- a cell whose value meets the rule passes
rule-test : (s : State) (p : Place) (w : Value) → ValueRule s p w → T (value_test true w (above_of s p))
rule-test s p blank r = rw (blank-status (above_of s p)) at r
rule-test s p (measured x) r = and_both (finite x) true r tt
rule-test s p (carried x) r =
    let a = above_of s p in
    let held : T (not (eqb (status a) 0)) = rw (blank-status a) at r.2 in
    let bits : T (same_float (amount a) x) = rw r.3 (float-refl x r.1) in
    at_every (finite x ∷ every (not (eqb (status a) 0) ∷ same_float (amount a) x ∷ []) ∷ [])
    (r.1, (at_every (not (eqb (status a) 0) ∷ same_float (amount a) x ∷ []) (held, (bits, tt)), tt))

module _ (s : State) (v : Valid s) where
  abbrev g : Grid
  g = grid_of s

  abbrev es : List Entry
  es = s.entries

  abbrev c : Place → Bool
  c = cells s.entries

  abbrev word : ℕ → ℕ → ℕ
  word n w = word_of (table s) n w

  abbrev link : ℕ → ℕ → ℕ
  link n w = link_of (table s) (capacity s) n w

  -- ---- rows without a patch

  empty-ok : (n : ℕ) → ((w : ℕ) → w < flags_word → word n w ≡ 0) → value_of (entry es n) ≡ blank → T (empty_ok (table s) (amounts s) n)
  unfolding empty_ok
  empty-ok n z b =
      and_both (below flags_word (λ w. eqb (word n w) 0)) (is_nothing (carried_of (table s) (amounts s) n))
      (at-below flags_word (λ w. eqb (word n w) 0) (λ w l. is-eqb (word n w) 0 (z w l)))
      (rw (carried-there s n, b) tt)

  nil-ok : T (zero_ok (table s) (amounts s))
  unfolding zero_ok
  nil-ok =
      and_both (empty_ok (table s) (amounts s) 0) (eqb (word 0 flags_word) 0)
      (empty-ok 0 (λ w l. nil-words s 0 w v.zeroth (omega arith)) (ap value_of v.zeroth))
      (is-eqb (word 0 flags_word) 0 (nil-words s 0 flags_word v.zeroth (lit< tt)))

  free-ok : (n : ℕ) → entry es n ≡ free → T (empty_ok (table s) (amounts s) n)
  free-ok n e = empty-ok n (λ w l. free-words s n w e l) (ap value_of e)

  module _ (n : ℕ) (p : Place) (h : place_of (entry es n) ≡ some p) where
    stands_here : T (patch g c p)
    stands_here = v.each n p h

    -- ---- the place and the tree

    root_ok_lem : n ≡ 1 → T (root_ok (table s) (base g) n)
    unfolding root_ok
    root_ok_lem e =
        let r : p ≡ root = some-injective _ _ (sym h ∙ ap (λ (k : ℕ). place_of (entry es k)) e ∙ v.first-root) in
        let parent : word n parent_word ≡ 0 = sym (link-word s n parent_word (lit< tt)) ∙ link-parent s v n p h ∙ ap (number_of es) (no-parent p (ap (λ (x : Place). x.depth) r)) in
        let depth : depth_of (table s) (base g) n ≡ 0 = depth-of s v n p h ∙ ap (λ (x : Place). x.depth) r in
        let col : word n i_word ≡ 0 = word-i s n p h ∙ ap (λ (x : Place). x.i) r in
        let row : word n j_word ≡ 0 = word-j s n p h ∙ ap (λ (x : Place). x.j) r in
        rw (parent, depth, col, row) tt

    child-ok : (q : Place) → parent p ≡ some q → T (child_ok (table s) (capacity s) (base g) n)
    unfolding child_ok free_at
    child-ok q e =
        let m = number es q in
        let k : place_of (entry es m) ≡ some q = patch-numbered s v q (patch-parent g c v.mesh p q e stands_here) in
        let up : link n parent_word ≡ m = link-parent s v n p h ∙ ap (number_of es) e in
        let up_word : word n parent_word ≡ m = sym (link-word s n parent_word (lit< tt)) ∙ up in
        let down : word m (kid_word (p.i % 2) (p.j % 2)) ≡ n =
        sym (link-word s m (kid_word (p.i % 2) (p.j % 2)) (kid-word-lt (p.i % 2) (p.j % 2) (omega arith)))
        ∙ link-kid-of s v m q k (p.i % 2) (p.j % 2) (omega arith) (omega arith)
        ∙ ap (number es) (sym (parent_by p q e))
        ∙ place-number es (valid-numbered v) n p h
        in
        let (i, j) = halved p q e in
        rw (
          up,
          up_word,
          word-i s n p h,
          word-j s n p h,
          word-i s m q k,
          word-j s m q k,
          depth-of s v n p h,
          depth-of s v m q k,
          down,
          patch-not-free s m q k,
          ne_eqb m 0 (not-zero es (valid-numbered v) m q k),
          eq-eqb m m refl,
          eq-eqb n n refl,
          eq-eqb q.i (p.i / 2) i,
          eq-eqb q.j (p.j / 2) j,
          eq-eqb (q.depth + 1) p.depth (omega (arith, parent-depth p q e)),
        )
        tt

    place_ok_lem : T (place_ok (table s) (capacity s) (base g) n)
    unfolding place_ok
    place_ok_lem =
        rw (depth-of s v n p h, le-leb p.depth (base g + 12) (patch-high g c v.mesh p stands_here))
        (go (ℕ_discrete n 1) (dec_lt 0 p.depth))
      where
        go : Dec (n ≡ 1) → Dec (0 < p.depth) → T (cond (eqb n 1) (root_ok (table s) (base g) n) (child_ok (table s) (capacity s) (base g) n))
        go (yes e) d = rw (eq-eqb n 1 e) (root_ok_lem e)
        go (no e) (yes d) = rw (ne_eqb n 1 e) (child-ok (up p) (parent_up p d))
        go (no e) (no d) =
            let r : p ≡ root = depth-zero-root g c v.mesh v.rectangle p (omega (arith, d)) stands_here in
            absurd (e (v.once n 1 root (h ∙ ap some r) v.first-root))

    kid-ok : (l m : ℕ) → l ≤ 1 → m ≤ 1 → T (kid_ok (table s) (capacity s) n l m)
    unfolding kid_ok free_at
    kid-ok l m a b =
        let down : link n (kid_word l m) ≡ k = link-kid-of s v n p h l m a b in
        let down_word : word n (kid_word l m) ≡ k = sym (link-word s n (kid_word l m) (kid-word-lt l m b)) ∙ down in
        rw (down, down_word, eq-eqb k k refl) (go (ℕ_discrete k 0))
      where
        q : Place
        q = kid_by l m p

        k : ℕ
        k = number es q

        go : Dec (k ≡ 0) → T (eqb k 0 || every (kid_tests (table s) n l m k))
        go (yes z) = rw (eq-eqb k 0 z) tt
        go (no z) =
            let there : place_of (entry es k) ≡ some q = number-place es q z in
            let back : word k parent_word ≡ n =
            sym (link-word s k parent_word (lit< tt))
            ∙ link-parent s v k q there
            ∙ ap (number_of es) (kid-by-parent l m p a b)
            ∙ place-number es (valid-numbered v) n p h
            in
            let (i, j) = kid-by-digits l m p a b in
            rw (
              ne_eqb k 0 z,
              patch-not-free s k q there,
              back,
              eq-eqb n n refl,
              word-i s k q there,
              word-j s k q there,
              i,
              j,
              eq-eqb l l refl,
              eq-eqb m m refl,
            )
            tt

    kids-ok : T (kids_ok (table s) (capacity s) n)
    unfolding kids_ok
    kids-ok =
        at_every (kids_tests (table s) (capacity s) n)
        (kid-ok 1 1 (lit≤ tt) (lit≤ tt), (kid-ok 1 0 (lit≤ tt) (lit≤ tt), (kid-ok 0 0 (lit≤ tt) (lit≤ tt), (kid-ok 0 1 (lit≤ tt) (lit≤ tt), tt))))

    sides-ok : T (sides_ok g (table s) (capacity s) n)
    unfolding sides_ok
    sides-ok = at_every (side_tests g (table s) (capacity s) n) (ok N tt, (ok E tt, (ok S tt, (ok W tt, tt))))
      where
        test : Wind → Bool
        test w = eqb (word n (word_of_wind w)) (side_in g (table s) (capacity s) n w)

        ok : (w : Wind) → T (w of side_winds) → T (test w)
        ok w t =
            is-eqb (word n (word_of_wind w)) (side_in g (table s) (capacity s) n w)
            (sym (link-word s n (word_of_wind w) (wind-lt w)) ∙ link-side s v n p h w t ∙ sym (side-in s v w t n p h))

    -- ---- ghosts, points and cells

    ghost-ok : p.depth < base g → T (ghost_ok (table s) (capacity s) n)
    unfolding ghost_ok
    ghost-ok d =
        rw (ghost-flags s v n p h d, ← and-true (eqb (link n nw_word) 0), kids_every s v n p h (λ k. eqb k 0))
        (not_T (all (λ q. eqb (number es q) 0) (kids p)) (λ t.
        let (q, e, u) = ghost-kid g c p d stands_here in
        numbered-not-zero es (valid-numbered v) q (v.every q u) (eqb→eq (number es q) 0 (all-kids (λ q. eqb (number es q) 0) p t q e))))

    touched-ok : base g ≤ p.depth → T (touched_in (table s) (capacity s) n)
    unfolding touched_in touched
    touched-ok l =
        let corner : flag_of (table s) complete_bit (link (link n west_word) south_word) ≡ on g c (step g SW p) =
        ap (λ (k : ℕ). flag_of (table s) complete_bit (link k south_word)) (link-side s v n p h W tt) ∙ cell-south s v (step g W p) ∙ ap (on g c) (sym (southwest g p)) in
        rw (cell-of s v n p h, cell-side s v n p h W tt, cell-side s v n p h S tt, corner)
        (patch-touched g c p l stands_here)

    -- all kids' places have a cell, or none has
    kid-cells : (b : Bool) → ((q : Place) → parent q ≡ some p → c q ≡ b) → T (kid_cells_are (table s) (capacity s) n b)
    kid-cells b is =
        rw (kids_every s v n p h (λ k. beq (flag_of (table s) complete_bit k) b))
        (kids-all (λ q. beq (flag_of (table s) complete_bit (number es q)) b) p (λ q e. rw (cell-flag s v (some q), is q e) (beq-refl b)))

    module _ (t : T (c p)) where
      -- in the rectangle or in a cell of the level below
      inside-ok : T (inside_ok g (table s) (capacity s) (base g) n)
      inside-ok = rw (depth-of s v n p h, word-i s n p h, word-j s n p h, link-parent s v n p h, cell-flag s v (parent p)) (go (ℕ_discrete p.depth (base g)))
        where
          go : Dec (p.depth ≡ base g) → T (cond (eqb p.depth (base g)) (ltb p.i g.columns && ltb p.j g.rows) (on g c (parent p)))
          go (yes e) = let (x, y) = v.mesh.inside p t e in rw (eq-eqb p.depth (base g) e, lt-ltb p.i g.columns x, lt-ltb p.j g.rows y) tt
          go (no e) = rw (ne_eqb p.depth (base g) e) (v.mesh.above p t (omega (arith, v.mesh.low p t, e)))

      split-ok : T (kid_cells_are (table s) (capacity s) n true || kid_cells_are (table s) (capacity s) n false)
      split-ok = go (either (has_kids g c p))
        where
          four : Bool
          four = kid_cells_are (table s) (capacity s) n true

          no-kid : Bool
          no-kid = kid_cells_are (table s) (capacity s) n false

          go : T (has_kids g c p) ⊎ T (not (has_kids g c p)) → T (four || no-kid)
          go (inl k) = or_left four no-kid (kid-cells true (λ q e. yes-is (c q) (all-kids c p (v.mesh.four p t k) q e)))
          go (inr k) = or_right four no-kid (kid-cells false (λ q e. no-is (c q) (λ u. T_not (has_kids g c p) k (kid-has g c p q e u))))

      cell-ok : T (cell_ok g (table s) (capacity s) (base g) n)
      unfolding cell_ok
      cell-ok =
          let east : link n east_word ≡ number es (to_east g p) = link-side s v n p h E tt ∙ ap (number_of es) (step-east g p) in
          let north : link n north_word ≡ number es (to_north g p) = link-side s v n p h N tt ∙ ap (number_of es) (step-north g p) in
          let both : link (number es (to_east g p)) north_word ≡ number es (to_north g (to_east g p)) =
          link-side s v (number es (to_east g p)) (to_east g p) (number-place es (to_east g p) (corner-numbered s v t c-east)) N tt ∙ ap (number_of es) (step-north g (to_east g p)) in
          rw (
            east,
            north,
            both,
            ne_eqb (number es (to_east g p)) 0 (corner-numbered s v t c-east),
            ne_eqb (number es (to_north g p)) 0 (corner-numbered s v t c-north),
            ne_eqb (number es (to_north g (to_east g p))) 0 (corner-numbered s v t c-both),
          )
          (at_every (inside_ok g (table s) (capacity s) (base g) n ∷ (kid_cells_are (table s) (capacity s) n true || kid_cells_are (table s) (capacity s) n false) ∷ []) (inside-ok, (split-ok, tt)))

    -- "Sentenced may stand only on leaves above level 0"
    sentence-ok : T (is_sentenced (entry es n)) → T (sentence_ok (table s) (capacity s) (base g) n)
    unfolding sentence_ok
    sentence-ok d =
        let (x, e) = sentenced-cell (entry es n) p h d in
        let (l, k) = v.sentences n p x e (rw e at d) in
        at_every (sentence_tests (table s) (capacity s) (base g) n) (
          rw (cell-of s v n p h) (leaf-cell g c p k),
          (rw (depth-of s v n p h, ne_eqb p.depth (base g) (λ z. omega arith)) tt, (kid-cells false (λ q a. no-is (c q) (leaf-kidless g c p k q a)), tt)),
        )

    point-ok : base g ≤ p.depth → T (point_ok g (table s) (capacity s) (base g) n)
    unfolding point_ok
    point-ok l =
        let mark = is_sentenced (entry es n) in
        let sentenced : flag_of (table s) sentenced_bit n ≡ mark = sentenced-flag s n p h in
        let flagged : word n flags_word ≡ digits (flags_from (table s) (capacity s) (base g) n mark) = word_flags s n p h ∙ ap digits (sym (flags-from s v n p h l mark)) in
        at_every (point_tests g (table s) (capacity s) (base g) n) (
          touched-ok l,
          (
            rw (cell-of s v n p h) (implies (c p) (cell_ok g (table s) (capacity s) (base g) n) cell-ok),
            (
              rw sentenced (implies mark (sentence_ok (table s) (capacity s) (base g) n) sentence-ok),
              (rw sentenced (is-eqb (word n flags_word) (digits (flags_from (table s) (capacity s) (base g) n mark)) flagged), tt),
            ),
          ),
        )

    -- ---- values

    -- the value above is the one that the parent's row says
    carried-above : carried_above (table s) (capacity s) (amounts s) n ≡ carried_for (above_of s p)
    carried-above = rw (link-parent s v n p h) (carried-there s (number_of es (parent p)))

    value-ok : T (value_ok (table s) (capacity s) (amounts s) n)
    unfolding value_ok blank_ok held_ok
    value-ok =
        rw (carried-there s n, carried-above, cell-of s v n p h)
        (go (cell_of (entry es n)) (place-used (entry es n) p h))
      where
        go : (o : Option Cell) → entry es n ≡ used p o → T (value_test (c p) (or_else blank (λ x. x.value) o) (above_of s p))
        go none e =
            let u = valid-numbered v in
            let bare : c p ≡ false = cells-contents es u p ∙ ap is_some (entry-contents es u n p none e) in
            rw bare tt
        go (some x) e = rw (yes-is (c p) (cell-there es n p x e)) (rule-test s p x.value (v.values n p x e))

    -- ---- rows and the table

    used-ok : T (used_ok g (table s) (capacity s) (amounts s) n)
    unfolding used_ok
    used-ok =
        at_every (used_tests g (table s) (capacity s) (amounts s) n)
        (place_ok_lem, (sides-ok, (kids-ok, (rw (depth-of s v n p h) (go (dec_lt p.depth (base g))), (value-ok, tt)))))
      where
        go : Dec (p.depth < base g) → T (cond (ltb p.depth (base g)) (ghost_ok (table s) (capacity s) n) (point_ok g (table s) (capacity s) (base g) n))
        go (yes l) = rw (lt-ltb p.depth (base g) l) (ghost-ok l)
        go (no l) = rw (le-ltb p.depth (base g) (omega (arith, l))) (point-ok (omega (arith, l)))

  row-ok : (n : ℕ) → 1 ≤ n → n ≤ capacity s → T (row_ok g (table s) (capacity s) (amounts s) n)
  unfolding row_ok free_at
  row-ok n a b = go (entry es n) refl
    where
      go : (e : Entry) → entry es n ≡ e → T (cond (free_at (table s) n) (empty_ok (table s) (amounts s) n) (used_ok g (table s) (capacity s) (amounts s) n))
      go nil e = absurd (let t : T (not (is_nil (entry es n))) = v.others n a b in let u : T false = rw e at t in u)
      go free e = rw (free-flags s n e) (free-ok n e)
      go (used p x) e = rw (patch-not-free s n p (ap place_of e)) (used-ok n p (ap place_of e))

pub sound-rowwise : (s : State) → Valid s → T (rowwise (grid_of s) (table s) (capacity s) (amounts s))
unfolding rowwise free_at
sound-rowwise s v =
    let rows = below (capacity s) (λ k. row_ok (grid_of s) (table s) (capacity s) (amounts s) (suc k)) in
    and_both (zero_ok (table s) (amounts s)) (not (free_at (table s) 1) && rows) (nil-ok s v)
    (rw (patch-not-free s 1 root v.first-root) (at-below (capacity s) (λ k. row_ok (grid_of s) (table s) (capacity s) (amounts s) (suc k)) (λ k l. row-ok s v (suc k) (omega arith) (omega arith))))
