-- Every link of a row in use is the number of the patch at the link's place: the parent and the kids by the tree, and the neighbours down from
-- the root, since a neighbour is a kid of the parent or of the parent's neighbour.
-- Assumes nothing.
use Prim.Native.Nat.{ℕ, zero, suc, ◌+◌, ◌%◌, ◌≤◌, ◌<◌}
use native.Mathlib.Omega.{arith}
use native.Mathlib.Decide.{ℕ_discrete}
use mathlib.Core.Path.{◌≡◌, refl, sym, ap, ap₂, ◌∙◌}
use mathlib.Core.Logic.{◌≢◌, ◌⊎◌, inl, inr}
use mathlib.Core.Bool.{Bool, true, false, cond}
use mathlib.Core.Option.{Option, none, some, map, some-injective}
use mathlib.Core.List.{List}
use lib.Dec.{T, lit<}
use lib.IntN.{ℤ}
use lib.Ieee.{Float}
use Rattle.mesh.specs.Tools.{is_some, or_else}
use Rattle.mesh.specs.Place.{Place, Grid, at, root, base, parent, step, compass, Wind, NE, SE, SW, NW, N, E, S, W}
use Rattle.mesh.specs.Seam.{crosses}
use Rattle.mesh.specs.Winds.{word_of_wind}
use Rattle.mesh.specs.Mesh.{on, complete_bit}
use Rattle.mesh.specs.State.{Entry, Cell, place_of, cell_of, entry, cells, number, number_of}
use Rattle.mesh.specs.Picture.{parent_word, i_word, j_word, flags_word}
use Rattle.table.specs.Words.{word_of, link_of, flag_of, depth_of}
use Rattle.worked.specs.Worked.{kid_word, side_by, side_of, down_to, side_in}
use Rattle.table.proofs.LinkRanges.{link-word}
use Rattle.place_laws.proofs.Laps.{Smooth, smooth-is}
use Rattle.place_laws.proofs.Base.{lap-many}
use Rattle.place_laws.proofs.Kids.{up, parent-depth, no-parent, up_is}
use Rattle.place_laws.proofs.SideDigits.{kid_by, kid-by-parent, kid-by-digits, parent_by, aside, stays, step-digits, step-depth, step_other}
use Rattle.table_laws.proofs.DownRows.{down-from}
use Rattle.number_laws.proofs.NumberedPlaces.{number-place, place-number, cells-contents}
use Rattle.checker_laws.proofs.Facts.{Used, said_place, link-high}
use Rattle.checker_laws.proofs.Climbing.{said-i, said-j, root_said, not_root, child-depth, depth-zero, said-once}
use Rattle.checker_laws.proofs.WordsBack.{flag-zero}
use Rattle.checker_laws.proofs.Patches.{by-kid}
use Rattle.checker_laws.proofs.Reading.{cell_from, Reads}

kid-word-small : (l m : ℕ) → l ≤ 1 → m ≤ 1 → kid_word l m < flags_word
kid-word-small = by-kid (λ w. w < flags_word) (lit< tt) (lit< tt) (lit< tt) (lit< tt)

wind-small : (w : Wind) → word_of_wind w < flags_word
wind-small NE = lit< tt
wind-small SE = lit< tt
wind-small SW = lit< tt
wind-small NW = lit< tt
wind-small N = lit< tt
wind-small E = lit< tt
wind-small S = lit< tt
wind-small W = lit< tt

module _ {g : Grid} {cap : ℕ} {t : List ℤ} {v : List Float} {es : List Entry} (o : Reads g cap t v es) where
  -- ---- numbers and rows

  pub used-place : (n : ℕ) → Used cap t n → place_of (entry es n) ≡ some (said_place g t n)
  used-place n u = ap place_of (o.entry-used n u)

  pub number-used : (n : ℕ) → Used cap t n → number es (said_place g t n) ≡ n
  number-used n u = place-number es o.numbered n (said_place g t n) (used-place n u)

  -- a place has the number 0, or it is the place of the row of its number
  pub number-cases : (q : Place) → (number es q ≡ 0) ⊎ (Used cap t (number es q) × (said_place g t (number es q) ≡ q))
  number-cases q = go (ℕ_discrete (number es q) 0)
    where
      go : Dec (number es q ≡ 0) → (number es q ≡ 0) ⊎ (Used cap t (number es q) × (said_place g t (number es q) ≡ q))
      go (yes e) = inl e
      go (no e) = inr (o.used-at (number es q) q (number-place es q e))

  pub number-none : (q : Place) → ((k : ℕ) → Used cap t k → said_place g t k ≡ q → ⊥) → number es q ≡ 0
  number-none q h = go (number-cases q)
    where
      go : (number es q ≡ 0) ⊎ (Used cap t (number es q) × (said_place g t (number es q) ≡ q)) → number es q ≡ 0
      go (inl e) = e
      go (inr (u, s)) = absurd (h (number es q) u s)

  pub number-said : (n : ℕ) (q : Place) → Used cap t n → said_place g t n ≡ q → number es q ≡ n
  number-said n q u s = ap (number es) (sym s) ∙ number-used n u

  -- the nil patch has no links
  pub zero-link : (w : ℕ) → w < flags_word → link_of t cap 0 w ≡ 0
  zero-link w l = let e = o.tested.zeroth.words w l in link-word t cap 0 w (omega arith) ∙ e

  -- ---- the parent

  pub parent-link : (n : ℕ) → Used cap t n → number_of es (parent (said_place g t n)) ≡ link_of t cap n parent_word
  parent-link n u = go (ℕ_discrete n 1)
    where
      go : Dec (n ≡ 1) → number_of es (parent (said_place g t n)) ≡ link_of t cap n parent_word
      go (yes e) =
          let (z, s) = (o.tested.row n u).top e in
          rw (s, no-parent root refl) (sym (link-word t cap n parent_word (omega arith) ∙ z))
      go (no e) = let c = (o.tested.row n u).child e in rw c.halved (number-used (link_of t cap n parent_word) c.above)

  pub parent-word : (n : ℕ) → Used cap t n → word_of t n parent_word ≡ link_of t cap n parent_word
  parent-word n u = go (ℕ_discrete n 1)
    where
      go : Dec (n ≡ 1) → word_of t n parent_word ≡ link_of t cap n parent_word
      go (yes e) = let (z, s) = (o.tested.row n u).top e in sym (link-word t cap n parent_word (omega arith))
      go (no e) = ((o.tested.row n u).child e).is_word

  -- ---- the kids

  -- a row at a kid's place: its parent's row stands above, and names it
  kid-row : (l m : ℕ) → l ≤ 1 → m ≤ 1 → (q : Place) (k : ℕ) → Used cap t k → said_place g t k ≡ kid_by l m q
      → Used cap t (link_of t cap k parent_word) × (said_place g t (link_of t cap k parent_word) ≡ q) × (word_of t (link_of t cap k parent_word) (kid_word l m) ≡ k)
  kid-row l m a b q k u s =
      let e : parent (said_place g t k) ≡ some q = ap parent s ∙ kid-by-parent l m q a b in
      let c = (o.tested.row k u).child (not_root o.tested k (omega (arith, parent-depth (said_place g t k) q e))) in
      let (x, y) = kid-by-digits l m q a b in
      let x' : word_of t k i_word % 2 ≡ l = ap (λ (i : ℕ). i % 2) (sym (said-i g t k) ∙ ap (λ (p : Place). p.i) s) ∙ x in
      let y' : word_of t k j_word % 2 ≡ m = ap (λ (i : ℕ). i % 2) (sym (said-j g t k) ∙ ap (λ (p : Place). p.j) s) ∙ y in
      (c.above, some-injective _ _ (sym c.halved ∙ e), rw (x', y') at c.named)

  -- the row that a kid's word names stands at the kid's place
  pub kid-said : (n l m : ℕ) → Used cap t n → l ≤ 1 → m ≤ 1 → link_of t cap n (kid_word l m) ≢ 0
      → Used cap t (link_of t cap n (kid_word l m)) × (said_place g t (link_of t cap n (kid_word l m)) ≡ kid_by l m (said_place g t n))
  kid-said n l m u a b z =
      let f = (o.tested.row n u).kid l m a b z in
      let k = link_of t cap n (kid_word l m) in
      let top : k ≢ 1 = λ e. let (y, s) = (o.tested.row k f.here).top e in omega (arith, y, f.back, u.low) in
      let c = (o.tested.row k f.here).child top in
      let e : link_of t cap k parent_word ≡ n = sym c.is_word ∙ f.back in
      let h : parent (said_place g t k) ≡ some (said_place g t n) = c.halved ∙ ap (λ (i : ℕ). some (said_place g t i)) e in
      let x : (said_place g t k).i % 2 ≡ l = ap (λ (i : ℕ). i % 2) (said-i g t k) ∙ f.i in
      let y : (said_place g t k).j % 2 ≡ m = ap (λ (i : ℕ). i % 2) (said-j g t k) ∙ f.j in
      (f.here, parent_by (said_place g t k) (said_place g t n) h ∙ ap₂ (λ (i j : ℕ). kid_by i j (said_place g t n)) x y)

  kid-link : (n l m : ℕ) → Used cap t n → l ≤ 1 → m ≤ 1 → number es (kid_by l m (said_place g t n)) ≡ link_of t cap n (kid_word l m)
  kid-link n l m u a b = go (ℕ_discrete (link_of t cap n (kid_word l m)) 0)
    where
      go : Dec (link_of t cap n (kid_word l m) ≡ 0) → number es (kid_by l m (said_place g t n)) ≡ link_of t cap n (kid_word l m)
      go (yes e) =
          number-none (kid_by l m (said_place g t n)) (λ k uk s.
          let (up, sp, named) = kid-row l m a b (said_place g t n) k uk s in
          let i : link_of t cap k parent_word ≡ n = said-once o.tested (link_of t cap k parent_word) n up u sp in
          let z : k ≡ 0 = sym named ∙ ap (λ (j : ℕ). word_of t j (kid_word l m)) i ∙ (o.tested.row n u).kid-word l m a b ∙ e in
          omega (arith, uk.low))
          ∙ sym e
      go (no e) = let (uk, s) = kid-said n l m u a b e in number-said (link_of t cap n (kid_word l m)) (kid_by l m (said_place g t n)) uk s

  -- of any place, also of one where no patch stands, and of none
  pub kids-link : (l m : ℕ) → l ≤ 1 → m ≤ 1 → (q : Option Place) → number_of es (map (kid_by l m) q) ≡ link_of t cap (number_of es q) (kid_word l m)
  kids-link l m a b none = sym (zero-link (kid_word l m) (kid-word-small l m a b))
  kids-link l m a b (some q) = go (number-cases q)
    where
      go : (number es q ≡ 0) ⊎ (Used cap t (number es q) × (said_place g t (number es q) ≡ q)) → number es (kid_by l m q) ≡ link_of t cap (number es q) (kid_word l m)
      go (inl e) =
          number-none (kid_by l m q) (λ k uk s.
          let (up, sp, named) = kid-row l m a b q k uk s in
          omega (arith, up.low, number-said (link_of t cap k parent_word) q up sp, e))
          ∙ sym (ap (λ (n : ℕ). link_of t cap n (kid_word l m)) e ∙ zero-link (kid_word l m) (kid-word-small l m a b))
      go (inr (u, s)) = ap (λ (p : Place). number es (kid_by l m p)) (sym s) ∙ kid-link (number es q) l m u a b

  -- ---- from the root down

  found : (q : Option Place) → or_else 0 (λ q. down_to t cap q.depth q.i q.j) q ≡ number_of es q
  found =
      down-from t cap es (λ l m a b q. sym (kids-link l m a b q)) (number-said 1 root o.tested.root-used (root_said o.tested))
      (λ q d z. number-none q (λ k uk f. z (sym f ∙ ap (said_place g t) (depth-zero o.tested k uk (ap (λ (p : Place). p.depth) f ∙ d)) ∙ root_said o.tested)))

  down-high : (q : Option Place) → or_else 0 (λ q. down_to t cap q.depth q.i q.j) q ≤ cap
  down-high none = omega arith
  down-high (some q) = rw (found (some q)) (go (number-cases q))
    where
      go : (number es q ≡ 0) ⊎ (Used cap t (number es q) × (said_place g t (number es q) ≡ q)) → number es q ≤ cap
      go (inl e) = rw e (omega arith)
      go (inr (u, s)) = u.high

  -- ---- the neighbours

  number-cond : (b : Bool) (x y : Option Place) (n m : ℕ) → number_of es x ≡ n → number_of es y ≡ m → number_of es (cond b x y) ≡ cond b n m
  number-cond true x y n m e f = e
  number-cond false x y n m e f = f

  cond_same : (b : Bool) (n : ℕ) → cond b n n ≡ n
  cond_same true n = refl
  cond_same false n = refl

  module _ (w : Wind) (side : T (aside w)) where
    side-high : (n : ℕ) → side_in g t cap n w ≤ cap
    unfolding side_in side_of side_by
    side-high n = go (crosses g w (at (depth_of t (base g) n) (word_of t n i_word) (word_of t n j_word)))
      where
        go : (b : Bool) → cond b (or_else 0 (λ q. down_to t cap q.depth q.i q.j) (step g w (at (depth_of t (base g) n) (word_of t n i_word) (word_of t n j_word)))) (side_of t cap n w) ≤ cap
        go true = down-high (step g w (at (depth_of t (base g) n) (word_of t n i_word) (word_of t n j_word)))
        go false = link-high t cap _ _

    side-word : (n : ℕ) → Used cap t n → link_of t cap n (word_of_wind w) ≡ side_in g t cap n w
    side-word n u =
        let e = (o.tested.row n u).side w side in
        link-word t cap n (word_of_wind w) (omega (arith, e, side-high n)) ∙ e

    -- under the root there is none, and beside the root there is none
    side-none : (n : ℕ) → link_of t cap n parent_word ≡ 0 → side_of t cap n w ≡ 0
    unfolding side_of side_by
    side-none n e =
        let (l, m) : ℕ × ℕ = ((word_of t n i_word % 2 + (compass w).east + 1) % 2, (word_of t n j_word % 2 + (compass w).north + 1) % 2) in
        rw (e, zero-link (word_of_wind w) (wind-small w), cond_same) (zero-link (kid_word l m) (kid-word-small l m (omega arith) (omega arith)))

    root-side : (n : ℕ) → Used cap t n → said_place g t n ≡ root → number_of es (step g w (said_place g t n)) ≡ 0
    root-side n u s = go (step g w (said_place g t n)) refl
      where
        go : (x : Option Place) → step g w (said_place g t n) ≡ x → number_of es x ≡ 0
        go none e = refl
        go (some q) e =
            number-none q (λ k uk f.
            let d : (said_place g t k).depth ≡ 0 = ap (λ (p : Place). p.depth) f ∙ step-depth g w side (said_place g t n) q e ∙ ap (λ (p : Place). p.depth) s in
            let z : q ≡ root = sym f ∙ ap (said_place g t) (depth-zero o.tested k uk d) ∙ root_said o.tested in
            step_other g w side root (lap-many g o.in-range 0) (ap (step g w) (sym s) ∙ e ∙ ap some z))

    -- the row by the parent's, where the step does not cross the seam of level 0
    side-up : (e n : ℕ) → ((p : ℕ) → (said_place g t p).depth ≡ e → Used cap t p → number_of es (step g w (said_place g t p)) ≡ side_in g t cap p w)
        → (said_place g t n).depth ≡ suc e → Used cap t n → Smooth g w (said_place g t n) → number_of es (step g w (said_place g t n)) ≡ side_of t cap n w
    unfolding side_of side_by said_place
    side-up e n above d u smooth =
        let z : n ≢ 1 = not_root o.tested n (omega arith) in
        let c = (o.tested.row n u).child z in
        let p = link_of t cap n parent_word in
        let i : up (said_place g t n) ≡ said_place g t p = up_is (said_place g t n) (said_place g t p) c.halved in
        let ih : number_of es (step g w (said_place g t p)) ≡ link_of t cap p (word_of_wind w) =
        above p (omega (arith, child-depth o.tested n u z)) c.above ∙ sym (side-word p c.above) in
        let (l, m) : ℕ × ℕ = ((word_of t n i_word % 2 + (compass w).east + 1) % 2, (word_of t n j_word % 2 + (compass w).north + 1) % 2) in
        let b = stays w (said_place g t n) in
        let x = cond b (some (up (said_place g t n))) (step g w (up (said_place g t n))) in
        let s : number_of es x ≡ cond b p (link_of t cap p (word_of_wind w)) =
        number-cond b (some (up (said_place g t n))) (step g w (up (said_place g t n))) p (link_of t cap p (word_of_wind w))
        (ap (number es) i ∙ number-used p c.above) (ap (λ (q : Place). number_of es (step g w q)) i ∙ ih) in
        ap (number_of es) (step-digits g w side (said_place g t n) (omega arith) smooth)
        ∙ kids-link l m (omega arith) (omega arith) x
        ∙ ap (λ (k : ℕ). link_of t cap k (kid_word l m)) s

    crossed : (n : ℕ) → (crosses g w (said_place g t n) ≡ false → number_of es (step g w (said_place g t n)) ≡ side_of t cap n w) → number_of es (step g w (said_place g t n)) ≡ side_in g t cap n w
    unfolding side_in said_place
    crossed n h = go (crosses g w (said_place g t n)) refl
      where
        go : (b : Bool) → crosses g w (said_place g t n) ≡ b
            → number_of es (step g w (said_place g t n)) ≡ cond b (or_else 0 (λ q. down_to t cap q.depth q.i q.j) (step g w (said_place g t n))) (side_of t cap n w)
        go true f = sym (found (step g w (said_place g t n)))
        go false f = h f

    side-by : (e n : ℕ) → (said_place g t n).depth ≡ e → Used cap t n → number_of es (step g w (said_place g t n)) ≡ side_in g t cap n w
    side-by zero n d u =
        let (a, s) = (o.tested.row n u).top (depth-zero o.tested n u d) in
        crossed n (λ f. root-side n u s ∙ sym (side-none n (link-word t cap n parent_word (omega arith) ∙ a)))
    side-by (suc e) n d u = crossed n (λ f. side-up e n (side-by e) d u (smooth-is g w (said_place g t n) f))

    pub side_same : (n : ℕ) → Used cap t n → word_of t n (word_of_wind w) ≡ link_of t cap n (word_of_wind w)
    side_same n u = (o.tested.row n u).side w side ∙ sym (side-word n u)

    pub side-link : (n : ℕ) → Used cap t n → number_of es (step g w (said_place g t n)) ≡ link_of t cap n (word_of_wind w)
    side-link n u = side-by (said_place g t n).depth n refl u ∙ sym (side-word n u)

  -- ---- the cells

  -- a place is a cell exactly if flag 0 of its number's row says so
  pub cell-flag : (q : Place) → cells es q ≡ flag_of t complete_bit (number es q)
  cell-flag q = cells-contents es o.numbered q ∙ go (number-cases q)
    where
      is-some : (b : Bool) (x : Cell) → is_some (cond b (some x) none) ≡ b
      is-some true x = refl
      is-some false x = refl

      go : (number es q ≡ 0) ⊎ (Used cap t (number es q) × (said_place g t (number es q) ≡ q)) → is_some (cell_of (entry es (number es q))) ≡ flag_of t complete_bit (number es q)
      go (inl e) = rw e (ap (λ (d : Entry). is_some (cell_of d)) o.numbered.zeroth ∙ sym (flag-zero t 0 complete_bit o.tested.zero_flags))
      go (inr (u, s)) = ap (λ (d : Entry). is_some (cell_of d)) (o.entry-used (number es q) u) ∙ is-some (flag_of t complete_bit (number es q)) (cell_from t v (number es q))

  pub on-flag : (x : Option Place) → on g (cells es) x ≡ flag_of t complete_bit (number_of es x)
  on-flag none = sym (flag-zero t 0 complete_bit o.tested.zero_flags)
  on-flag (some q) = cell-flag q

  pub said-cell : (n : ℕ) → Used cap t n → cells es (said_place g t n) ≡ flag_of t complete_bit n
  said-cell n u = cell-flag (said_place g t n) ∙ ap (flag_of t complete_bit) (number-used n u)
