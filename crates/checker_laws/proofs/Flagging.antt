-- The flags of a row are those that the cells make: a wall's flag by levels, down from the wall of the parent's place, and the points' and cells'
-- flags from the walls' flags of the neighbours' rows. Where no row stands there is no wall.
-- Assumes nothing.
use Prim.Native.Nat.{ℕ, zero, suc, ◌+◌, ◌-◌, ◌≤◌, ◌<◌}
use native.Mathlib.Omega.{arith}
use native.Mathlib.Decide.{dec_lt}
use mathlib.Core.Path.{◌≡◌, refl, sym, ap, ap₂, ◌∙◌}
use mathlib.Core.Logic.{◌≢◌, ◌⊎◌, inl, inr}
use mathlib.Core.Bool.{Bool, true, false, not, ◌&&◌, ◌||◌, beq}
use mathlib.Core.Option.{Option, none, some, some-injective}
use mathlib.Core.List.{List, [], ◌∷◌}
use lib.Dec.{T, eqb, lit<}
use lib.IntN.{ℤ}
use lib.Ieee.{Float}
use borrow.Author.Tests.{eq-eqb, ne_eqb}
use Rattle.mesh.specs.Tools.{digits}
use Rattle.mesh.specs.Place.{Place, Grid, base, step, Wind, N, E, S, W}
use Rattle.mesh.specs.Winds.{word_of_wind}
use Rattle.mesh.specs.Mesh.{Wall, absent, is_wall, is_boundary, is_green, on, touched, wall_h, wall_v, ends, sides, derived, flags, complete_bit, bdy_wall_h_bit, bdy_wall_v_bit, grn_wall_h_bit, grn_wall_v_bit, sentenced_bit}
use Rattle.mesh.specs.State.{Entry, cells, number, number_of}
use Rattle.mesh.specs.Picture.{parent_word, south_word, west_word, flags_word}
use Rattle.table.specs.Words.{word_of, link_of, flag_of, depth_of}
use Rattle.worked.specs.Worked.{boundary_h, boundary_v, green_h, green_v, flags_from}
use Rattle.place_laws.proofs.Bools.{no-is}
use Rattle.place_laws.proofs.Kids.{up, up_is}
use Rattle.place_laws.proofs.Tree.{touched-patch}
use Rattle.place_laws.proofs.SideDigits.{aside, stays, step-depth}
use Rattle.place_laws.proofs.Walls.{wall, wall_h-cells, wall_v-cells, wall-green, wall-by, wall-touched, south-touched, west-touched, stays-south, stays-west, ghost-flags}
use Rattle.table_laws.proofs.FlaggedRows.{boundary-wall, green-wall}
use Rattle.checker_laws.proofs.Facts.{Used, said_place}
use Rattle.checker_laws.proofs.Climbing.{said-depth, not_root, child-depth}
use Rattle.checker_laws.proofs.WordsBack.{flag-zero}
use Rattle.checker_laws.proofs.Patches.{ghost-facts, point-facts}
use Rattle.checker_laws.proofs.Reading.{Reads, point-flag, ghost-flag}
use Rattle.checker_laws.proofs.Linking.{number-cases, number-used, number-said, side-link, on-flag, said-cell}
use Rattle.checker_laws.proofs.Meshing.{south-link, west-link, cells-mesh}
use Rattle.checker_laws.proofs.Existing.{patch-row}

module _ {g : Grid} {cap : ℕ} {t : List ℤ} {v : List Float} {es : List Entry} (o : Reads g cap t v es) where
  -- the cells of the table
  abbrev c : Place → Bool
  c = cells es

  -- ---- a flag of walls, of one row and of every place

  -- a wall's flag that is right where a row stands is right everywhere: elsewhere no cell touches the wall
  module _ (w : Wind) (f : Wall → Bool) (only : (y : Wall) → T (f y) → T (is_wall y)) (touches : (p : Place) → T (on g c (step g w p)) → T (touched g c p)) (k : ℕ)
      (here : (n : ℕ) → Used cap t n → base g ≤ depth_of t (base g) n → flag_of t k n ≡ f (wall g c w (some (said_place g t n)))) where
    wall-flag : (x : Option Place) → ((q : Place) → x ≡ some q → base g ≤ q.depth) → flag_of t k (number_of es x) ≡ f (wall g c w x)
    wall-flag none h = flag-zero t 0 k o.tested.zero_flags ∙ sym (no-is (f absent) (λ b. only absent b))
    wall-flag (some q) h = go (number-cases o q)
      where
        go : (number es q ≡ 0) ⊎ (Used cap t (number es q) × (said_place g t (number es q) ≡ q)) → flag_of t k (number es q) ≡ f (wall g c w (some q))
        go (inl e) =
            rw e (flag-zero t 0 k o.tested.zero_flags)
            ∙ sym (no-is (f (wall g c w (some q))) (λ b.
            let (n, u, s) = patch-row o q (touched-patch g c q (h q refl) (wall-touched g c w q (touches q) (only (wall g c w (some q)) b))) in
            omega (arith, u.low, number-said o n q u s, e)))
        go (inr (u, s)) =
            here (number es q) u (omega (arith, said-depth g t (number es q), ap (λ (p : Place). p.depth) s, h q refl))
            ∙ ap (λ (p : Place). f (wall g c w (some p))) s

  -- ---- boundary walls, by levels

  module _ (w : Wind) (side : T (aside w)) (k : ℕ) where
    -- what the flag k of a row is worked out from
    abbrev Edge : Type 0
    Edge = (n : ℕ) → Used cap t n → base g ≤ depth_of t (base g) n
        → flag_of t k n ≡ (not (beq (flag_of t complete_bit n) (flag_of t complete_bit (link_of t cap n (word_of_wind w)))) && (eqb (depth_of t (base g) n) (base g) || (not (stays w (said_place g t n)) && flag_of t k (link_of t cap n parent_word))))

    one_cell : (n : ℕ) → Used cap t n → beq (c (said_place g t n)) (on g c (step g w (said_place g t n))) ≡ beq (flag_of t complete_bit n) (flag_of t complete_bit (link_of t cap n (word_of_wind w)))
    one_cell n u = ap₂ beq (said-cell o n u) (on-flag o (step g w (said_place g t n)) ∙ ap (flag_of t complete_bit) (side-link o w side n u))

    module _ (h : Edge) where
      -- the flag and the wall agree where what they ask of the level and of the parent's wall agrees
      agree : (n : ℕ) → Used cap t n → base g ≤ depth_of t (base g) n → (x : Bool)
          → (eqb (depth_of t (base g) n) (base g) || (not (stays w (said_place g t n)) && flag_of t k (link_of t cap n parent_word))) ≡ x
          → (eqb (said_place g t n).depth (base g) || (not (stays w (said_place g t n)) && is_boundary (wall g c w (some (up (said_place g t n)))))) ≡ x
          → flag_of t k n ≡ is_boundary (wall g c w (some (said_place g t n)))
      agree n u l x a b =
          h n u l
          ∙ ap (λ (y : Bool). not (beq (flag_of t complete_bit n) (flag_of t complete_bit (link_of t cap n (word_of_wind w)))) && y) a
          ∙ sym (wall-by g c (cells-mesh o) w side (said_place g t n) (rw (said-depth g t n) l) ∙ ap₂ (λ (z y : Bool). not z && y) (one_cell n u) b)

      boundary-by : (e n : ℕ) → Used cap t n → (said_place g t n).depth ≡ base g + e → flag_of t k n ≡ is_boundary (wall g c w (some (said_place g t n)))
      boundary-by zero n u d =
          let i : (said_place g t n).depth ≡ base g = omega arith in
          let j : depth_of t (base g) n ≡ base g = sym (said-depth g t n) ∙ i in
          agree n u (omega arith) true (rw (eq-eqb (depth_of t (base g) n) (base g) j)) (rw (eq-eqb (said_place g t n).depth (base g) i))
      boundary-by (suc e) n u d =
          let i : depth_of t (base g) n ≡ base g + suc e = sym (said-depth g t n) ∙ d in
          let z : n ≢ 1 = not_root o.tested n (omega arith) in
          let f = (o.tested.row n u).child z in
          let p = link_of t cap n parent_word in
          let up-said : up (said_place g t n) ≡ said_place g t p = up_is (said_place g t n) (said_place g t p) f.halved in
          let ih : flag_of t k p ≡ is_boundary (wall g c w (some (up (said_place g t n)))) =
          boundary-by e p f.above (omega (arith, child-depth o.tested n u z)) ∙ ap (λ (q : Place). is_boundary (wall g c w (some q))) (sym up-said) in
          agree n u (omega arith) (not (stays w (said_place g t n)) && is_boundary (wall g c w (some (up (said_place g t n)))))
          (rw (ne_eqb (depth_of t (base g) n) (base g) (λ y. omega arith), ih)) (rw (ne_eqb (said_place g t n).depth (base g) (λ y. omega arith)))

      boundary-at : (n : ℕ) → Used cap t n → base g ≤ depth_of t (base g) n → flag_of t k n ≡ is_boundary (wall g c w (some (said_place g t n)))
      boundary-at n u l = boundary-by ((said_place g t n).depth - base g) n u (omega (arith, said-depth g t n))

      -- "otherwise green"
      green-at : (j : ℕ) → ((n : ℕ) → Used cap t n → base g ≤ depth_of t (base g) n → flag_of t j n ≡ (not (beq (flag_of t complete_bit n) (flag_of t complete_bit (link_of t cap n (word_of_wind w)))) && not (flag_of t k n)))
          → (n : ℕ) → Used cap t n → base g ≤ depth_of t (base g) n → flag_of t j n ≡ is_green (wall g c w (some (said_place g t n)))
      green-at j r n u l = r n u l ∙ sym (wall-green g c w (said_place g t n) ∙ ap₂ (λ (z y : Bool). not z && not y) (one_cell n u) (sym (boundary-at n u l)))

  -- ---- the four flags of walls

  boundary_h-flag : (n : ℕ) → Used cap t n → base g ≤ depth_of t (base g) n → flag_of t bdy_wall_h_bit n ≡ boundary_h t cap (base g) n
  unfolding flags_from
  boundary_h-flag n u l = point-flag o.tested n u l bdy_wall_h_bit (lit< tt)

  boundary_v-flag : (n : ℕ) → Used cap t n → base g ≤ depth_of t (base g) n → flag_of t bdy_wall_v_bit n ≡ boundary_v t cap (base g) n
  unfolding flags_from
  boundary_v-flag n u l = point-flag o.tested n u l bdy_wall_v_bit (lit< tt)

  green_h-flag : (n : ℕ) → Used cap t n → base g ≤ depth_of t (base g) n → flag_of t grn_wall_h_bit n ≡ green_h t cap (base g) n
  unfolding flags_from
  green_h-flag n u l = point-flag o.tested n u l grn_wall_h_bit (lit< tt)

  green_v-flag : (n : ℕ) → Used cap t n → base g ≤ depth_of t (base g) n → flag_of t grn_wall_v_bit n ≡ green_v t cap (base g) n
  unfolding flags_from
  green_v-flag n u l = point-flag o.tested n u l grn_wall_v_bit (lit< tt)

  boundaries_h : Edge S tt bdy_wall_h_bit
  unfolding boundary_h said_place
  boundaries_h n u l = rw (stays-south (said_place g t n)) (boundary_h-flag n u l)

  boundaries_v : Edge W tt bdy_wall_v_bit
  unfolding boundary_v said_place
  boundaries_v n u l = rw (stays-west (said_place g t n)) (boundary_v-flag n u l)

  greens_h : (n : ℕ) → Used cap t n → base g ≤ depth_of t (base g) n → flag_of t grn_wall_h_bit n ≡ (not (beq (flag_of t complete_bit n) (flag_of t complete_bit (link_of t cap n south_word))) && not (flag_of t bdy_wall_h_bit n))
  unfolding green_h
  greens_h n u l = rw (boundary_h-flag n u l) (green_h-flag n u l)

  greens_v : (n : ℕ) → Used cap t n → base g ≤ depth_of t (base g) n → flag_of t grn_wall_v_bit n ≡ (not (beq (flag_of t complete_bit n) (flag_of t complete_bit (link_of t cap n west_word))) && not (flag_of t bdy_wall_v_bit n))
  unfolding green_v
  greens_v n u l = rw (boundary_v-flag n u l) (green_v-flag n u l)

  -- a place from level 0 up, if it is there
  abbrev High : Option Place → Type 0
  High x = (q : Place) → x ≡ some q → base g ≤ q.depth

  h-boundary : (x : Option Place) → High x → flag_of t bdy_wall_h_bit (number_of es x) ≡ is_boundary (wall_h g c x)
  unfolding wall_h
  h-boundary x h = wall-flag S is_boundary boundary-wall (south-touched g c) bdy_wall_h_bit (boundary-at S tt bdy_wall_h_bit boundaries_h) x h

  v-boundary : (x : Option Place) → High x → flag_of t bdy_wall_v_bit (number_of es x) ≡ is_boundary (wall_v g c x)
  unfolding wall_v
  v-boundary x h = wall-flag W is_boundary boundary-wall (west-touched g c) bdy_wall_v_bit (boundary-at W tt bdy_wall_v_bit boundaries_v) x h

  h-green : (x : Option Place) → High x → flag_of t grn_wall_h_bit (number_of es x) ≡ is_green (wall_h g c x)
  unfolding wall_h
  h-green x h = wall-flag S is_green green-wall (south-touched g c) grn_wall_h_bit (green-at S tt bdy_wall_h_bit boundaries_h grn_wall_h_bit greens_h) x h

  v-green : (x : Option Place) → High x → flag_of t grn_wall_v_bit (number_of es x) ≡ is_green (wall_v g c x)
  unfolding wall_v
  v-green x h = wall-flag W is_green green-wall (west-touched g c) grn_wall_v_bit (green-at W tt bdy_wall_v_bit boundaries_v grn_wall_v_bit greens_v) x h

  -- ---- all flags of a row

  any-four : (a b d e : Bool) → (a || (b || (d || (e || false)))) ≡ (a || (b || (d || e)))
  any-four true b d e = refl
  any-four false true d e = refl
  any-four false false true e = refl
  any-four false false false true = refl
  any-four false false false false = refl

  module _ (n : ℕ) (u : Used cap t n) (l : base g ≤ depth_of t (base g) n) where
    abbrev p : Place
    p = said_place g t n

    here : High (some p)
    here q e = rw (← some-injective _ _ e) (rw (said-depth g t n) l)

    beside : (w : Wind) → T (aside w) → High (step g w p)
    beside w a q e = omega (arith, step-depth g w a p q e, said-depth g t n)

    -- a flag of the row's own wall, and of a neighbour's
    own : (f : Wall → Bool) (y : Option Place → Wall) (k : ℕ) → ((x : Option Place) → High x → flag_of t k (number_of es x) ≡ f (y x)) → f (y (some p)) ≡ flag_of t k n
    own f y k h = sym (h (some p) here) ∙ ap (flag_of t k) (number-used o n u)

    next : (f : Wall → Bool) (y : Option Place → Wall) (k : ℕ) → ((x : Option Place) → High x → flag_of t k (number_of es x) ≡ f (y x)) → (w : Wind) → T (aside w)
        → f (y (step g w p)) ≡ flag_of t k (link_of t cap n (word_of_wind w))
    next f y k h w a = sym (h (step g w p) (beside w a)) ∙ ap (flag_of t k) (side-link o w a n u)

    around : (f : Wall → Bool) (i j : ℕ) (a b : Bool) → ((x : Option Place) → High x → flag_of t i (number_of es x) ≡ f (wall_h g c x)) → ((x : Option Place) → High x → flag_of t j (number_of es x) ≡ f (wall_v g c x))
        → flag_of t i n ≡ a → flag_of t j n ≡ b → (w x : Wind) → T (aside w) → T (aside x)
        → (f (wall_h g c (some p)) || (f (wall_h g c (step g w p)) || (f (wall_v g c (some p)) || (f (wall_v g c (step g x p)) || false))))
        ≡ (a || (flag_of t i (link_of t cap n (word_of_wind w)) || (b || flag_of t j (link_of t cap n (word_of_wind x)))))
    around f i j a b hh vv ea eb w x sw sx =
        any-four (f (wall_h g c (some p))) (f (wall_h g c (step g w p))) (f (wall_v g c (some p))) (f (wall_v g c (step g x p)))
        ∙ (λ k. (own f (wall_h g c) i hh ∙ ea) k || (next f (wall_h g c) i hh w sw k || ((own f (wall_v g c) j vv ∙ eb) k || next f (wall_v g c) j vv x sx k)))

    point-flags : (s : Bool) → flags g c p s ≡ flags_from t cap (base g) n s
    unfolding flags derived ends sides flags_from
    point-flags s =
        let complete : c p ≡ flag_of t complete_bit n = said-cell o n u in
        let eh = boundary_h-flag n u l in
        let ev = boundary_v-flag n u l in
        let ih = green_h-flag n u l in
        let iv = green_v-flag n u l in
        let bdy-point = around is_boundary bdy_wall_h_bit bdy_wall_v_bit (boundary_h t cap (base g) n) (boundary_v t cap (base g) n) h-boundary v-boundary eh ev W S tt tt in
        let bdy-cell = around is_boundary bdy_wall_h_bit bdy_wall_v_bit (boundary_h t cap (base g) n) (boundary_v t cap (base g) n) h-boundary v-boundary eh ev N E tt tt in
        let grn-point = around is_green grn_wall_h_bit grn_wall_v_bit (green_h t cap (base g) n) (green_v t cap (base g) n) h-green v-green ih iv W S tt tt in
        let grn-cell = around is_green grn_wall_h_bit grn_wall_v_bit (green_h t cap (base g) n) (green_v t cap (base g) n) h-green v-green ih iv N E tt tt in
        let wall-h = wall_h-cells g c p ∙ ap₂ ◌||◌ complete (south-link o n u) in
        let wall-v = wall_v-cells g c p ∙ ap₂ ◌||◌ complete (west-link o n u) in
        λ i.
        complete i ∷
        wall-h i ∷
        wall-v i ∷
        bdy-point i ∷
        (own is_boundary (wall_h g c) bdy_wall_h_bit h-boundary ∙ eh) i ∷
        (own is_boundary (wall_v g c) bdy_wall_v_bit v-boundary ∙ ev) i ∷
        (complete i && bdy-cell i) ∷
        grn-point i ∷
        (own is_green (wall_h g c) grn_wall_h_bit h-green ∙ ih) i ∷
        (own is_green (wall_v g c) grn_wall_v_bit v-green ∙ iv) i ∷
        (complete i && grn-cell i) ∷
        false ∷
        s ∷
        false ∷
        []

  -- the flags' word of a row in use
  pub flags-word : (n : ℕ) → Used cap t n → word_of t n flags_word ≡ digits (flags g (cells es) (said_place g t n) (flag_of t sentenced_bit n))
  flags-word n u = go (dec_lt (depth_of t (base g) n) (base g))
    where
      go : Dec (depth_of t (base g) n < base g) → word_of t n flags_word ≡ digits (flags g (cells es) (said_place g t n) (flag_of t sentenced_bit n))
      go (yes l) = rw (ghost-flag o.tested n u l sentenced_bit) ((ghost-facts cap t n ((o.tested.row n u).ghost l)).flags ∙ sym (ghost-flags g (cells es) (cells-mesh o) (said_place g t n) (rw (said-depth g t n) l)))
      go (no l) =
          let k : base g ≤ depth_of t (base g) n = omega (arith, l) in
          (point-facts g cap t n ((o.tested.row n u).point k)).flags ∙ ap digits (sym (point-flags n u k (flag_of t sentenced_bit n)))
