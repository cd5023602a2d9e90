-- The cells of a table that passes the test make a mesh: the rules are asked of each row by its links, and down from the root the ghosts lead to
-- a patch on level 0, which is touched by a cell.
-- Assumes nothing.
use Prim.Native.Nat.{ℕ, zero, suc, ◌+◌, ◌%◌, ◌≤◌, ◌<◌}
use native.Mathlib.Omega.{arith}
use native.Mathlib.Decide.{ℕ_discrete, dec_lt}
use mathlib.Core.Path.{◌≡◌, refl, sym, ap, ◌∙◌}
use mathlib.Core.Logic.{◌≢◌, ◌⊎◌, inl, inr}
use mathlib.Core.Bool.{Bool, true, false, ◌||◌}
use mathlib.Core.Option.{Option, none, some}
use mathlib.Core.List.{List}
use lib.Dec.{T, lit<}
use lib.IntN.{ℤ}
use lib.Ieee.{Float}
use Rattle.mesh.specs.Place.{Place, Grid, base, parent, step, kids, SW, S, W}
use Rattle.mesh.specs.Mesh.{Mesh, on, touched, has_kids, complete_bit}
use Rattle.mesh.specs.State.{Entry, cells, number, number_of}
use Rattle.table.specs.Words.{link_of, flag_of, depth_of}
use Rattle.worked.specs.Worked.{kid_word, touched_in}
use Rattle.place_laws.proofs.Bools.{is-yes, or_left, or_right, or_cases}
use Rattle.mesh.specs.Tools.{all}
use Rattle.mesh.specs.Picture.{south_word, west_word}
use Rattle.place_laws.proofs.Kids.{parent-depth, kids-all, has-kid}
use Rattle.place_laws.proofs.Near.{corner-depth, touched-corner}
use Rattle.place_laws.proofs.Steps.{southwest}
use Rattle.place_laws.proofs.SideDigits.{kid-by-parent, parent_by}
use Rattle.checker_laws.proofs.Facts.{Used, said_place}
use Rattle.checker_laws.proofs.Climbing.{said-depth, said-i, said-j, root_said}
use Rattle.checker_laws.proofs.WordsBack.{flag-zero}
use Rattle.checker_laws.proofs.Patches.{KidCells, CellRow, ghost-facts, point-facts}
use Rattle.checker_laws.proofs.Reading.{Reads, ghost-flag}
use Rattle.checker_laws.proofs.Linking.{number-cases, number-used, zero-link, parent-link, kid-said, kids-link, side-link, cell-flag, on-flag, said-cell}

module _ {g : Grid} {cap : ℕ} {t : List ℤ} {v : List Float} {es : List Entry} (o : Reads g cap t v es) where
  -- ---- rows by places

  -- a row in use stands at the place
  abbrev pub Stands : Place → Type 0
  Stands p = (n : ℕ) × Used cap t n × (said_place g t n ≡ p)

  -- a link's number that is not 0 is the row's at the link's place
  pub linked : (x : Option Place) → number_of es x ≢ 0 → Used cap t (number_of es x) × (x ≡ some (said_place g t (number_of es x)))
  linked none z = absurd (z refl)
  linked (some q) z = go (number-cases o q)
    where
      go : (number es q ≡ 0) ⊎ (Used cap t (number es q) × (said_place g t (number es q) ≡ q)) → Used cap t (number es q) × (some q ≡ some (said_place g t (number es q)))
      go (inl e) = absurd (z e)
      go (inr (u, s)) = (u, ap some (sym s))

  no_flag : T (flag_of t complete_bit 0) → ⊥
  no_flag h = let z : T false = rw (flag-zero t 0 complete_bit o.tested.zero_flags) at h in z

  -- a cell has a row, which says so
  pub cell_row : (p : Place) → T (cells es p) → (n : ℕ) × Used cap t n × (said_place g t n ≡ p) × T (flag_of t complete_bit n)
  cell_row p h = go (number-cases o p) (rw (cell-flag o p) at h)
    where
      go : (number es p ≡ 0) ⊎ (Used cap t (number es p) × (said_place g t (number es p) ≡ p)) → T (flag_of t complete_bit (number es p)) → (n : ℕ) × Used cap t n × (said_place g t n ≡ p) × T (flag_of t complete_bit n)
      go (inl e) c = absurd (no_flag (rw e at c))
      go (inr (u, s)) c = (number es p, u, s, c)

  -- ---- rows from level 0 up

  pub cell-low : (n : ℕ) → Used cap t n → T (flag_of t complete_bit n) → base g ≤ depth_of t (base g) n
  cell-low n u c = go (dec_lt (depth_of t (base g) n) (base g))
    where
      go : Dec (depth_of t (base g) n < base g) → base g ≤ depth_of t (base g) n
      go (yes l) = absurd (let z : T false = rw (ghost-flag o.tested n u l complete_bit) at c in z)
      go (no l) = omega (arith, l)

  pub cell-facts : (n : ℕ) → Used cap t n → T (flag_of t complete_bit n) → CellRow g cap t n
  cell-facts n u c = (point-facts g cap t n ((o.tested.row n u).point (cell-low n u c))).cell c

  pub west-link : (n : ℕ) → Used cap t n → on g (cells es) (step g W (said_place g t n)) ≡ flag_of t complete_bit (link_of t cap n west_word)
  west-link n u = on-flag o (step g W (said_place g t n)) ∙ ap (flag_of t complete_bit) (side-link o W tt n u)

  pub south-link : (n : ℕ) → Used cap t n → on g (cells es) (step g S (said_place g t n)) ≡ flag_of t complete_bit (link_of t cap n south_word)
  south-link n u = on-flag o (step g S (said_place g t n)) ∙ ap (flag_of t complete_bit) (side-link o S tt n u)

  southwest-link : (n : ℕ) → Used cap t n → T (flag_of t complete_bit (link_of t cap (link_of t cap n west_word) south_word)) → T (on g (cells es) (step g SW (said_place g t n)))
  southwest-link n u c = go (ℕ_discrete (link_of t cap n west_word) 0)
    where
      go : Dec (link_of t cap n west_word ≡ 0) → T (on g (cells es) (step g SW (said_place g t n)))
      go (yes z) =
          let e : link_of t cap (link_of t cap n west_word) south_word ≡ 0 = ap (λ (k : ℕ). link_of t cap k south_word) z ∙ zero-link o south_word (lit< tt) in
          absurd (no_flag (rw e at c))
      go (no z) =
          let w = step g W (said_place g t n) in
          let e : number_of es w ≡ link_of t cap n west_word = side-link o W tt n u in
          let (k, s) = linked w (λ y. z (sym e ∙ y)) in
          let d : T (on g (cells es) (step g S (said_place g t (number_of es w)))) = rw (south-link (number_of es w) k, e) c in
          rw (southwest g (said_place g t n), s) d

  -- a row from level 0 up is touched
  pub row-touched : (n : ℕ) → Used cap t n → base g ≤ depth_of t (base g) n → T (touched g (cells es) (said_place g t n))
  unfolding touched touched_in
  row-touched n u l = one (or_cases a (b || (c || d)) (point-facts g cap t n ((o.tested.row n u).point l)).touched)
    where
      a : Bool
      a = flag_of t complete_bit n

      b : Bool
      b = flag_of t complete_bit (link_of t cap n west_word)

      c : Bool
      c = flag_of t complete_bit (link_of t cap n south_word)

      d : Bool
      d = flag_of t complete_bit (link_of t cap (link_of t cap n west_word) south_word)

      x : Bool
      x = on g (cells es) (step g W (said_place g t n))

      y : Bool
      y = on g (cells es) (step g S (said_place g t n))

      z : Bool
      z = on g (cells es) (step g SW (said_place g t n))

      three : T c ⊎ T d → T (y || z)
      three (inl h) = or_left y z (rw (south-link n u) h)
      three (inr h) = or_right y z (southwest-link n u h)

      two : T b ⊎ T (c || d) → T (x || (y || z))
      two (inl h) = or_left x (y || z) (rw (west-link n u) h)
      two (inr h) = or_right x (y || z) (three (or_cases c d h))

      one : T a ⊎ T (b || (c || d)) → T (cells es (said_place g t n) || (x || (y || z)))
      one (inl h) = or_left (cells es (said_place g t n)) (x || (y || z)) (rw (said-cell o n u) h)
      one (inr h) = or_right (cells es (said_place g t n)) (x || (y || z)) (two (or_cases b (c || d) h))

  -- a ghost has a kid
  pub ghost-kid-row : (n : ℕ) → Used cap t n → depth_of t (base g) n < base g → (k : ℕ) × Used cap t k × (parent (said_place g t k) ≡ some (said_place g t n))
  ghost-kid-row n u l =
      let (i, j, a, b, z) = (ghost-facts cap t n ((o.tested.row n u).ghost l)).kid in
      let (uk, s) = kid-said o n i j u a b z in
      (link_of t cap n (kid_word i j), uk, ap parent s ∙ kid-by-parent i j (said_place g t n) a b)

  -- ---- down to level 0

  down : (e n : ℕ) → Used cap t n → (said_place g t n).depth + e ≡ base g → (p : Place) × (p.depth ≡ base g) × T (cells es p)
  down zero n u d =
      let l : base g ≤ depth_of t (base g) n = omega (arith, said-depth g t n) in
      let (r, k, c) = touched-corner g (cells es) (said_place g t n) (row-touched n u l) in
      (r, omega (arith, corner-depth k), c)
  down (suc e) n u d =
      let (k, uk, s) = ghost-kid-row n u (omega (arith, said-depth g t n)) in
      down e k uk (omega (arith, parent-depth (said_place g t k) (said_place g t n) s))

  -- ---- the mesh

  -- a kid's place is a cell exactly if the kid's word says so
  pub kid-cell : (n : ℕ) → Used cap t n → (q : Place) → parent q ≡ some (said_place g t n) → cells es q ≡ flag_of t complete_bit (link_of t cap n (kid_word (q.i % 2) (q.j % 2)))
  kid-cell n u q e =
      let (l, m) : ℕ × ℕ = (q.i % 2, q.j % 2) in
      cell-flag o q
      ∙ ap (flag_of t complete_bit) (ap (number es) (parent_by q (said_place g t n) e) ∙ kids-link o l m (omega arith) (omega arith) (some (said_place g t n)) ∙ ap (λ (k : ℕ). link_of t cap k (kid_word l m)) (number-used o n u))

  kids-are : (n : ℕ) → Used cap t n → (b : Bool) → KidCells cap t n b → (q : Place) → parent q ≡ some (said_place g t n) → cells es q ≡ b
  kids-are n u b h q e = kid-cell n u q e ∙ h (q.i % 2) (q.j % 2) (omega arith) (omega arith)

  pub kidless : (n : ℕ) → Used cap t n → KidCells cap t n false → (q : Place) → parent q ≡ some (said_place g t n) → T (cells es q) → ⊥
  kidless n u h q e c = let z : T false = rw (kids-are n u false h q e) at c in z

  row-four : (n : ℕ) → Used cap t n → T (flag_of t complete_bit n) → T (has_kids g (cells es) (said_place g t n)) → T (all (cells es) (kids (said_place g t n)))
  row-four n u c k = go (cell-facts n u c).kids
    where
      go : KidCells cap t n true ⊎ KidCells cap t n false → T (all (cells es) (kids (said_place g t n)))
      go (inl h) = kids-all (cells es) (said_place g t n) (λ q e. is-yes (cells es q) (kids-are n u true h q e))
      go (inr h) = let (q, e, x) = has-kid g (cells es) (said_place g t n) k in absurd (kidless n u h q e x)

  row-above : (n : ℕ) → Used cap t n → T (flag_of t complete_bit n) → base g < depth_of t (base g) n → T (on g (cells es) (parent (said_place g t n)))
  row-above n u c l = rw (on-flag o (parent (said_place g t n)), parent-link o n u) ((cell-facts n u c).above (λ e. omega arith))

  pub cells-mesh : Mesh g (cells es)
  cells-mesh = record {
    some-cell = down (base g) 1 o.tested.root-used (rw (root_said o.tested) (omega arith));
    inside = λ p c e.
        let (n, u, s, f) = cell_row p c in
        let (x, y) = (cell-facts n u f).inside (sym (said-depth g t n) ∙ ap (λ (q : Place). q.depth) s ∙ e) in
        rw (← s) (rw (said-i g t n, said-j g t n) (x, y));
    low = λ p c. let (n, u, s, f) = cell_row p c in rw (← s) (rw (said-depth g t n) (cell-low n u f));
    high = λ p c. let (n, u, s, f) = cell_row p c in rw (← s) (rw (said-depth g t n) (o.tested.row n u).deep);
    above = λ p c l.
        let (n, u, s, f) = cell_row p c in
        rw s at (row-above n u f (omega (arith, said-depth g t n, ap (λ (q : Place). q.depth) s)));
    four = λ p c k. let (n, u, s, f) = cell_row p c in rw s at (row-four n u f (rw s k));
  }
