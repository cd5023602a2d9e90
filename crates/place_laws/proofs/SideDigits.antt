-- A step to a side by the last digits of the indices: it stays among the parent's kids, or it leads to a kid of the parent's neighbour on that
-- side, and in both cases the digits alone say to which kid.
-- Assumes nothing.
use Prim.Native.Nat.{ℕ, zero, suc, pred, ◌+◌, ◌*◌, ◌/◌, ◌%◌, ◌≤◌, ◌<◌}
use native.Mathlib.Omega.{arith}
use native.Mathlib.Decide.{ℕ_discrete}
use mathlib.Core.Path.{◌≡◌, refl, sym, ap, ◌∙◌}
use mathlib.Core.Logic.{◌≢◌, inl, inr}
use mathlib.Core.Bool.{Bool, true, ◌&&◌, cond}
use mathlib.Core.Option.{Option, none, some, map, some-injective}
use mathlib.Core.List.{List, [], ◌∷◌}
use lib.Dec.{T, leb}
use Rattle.mesh.specs.Place.{Place, Grid, at, lap, to_north, to_east, step, kid, parent, compass, side_winds, Wind, NE, SE, SW, NW, N, E, S, W}
use Rattle.mesh.specs.Winds.{◌of◌}
use Rattle.mesh.proofs.Winds.{rule}
use Rattle.place_laws.proofs.Places.{place-path}
use Rattle.place_laws.proofs.Steps.{north-depth, north-j, east-depth, east-i, north-on, north-anew, south-on, south-anew, south-end, east-on, west-on, west-end, south-north, west-east, step-north, step-east}
use Rattle.place_laws.proofs.Laps.{Smooth, NorthPaired, SouthPaired, north-paired, south-paired, after-other}
use Rattle.place_laws.proofs.Kids.{up, up_is, parent-depth, kid-depth, up-kid}

-- ---- a kid by its digits

-- the kid whose column ends in the digit l and whose row ends in the digit m
unfoldable pub kid_by : ℕ → ℕ → Place → Place
kid_by l m p = at (suc p.depth) (2 * p.i + l) (2 * p.j + m)

pub kid-by : (w : Wind) (p : Place) → kid w p ≡ kid_by ((compass w).east / 2) ((compass w).north / 2) p
unfolding kid kid_by
kid-by w p = refl

pub kid-by-parent : (l m : ℕ) (p : Place) → l ≤ 1 → m ≤ 1 → parent (kid_by l m p) ≡ some p
unfolding kid_by parent
kid-by-parent l m p a b =
    let x : (2 * p.i + l) / 2 ≡ p.i = omega arith in
    let y : (2 * p.j + m) / 2 ≡ p.j = omega arith in
    ap some (place-path (at p.depth ((2 * p.i + l) / 2) ((2 * p.j + m) / 2)) p refl x y)

pub kid-by-digits : (l m : ℕ) (p : Place) → l ≤ 1 → m ≤ 1 → ((kid_by l m p).i % 2 ≡ l) × ((kid_by l m p).j % 2 ≡ m)
unfolding kid_by
kid-by-digits l m p a b =
    let x : (2 * p.i + l) % 2 ≡ l = omega arith in
    let y : (2 * p.j + m) % 2 ≡ m = omega arith in
    (x, y)

-- every place but the root is the kid that its digits say
pub by_digits : (p : Place) → 0 < p.depth → p ≡ kid_by (p.i % 2) (p.j % 2) (up p)
unfolding kid_by up
by_digits p h = place-path p (at (suc (pred p.depth)) (2 * (p.i / 2) + p.i % 2) (2 * (p.j / 2) + p.j % 2)) (omega arith) (omega arith) (omega arith)

pub parent_by : (q p : Place) → parent q ≡ some p → q ≡ kid_by (q.i % 2) (q.j % 2) p
parent_by q p e = by_digits q (omega (arith, parent-depth q p e)) ∙ ap (kid_by (q.i % 2) (q.j % 2)) (up_is q p e)

-- ---- a step by digits

-- a wind of the four sides
abbrev pub aside : Wind → Bool
aside w = w of side_winds

pub opposite-aside : (w : Wind) → T (aside w) → T (aside (compass w).opposite)
opposite-aside N t = tt
opposite-aside E t = tt
opposite-aside S t = tt
opposite-aside W t = tt
opposite-aside NE t = absurd t
opposite-aside SE t = absurd t
opposite-aside SW t = absurd t
opposite-aside NW t = absurd t

-- what one of the four has, the list of the four has
pub among-sides : (P : Wind → Type 0) (Q : List Wind → Type 0) → ((w : Wind) (ws : List Wind) → P w → Q (w ∷ ws)) → ((w : Wind) (ws : List Wind) → Q ws → Q (w ∷ ws))
    → (w : Wind) → T (aside w) → P w → Q side_winds
among-sides P Q first later N t h = first N (E ∷ S ∷ W ∷ []) h
among-sides P Q first later E t h = later N (E ∷ S ∷ W ∷ []) (first E (S ∷ W ∷ []) h)
among-sides P Q first later S t h = later N (E ∷ S ∷ W ∷ []) (later E (S ∷ W ∷ []) (first S (W ∷ []) h))
among-sides P Q first later W t h = later N (E ∷ S ∷ W ∷ []) (later E (S ∷ W ∷ []) (later S (W ∷ []) (first W [] h)))
among-sides P Q first later NE t h = absurd t
among-sides P Q first later SE t h = absurd t
among-sides P Q first later SW t h = absurd t
among-sides P Q first later NW t h = absurd t

-- a digit moved by an offset (one too large) is still one of the same two
abbrev pub within : ℕ → Bool
within a = leb 1 a && leb a 2

-- the digits moved by the offsets of a wind
abbrev pub i_moved : Wind → Place → ℕ
i_moved w p = p.i % 2 + (compass w).east

abbrev pub j_moved : Wind → Place → ℕ
j_moved w p = p.j % 2 + (compass w).north

-- the step stays among the parent's kids
abbrev pub stays : Wind → Place → Bool
stays w p = within (i_moved w p) && within (j_moved w p)

-- by the two values of a digit
pub digit : {A : Type 0} (n : ℕ) → (n % 2 ≡ 0 → A) → (n % 2 ≡ 1 → A) → A
digit {A = A} n a b = go (n % 2) refl
  where
    go : (d : ℕ) → n % 2 ≡ d → A
    go zero e = a e
    go (suc zero) e = b e
    go (suc (suc d)) e = absurd (omega arith)

pub within-still : (n : ℕ) → within (n % 2 + 1) ≡ true
within-still n = digit n (λ e. rw e) (λ e. rw e)

is-kid : (e i j x y l m : ℕ) → 0 < e → i ≡ 2 * x + l → j ≡ 2 * y + m → some (at e i j) ≡ some (kid_by l m (at (pred e) x y))
unfolding kid_by
is-kid e i j x y l m h a b = ap some (place-path (at e i j) (at (suc (pred e)) (2 * x + l) (2 * y + m)) (omega arith) a b)

module _ (g : Grid) where
  -- where a step leads, from the parent or from where the same step leads from the parent
  abbrev ByDigits : Wind → Place → Type 0
  ByDigits w p = step g w p ≡ map (kid_by ((i_moved w p + 1) % 2) ((j_moved w p + 1) % 2)) (cond (stays w p) (some (up p)) (step g w (up p)))

  east-digits : (d i j : ℕ) → 0 < d → ByDigits E (at d i j)
  unfolding up
  east-digits d i j h =
      rw (within-still j, step-east g (at d i j), east-on g d i j, step-east g (at (pred d) (i / 2) (j / 2)), east-on g (pred d) (i / 2) (j / 2))
      (digit i (λ e. rw e (is-kid d (suc i) j (i / 2) (j / 2) 1 ((j % 2 + 1 + 1) % 2) h (omega arith) (omega arith)))
      (λ e. rw e (is-kid d (suc i) j (suc (i / 2)) (j / 2) 0 ((j % 2 + 1 + 1) % 2) h (omega arith) (omega arith))))

  west-digits : (d i j : ℕ) → 0 < d → ByDigits W (at d i j)
  unfolding up
  west-digits d zero j h = rw (west-end g d 0 j, west-end g (pred d) 0 (j / 2))
  west-digits d (suc i) j h =
      rw (within-still j, west-on g d i j)
      (digit (suc i) (λ e.
      let k : suc i / 2 ≡ suc (i / 2) = omega arith in
      rw (e, k, west-on g (pred d) (i / 2) (j / 2)) (is-kid d i j (i / 2) (j / 2) 1 ((j % 2 + 1 + 1) % 2) h (omega arith) (omega arith)))
      (λ e. rw e (is-kid d i j (suc i / 2) (j / 2) 0 ((j % 2 + 1 + 1) % 2) h (omega arith) (omega arith))))

  module _ (d i : ℕ) (h : 0 < d) where
    abbrev l : ℕ
    l = (i % 2 + 1 + 1) % 2

    abbrev NorthClear : ℕ → Type 0
    NorthClear j = NorthPaired (lap g d) (lap g (pred d)) j

    abbrev SouthClear : ℕ → Type 0
    SouthClear j = SouthPaired (lap g d) (lap g (pred d)) j

    -- from an even row to the odd one of the same pair, and from the odd one to the next pair
    north-digits : (j : ℕ) → NorthClear j → ByDigits N (at d i j)
    unfolding up
    north-digits j c =
        rw (within-still i, step-north g (at d i j), step-north g (at (pred d) (i / 2) (j / 2)))
        (digit j (λ e. rw (e, north-on g d i j (among e c)) (is-kid d i (suc j) (i / 2) (j / 2) l 1 h (omega arith) (omega arith)))
        (λ e. rw e (out e c (ℕ_discrete (suc j) (lap g d)))))
      where
        among : j % 2 ≡ 0 → NorthClear j → suc j ≢ lap g d
        among e (inl y) z = omega arith
        among e (inr (_, y)) z = y z

        on : j % 2 ≡ 1 → NorthClear j → suc j ≢ lap g d → suc (j / 2) ≢ lap g (pred d)
        on e (inl y) z k = z (omega arith)
        on e (inr (y, _)) z k = omega arith

        out : j % 2 ≡ 1 → NorthClear j → Dec (suc j ≡ lap g d) → some (to_north g (at d i j)) ≡ some (kid_by l 0 (to_north g (at (pred d) (i / 2) (j / 2))))
        out e (inl y) (yes z) = rw (north-anew g d i j z, north-anew g (pred d) (i / 2) (j / 2) (omega arith)) (is-kid d i 0 (i / 2) 0 l 0 h (omega arith) (omega arith))
        out e (inr (_, y)) (yes z) = absurd (y z)
        out e y (no z) = rw (north-on g d i j z, north-on g (pred d) (i / 2) (j / 2) (on e y z)) (is-kid d i (suc j) (i / 2) (suc (j / 2)) l 0 h (omega arith) (omega arith))

    -- from the first row to the last one, if there is one
    south-first : (m : ℕ) → lap g (pred d) ≡ m → lap g d ≡ 2 * m → ByDigits S (at d i 0)
    unfolding up
    south-first zero f c = rw (within-still i, south-end g d i 0 (sym c), south-end g (pred d) (i / 2) 0 (sym f))
    south-first (suc m) f c =
        rw (within-still i, south-anew g d i (2 * m + 1) (omega arith), south-anew g (pred d) (i / 2) m (sym f))
        (is-kid d i (2 * m + 1) (i / 2) m l 1 h (omega arith) refl)

    -- from an odd row to the even one of the same pair, and from the even one to the pair before
    south-digits : (j : ℕ) → SouthClear j → ByDigits S (at d i j)
    unfolding up
    south-digits zero (inl c) = south-first (lap g (pred d)) refl c
    south-digits zero (inr (_, c, _)) = absurd (omega arith)
    south-digits (suc j) c =
        rw (within-still i)
        (digit (suc j) (λ e. let s : suc j / 2 ≡ suc (j / 2) = omega arith in rw (e, s) (out e c (ℕ_discrete (suc j) (lap g d))))
        (λ e. rw (e, south-on g d i j (among e c)) (is-kid d i j (i / 2) (suc j / 2) l 0 h (omega arith) (omega arith))))
      where
        among : suc j % 2 ≡ 1 → SouthClear (suc j) → suc j ≢ lap g d
        among e (inl y) z = omega arith
        among e (inr (_, _, y)) z = y z

        on : suc j % 2 ≡ 0 → SouthClear (suc j) → suc j ≢ lap g d → suc (j / 2) ≢ lap g (pred d)
        on e (inl y) z k = z (omega arith)
        on e (inr (y, _, _)) z k = omega arith

        out : suc j % 2 ≡ 0 → SouthClear (suc j) → Dec (suc j ≡ lap g d) → step g S (at d i (suc j)) ≡ map (kid_by l 1) (step g S (at (pred d) (i / 2) (suc (j / 2))))
        out e (inl y) (yes z) = rw (south-end g d i (suc j) z, south-end g (pred d) (i / 2) (suc (j / 2)) (omega arith))
        out e (inr (_, _, y)) (yes z) = absurd (y z)
        out e y (no z) = rw (south-on g d i j z, south-on g (pred d) (i / 2) (j / 2) (on e y z)) (is-kid d i j (i / 2) (j / 2) l 1 h (omega arith) (omega arith))

  pub step-digits : (w : Wind) → T (aside w) → (p : Place) → 0 < p.depth → Smooth g w p
      → step g w p ≡ map (kid_by ((i_moved w p + 1) % 2) ((j_moved w p + 1) % 2)) (cond (stays w p) (some (up p)) (step g w (up p)))
  step-digits N t p h s = north-digits p.depth p.i h p.j (north-paired g p h s)
  step-digits E t p h s = east-digits p.depth p.i p.j h
  step-digits S t p h s = south-digits p.depth p.i h p.j (south-paired g p h s)
  step-digits W t p h s = west-digits p.depth p.i p.j h
  step-digits NE t p h s = absurd t
  step-digits SE t p h s = absurd t
  step-digits SW t p h s = absurd t
  step-digits NW t p h s = absurd t

  -- the parent's place of where a step leads
  pub step-up : (w : Wind) → T (aside w) → (p : Place) → 0 < p.depth → Smooth g w p → map up (step g w p) ≡ cond (stays w p) (some (up p)) (step g w (up p))
  step-up w t p h s = rw (step-digits w t p h s) (back ((i_moved w p + 1) % 2) ((j_moved w p + 1) % 2) (omega arith) (omega arith) (cond (stays w p) (some (up p)) (step g w (up p))))
    where
      back : (l m : ℕ) → l ≤ 1 → m ≤ 1 → (o : Option Place) → map up (map (kid_by l m) o) ≡ o
      back l m a b none = refl
      back l m a b (some q) = ap some (up_is (kid_by l m q) q (kid-by-parent l m q a b))

  pub step-depth : (w : Wind) → T (aside w) → (p q : Place) → step g w p ≡ some q → q.depth ≡ p.depth
  step-depth N t p q e = rw (← some-injective _ _ (sym (step-north g p) ∙ e)) (north-depth g p)
  step-depth E t p q e = rw (← some-injective _ _ (sym (step-east g p) ∙ e)) (east-depth g p)
  step-depth S t p q e = rw (← south-north g p q e) (sym (north-depth g q))
  step-depth W t p q e = rw (← west-east g p q e) (sym (east-depth g q))
  step-depth NE t p q e = absurd t
  step-depth SE t p q e = absurd t
  step-depth SW t p q e = absurd t
  step-depth NW t p q e = absurd t

  -- a step leads elsewhere, unless the level has one row alone and goes round
  pub step_other : (w : Wind) → T (aside w) → (p : Place) → lap g p.depth ≢ 1 → step g w p ≡ some p → ⊥
  step_other w t p one = by w t
    where
      north : to_north g p ≢ p
      north e = after-other (lap g p.depth) p.j one (sym (north-j g p) ∙ ap (λ (x : Place). x.j) e)

      east : to_east g p ≢ p
      east e = omega (arith, east-i g p, ap (λ (x : Place). x.i) e)

      by : (w : Wind) → T (aside w) → step g w p ≡ some p → ⊥
      by N t e = north (some-injective _ _ (sym (step-north g p) ∙ e))
      by E t e = east (some-injective _ _ (sym (step-east g p) ∙ e))
      by S t e = north (south-north g p p e)
      by W t e = east (west-east g p p e)
      by NE t e = absurd t
      by SE t e = absurd t
      by SW t e = absurd t
      by NW t e = absurd t

  -- of a kid, whose digits its wind says
  pub step-kid : (w v : Wind) → T (aside w) → (p : Place) → Smooth g w (kid v p)
      → step g w (kid v p)
      ≡ map (kid_by (((compass v).east / 2 + (compass w).east + 1) % 2) (((compass v).north / 2 + (compass w).north + 1) % 2))
      (cond (within ((compass v).east / 2 + (compass w).east) && within ((compass v).north / 2 + (compass w).north)) (some p) (step g w p))
  step-kid w v t p s =
      let (x, y) = kid-by-digits ((compass v).east / 2) ((compass v).north / 2) p (omega (arith, (rule v).east-back)) (omega (arith, (rule v).north-back)) in
      let e : (kid v p).i % 2 ≡ (compass v).east / 2 = ap (λ (r : Place). r.i % 2) (kid-by v p) ∙ x in
      let f : (kid v p).j % 2 ≡ (compass v).north / 2 = ap (λ (r : Place). r.j % 2) (kid-by v p) ∙ y in
      step-digits w t (kid v p) (omega (arith, kid-depth v p)) s ∙ rw (e, f, up-kid v p)
