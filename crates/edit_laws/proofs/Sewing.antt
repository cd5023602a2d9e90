-- The seam of a ring: a table whose links are those of an open grid becomes the ring's when the first and the last row of level 0 name each
-- other.
-- Assumes nothing.
use Prim.Native.Nat.{ℕ, zero, suc, ◌+◌, ◌-◌, ◌*◌, ◌≤◌, ◌<◌}
use native.Mathlib.Omega.{arith}
use native.Mathlib.Decide.{dec_lt, ℕ_discrete}
use mathlib.Core.Path.{◌≡◌, refl, sym, ap, ◌∙◌, subst}
use mathlib.Core.Logic.{◌≢◌, ◌⊎◌, inl, inr}
use mathlib.Core.Bool.{Bool, true, false, cond}
use mathlib.Core.Option.{Option, none, some}
use mathlib.Core.List.{List, [], ◌∷◌, ◌++◌}
use lib.Dec.{eqb}
use lib.IntN.{ℤ, pos}
use lib.ListN.{length, get_or}
use borrow.Author.Tests.{eq-eqb, ne_eqb}
use Rattle.edit_laws.specs.Rooted.{Rooted}
use Rattle.edit_laws.specs.BuildSoFar.{InTurn}
use Rattle.mesh.specs.Place.{Place, Grid, at, root, base, level, lap, is_ring, then, step, around, N, E, S, W, In}
use Rattle.mesh.specs.Seam.{opened}
use Rattle.mesh.specs.State.{Entry, nil, free, used, place_of, entry, number, number_of}
use Rattle.mesh.specs.Picture.{row_words}
use Rattle.place_laws.proofs.Steps.{lap-ghost, lap-open, north-on, north-anew, south-on, south-anew, south-end, east-on, west-on, west-end, step-north, step-east}
use Rattle.place_laws.proofs.Laps.{Below, lap-base}
use Rattle.place_laws.proofs.Places.{place-path, in-cases, in-here, in-there}
use Rattle.number_laws.proofs.Entries.{in_list}
use Rattle.number_laws.proofs.NumberedPlaces.{place-number, off-root}
use Rattle.table.specs.Words.{code, word_of, link_of}
use Rattle.worked.specs.Worked.{kid_word, down_to}
use Rattle.worked.proofs.Offsets.{kid-word-range}
use Rattle.table_laws.proofs.DownRows.{KidsNamed, down_to_lem}
use Rattle.edit_laws.specs.Linked.{Flags, fields_with, table_with}
use Rattle.edit_laws.specs.PatchSteps.{put_word}
use Rattle.edit_laws.specs.Built.{each_row, seam_row}
use Rattle.edit_laws.proofs.Slots.{word, Slot, Hit, hit-early, hit_later, hit-cases, Off, off_at, untouched, write, settled}
use Rattle.edit_laws.proofs.Linked.{linked-length, word-link, word-field, word-i, word-j, word-nil}
use Rattle.edit_laws.proofs.Named.{kid-link}

-- ---- steps that do not cross the seam

module _ (g : Grid) where
  same-north : (p : Place) → suc p.j ≢ lap g p.depth → step g N p ≡ step (opened g) N p
  same-north p h =
      rw (step-north g p, step-north (opened g) p)
      (ap some (north-on g p.depth p.i p.j h ∙ sym (north-on (opened g) p.depth p.i p.j (λ e. omega (arith, lap-open (opened g) p.depth refl)))))

  same-south : (p : Place) → (lap g p.depth ≡ 0) ⊎ ((0 < p.j) × (p.j ≢ lap g p.depth)) → step g S p ≡ step (opened g) S p
  same-south p h = go p.depth p.i p.j h
    where
      go : (d i j : ℕ) → (lap g d ≡ 0) ⊎ ((0 < j) × (j ≢ lap g d)) → step g S (at d i j) ≡ step (opened g) S (at d i j)
      go d i zero (inl z) = south-end g d i 0 (sym z) ∙ sym (south-end (opened g) d i 0 (sym (lap-open (opened g) d refl)))
      go d i zero (inr (l, h)) = absurd (omega arith)
      go d i (suc j) h = south-on g d i j (on h) ∙ sym (south-on (opened g) d i j (λ k. omega (arith, lap-open (opened g) d refl)))
        where
          on : (lap g d ≡ 0) ⊎ ((0 < suc j) × (suc j ≢ lap g d)) → suc j ≢ lap g d
          on (inl z) k = omega arith
          on (inr (l, h)) k = h k

  same-east : (o : Option Place) → then (step (opened g) E) o ≡ then (step g E) o
  same-east none = refl
  same-east (some p) = rw (step-east g p, step-east (opened g) p) (ap some (east-on (opened g) p.depth p.i p.j ∙ sym (east-on g p.depth p.i p.j)))

  same-west : (o : Option Place) → then (step (opened g) W) o ≡ then (step g W) o
  same-west none = refl
  same-west (some p) = go p.depth p.i p.j
    where
      go : (d i j : ℕ) → step (opened g) W (at d i j) ≡ step g W (at d i j)
      go d zero j = west-end (opened g) d 0 j ∙ sym (west-end g d 0 j)
      go d (suc i) j = west-on (opened g) d i j ∙ sym (west-on g d i j)

-- ---- the words that differ

module _ {g : Grid} {cap : ℕ} {es : List Entry} (r : Rooted g cap es) (f : Flags) (ring : is_ring g ≡ true) (many : 2 ≤ g.rows) where
  abbrev sewn : List ℤ
  sewn = table_with g es f

  abbrev unsewn : List ℤ
  unsewn = table_with (opened g) es f

  -- of the row n, at a place of level 0
  abbrev slots : ℕ → Place → List Slot
  slots n q = cond (eqb q.j (g.rows - 1)) ((n, 5) ∷ []) (cond (eqb q.j 0) ((n, 7) ∷ []) [])

  abbrev slots_from : ℕ → List Place → List Slot
  slots_from n [] = []
  slots_from n (q ∷ qs) = slots n q ++ slots_from (n + 1) qs

  -- links to the north and to the south
  slot-words : (n w a : ℕ) (qs : List Place) → Hit n w (slots_from a qs) → (w ≡ 5) ⊎ (w ≡ 7)
  slot-words n w a [] h = absurd h
  slot-words n w a (q ∷ qs) h = go (hit-cases n w (slots a q) (slots_from (a + 1) qs) h) (slot-words n w (a + 1) qs)
    where
      one : (b c : Bool) → Hit n w (cond b ((a, 5) ∷ []) (cond c ((a, 7) ∷ []) [])) → (w ≡ 5) ⊎ (w ≡ 7)
      one true c (inl (x, y)) = inl y
      one false true (inl (x, y)) = inr y
      one true c (inr x) = absurd x
      one false true (inr x) = absurd x
      one false false x = absurd x

      go : Hit n w (slots a q) ⊎ Hit n w (slots_from (a + 1) qs) → (Hit n w (slots_from (a + 1) qs) → (w ≡ 5) ⊎ (w ≡ 7)) → (w ≡ 5) ⊎ (w ≡ 7)
      go (inl x) later = one (eqb q.j (g.rows - 1)) (eqb q.j 0) x
      go (inr x) later = later x

  -- places under successive numbers
  slot-hit : (n w a : ℕ) (p : Place) (qs : List Place) → InTurn es a qs → place_of (entry es n) ≡ some p → In p qs → Hit n w (slots n p) → Hit n w (slots_from a qs)
  slot-hit n w a p [] t h i k = absurd i
  slot-hit n w a p (q ∷ qs) (u, t) h i k = go (in-cases p q qs i) (λ j. slot-hit n w (a + 1) p qs t h j k)
    where
      go : (p ≡ q) ⊎ In p qs → (In p qs → Hit n w (slots_from (a + 1) qs)) → Hit n w (slots_from a (q ∷ qs))
      go (inl e) later =
          let s : n ≡ a = sym (place-number es r.numbered n p h) ∙ ap (number es) e ∙ place-number es r.numbered a q u in
          hit-early n w (slots a q) (slots_from (a + 1) qs) (subst (λ (z : ℕ × Place). Hit n w (slots z.0 z.1)) (λ i. (s i, e i)) k)
      go (inr j) later = hit_later n w (slots a q) (slots_from (a + 1) qs) (later j)

  module _ (floor : List Place) (from : ℕ) (turn : InTurn es from floor) (on-floor : (n : ℕ) (p : Place) → place_of (entry es n) ≡ some p → base g ≤ p.depth → (p.depth ≡ base g) × In p floor)
      (below : (n : ℕ) (p : Place) → place_of (entry es n) ≡ some p → Below g p) where
    abbrev Differs : ℕ → ℕ → Type 0
    Differs n w = Hit n w (slots_from from floor) ⊎ (word unsewn n w ≡ word sewn n w)

    -- a link, where it leads to the same place
    link-same : (n w : ℕ) → w < 9 → get_or (around (opened g) (place_of (entry es n))) w none ≡ get_or (around g (place_of (entry es n))) w none → Differs n w
    link-same n w l e = inr (word-link (opened g) es f n w l ∙ ap (λ (o : Option Place). pos (number_of es o)) e ∙ sym (word-link g es f n w l))

    north-differs : (n : ℕ) (o : Option Place) → place_of (entry es n) ≡ o → Differs n 5
    unfolding around
    north-differs n none h = link-same n 5 (omega arith) (rw h)
    north-differs n (some p) h = go (dec_lt p.depth (base g))
      where
        same : suc p.j ≢ lap g p.depth → Differs n 5
        same k = link-same n 5 (omega arith) (rw h (sym (same-north g p k)))

        floored : (p.depth ≡ base g) × In p floor → Dec (p.j ≡ g.rows - 1) → Differs n 5
        floored (d, i) (yes e) = inl (slot-hit n 5 from p floor turn h i (rw (eq-eqb p.j (g.rows - 1) e) (inl (refl, refl))))
        floored (d, i) (no e) = same (λ k. e (omega (arith, rw d at k, lap-base g ring)))

        go : Dec (p.depth < base g) → Differs n 5
        go (yes l) = same (λ k. omega (arith, lap-ghost g p.depth l))
        go (no l) = floored (on-floor n p h (omega (arith, l))) (ℕ_discrete p.j (g.rows - 1))

    south-differs : (n : ℕ) (o : Option Place) → place_of (entry es n) ≡ o → Differs n 7
    unfolding around
    south-differs n none h = link-same n 7 (omega arith) (rw h)
    south-differs n (some p) h = go (dec_lt p.depth (base g))
      where
        same : (lap g p.depth ≡ 0) ⊎ ((0 < p.j) × (p.j ≢ lap g p.depth)) → Differs n 7
        same k = link-same n 7 (omega arith) (rw h (sym (same-south g p k)))

        floored : (p.depth ≡ base g) × In p floor → Below g p → Dec (p.j ≡ 0) → Differs n 7
        floored (d, i) b (yes e) =
            let a : p.j ≢ g.rows - 1 = λ k. omega arith in
            inl (slot-hit n 7 from p floor turn h i (rw (ne_eqb p.j (g.rows - 1) a, eq-eqb p.j 0 e) (inl (refl, refl))))
        floored (d, i) (inl b) (no e) = same (inl b)
        floored (d, i) (inr b) (no e) = same (inr (omega (arith, e), λ k. omega arith))

        go : Dec (p.depth < base g) → Differs n 7
        go (yes l) = same (inl (lap-ghost g p.depth l))
        go (no l) = floored (on-floor n p h (omega (arith, l))) (below n p h) (ℕ_discrete p.j 0)

    link-differs : (w n : ℕ) → w < 9 → Differs n w
    unfolding around
    link-differs zero n l = link-same n 0 l refl
    link-differs (suc zero) n l = link-same n 1 l refl
    link-differs (suc (suc zero)) n l = link-same n 2 l refl
    link-differs (suc (suc (suc zero))) n l = link-same n 3 l refl
    link-differs (suc (suc (suc (suc zero)))) n l = link-same n 4 l refl
    link-differs (suc (suc (suc (suc (suc zero))))) n l = north-differs n (place_of (entry es n)) refl
    link-differs (suc (suc (suc (suc (suc (suc zero)))))) n l = link-same n 6 l (same-east g (place_of (entry es n)))
    link-differs (suc (suc (suc (suc (suc (suc (suc zero))))))) n l = south-differs n (place_of (entry es n)) refl
    link-differs (suc (suc (suc (suc (suc (suc (suc (suc zero)))))))) n l = link-same n 8 l (same-west g (place_of (entry es n)))
    link-differs (suc (suc (suc (suc (suc (suc (suc (suc (suc w))))))))) n l = absurd (omega arith)

    same-fields : (e : Entry) → fields_with (opened g) f e ≡ fields_with g f e
    unfolding fields_with level base
    same-fields nil = refl
    same-fields free = refl
    same-fields (used p x) = refl

    start : Off unsewn sewn (slots_from from floor)
    start =
        off_at (linked-length (opened g) es f ∙ sym (linked-length g es f))
        (λ w i. word-nil (opened g) es f 0 w i r.numbered.zeroth ∙ sym (word-nil g es f 0 w i r.numbered.zeroth))
        (λ n w i. go n w i (dec_lt w 9))
      where
        go : (n w : ℕ) → w < row_words → Dec (w < 9) → Differs n w
        go n w i (yes l) = link-differs w n l
        go n w i (no l) =
            let e : 9 + (w - 9) ≡ w = omega (arith, l) in
            let h : word unsewn n (9 + (w - 9)) ≡ word sewn n (9 + (w - 9)) =
            word-field (opened g) es f n (w - 9) (omega (arith, l)) ∙ ap (λ (x : List ℤ). get_or x (w - 9) (pos 0)) (same-fields (entry es n)) ∙ sym (word-field g es f n (w - 9) (omega (arith, l))) in
            inr (rw e at h)

    -- ---- the writes

    module _ (t : List ℤ) (a : ℕ) (q : Place) (qs : List Place) (here : place_of (entry es a) ≡ some q) (deep : q.depth ≡ base g) (off : Off t sewn (slots_from a (q ∷ qs))) where
      unspoilt : (n w : ℕ) → w < row_words → w ≢ 5 → w ≢ 7 → word t n w ≡ word sewn n w
      unspoilt n w l x y = untouched off n w l (λ z h. go (slot-words n w a (q ∷ qs) h))
        where
          go : (w ≡ 5) ⊎ (w ≡ 7) → ⊥
          go (inl e) = x e
          go (inr e) = y e

      col-is : word_of t a 10 ≡ q.i
      unfolding word_of
      col-is = ap code (unspoilt a 10 (omega arith) (λ e. omega arith) (λ e. omega arith) ∙ word-i g es f a q here)

      row_is : word_of t a 11 ≡ q.j
      unfolding word_of
      row_is = ap code (unspoilt a 11 (omega arith) (λ e. omega arith) (λ e. omega arith) ∙ word-j g es f a q here)

      named : KidsNamed t cap es
      unfolding link_of word_of
      named l m x y o =
          let s = kid-word-range l m y in
          rw (unspoilt (number_of es o) (kid_word l m) (omega arith) (λ e. omega arith) (λ e. omega arith)) (kid-link r f l m x y o)

      found : (j : ℕ) → down_to t cap (base g) q.i j ≡ number es (at (base g) q.i j)
      found j = down_to_lem t cap es named (place-number es r.numbered 1 root r.first-root) (off-root es r.top) (base g) q.i j

      bound : (w : ℕ) → w < row_words → a * row_words + w < length sewn
      bound w l = omega (arith, linked-length g es f, in_list es a q here)

      -- the row names the one across the seam
      across : (w j : ℕ) → w < 9 → get_or (around g (some q)) w none ≡ some (at (base g) q.i j) → word sewn a w ≡ pos (down_to t cap (base g) q.i j)
      across w j l e = word-link g es f a w l ∙ ap (λ (o : Option Place). pos (number_of es (get_or (around g o) w none))) here ∙ ap (λ (o : Option Place). pos (number_of es o)) e ∙ ap pos (sym (found j))

      north : q.j ≡ g.rows - 1 → get_or (around g (some q)) 5 none ≡ some (at (base g) q.i 0)
      unfolding around
      north e = rw (← deep) (step-north g q ∙ ap some (north-anew g q.depth q.i q.j (omega (arith, ap (lap g) deep, lap-base g ring))))

      south : q.j ≡ 0 → get_or (around g (some q)) 7 none ≡ some (at (base g) q.i (g.rows - 1))
      unfolding around
      south e = ap (step g S) (place-path q (at (base g) q.i 0) deep refl e) ∙ south-anew g (base g) q.i (g.rows - 1) (omega (arith, lap-base g ring))

      seam-row : Off (seam_row g cap (base g) t a) sewn (slots_from (a + 1) qs)
      seam-row = rw (col-is, row_is) (go (ℕ_discrete q.j (g.rows - 1)) off)
        where
          rest : List Slot
          rest = slots_from (a + 1) qs

          go : Dec (q.j ≡ g.rows - 1) → Off t sewn (slots_from a (q ∷ qs))
              → Off (cond (eqb q.j (g.rows - 1)) (put_word t a 5 (down_to t cap (base g) q.i 0)) (cond (eqb q.j 0) (put_word t a 7 (down_to t cap (base g) q.i (g.rows - 1))) t)) sewn rest
          go (yes e) o = rw (eq-eqb q.j (g.rows - 1) e) (write a 5 (pos (down_to t cap (base g) q.i 0)) (rw (eq-eqb q.j (g.rows - 1) e) at o) (bound 5 (omega arith)) (omega arith) (across 5 0 (omega arith) (north e)))
          go (no e) o = rw (ne_eqb q.j (g.rows - 1) e) (low (ℕ_discrete q.j 0) (rw (ne_eqb q.j (g.rows - 1) e) at o))
            where
              low : Dec (q.j ≡ 0) → Off t sewn (cond (eqb q.j 0) ((a, 7) ∷ []) [] ++ rest) → Off (cond (eqb q.j 0) (put_word t a 7 (down_to t cap (base g) q.i (g.rows - 1))) t) sewn rest
              low (yes z) o = rw (eq-eqb q.j 0 z) (write a 7 (pos (down_to t cap (base g) q.i (g.rows - 1))) (rw (eq-eqb q.j 0 z) at o) (bound 7 (omega arith)) (omega arith) (across 7 (g.rows - 1) (omega arith) (south z)))
              low (no z) o = rw (ne_eqb q.j 0 z) (rw (ne_eqb q.j 0 z) at o)

    sew-pass : (qs : List Place) (a : ℕ) (t : List ℤ) → InTurn es a qs → ((q : Place) → In q qs → q.depth ≡ base g) → Off t sewn (slots_from a qs) → Off (each_row (seam_row g cap (base g)) (length qs) a t) sewn []
    unfolding each_row
    sew-pass [] a t u d off = off
    sew-pass (q ∷ qs) a t (h, u) d off = sew-pass qs (a + 1) (seam_row g cap (base g) t a) u (λ x i. d x (in-there x q qs i)) (seam-row t a q qs h (d q (in-here q q qs refl)) off)

    pub sew : ((q : Place) → In q floor → q.depth ≡ base g) → each_row (seam_row g cap (base g)) (length floor) from (table_with (opened g) es f) ≡ table_with g es f
    sew d = settled (sew-pass floor from unsewn turn d start)
