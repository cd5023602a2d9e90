-- One number comes into use for a place, or out of use, while no kid of the place stands: the entries stay a tree, and of the other rows only the
-- words that lead to the place change, which are the parent's word for this kid and the neighbours' words towards it.
-- Assumes nothing.
use Prim.Native.Nat.{ℕ, ◌+◌, ◌-◌, ◌%◌, ◌≤◌, ◌<◌}
use native.Mathlib.Omega.{arith}
use native.Mathlib.Decide.{dec_lt, ℕ_discrete}
use mathlib.Core.Path.{◌≡◌, refl, sym, ap, ◌∙◌, subst}
use mathlib.Core.Logic.{◌≢◌, ◌⊎◌, inl, inr}
use mathlib.Core.Bool.{Bool, true, false}
use mathlib.Core.Option.{Option, none, some, map, some-injective}
use mathlib.Core.List.{List}
use lib.Dec.{T}
use lib.IntN.{ℤ, pos}
use lib.ListN.{length, get_or, set, length-set}
use lib.Seq.{get_or-set_same, get_or-set_other}
use Rattle.edit_laws.specs.Rooted.{Rooted}
use Rattle.number_laws.specs.Numbered.{Numbered}
use Rattle.mesh.specs.Tools.{any}
use Rattle.mesh.specs.Place.{Place, Grid, base, same, compass, then, step, parent, around, root, Wind}
use Rattle.mesh.specs.Winds.{word_of_wind}
use Rattle.mesh.specs.State.{Entry, nil, free, used, place_of, stands, entry, number, number_of}
use Rattle.mesh.specs.Picture.{row_words}
use Rattle.mesh.proofs.Winds.{rule}
use Rattle.place_laws.proofs.Bools.{no-is, is-yes}
use Rattle.place_laws.proofs.Lists.{any-set, first-set}
use Rattle.place_laws.proofs.Steps.{step_back}
use Rattle.place_laws.proofs.Places.{same-is, is_same, mapped, then_some}
use Rattle.place_laws.proofs.Kids.{parent-depth}
use Rattle.place_laws.proofs.SideDigits.{kid_by, kid-by-parent, kid-by-digits, parent_by, aside, opposite-aside, step_other}
use Rattle.number_laws.proofs.Entries.{stands-place}
use Rattle.number_laws.proofs.NumberedPlaces.{number-place, place-number, numbered-not-zero}
use Rattle.picture_laws.proofs.Links.{around-parent, around-side}
use Rattle.worked.specs.Worked.{kid_word}
use Rattle.worked.proofs.Offsets.{kid-word-range}
use Rattle.edit_laws.specs.Linked.{Flags, fields_with, table_with}
use Rattle.edit_laws.proofs.Slots.{word}
use Rattle.edit_laws.proofs.Linked.{word-link, word-field}
use Rattle.edit_laws.proofs.LinkWords.{around-kid-by, side-word-lt, Link, to-parent, to-kid, to-side, link-word}

-- ---- the change

-- the number k, in use for q alone if at all, gets the entry e, which stands at q if anywhere
pub record Swap (g : Grid) (cap : ℕ) (es : List Entry) (k : ℕ) (e : Entry) (q : Place) : Type 0 where
  pub rooted : Rooted g cap es
  pub inside : k < length es
  pub not-nil : k ≢ 0
  pub old : (p : Place) → place_of (entry es k) ≡ some p → p ≡ q
  pub new : (p : Place) → place_of e ≡ some p → p ≡ q
  pub alone : (n : ℕ) → n ≢ k → place_of (entry es n) ≡ some q → ⊥
  pub kidless : (n : ℕ) (p : Place) → place_of (entry es n) ≡ some p → parent p ≡ some q → ⊥
  pub deep : q.depth ≤ base g + 12
  pub above : (p : Place) × (parent q ≡ some p) × T (any (stands p) es)

-- the row n has a word v that leads to q: it is the parent's, or a neighbour's
pub data Toward (g : Grid) (es : List Entry) (q : Place) (n v : ℕ) : Type 0 where
  as-parent : n ≡ number_of es (parent q) → v ≡ kid_word (q.i % 2) (q.j % 2) → Toward g es q n v
  as-side : (w : Wind) → T (aside w) → n ≡ number_of es (step g w q) → v ≡ word_of_wind (compass w).opposite → Toward g es q n v

module _ {g : Grid} {cap : ℕ} {es : List Entry} {k : ℕ} {e : Entry} {q : Place} (c : Swap g cap es k e q) where
  -- ---- the entries

  pub swap-same : entry (set es k e) k ≡ e
  swap-same = get_or-set_same es k e nil c.inside

  pub swap-other : (n : ℕ) → n ≢ k → entry (set es k e) n ≡ entry es n
  swap-other n h = get_or-set_other es k n e nil h

  still : (p : Place) → p ≢ q → stands p e ≡ stands p (entry es k)
  still p h = no-is (stands p e) (λ t. h (c.new p (stands-place p e t))) ∙ sym (no-is (stands p (entry es k)) (λ t. h (c.old p (stands-place p (entry es k) t))))

  pub swap-number : (p : Place) → p ≢ q → number (set es k e) p ≡ number es p
  unfolding number
  swap-number p h = first-set (stands p) nil 0 es k e (still p h)

  swap-stands : (p : Place) → p ≢ q → T (any (stands p) es) → T (any (stands p) (set es k e))
  swap-stands p h t = rw (any-set (stands p) nil es k e (still p h)) t

  -- an entry with a place is the new one, or an old one
  place-cases : (n : ℕ) (p : Place) → place_of (entry (set es k e) n) ≡ some p → ((n ≡ k) × (p ≡ q)) ⊎ ((n ≢ k) × (place_of (entry es n) ≡ some p))
  place-cases n p h = go (ℕ_discrete n k)
    where
      go : Dec (n ≡ k) → ((n ≡ k) × (p ≡ q)) ⊎ ((n ≢ k) × (place_of (entry es n) ≡ some p))
      go (yes z) = inl (z, c.new p (ap place_of (sym swap-same) ∙ ap (λ (m : ℕ). place_of (entry (set es k e) m)) (sym z) ∙ h))
      go (no z) = inr (z, ap place_of (sym (swap-other n z)) ∙ h)

  pub swap-numbered : Numbered (set es k e)
  swap-numbered = record {
    zeroth = swap-other 0 (λ z. c.not-nil (sym z)) ∙ c.rooted.numbered.zeroth;
    once = λ n m p a b. both n m p (place-cases n p a) (place-cases m p b);
  }
    where
      both : (n m : ℕ) (p : Place) → ((n ≡ k) × (p ≡ q)) ⊎ ((n ≢ k) × (place_of (entry es n) ≡ some p)) → ((m ≡ k) × (p ≡ q)) ⊎ ((m ≢ k) × (place_of (entry es m) ≡ some p)) → n ≡ m
      both n m p (inl (x, a)) (inl (y, b)) = x ∙ sym y
      both n m p (inl (x, a)) (inr (y, b)) = absurd (c.alone m y (b ∙ ap some a))
      both n m p (inr (x, a)) (inl (y, b)) = absurd (c.alone n x (a ∙ ap some b))
      both n m p (inr (x, a)) (inr (y, b)) = c.rooted.numbered.once n m p a b

  below : 0 < q.depth
  below = let (x, h, t) = c.above in omega (arith, parent-depth q x h)

  -- they are a tree again
  pub swap-rooted : Rooted g cap (set es k e)
  swap-rooted = record {
    numbered = swap-numbered;
    long = length-set es k e ∙ c.rooted.long;
    sizes = c.rooted.sizes;
    laps = c.rooted.laps;
    first-root = ap place_of (swap-other 1 not_first) ∙ c.rooted.first-root;
    top = λ n p h z. at_top n p z (place-cases n p h);
    deepest = λ n p h. in-range n p (place-cases n p h);
    parents = λ n p x h i. has-parent n p x i (place-cases n p h);
  }
    where
      not_first : 1 ≢ k
      not_first z = omega (arith, below, ap (λ (p : Place). p.depth) (c.old root (ap (λ (n : ℕ). place_of (entry es n)) (sym z) ∙ c.rooted.first-root)))

      at_top : (n : ℕ) (p : Place) → p.depth ≡ 0 → ((n ≡ k) × (p ≡ q)) ⊎ ((n ≢ k) × (place_of (entry es n) ≡ some p)) → p ≡ root
      at_top n p z (inl (x, a)) = absurd (omega (arith, below, ap (λ (p : Place). p.depth) a))
      at_top n p z (inr (x, a)) = c.rooted.top n p a z

      in-range : (n : ℕ) (p : Place) → ((n ≡ k) × (p ≡ q)) ⊎ ((n ≢ k) × (place_of (entry es n) ≡ some p)) → p.depth ≤ base g + 12
      in-range n p (inl (x, a)) = rw a c.deep
      in-range n p (inr (x, a)) = c.rooted.deepest n p a

      has-parent : (n : ℕ) (p x : Place) → parent p ≡ some x → ((n ≡ k) × (p ≡ q)) ⊎ ((n ≢ k) × (place_of (entry es n) ≡ some p)) → T (any (stands x) (set es k e))
      has-parent n p x i (inl (y, a)) =
          let (x', h, t) = c.above in
          let is : x' ≡ x = some-injective _ _ (sym h ∙ ap parent (sym a) ∙ i) in
          swap-stands x (λ z. omega (arith, parent-depth p x i, ap (λ (p : Place). p.depth) a, ap (λ (p : Place). p.depth) z)) (subst (λ (p : Place). T (any (stands p) es)) is t)
      has-parent n p x i (inr (y, a)) = swap-stands x (λ z. c.kidless n p a (i ∙ ap some z)) (c.rooted.parents n p x a i)

  -- ---- the patches around q

  pub number-other : (n : ℕ) (p : Place) → place_of (entry es n) ≡ some p → p ≢ q → n ≢ k
  number-other n p h z i = z (c.old p (ap (λ (m : ℕ). place_of (entry es m)) (sym i) ∙ h))

  pub beside_same : (w : Wind) → T (aside w) → number_of (set es k e) (step g w q) ≡ number_of es (step g w q)
  beside_same w t = go (step g w q) refl
    where
      go : (o : Option Place) → step g w q ≡ o → number_of (set es k e) o ≡ number_of es o
      go none i = refl
      go (some p) i = swap-number p (λ z. step_other g w t q (c.rooted.laps q.depth) (i ∙ ap some z))

  -- a neighbour that stands
  pub beside-there : (w : Wind) → T (aside w) → number_of es (step g w q) ≢ 0
      → (p : Place) × (step g w q ≡ some p) × (place_of (entry es (number_of es (step g w q))) ≡ some p) × (number_of es (step g w q) ≢ k)
  beside-there w t = go (step g w q) refl
    where
      go : (o : Option Place) → step g w q ≡ o → number_of es o ≢ 0 → (p : Place) × (o ≡ some p) × (place_of (entry es (number_of es o)) ≡ some p) × (number_of es o ≢ k)
      go none i z = absurd (z refl)
      go (some p) i z = let h = number-place es p z in (p, refl, h, number-other (number es p) p h (λ y. step_other g w t q (c.rooted.laps q.depth) (i ∙ ap some y)))

  -- and the parent
  pub above-there : (p : Place) × (parent q ≡ some p) × (place_of (entry es (number_of es (parent q))) ≡ some p) × (number_of es (parent q) ≢ k)
  above-there =
      let (p, i, t) = c.above in
      let h = number-place es p (numbered-not-zero es c.rooted.numbered p t) in
      let e = ap (number_of es) i in
      let y = number-other (number es p) p h (λ z. omega (arith, parent-depth q p i, ap (λ (x : Place). x.depth) z)) in
      (p, i, ap (λ (n : ℕ). place_of (entry es n)) e ∙ h, λ z. y (sym e ∙ z))

  -- the words that lead to q name its number
  module _ (f : Flags) where
    names : (n v : ℕ) (p : Place) → v < 9 → n ≢ k → place_of (entry es n) ≡ some p → get_or (around g (some p)) v none ≡ some q → word (table_with g (set es k e) f) n v ≡ pos (number (set es k e) q)
    names n v p l z h i =
        word-link g (set es k e) f n v l
        ∙ ap (λ (o : Option Place). pos (number_of (set es k e) (get_or (around g o) v none))) (ap place_of (swap-other n z) ∙ h)
        ∙ ap (λ (o : Option Place). pos (number_of (set es k e) o)) i

    pub side-names : (w : Wind) → T (aside w) → number_of es (step g w q) ≢ 0
        → word (table_with g (set es k e) f) (number_of es (step g w q)) (word_of_wind (compass w).opposite) ≡ pos (number (set es k e) q)
    side-names w t z =
        let (p, i, h, y) = beside-there w t z in
        let o = (compass w).opposite in
        let u = opposite-aside w t in
        names (number_of es (step g w q)) (word_of_wind o) p (side-word-lt o u).1 y h (around-side g o u (some p) ∙ step_back g w q p i)

    pub parent-names : word (table_with g (set es k e) f) (number_of es (parent q)) (kid_word (q.i % 2) (q.j % 2)) ≡ pos (number (set es k e) q)
    parent-names =
        let (p, i, h, y) = above-there in
        names (number_of es (parent q)) (kid_word (q.i % 2) (q.j % 2)) p (omega (arith, kid-word-range (q.i % 2) (q.j % 2) (omega arith))) y h
        (around-kid-by g (q.i % 2) (q.j % 2) (omega arith) (omega arith) (some p) ∙ ap some (sym (parent_by q p i)))

  -- ---- the other rows

  module _ (f f' : Flags) (same_flags : (p : Place) → p ≢ q → f' p ≡ f p) where
    -- a link of a row changes only if it leads to q
    link-kept : (n v : ℕ) → n ≢ k → v < 9 → Toward g es q n v ⊎ (word (table_with g es f) n v ≡ word (table_with g (set es k e) f') n v)
    link-kept n v h l = go (link-word v l)
      where
        here : Option Place
        here = place_of (entry es n)

        numbers : (o : Option Place) → get_or (around g here) v none ≡ o → (o ≡ some q → Toward g es q n v) → Toward g es q n v ⊎ (number_of es o ≡ number_of (set es k e) o)
        numbers none i t = inr refl
        numbers (some p) i t = one (same p q) refl
          where
            one : (b : Bool) → same p q ≡ b → Toward g es q n v ⊎ (number es p ≡ number (set es k e) p)
            one true b = inl (t (ap some (same-is p q (is-yes (same p q) b))))
            one false b = inr (sym (swap-number p (λ z. let y : T false = subst T b (is_same p q z) in y)))

        words : (o : Option Place) → get_or (around g here) v none ≡ o → Toward g es q n v ⊎ (number_of es o ≡ number_of (set es k e) o) → Toward g es q n v ⊎ (word (table_with g es f) n v ≡ word (table_with g (set es k e) f') n v)
        words o i (inl t) = inl t
        words o i (inr z) =
            inr (word-link g es f n v l ∙ ap (λ (x : Option Place). pos (number_of es x)) i ∙ ap pos z
            ∙ ap (λ (x : Option Place). pos (number_of (set es k e) x)) (sym i)
            ∙ ap (λ (d : Entry). pos (number_of (set es k e) (get_or (around g (place_of d)) v none))) (sym (swap-other n h))
            ∙ sym (word-link g (set es k e) f' n v l))

        number_is : (o : Option Place) (p : Place) → o ≡ some p → here ≡ some p → n ≡ number_of es o
        number_is o p a b = sym (ap (number_of es) a ∙ place-number es c.rooted.numbered n p b)

        by : (o : Option Place) → get_or (around g here) v none ≡ o → (o ≡ some q → Toward g es q n v) → Toward g es q n v ⊎ (word (table_with g es f) n v ≡ word (table_with g (set es k e) f') n v)
        by o i t = words o i (numbers o i t)

        along : {w : ℕ} {o : Option Place} → v ≡ w → get_or (around g here) w none ≡ o → get_or (around g here) v none ≡ o
        along i a = ap (λ (w : ℕ). get_or (around g here) w none) i ∙ a

        as-kid : (l m : ℕ) → l ≤ 1 → m ≤ 1 → v ≡ kid_word l m → map (kid_by l m) here ≡ some q → Toward g es q n v
        as-kid l m x y i z =
            let (p, a, b) = mapped (kid_by l m) q here z in
            let (d₁, d₂) = kid-by-digits l m p x y in
            as-parent (number_is (parent q) p (ap parent (sym b) ∙ kid-by-parent l m p x y) a) (i ∙ rw (← b, d₁, d₂))

        as_step : (w : Wind) → T (aside w) → v ≡ word_of_wind w → then (step g w) here ≡ some q → Toward g es q n v
        as_step w t i z =
            let (p, a, b) = then_some (step g w) here q z in
            let o = (compass w).opposite in
            as-side o (opposite-aside w t) (number_is (step g o q) p (step_back g w p q b) a) (i ∙ ap word_of_wind (sym (rule w).twice))

        go : Link v → Toward g es q n v ⊎ (word (table_with g es f) n v ≡ word (table_with g (set es k e) f') n v)
        go (to-parent i) = by (then parent here) (along i (around-parent g here)) (λ z. let (p, a, b) = then_some parent here q z in absurd (c.kidless n p a b))
        go (to-kid l m x y i) = by (map (kid_by l m) here) (along i (around-kid-by g l m x y here)) (as-kid l m x y i)
        go (to-side w t i) = by (then (step g w) here) (along i (around-side g w t here)) (as_step w t i)

    field-kept : (n j : ℕ) → n ≢ k → j < 5 → word (table_with g es f) n (9 + j) ≡ word (table_with g (set es k e) f') n (9 + j)
    unfolding fields_with
    field-kept n j h l = word-field g es f n j l ∙ ap (λ (r : List ℤ). get_or r j (pos 0)) (go (entry es n) refl ∙ ap (fields_with g f') (sym (swap-other n h))) ∙ sym (word-field g (set es k e) f' n j l)
      where
        go : (d : Entry) → entry es n ≡ d → fields_with g f d ≡ fields_with g f' d
        go nil i = refl
        go free i = refl
        go (used p x) i = rw (same_flags p (λ z. c.alone n h (ap place_of i ∙ ap some z)))

    pub row_kept : (n v : ℕ) → n ≢ k → v < row_words → Toward g es q n v ⊎ (word (table_with g es f) n v ≡ word (table_with g (set es k e) f') n v)
    row_kept n v h l = go (dec_lt v 9)
      where
        go : Dec (v < 9) → Toward g es q n v ⊎ (word (table_with g es f) n v ≡ word (table_with g (set es k e) f') n v)
        go (yes b) = link-kept n v h b
        go (no b) = let i : 9 + (v - 9) ≡ v = omega (arith, b) in inr (rw i at (field-kept n (v - 9) h (omega arith)))
