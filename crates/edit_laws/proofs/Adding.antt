-- A new patch is linked in: each word that `link_in` writes is the new table's, and every word in which the new table differs is written.
-- Assumes nothing.
use Prim.Native.Nat.{ℕ, zero, suc, ◌+◌, ◌-◌, ◌*◌, ◌≤◌, ◌<◌}
use native.Mathlib.Omega.{arith}
use native.Mathlib.Decide.{dec_lt, ℕ_discrete}
use mathlib.Core.Path.{◌≡◌, refl, sym, ap, ◌∙◌}
use mathlib.Core.Logic.{◌≢◌, ◌⊎◌, inl, inr}
use mathlib.Core.Option.{Option, none, some, none-ne-some, some-injective}
use mathlib.Core.List.{List, [], ◌∷◌, ◌++◌, map}
use lib.Dec.{T}
use lib.IntN.{ℤ, pos, sub_ℕ}
use lib.ListN.{length, get_or, set, length-set, get_or-eq_default}
use Rattle.edit_laws.specs.Rooted.{Rooted}
use Rattle.mesh.specs.Tools.{all, flat}
use Rattle.mesh.specs.Place.{Place, Grid, base, level, same, compass, side_winds, step, parent, around, Wind}
use Rattle.mesh.specs.Winds.{word_of_wind}
use Rattle.mesh.specs.State.{Entry, nil, free, used, place_of, value_of, status, entry, number, number_of}
use Rattle.mesh.specs.Picture.{row_words}
use Rattle.place_laws.proofs.Bools.{yes-is, no-is, and_left}
use Rattle.place_laws.proofs.Places.{same-is, same_refl}
use Rattle.place_laws.proofs.Laps.{Smooth}
use Rattle.place_laws.proofs.Kids.{parent-depth}
use Rattle.place_laws.proofs.SideDigits.{kid_by, kid-by-parent, kid-by-digits, aside, step-depth, opposite-aside}
use Rattle.number_laws.proofs.Entries.{in_list, stands-in}
use Rattle.number_laws.proofs.NumberedPlaces.{number-place, place-number, numbered-not-zero, unnumbered}
use Rattle.picture_laws.proofs.Links.{around-parent, around-side}
use Rattle.table.specs.Words.{word_of, depth_of}
use Rattle.worked.specs.Worked.{kid_word, side_of}
use Rattle.worked.proofs.Offsets.{kid-word-range}
use Rattle.edit_laws.specs.Linked.{Flags, table_with, with_flags}
use Rattle.edit_laws.specs.PatchSteps.{link_side, place_in, link_in}
use Rattle.edit_laws.proofs.Slots.{word, Slot, Hit, hit_later, Off, off_at, untouched, write, write-unless, settled}
use Rattle.edit_laws.proofs.Linked.{linked-length, word-link, word-level, word-i, word-j, word_flags, word-status, i-of, j-of, word-free, word-nil}
use Rattle.edit_laws.proofs.Rooted.{number-le, depth-of}
use Rattle.edit_laws.proofs.LinkWords.{around-kid-by, side-word-lt, Link, to-parent, to-kid, to-side, link-word, hit-side, side-hit, turned}
use Rattle.edit_laws.proofs.Siding.{Agrees, side-by}
use Rattle.edit_laws.proofs.Changing.{Swap, Toward, as-parent, as-side, swap-same, swap-other, swap-number, swap-numbered, swap-rooted, beside_same, beside-there, side-names, parent-names, row_kept}

module _ {g : Grid} {cap : ℕ} {es : List Entry} (r : Rooted g cap es) (f : Flags) (k p l m : ℕ) (o : Place)
    (unused : entry es k ≡ free) (there : place_of (entry es p) ≡ some o) (l-digit : l ≤ 1) (m-digit : m ≤ 1)
    (missing : number es (kid_by l m o) ≡ 0) (room : o.depth < base g + 12) (smooth : (w : Wind) → Smooth g w (kid_by l m o)) where
  -- the new place, the new entries and the new table
  abbrev q : Place
  q = kid_by l m o

  abbrev more : List Entry
  more = set es k (used q none)

  abbrev before : List ℤ
  before = table_with g es f

  abbrev after : List ℤ
  after = table_with g more (with_flags q 0 f)

  q-parent : parent q ≡ some o
  q-parent = kid-by-parent l m o l-digit m-digit

  pub adding : Swap g cap es k (used (kid_by l m o) none) (kid_by l m o)
  adding = record {
    rooted = r;
    inside = go (dec_lt k (length es));
    not-nil = λ z. clash (sym r.numbered.zeroth ∙ ap (entry es) (sym z));
    old = λ x h. absurd (none-ne-some _ (ap place_of (sym unused) ∙ h));
    new = λ x h. sym (some-injective _ _ h);
    alone = λ n z h. unnumbered es r.numbered q missing n h;
    kidless = λ n x h e. numbered-not-zero es r.numbered q (r.parents n x q h e) missing;
    deep = omega (arith, parent-depth q o q-parent);
    above = (o, q-parent, stands-in es p o there);
  }
    where
      clash : nil ≡ entry es k → ⊥
      clash e = let z : ◌≡◌ {A = ℕ} 0 1 = cc in omega arith

      go : Dec (k < length es) → k < length es
      go (yes h) = h
      go (no h) = absurd (clash (sym (get_or-eq_default es nil (omega (arith, h)))))

  -- ---- numbers

  q-there : place_of (entry more k) ≡ some q
  q-there = ap place_of (swap-same adding)

  pub link-in-number : number (set es k (used (kid_by l m o) none)) (kid_by l m o) ≡ k
  link-in-number = place-number more (swap-numbered adding) k q q-there

  -- the neighbours' numbers
  abbrev beside : Wind → ℕ
  beside w = number_of es (step g w q)

  -- ---- the new table's words

  after-link : (n v : ℕ) (x y : Option Place) → v < 9 → place_of (entry more n) ≡ x → get_or (around g x) v none ≡ y → word after n v ≡ pos (number_of more y)
  after-link n v x y i e h = word-link g more (with_flags q 0 f) n v i ∙ ap (λ (x : Option Place). pos (number_of more (get_or (around g x) v none))) e ∙ ap (λ (y : Option Place). pos (number_of more y)) h

  before-link : (v : ℕ) (y : Option Place) → v < 9 → get_or (around g none) v none ≡ y → word before k v ≡ pos (number_of es y)
  before-link v y i h = word-link g es f k v i ∙ ap (λ (d : Entry). pos (number_of es (get_or (around g (place_of d)) v none))) unused ∙ ap (λ (y : Option Place). pos (number_of es y)) h

  parent-word : word after k 0 ≡ pos p
  parent-word =
      after-link k 0 (some q) (some o) (omega arith) q-there (around-parent g (some q) ∙ q-parent)
      ∙ ap pos (swap-number adding o (λ z. omega (arith, parent-depth q o q-parent, ap (λ (x : Place). x.depth) z)) ∙ place-number es r.numbered p o there)

  kid-word : word after p (kid_word l m) ≡ pos k
  kid-word =
      let (d₁, d₂) = kid-by-digits l m o l-digit m-digit in
      let e : number_of es (parent q) ≡ p = ap (number_of es) q-parent ∙ place-number es r.numbered p o there in
      rw (e, d₁, d₂) at (parent-names adding (with_flags q 0 f)) ∙ ap pos link-in-number

  side-word : (w : Wind) → T (aside w) → word after k (word_of_wind w) ≡ pos (beside w)
  side-word w t = after-link k (word_of_wind w) (some q) (step g w q) (side-word-lt w t).1 q-there (around-side g w t (some q)) ∙ ap pos (beside_same adding w t)

  back-word : (w : Wind) → T (aside w) → beside w ≢ 0 → word after (beside w) (word_of_wind (compass w).opposite) ≡ pos k
  back-word w t z = side-names adding (with_flags q 0 f) w t z ∙ ap pos link-in-number

  level-word : word after k 9 ≡ sub_ℕ (depth_of before (base g) p + 1) (base g)
  unfolding level
  level-word =
      let e : q.depth ≡ depth_of before (base g) p + 1 = omega (arith, depth-of r f p o there, parent-depth q o q-parent) in
      word-level g more (with_flags q 0 f) k q q-there ∙ ap (λ (d : ℕ). sub_ℕ d (base g)) e

  col-word : word after k 10 ≡ pos (2 * word_of before p 10 + l)
  unfolding kid_by
  col-word = word-i g more (with_flags q 0 f) k q q-there ∙ ap (λ (x : ℕ). pos (2 * x + l)) (sym (i-of g es f p o there))

  row_word : word after k 11 ≡ pos (2 * word_of before p 11 + m)
  unfolding kid_by
  row_word = word-j g more (with_flags q 0 f) k q q-there ∙ ap (λ (x : ℕ). pos (2 * x + m)) (sym (j-of g es f p o there))

  flags-word : word after k 12 ≡ pos 0
  flags-word = word_flags g more (with_flags q 0 f) k q q-there ∙ rw (yes-is (same q q) (same_refl q))

  -- ---- where the two tables differ

  abbrev pair : Wind → List Slot
  pair w = (k, word_of_wind w) ∷ (beside w, word_of_wind (compass w).opposite) ∷ []

  abbrev own : List Slot
  own = (k, 0) ∷ (k, 9) ∷ (k, 10) ∷ (k, 11) ∷ (k, 12) ∷ (p, kid_word l m) ∷ []

  -- of its own row all but the kids' words and the status
  own_row : (v : ℕ) → v < row_words → Hit k v (own ++ flat (map pair side_winds)) ⊎ (word before k v ≡ word after k v)
  own_row v i = go (dec_lt v 9)
    where
      kid-unnumbered : (a b : ℕ) → a ≤ 1 → b ≤ 1 → number more (kid_by a b q) ≡ 0
      kid-unnumbered a b x y =
          let e = kid-by-parent a b q x y in
          swap-number adding (kid_by a b q) (λ z. omega (arith, parent-depth (kid_by a b q) q e, ap (λ (y : Place). y.depth) z)) ∙ none-there e (ℕ_discrete (number es (kid_by a b q)) 0)
        where
          none-there : parent (kid_by a b q) ≡ some q → Dec (number es (kid_by a b q) ≡ 0) → number es (kid_by a b q) ≡ 0
          none-there e (yes z) = z
          none-there e (no z) = absurd (adding.kidless (number es (kid_by a b q)) (kid_by a b q) (number-place es (kid_by a b q) z) e)

      link : Link v → v < 9 → Hit k v (own ++ flat (map pair side_winds)) ⊎ (word before k v ≡ word after k v)
      link (to-parent e) h = inl (inl (refl, e))
      link (to-kid a b x y e) h =
          inr (before-link v none h (ap (λ (w : ℕ). get_or (around g none) w none) e ∙ around-kid-by g a b x y none)
          ∙ sym (after-link k v (some q) (some (kid_by a b q)) h q-there (ap (λ (w : ℕ). get_or (around g (some q)) w none) e ∙ around-kid-by g a b x y (some q)) ∙ ap pos (kid-unnumbered a b x y)))
      link (to-side w t e) h = inl (hit_later k v own (flat (map pair side_winds)) (hit-side pair k v w t (inl (refl, e))))

      field : (j : ℕ) → j < 5 → v ≡ 9 + j → Hit k v (own ++ flat (map pair side_winds)) ⊎ (word before k v ≡ word after k v)
      field zero h e = inl (inr (inl (refl, e)))
      field (suc zero) h e = inl (inr (inr (inl (refl, e))))
      field (suc (suc zero)) h e = inl (inr (inr (inr (inl (refl, e)))))
      field (suc (suc (suc zero))) h e = inl (inr (inr (inr (inr (inl (refl, e))))))
      field (suc (suc (suc (suc zero)))) h e = inr (rw e (word-free g es f k 13 (omega arith) unused ∙ sym (word-status g more (with_flags q 0 f) k q q-there ∙ ap (λ (d : Entry). pos (status (value_of d))) (swap-same adding))))
      field (suc (suc (suc (suc (suc j))))) h e = absurd (omega arith)

      go : Dec (v < 9) → Hit k v (own ++ flat (map pair side_winds)) ⊎ (word before k v ≡ word after k v)
      go (yes h) = link (link-word v h) h
      go (no h) = field (v - 9) (omega arith) (omega (arith, h))

  other_row : (n v : ℕ) → Toward g es q n v → Hit n v (own ++ flat (map pair side_winds))
  other_row n v (as-parent i j) =
      let (d₁, d₂) = kid-by-digits l m o l-digit m-digit in
      inr (inr (inr (inr (inr (inl (i ∙ ap (number_of es) q-parent ∙ place-number es r.numbered p o there, j ∙ rw (d₁, d₂)))))))
  other_row n v (as-side w t i j) = hit_later n v own (flat (map pair side_winds)) (hit-side pair n v w t (inr (inl (i, j))))

  start : Off before after (own ++ flat (map pair side_winds))
  start = off_at lengths
      (λ w i. word-nil g es f 0 w i r.numbered.zeroth ∙ sym (word-nil g more (with_flags q 0 f) 0 w i (swap-numbered adding).zeroth))
      (λ n v i. go n v i (ℕ_discrete n k))
    where
      lengths : length before ≡ length after
      lengths = linked-length g es f ∙ sym (linked-length g more (with_flags q 0 f) ∙ rw length-set)

      same_flags : (x : Place) → x ≢ q → with_flags q 0 f x ≡ f x
      same_flags x h = rw (no-is (same x q) (λ t. h (same-is x q t)))

      kept : (n v : ℕ) → Toward g es q n v ⊎ (word before n v ≡ word after n v) → Hit n v (own ++ flat (map pair side_winds)) ⊎ (word before n v ≡ word after n v)
      kept n v (inl t) = inl (other_row n v t)
      kept n v (inr e) = inr e

      go : (n v : ℕ) → v < row_words → Dec (n ≡ k) → Hit n v (own ++ flat (map pair side_winds)) ⊎ (word before n v ≡ word after n v)
      go n v i (yes z) = rw z (own_row v i)
      go n v i (no z) = kept n v (row_kept adding f (with_flags q 0 f) same_flags n v z i)

  -- ---- the writes

  bound : (n v : ℕ) → n ≤ cap → v < row_words → n * row_words + v < length after
  bound n v h i = omega (arith, linked-length g more (with_flags q 0 f), length-set es k (used q none), r.long)

  k-le : k ≤ cap
  k-le = omega (arith, adding.inside, r.long)

  p-le : p ≤ cap
  p-le = omega (arith, in_list es p o there, r.long)

  placed : Off (place_in before (base g) p l m k) after (flat (map pair side_winds))
  unfolding place_in
  placed =
      let kid-lt : kid_word l m < row_words = omega (arith, kid-word-range l m m-digit) in
      let o₁ = write k 0 (pos p) start (bound k 0 k-le (omega arith)) (omega arith) parent-word in
      let o₂ = write k 9 (sub_ℕ (depth_of before (base g) p + 1) (base g)) o₁ (bound k 9 k-le (omega arith)) (omega arith) level-word in
      let o₃ = write k 10 (pos (2 * word_of before p 10 + l)) o₂ (bound k 10 k-le (omega arith)) (omega arith) col-word in
      let o₄ = write k 11 (pos (2 * word_of before p 11 + m)) o₃ (bound k 11 k-le (omega arith)) (omega arith) row_word in
      let o₅ = write k 12 (pos 0) o₄ (bound k 12 k-le (omega arith)) (omega arith) flags-word in
      write p (kid_word l m) (pos k) o₅ (bound p (kid_word l m) p-le kid-lt) kid-lt kid-word

  -- the words that are not yet written lie at the sides of q
  module _ (t : List ℤ) (ws : List Wind) (sides : T (all aside ws)) (off : Off t after (flat (map pair ws))) where
    unwritten : (n v : ℕ) → n ≢ 0 → Hit n v (flat (map pair ws)) → (5 ≤ v) × (v < 9) × ((x : Place) × (place_of (entry more n) ≡ some x) × (x.depth ≡ q.depth))
    unwritten n v z i = let (w, s, j) = side-hit pair n v ws sides i in go w s j
      where
        go : (w : Wind) → T (aside w) → Hit n v (pair w) → (5 ≤ v) × (v < 9) × ((x : Place) × (place_of (entry more n) ≡ some x) × (x.depth ≡ q.depth))
        go w s (inl (a, b)) = (rw b (side-word-lt w s).0, rw b (side-word-lt w s).1, (q, rw a q-there, refl))
        go w s (inr (inl (a, b))) =
            let c = (compass w).opposite in
            let u = opposite-aside w s in
            let (x, e, h, y) = beside-there adding w s (λ k. z (a ∙ k)) in
            (rw b (side-word-lt c u).0, rw b (side-word-lt c u).1, (x, ap (λ (i : ℕ). place_of (entry more i)) a ∙ ap place_of (swap-other adding (beside w) y) ∙ h, step-depth g w s q x e))
        go w s (inr (inr a)) = absurd a

    agrees : Agrees g more (with_flags q 0 f) t k q.depth
    agrees = record {
      own-parent = untouched off k 0 (omega arith) (λ z i. omega (arith, (unwritten k 0 z i).0));
      own-col = untouched off k 10 (omega arith) (λ z i. omega (arith, (unwritten k 10 z i).1));
      own_row = untouched off k 11 (omega arith) (λ z i. omega (arith, (unwritten k 11 z i).1));
      links = λ n v i d. untouched off n v (omega arith) (λ z j. let (_, _, (x, h, e)) = unwritten n v z j in d x h e);
    }

    side-is : (w : Wind) → T (aside w) → side_of t cap k w ≡ beside w
    side-is w s = side-by (swap-rooted adding) (with_flags q 0 f) t k q q-there agrees w s (smooth w) ∙ beside_same adding w s

  linked-side : (w : Wind) (ws : List Wind) → T (all aside (w ∷ ws)) → (t : List ℤ) → Off t after (flat (map pair (w ∷ ws))) → Off (link_side t cap k w) after (flat (map pair ws))
  unfolding link_side
  linked-side w ws sides t off =
      let s = and_left (aside w) (all aside ws) sides in
      let u = opposite-aside w s in
      let lt : word_of_wind w < row_words = omega (arith, side-word-lt w s) in
      let lt' : word_of_wind (compass w).opposite < row_words = omega (arith, side-word-lt (compass w).opposite u) in
      let n-le = number-le r (step g w q) in
      rw (side-is t (w ∷ ws) sides off w s)
      (write-unless (beside w) (word_of_wind (compass w).opposite) k
      (write k (word_of_wind w) (pos (beside w)) off (bound k (word_of_wind w) k-le lt) lt (side-word w s))
      (bound (beside w) (word_of_wind (compass w).opposite) n-le lt') lt' (back-word w s))

  pub link-in : link_in (table_with g es f) cap (base g) p l m k ≡ table_with g (set es k (used (kid_by l m o) none)) (with_flags (kid_by l m o) 0 f)
  unfolding link_in
  link-in = settled (turned (λ t w. link_side t cap k w) pair linked-side side_winds tt (place_in before (base g) p l m k) placed)

  pub link-in-rooted : Rooted g cap (set es k (used (kid_by l m o) none))
  link-in-rooted = swap-rooted adding
