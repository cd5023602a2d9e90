-- A patch is taken out: each word that leads to it becomes 0, as no number is its place's any more, and its row becomes free.
-- Assumes nothing.
use Prim.Native.Nat.{ℕ, ◌+◌, ◌*◌, ◌%◌, ◌≤◌, ◌<◌}
use native.Mathlib.Omega.{arith}
use native.Mathlib.Decide.{dec_lt, ℕ_discrete}
use mathlib.Core.Path.{◌≡◌, refl, sym, ap, ◌∙◌}
use mathlib.Core.Logic.{◌≢◌, ◌⊎◌, inl, inr}
use mathlib.Core.Option.{Option, none, some, none-ne-some, some-injective}
use mathlib.Core.List.{List, [], ◌∷◌, map}
use lib.Dec.{T}
use lib.IntN.{ℤ, pos}
use lib.ListN.{length, get_or, set, length-set}
use Rattle.edit_laws.specs.Rooted.{Rooted}
use Rattle.mesh.specs.Tools.{all, flat}
use Rattle.mesh.specs.Place.{Place, Grid, root, compass, side_winds, step, parent, around, Wind}
use Rattle.mesh.specs.Winds.{word_of_wind}
use Rattle.mesh.specs.State.{Entry, free, place_of, entry, number, number_of}
use Rattle.mesh.specs.Picture.{row_words}
use Rattle.place_laws.proofs.Bools.{and_left}
use Rattle.place_laws.proofs.Kids.{up, parent_up}
use Rattle.place_laws.proofs.SideDigits.{aside, opposite-aside}
use Rattle.number_laws.proofs.Entries.{in_list}
use Rattle.number_laws.proofs.NumberedPlaces.{number-place, not-zero}
use Rattle.picture_laws.proofs.Links.{around-parent, around-side}
use Rattle.table.specs.Words.{word_of, link_of}
use Rattle.worked.specs.Worked.{kid_word}
use Rattle.table.specs.Writes.{put_row, free_row}
use Rattle.worked.proofs.Offsets.{kid-word-range}
use Rattle.edit_laws.specs.Linked.{Flags, row_with, table_with}
use Rattle.edit_laws.specs.PatchSteps.{put_word, drop_side, take_out}
use Rattle.edit_laws.proofs.Slots.{word, Slot, Hit, Off, off_at, untouched, write, write-unless, settled, put-length, put_same, put_other}
use Rattle.edit_laws.proofs.Linked.{row-length, linked-length, linked-word, i-of, j-of, word-free, word-nil}
use Rattle.edit_laws.proofs.Rooted.{number-le, link-of}
use Rattle.edit_laws.proofs.LinkWords.{side-word-lt, hit-side, side-hit, turned}
use Rattle.edit_laws.proofs.Changing.{Swap, Toward, as-parent, as-side, swap-same, swap-other, swap-numbered, swap-rooted, above-there, beside-there, side-names, parent-names, row_kept}

module _ {g : Grid} {cap : ℕ} {es : List Entry} (r : Rooted g cap es) (f : Flags) (k : ℕ) (q : Place)
    (there : place_of (entry es k) ≡ some q) (not_root : q ≢ root) (kidless : (n : ℕ) (p : Place) → place_of (entry es n) ≡ some p → parent p ≡ some q → ⊥) where
  abbrev less : List Entry
  less = set es k free

  abbrev before : List ℤ
  before = table_with g es f

  abbrev after : List ℤ
  after = table_with g less f

  pub removing : Swap g cap es k free q
  removing = record {
    rooted = r;
    inside = in_list es k q there;
    not-nil = not-zero es r.numbered k q there;
    old = λ p h. some-injective _ _ (sym h ∙ there);
    new = λ p h. absurd (none-ne-some _ h);
    alone = λ n z h. z (r.numbered.once n k q h there);
    kidless = kidless;
    deep = r.deepest k q there;
    above = let h = parent_up q (low (dec_lt 0 q.depth)) in (up q, h, r.parents k q (up q) there h);
  }
    where
      low : Dec (0 < q.depth) → 0 < q.depth
      low (yes h) = h
      low (no h) = absurd (not_root (r.top k q there (omega (arith, h))))

  pub take-out-number : number (set es k free) q ≡ 0
  take-out-number = go (ℕ_discrete (number less q) 0)
    where
      nowhere : (n : ℕ) → place_of (entry less n) ≡ some q → Dec (n ≡ k) → ⊥
      nowhere n h (yes z) = none-ne-some _ (sym (ap place_of (swap-same removing)) ∙ ap (λ (m : ℕ). place_of (entry less m)) (sym z) ∙ h)
      nowhere n h (no z) = removing.alone n z (sym (ap place_of (swap-other removing n z)) ∙ h)

      go : Dec (number less q ≡ 0) → number less q ≡ 0
      go (yes z) = z
      go (no z) = absurd (nowhere (number less q) (number-place less q z) (ℕ_discrete (number less q) k))

  -- ---- the table before the row is freed

  abbrev own : List ℤ
  own = row_with g es f (entry es k)

  after-long : length after ≡ (cap + 1) * row_words
  after-long = linked-length g less f ∙ rw (length-set, r.long)

  k-le : k ≤ cap
  k-le = omega (arith, removing.inside, r.long)

  -- the new table with the old row
  abbrev middle : List ℤ
  middle = put_row after k own

  fits : k * row_words + row_words ≤ length after
  fits = omega (arith, after-long, k-le)

  middle-own : (v : ℕ) → v < row_words → word middle k v ≡ word before k v
  middle-own v i = put_same after own k (row-length g es f (entry es k)) fits v i ∙ sym (linked-word g es f k v i)

  middle-other : (n v : ℕ) → v < row_words → n ≢ k → word middle n v ≡ word after n v
  middle-other n v i z = put_other after own k (row-length g es f (entry es k)) fits n v i z

  bound : (n v : ℕ) → n ≤ cap → v < row_words → n * row_words + v < length middle
  bound n v h i = omega (arith, put-length after own k (row-length g es f (entry es k)) fits, after-long)

  -- ---- where the two tables differ

  abbrev over : ℕ
  over = number_of es (parent q)

  abbrev beside : Wind → ℕ
  beside w = number_of es (step g w q)

  abbrev kid : ℕ
  kid = kid_word (q.i % 2) (q.j % 2)

  abbrev back : Wind → List Slot
  back w = (beside w, word_of_wind (compass w).opposite) ∷ []

  start : Off before middle ((over, kid) ∷ flat (map back side_winds))
  start = off_at lengths
      (λ v i. word-nil g es f 0 v i r.numbered.zeroth ∙ sym (middle-other 0 v i (λ z. removing.not-nil (sym z)) ∙ word-nil g less f 0 v i (swap-numbered removing).zeroth))
      (λ n v i. go n v i (ℕ_discrete n k))
    where
      lengths : length before ≡ length middle
      lengths = linked-length g es f ∙ ap (λ (n : ℕ). n * row_words) r.long ∙ sym (put-length after own k (row-length g es f (entry es k)) fits ∙ after-long)

      kept : (n v : ℕ) → v < row_words → n ≢ k → Toward g es q n v ⊎ (word before n v ≡ word after n v) → Hit n v ((over, kid) ∷ flat (map back side_winds)) ⊎ (word before n v ≡ word middle n v)
      kept n v i z (inl (as-parent a b)) = inl (inl (a, b))
      kept n v i z (inl (as-side w t a b)) = inl (inr (hit-side back n v w t (inl (a, b))))
      kept n v i z (inr e) = inr (e ∙ sym (middle-other n v i z))

      go : (n v : ℕ) → v < row_words → Dec (n ≡ k) → Hit n v ((over, kid) ∷ flat (map back side_winds)) ⊎ (word before n v ≡ word middle n v)
      go n v i (yes z) = inr (rw z (sym (middle-own v i)))
      go n v i (no z) = kept n v i z (row_kept removing f f (λ p h. refl) n v z i)

  -- ---- the writes

  abbrev first : List ℤ
  first = put_word before (link_of before cap k 0) (kid_word (word_of before k 10 % 2) (word_of before k 11 % 2)) 0

  over-written : Off first middle (flat (map back side_winds))
  over-written =
      rw (up_is, i-of g es f k q there, j-of g es f k q there)
      (write over kid (pos 0) start (bound over kid (number-le r (parent q)) kid-lt) kid-lt (middle-other over kid kid-lt (above-there removing).3 ∙ parent-names removing f ∙ ap pos take-out-number))
    where
      kid-lt : kid < row_words
      kid-lt = omega (arith, kid-word-range (q.i % 2) (q.j % 2) (omega arith))

      up_is : link_of before cap k 0 ≡ over
      up_is = link-of r f k 0 (omega arith) ∙ ap (λ (o : Option Place). number_of es (get_or (around g o) 0 none)) there ∙ ap (number_of es) (around-parent g (some q))

  -- the row itself is not written, and still has its links
  beside-is : (t : List ℤ) (ws : List Wind) → T (all aside ws) → Off t middle (flat (map back ws)) → (w : Wind) → T (aside w) → link_of t cap k (word_of_wind w) ≡ beside w
  unfolding link_of word_of
  beside-is t ws sides off w s =
      let v-lt : word_of_wind w < row_words = omega (arith, side-word-lt w s) in
      rw (untouched off k (word_of_wind w) v-lt not_own, middle-own (word_of_wind w) v-lt)
      (link-of r f k (word_of_wind w) (side-word-lt w s).1 ∙ ap (λ (o : Option Place). number_of es (get_or (around g o) (word_of_wind w) none)) there ∙ ap (number_of es) (around-side g w s (some q)))
    where
      at_side : (x : Wind) → T (aside x) → k ≢ 0 → Hit k (word_of_wind w) (back x) → ⊥
      at_side x t z (inl (a, b)) = let (p, i, h, y) = beside-there removing x t (λ c. z (a ∙ c)) in y (sym a)
      at_side x t z (inr a) = absurd a

      not_own : k ≢ 0 → Hit k (word_of_wind w) (flat (map back ws)) → ⊥
      not_own z i = let (x, t, j) = side-hit back k (word_of_wind w) ws sides i in at_side x t z j

  dropped-side : (w : Wind) (ws : List Wind) → T (all aside (w ∷ ws)) → (t : List ℤ) → Off t middle (flat (map back (w ∷ ws))) → Off (drop_side t cap k w) middle (flat (map back ws))
  unfolding drop_side
  dropped-side w ws sides t off =
      let s = and_left (aside w) (all aside ws) sides in
      let v = word_of_wind (compass w).opposite in
      let v-lt : v < row_words = omega (arith, side-word-lt (compass w).opposite (opposite-aside w s)) in
      rw (beside-is t (w ∷ ws) sides off w s)
      (write-unless (beside w) v 0 off (bound (beside w) v (number-le r (step g w q)) v-lt) v-lt (λ z.
      middle-other (beside w) v v-lt (beside-there removing w s z).3 ∙ side-names removing f w s z ∙ ap pos take-out-number))

  -- and then it is free
  freed : put_row middle k free_row ≡ after
  freed = settled (off_at (put-length middle free_row k refl fits' ∙ put-length after own k (row-length g es f (entry es k)) fits)
      (λ v i. row 0 v i (ℕ_discrete 0 k)) (λ n v i. inr (row n v i (ℕ_discrete n k))))
    where
      fits' : k * row_words + row_words ≤ length middle
      fits' = omega (arith, put-length after own k (row-length g es f (entry es k)) fits, after-long, k-le)

      row : (n v : ℕ) → v < row_words → Dec (n ≡ k) → word (put_row middle k free_row) n v ≡ word after n v
      row n v i (yes z) = rw z (put_same middle free_row k refl fits' v i ∙ sym (word-free g less f k v i (swap-same removing)))
      row n v i (no z) = put_other middle free_row k refl fits' n v i z ∙ middle-other n v i z

  pub take_out_lem : take_out (table_with g es f) cap k ≡ table_with g (set es k free) f
  unfolding take_out
  take_out_lem = ap (λ (t : List ℤ). put_row t k free_row) (settled (turned (λ t w. drop_side t cap k w) back dropped-side side_winds tt first over-written)) ∙ freed

  pub take-out-rooted : Rooted g cap (set es k free)
  take-out-rooted = swap-rooted removing
