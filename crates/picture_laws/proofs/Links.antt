-- The words 0 to 8 of a row: each names the patch at its place around the row's own, if one stands there ("Neighbours are the existing patches on
-- the same level one step away .., ghosts too", 01), so that a link leads back because the place does.
-- Assumes nothing.
use Prim.Native.Nat.{ℕ, ◌<◌}
use native.Mathlib.Omega.{arith}
use mathlib.Core.Path.{◌≡◌, refl, sym, ap, ◌∙◌}
use mathlib.Core.Logic.{◌≢◌, ◌↔◌}
use mathlib.Core.Option
use mathlib.Core.Option.{Option, none, some, some-injective}
use mathlib.Core.List.{List, map}
use lib.Dec.{T, eqb, eqb_refl}
use lib.IntN.{pos, nat_abs}
use lib.ListN.{get_or, get_or-append, get_or-map}
use Rattle.mesh.specs.Place.{Place, Grid, Wind, NE, SE, SW, NW, N, E, S, W, compass, kid_winds, side_winds, same, then, step, kid, kids, parent, around}
use Rattle.mesh.specs.Winds.{word_of_wind, ◌of◌}
use Rattle.mesh.specs.Mesh.{patch}
use Rattle.mesh.specs.State.{State, Entry, place_of, entry, cells, number_of, grid_of}
use Rattle.mesh.specs.Valid.{Valid}
use Rattle.mesh.specs.Picture.{fields, row_of, link_word}
use Rattle.mesh.proofs.Winds.{rule}
use Rattle.place_laws.proofs.Lists.{any_at, any-hit, any-map}
use Rattle.place_laws.proofs.Steps.{step_back}
use Rattle.place_laws.proofs.Places.{same-is}
use Rattle.place_laws.proofs.Kids.{parent-kid, parent_in}
use Rattle.place_laws.proofs.SideDigits.{opposite-aside}
use Rattle.number_laws.proofs.Entries.{in-stands}
use Rattle.number_laws.proofs.NumberedPlaces.{valid-numbered, number-place, place-number, not-zero}
use Rattle.picture_laws.proofs.Rows.{get_d-repeated, table-word}

-- ---- the places around a place, by word and by wind

pub wind-lt : (w : Wind) → word_of_wind w < 9
wind-lt w = let h = (rule w).below in omega arith

pub around-parent : (g : Grid) (o : Option Place) → get_or (around g o) 0 none ≡ then parent o
unfolding around
around-parent g o = refl

pub around-kid : (g : Grid) (w : Wind) → T (w of kid_winds) → (o : Option Place) → get_or (around g o) (word_of_wind w) none ≡ Option.map (kid w) o
unfolding around
around-kid g NE t o = refl
around-kid g SE t o = refl
around-kid g SW t o = refl
around-kid g NW t o = refl
around-kid g N t o = absurd t
around-kid g E t o = absurd t
around-kid g S t o = absurd t
around-kid g W t o = absurd t

pub around-side : (g : Grid) (w : Wind) → T (w of side_winds) → (o : Option Place) → get_or (around g o) (word_of_wind w) none ≡ then (step g w) o
unfolding around
around-side g NE t o = absurd t
around-side g SE t o = absurd t
around-side g SW t o = absurd t
around-side g NW t o = absurd t
around-side g N t o = refl
around-side g E t o = refl
around-side g S t o = refl
around-side g W t o = refl

-- around no place there is none
pub around-none : (g : Grid) (w : ℕ) → get_or (around g none) w none ≡ none
unfolding around
around-none g w = get_d-repeated none 9 w

-- a kid's wind is one of the kids'
pub kid_of : (q p : Place) → parent q ≡ some p → (w : Wind) × T (w of kid_winds) × (kid w p ≡ q)
unfolding kids
kid_of q p e =
    let (k, l, h) = any-hit (λ w. same q (kid w p)) NE kid_winds (rw any-map at (parent_in q p e)) in
    let w = get_or kid_winds k NE in
    (w, any_at (λ x. eqb (word_of_wind x) (word_of_wind w)) NE kid_winds k l (eqb_refl (word_of_wind w)), sym (same-is q (kid w p) h))

-- ---- a row's links

-- one law for the nine words of every row, the nil patch's and a free one included
pub row-link : (g : Grid) (es : List Entry) (e : Entry) (w : ℕ) → w < 9 → get_or (row_of g es e) w (pos 0) ≡ pos (number_of es (get_or (around g (place_of e)) w none))
unfolding row_of around
row-link g es e w l =
    get_or-append (map (λ o. pos (number_of es o)) (around g (place_of e))) (fields g es e) (pos 0) w l
    ∙ get_or-map (λ o. pos (number_of es o)) (around g (place_of e)) w none

pub table-link : (s : State) (n w : ℕ) → w < 9 → link_word s n w ≡ pos (number_of s.entries (get_or (around (grid_of s) (place_of (entry s.entries n))) w none))
table-link s n w l = table-word s n w (omega arith) ∙ row-link (grid_of s) s.entries (entry s.entries n) w l

-- the place of a number that is not 0, by the place's number
named : (es : List Entry) (o : Option Place) (m : ℕ) → m ≢ 0 → number_of es o ≡ m → (q : Place) × (o ≡ some q) × (place_of (entry es m) ≡ some q)
named es none m z e = absurd (z (sym e))
named es (some q) m z e = (q, refl, rw (← e) (number-place es q (λ y. z (sym e ∙ y))))

module _ (s : State) (v : Valid s) where
  -- a link that is not 0 leads from a patch to the patch at the word's place around it
  follow : (n m w : ℕ) → w < 9 → m ≢ 0 → link_word s n w ≡ pos m
      → (p : Place) × (q : Place) × (place_of (entry s.entries n) ≡ some p) × (place_of (entry s.entries m) ≡ some q) × (get_or (around (grid_of s) (some p)) w none ≡ some q)
  follow n m w l z e = go (place_of (entry s.entries n)) refl
    where
      k : number_of s.entries (get_or (around (grid_of s) (place_of (entry s.entries n))) w none) ≡ m
      k = ap nat_abs (sym (table-link s n w l) ∙ e)

      go : (o : Option Place) → place_of (entry s.entries n) ≡ o → (p : Place) × (q : Place) × (place_of (entry s.entries n) ≡ some p) × (place_of (entry s.entries m) ≡ some q) × (get_or (around (grid_of s) (some p)) w none ≡ some q)
      go none h = absurd (z (sym k ∙ ap (λ (o : Option Place). number_of s.entries (get_or (around (grid_of s) o) w none)) h ∙ ap (number_of s.entries) (around-none (grid_of s) w)))
      go (some p) h =
          let (q, a, b) = named s.entries (get_or (around (grid_of s) (some p)) w none) m z (rw h at k) in
          (p, q, h, b, a)

  -- and a patch at the word's place is named
  meet : (n m w : ℕ) (p q : Place) → w < 9 → place_of (entry s.entries n) ≡ some p → place_of (entry s.entries m) ≡ some q
      → get_or (around (grid_of s) (some p)) w none ≡ some q → link_word s n w ≡ pos m
  meet n m w p q l a b e =
      table-link s n w l
      ∙ ap (λ (o : Option Place). pos (number_of s.entries (get_or (around (grid_of s) o) w none))) a
      ∙ ap (λ (o : Option Place). pos (number_of s.entries o)) e
      ∙ ap pos (place-number s.entries (valid-numbered v) m q b)

  -- between patches, a link says exactly that the one stands at the word's place around the other
  pub link-place : (n m w : ℕ) (p q : Place) → w < 9 → place_of (entry s.entries n) ≡ some p → place_of (entry s.entries m) ≡ some q
      → (link_word s n w ≡ pos m) ↔ (get_or (around (grid_of s) (some p)) w none ≡ some q)
  link-place n m w p q l a b = (
    λ e.
        let (p', q', a', b', h) = follow n m w l (not-zero s.entries (valid-numbered v) m q b) e in
        ap (λ (o : Option Place). get_or (around (grid_of s) o) w none) (sym a ∙ a') ∙ h ∙ sym b' ∙ b,
    meet n m w p q l a b,
  )

  -- every patch of the mesh at a word's place is named, a ghost too, and what is named is one
  pub patch-linked : (n w : ℕ) (p q : Place) → w < 9 → place_of (entry s.entries n) ≡ some p → get_or (around (grid_of s) (some p)) w none ≡ some q
      → T (patch (grid_of s) (cells s.entries) q) → (m : ℕ) × (place_of (entry s.entries m) ≡ some q) × (link_word s n w ≡ pos m)
  patch-linked n w p q l a h t =
      let (m, i, b) = in-stands s.entries q (v.every q t) in
      (m, b, meet n m w p q l a b h)

  pub linked-patch : (n m w : ℕ) → w < 9 → m ≢ 0 → link_word s n w ≡ pos m
      → (p : Place) × (q : Place) × (place_of (entry s.entries n) ≡ some p) × (get_or (around (grid_of s) (some p)) w none ≡ some q) × T (patch (grid_of s) (cells s.entries) q)
  linked-patch n m w l z e =
      let (p, q, a, b, h) = follow n m w l z e in
      (p, q, a, h, v.each m q b)

  -- ---- links lead back

  pub links-return : (w : Wind) → T (w of side_winds) → (n m : ℕ) → m ≢ 0 → link_word s n (word_of_wind w) ≡ pos m → link_word s m (word_of_wind (compass w).opposite) ≡ pos n
  links-return w t n m z e =
      let (p, q, a, b, h) = follow n m (word_of_wind w) (wind-lt w) z e in
      let back : step (grid_of s) (compass w).opposite q ≡ some p = step_back (grid_of s) w p q (sym (around-side (grid_of s) w t (some p)) ∙ h) in
      meet m n (word_of_wind (compass w).opposite) q p (wind-lt (compass w).opposite) b a (around-side (grid_of s) (compass w).opposite (opposite-aside w t) (some q) ∙ back)

  kid-return : (w : Wind) → T (w of kid_winds) → (n m : ℕ) → m ≢ 0 → link_word s n (word_of_wind w) ≡ pos m → link_word s m 0 ≡ pos n
  kid-return w t n m z e =
      let (p, q, a, b, h) = follow n m (word_of_wind w) (wind-lt w) z e in
      let k : kid w p ≡ q = some-injective _ _ (sym (around-kid (grid_of s) w t (some p)) ∙ h) in
      meet m n 0 q p (omega arith) b a (around-parent (grid_of s) (some q) ∙ ap parent (sym k) ∙ parent-kid w p)

  parent-return : (n m : ℕ) → n ≢ 0 → link_word s m 0 ≡ pos n → (w : Wind) × T (w of kid_winds) × (link_word s n (word_of_wind w) ≡ pos m)
  parent-return n m z e =
      let (q, p, b, a, h) = follow m n 0 (omega arith) z e in
      let (w, t, k) = kid_of q p (sym (around-parent (grid_of s) (some q)) ∙ h) in
      (w, t, meet n m (word_of_wind w) p q (wind-lt w) a b (around-kid (grid_of s) w t (some p) ∙ ap some k))

  -- a kid's parent word names the patch that names the kid, and a patch that a parent word names has a kid word for it
  pub parent-kid-return : (n m : ℕ) → ((w : Wind) → T (w of kid_winds) → m ≢ 0 → link_word s n (word_of_wind w) ≡ pos m → link_word s m 0 ≡ pos n)
      × (n ≢ 0 → link_word s m 0 ≡ pos n → (w : Wind) × T (w of kid_winds) × (link_word s n (word_of_wind w) ≡ pos m))
  parent-kid-return n m = (λ w t z e. kid-return w t n m z e, parent-return n m)
