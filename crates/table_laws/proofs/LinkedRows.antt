-- Links in the picture of a valid state: the row under a place's number is the place's, so a link of a link is a step of a step. A place without a
-- number is no patch, and nor is any kid of it; row 0, which stands for it, links to nothing.
-- Assumes nothing.
use Prim.Native.Nat.{ℕ, zero, suc, ◌+◌, ◌%◌, ◌≤◌, ◌<◌}
use native.Mathlib.Omega.{arith}
use native.Mathlib.Decide.{ℕ_discrete, dec_lt}
use mathlib.Core.Path.{◌≡◌, refl, sym, ap, ◌∙◌}
use mathlib.Core.Logic.{◌≢◌}
use mathlib.Core.Bool.{Bool, true, false, cond}
use mathlib.Core.Option.{Option, none, some, map}
use mathlib.Core.List.{List, [], ◌∷◌}
use lib.Dec.{T, lit<, lit≤}
use lib.ListN.{get_or}
use Rattle.mesh.specs.Tools.{all, every, or_else}
use Rattle.mesh.specs.Place.{Place, Grid, at, root, Wind, NE, SE, SW, NW, kid_winds, side_winds, base, then, step, kid, kids, parent, around}
use Rattle.mesh.specs.Seam.{crosses}
use Rattle.mesh.specs.Winds.{word_of_wind, ◌of◌}
use Rattle.mesh.specs.Mesh.{Mesh, touched, patch}
use Rattle.mesh.specs.State.{State, Entry, place_of, entry, cells, number, number_of, grid_of, capacity}
use Rattle.mesh.specs.Valid.{Valid}
use Rattle.mesh.specs.Picture.{table}
use Rattle.table.specs.Words.{link_of, depth_of}
use Rattle.worked.specs.Worked.{kid_word, side_by, side_of, down_to, side_in}
use Rattle.worked.proofs.Offsets.{kid-word-range}
use Rattle.place_laws.proofs.Kids.{parent_up, no-parent, parent-kid}
use Rattle.place_laws.proofs.SideDigits.{kid_by, i_moved, j_moved, stays, step-digits}
use Rattle.place_laws.proofs.Laps.{Smooth, smooth-is}
use Rattle.place_laws.proofs.Near.{Corner, touched-corner}
use Rattle.place_laws.proofs.Tree.{corner-patch, patch-parent, patch-high}
use Rattle.place_laws.proofs.Bools.{cond_same}
use Rattle.place_laws.proofs.Base.{base-range, depth-zero-root, lap-many}
use Rattle.number_laws.proofs.NumberedPlaces.{valid-numbered, number-place, place-number, numbered-not-zero, off-root, beside-root}
use Rattle.table_laws.proofs.DownRows.{down-from}
use Rattle.picture_laws.proofs.Links.{around-parent, around-kid, around-side, wind-lt}
use Rattle.table_laws.proofs.Pictured.{link-word, link-number, nil-words, word-i, word-j, depth-within}

-- ---- where patches can stand

module _ (g : Grid) (c : Place → Bool) (m : Mesh g c) where
  -- where a cell touches there is a patch
  pub touched-stands : (p : Place) → T (touched g c p) → T (patch g c p)
  touched-stands p t = let (r, k, b) = touched-corner g c p t in corner-patch g c (m.low r b) k b

-- a kid word is one of the links
pub kid-word-lt : (l m : ℕ) → m ≤ 1 → kid_word l m < 9
kid-word-lt l m h = omega (arith, kid-word-range l m h)

module _ (s : State) (v : Valid s) where
  abbrev g : Grid
  g = grid_of s

  abbrev es : List Entry
  es = s.entries

  abbrev c : Place → Bool
  c = cells s.entries

  -- ---- numbers and patches

  -- a patch stands under its place's number
  pub patch-numbered : (p : Place) → T (patch g c p) → place_of (entry es (number es p)) ≡ some p
  patch-numbered p t = number-place es p (numbered-not-zero es (valid-numbered v) p (v.every p t))

  -- the corners of a cell have numbers
  pub corner-numbered : {p q : Place} → T (c p) → Corner g p q → number es q ≢ 0
  corner-numbered {p} {q} t k = numbered-not-zero es (valid-numbered v) q (v.every q (corner-patch g c (v.mesh.low p t) k t))

  -- the depth that the level's word says
  pub depth-of : (n : ℕ) (p : Place) → place_of (entry es n) ≡ some p → depth_of (table s) (base g) n ≡ p.depth
  depth-of n p h = depth-within s n p h (base-range g v.rectangle).1 (patch-high g c v.mesh p (v.each n p h))

  -- ---- links by wind

  -- the parent and the neighbours of a row with a place
  module _ (n : ℕ) (p : Place) (h : place_of (entry es n) ≡ some p) where
    link-around : (w : ℕ) → w < 9 → link_of (table s) (capacity s) n w ≡ number_of es (get_or (around g (some p)) w none)
    link-around w l = link-number s n w l ∙ ap (λ (o : Option Place). number_of es (get_or (around g o) w none)) h

    pub link-parent : link_of (table s) (capacity s) n 0 ≡ number_of es (parent p)
    link-parent = link-around 0 (lit< tt) ∙ ap (number_of es) (around-parent g (some p))

    pub link-side : (w : Wind) → T (w of side_winds) → link_of (table s) (capacity s) n (word_of_wind w) ≡ number_of es (step g w p)
    link-side w t = link-around (word_of_wind w) (wind-lt w) ∙ ap (number_of es) (around-side g w t (some p))

  -- row 0 links to nothing
  pub link-nil : (w : ℕ) → w < 9 → link_of (table s) (capacity s) 0 w ≡ 0
  link-nil w l = link-word s 0 w l ∙ nil-words s 0 w v.zeroth (omega arith)

  -- the kids of a place that may be missing or have no number: then they have none either
  pub link-kid : (w : Wind) → T (w of kid_winds) → (o : Option Place) → link_of (table s) (capacity s) (number_of es o) (word_of_wind w) ≡ number_of es (map (kid w) o)
  link-kid w t none = link-nil (word_of_wind w) (wind-lt w)
  link-kid w t (some p) = go (ℕ_discrete (number es p) 0) (ℕ_discrete (number es (kid w p)) 0)
    where
      go : Dec (number es p ≡ 0) → Dec (number es (kid w p) ≡ 0) → link_of (table s) (capacity s) (number es p) (word_of_wind w) ≡ number es (kid w p)
      go (yes z) (yes y) = ap (λ (k : ℕ). link_of (table s) (capacity s) k (word_of_wind w)) z ∙ link-nil (word_of_wind w) (wind-lt w) ∙ sym y
      go (yes z) (no y) =
          let k : T (patch g c (kid w p)) = v.each (number es (kid w p)) (kid w p) (number-place es (kid w p) y) in
          absurd (numbered-not-zero es (valid-numbered v) p (v.every p (patch-parent g c v.mesh (kid w p) p (parent-kid w p) k)) z)
      go (no z) y =
          link-around (number es p) p (number-place es p z) (word_of_wind w) (wind-lt w)
          ∙ ap (number_of es) (around-kid g w t (some p))

  -- by the kid's digits
  pub kid-link : (l m : ℕ) → l ≤ 1 → m ≤ 1 → (o : Option Place) → link_of (table s) (capacity s) (number_of es o) (kid_word l m) ≡ number_of es (map (kid_by l m) o)
  unfolding kid kid_by
  kid-link zero zero a b o = link-kid SW tt o
  kid-link zero (suc zero) a b o = link-kid NW tt o
  kid-link (suc zero) zero a b o = link-kid SE tt o
  kid-link (suc zero) (suc zero) a b o = link-kid NE tt o
  kid-link (suc (suc l)) m a b o = absurd (omega arith)
  kid-link zero (suc (suc m)) a b o = absurd (omega arith)
  kid-link (suc zero) (suc (suc m)) a b o = absurd (omega arith)

  module _ (n : ℕ) (p : Place) (h : place_of (entry es n) ≡ some p) where
    pub link-kid-of : (l m : ℕ) → l ≤ 1 → m ≤ 1 → link_of (table s) (capacity s) n (kid_word l m) ≡ number es (kid_by l m p)
    link-kid-of l m a b = rw (place-number es (valid-numbered v) n p h) at (kid-link l m a b (some p))

    -- a test of the four kid words is one of the kids' numbers
    pub kids_every : (f : ℕ → Bool) → every (f (link_of (table s) (capacity s) n 1) ∷ f (link_of (table s) (capacity s) n 2) ∷ f (link_of (table s) (capacity s) n 3) ∷ f (link_of (table s) (capacity s) n 4) ∷ [])
        ≡ all (λ q. f (number es q)) (kids p)
    unfolding kids kid kid_by
    kids_every f =
        rw (
          link-kid-of 1 1 (lit≤ tt) (lit≤ tt),
          link-kid-of 1 0 (lit≤ tt) (lit≤ tt),
          link-kid-of 0 0 (lit≤ tt) (lit≤ tt),
          link-kid-of 0 1 (lit≤ tt) (lit≤ tt),
        )

  -- ---- neighbours

  -- no other place is on the root's level
  alone-on-top : (n : ℕ) (q : Place) → place_of (entry es n) ≡ some q → q.depth ≡ 0 → q ≡ root
  alone-on-top n q h d = depth-zero-root g c v.mesh v.rectangle q d (v.each n q h)

  -- the neighbour is a kid of the parent, or of the parent's neighbour, but across the seam of level 0
  pub side-of : (w : Wind) → T (w of side_winds) → (n : ℕ) (p : Place) → place_of (entry es n) ≡ some p → Smooth g w p → side_of (table s) (capacity s) n w ≡ number_of es (step g w p)
  unfolding side_of side_by
  side-of w t n p h smooth =
      rw (word-i s n p h, word-j s n p h, parent_row (stays w p))
      (kid-link ((i_moved w p + 1) % 2) ((j_moved w p + 1) % 2) (omega arith) (omega arith) (cond (stays w p) (parent p) (then (step g w) (parent p)))
      ∙ go (dec_lt 0 p.depth))
    where
      next : (o : Option Place) → parent p ≡ o → link_of (table s) (capacity s) (number_of es o) (word_of_wind w) ≡ number_of es (then (step g w) o)
      next none e = link-nil (word_of_wind w) (wind-lt w)
      next (some q) e = link-side (number es q) q (patch-numbered q (patch-parent g c v.mesh p q e (v.each n p h))) w t

      parent_row : (b : Bool) → cond b (link_of (table s) (capacity s) n 0) (link_of (table s) (capacity s) (link_of (table s) (capacity s) n 0) (word_of_wind w))
          ≡ number_of es (cond b (parent p) (then (step g w) (parent p)))
      parent_row true = link-parent n p h
      parent_row false = ap (λ (k : ℕ). link_of (table s) (capacity s) k (word_of_wind w)) (link-parent n p h) ∙ next (parent p) refl

      go : Dec (0 < p.depth) → number_of es (map (kid_by ((i_moved w p + 1) % 2) ((j_moved w p + 1) % 2)) (cond (stays w p) (parent p) (then (step g w) (parent p))))
          ≡ number_of es (step g w p)
      go (yes l) = rw (parent_up p l, step-digits g w t p l smooth)
      go (no l) =
          let d : p.depth ≡ 0 = omega (arith, l) in
          let e : p ≡ root = alone-on-top n p h d in
          rw (no-parent p d, cond_same) (sym (ap (λ (x : Place). number_of es (step g w x)) e ∙ beside-root es alone-on-top g (lap-many g v.rectangle 0) w t))

  -- so every neighbour is found, over both modes
  pub side-in : (w : Wind) → T (w of side_winds) → (n : ℕ) (p : Place) → place_of (entry es n) ≡ some p → side_in g (table s) (capacity s) n w ≡ number_of es (step g w p)
  unfolding side_in
  side-in w t n p h = rw (depth-of n p h, word-i s n p h, word-j s n p h) (go (crosses g w p) refl)
    where
      go : (b : Bool) → crosses g w p ≡ b → cond b (or_else 0 (λ q. down_to (table s) (capacity s) q.depth q.i q.j) (step g w p)) (side_of (table s) (capacity s) n w) ≡ number_of es (step g w p)
      go true e = down-from (table s) (capacity s) es kid-link (place-number es (valid-numbered v) 1 root v.first-root) (off-root es alone-on-top) (step g w p)
      go false e = side-of w t n p h (smooth-is g w p e)
