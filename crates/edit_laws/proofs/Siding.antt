-- The neighbour's row that is worked out from the parent's links is the row of the patch one step away: a step leads to a kid of the parent or
-- of the parent's neighbour, and where that neighbour does not stand, none of its kids does.
-- Assumes nothing.
use Prim.Native.Nat.{ℕ, ◌+◌, ◌%◌, ◌≤◌, ◌<◌}
use native.Mathlib.Omega.{arith}
use native.Mathlib.Decide.{dec_lt}
use mathlib.Core.Path.{◌≡◌, refl, sym, ap, ◌∙◌}
use mathlib.Core.Logic.{◌≢◌}
use mathlib.Core.Bool.{Bool, true, false, cond}
use mathlib.Core.Option.{Option, none, some, map, none-ne-some, some-injective}
use mathlib.Core.List.{List}
use lib.Dec.{T}
use lib.IntN.{ℤ}
use lib.ListN.{get_or}
use Rattle.edit_laws.specs.Rooted.{Rooted}
use Rattle.mesh.specs.Place.{Place, Grid, then, step, parent, around, Wind}
use Rattle.mesh.specs.Winds.{word_of_wind}
use Rattle.mesh.specs.State.{Entry, place_of, entry, number, number_of}
use Rattle.place_laws.proofs.Laps.{Smooth}
use Rattle.place_laws.proofs.Kids.{parent_up, no-parent, parent-depth}
use Rattle.place_laws.proofs.SideDigits.{kid_by, aside, i_moved, j_moved, stays, step-digits, step-depth}
use Rattle.place_laws.proofs.Bools.{cond_same}
use Rattle.number_laws.proofs.NumberedPlaces.{number-place, numbered-not-zero, beside-root}
use Rattle.picture_laws.proofs.Links.{around-parent, around-side}
use Rattle.table.specs.Words.{code, word_of, link_of}
use Rattle.worked.specs.Worked.{kid_word, side_by, side_of}
use Rattle.worked.proofs.Offsets.{kid-word-range}
use Rattle.edit_laws.specs.Linked.{Flags, table_with}
use Rattle.edit_laws.proofs.Slots.{word}
use Rattle.edit_laws.proofs.Linked.{word-i, word-j}
use Rattle.edit_laws.proofs.Rooted.{link-of, kid-read}
use Rattle.edit_laws.proofs.LinkWords.{around-kid-by, side-word-lt}

-- ---- the words that are read

-- a table that has, of the linked table, the parent and the indices of the row n, and the links of every row that is not at the depth d
pub record Agrees (g : Grid) (es : List Entry) (f : Flags) (u : List ℤ) (n d : ℕ) : Type 0 where
  pub own-parent : word u n 0 ≡ word (table_with g es f) n 0
  pub own-col : word u n 10 ≡ word (table_with g es f) n 10
  pub own_row : word u n 11 ≡ word (table_with g es f) n 11
  pub links : (m v : ℕ) → v < 9 → ((q : Place) → place_of (entry es m) ≡ some q → q.depth ≢ d) → word u m v ≡ word (table_with g es f) m v

module _ {g : Grid} {cap : ℕ} {es : List Entry} (r : Rooted g cap es) (f : Flags) (u : List ℤ) (n : ℕ) (p : Place) (h : place_of (entry es n) ≡ some p)
    (a : Agrees g es f u n p.depth) where
  linked : (m v : ℕ) → v < 9 → word u m v ≡ word (table_with g es f) m v → link_of u cap m v ≡ number_of es (get_or (around g (place_of (entry es m))) v none)
  unfolding link_of word_of
  linked m v l e = rw e (link-of r f m v l)

  -- no place at the depth of p
  abbrev Apart : Option Place → Type 0
  Apart o = (q : Place) → o ≡ some q → q.depth ≢ p.depth

  link_at : (m v : ℕ) → v < 9 → (o : Option Place) → place_of (entry es m) ≡ o → Apart o → link_of u cap m v ≡ number_of es (get_or (around g o) v none)
  link_at m v l o e d = linked m v l (a.links m v l (λ q k. d q (sym e ∙ k))) ∙ ap (λ (x : Option Place). number_of es (get_or (around g x) v none)) e

  zeroth : place_of (entry es 0) ≡ none
  zeroth = ap place_of r.numbered.zeroth

  never : Apart none
  never q e = absurd (none-ne-some _ e)

  -- a kid of a place's patch, by the place's number; where no patch stands, no kid does
  kid-link : (l m : ℕ) → l ≤ 1 → m ≤ 1 → (o : Option Place) → Apart o → link_of u cap (number_of es o) (kid_word l m) ≡ number_of es (map (kid_by l m) o)
  kid-link l m x y o d =
      let small : kid_word l m < 9 = omega (arith, kid-word-range l m y) in
      kid-read r (λ k. link_of u cap k (kid_word l m)) Apart l m x y never (λ k q e c. link_at k (kid_word l m) small q e c ∙ ap (number_of es) (around-kid-by g l m x y q)) o d

  own-up : link_of u cap n 0 ≡ number_of es (parent p)
  own-up = linked n 0 (omega arith) a.own-parent ∙ ap (λ (o : Option Place). number_of es (get_or (around g o) 0 none)) h ∙ ap (number_of es) (around-parent g (some p))

  own-i : word_of u n 10 ≡ p.i
  unfolding word_of
  own-i = ap code (a.own-col ∙ word-i g es f n p h)

  own-j : word_of u n 11 ≡ p.j
  unfolding word_of
  own-j = ap code (a.own_row ∙ word-j g es f n p h)

  -- the step does not cross the seam of level 0
  module _ (w : Wind) (t : T (aside w)) (smooth : Smooth g w p) where
    -- the parent's neighbour
    beside : (o : Option Place) → parent p ≡ o → link_of u cap (number_of es o) (word_of_wind w) ≡ number_of es (then (step g w) o)
    beside none e = link_at 0 (word_of_wind w) (side-word-lt w t).1 none zeroth never ∙ ap (number_of es) (around-side g w t none)
    beside (some q) e =
        link_at (number es q) (word_of_wind w) (side-word-lt w t).1 (some q)
        (number-place es q (numbered-not-zero es r.numbered q (r.parents n p q h e)))
        (λ x k z. omega (arith, parent-depth p q e, ap (λ (y : Place). y.depth) (some-injective _ _ k)))
        ∙ ap (number_of es) (around-side g w t (some q))

    -- where the step leads from
    abbrev from : Option Place
    from = cond (stays w p) (parent p) (then (step g w) (parent p))

    from-apart : Apart from
    from-apart = go (stays w p) (parent p) refl
      where
        go : (b : Bool) (o : Option Place) → parent p ≡ o → Apart (cond b o (then (step g w) o))
        go true none e q k = never q k
        go false none e q k = never q k
        go true (some x) e q k = λ z. omega (arith, parent-depth p x e, ap (λ (y : Place). y.depth) (some-injective _ _ k))
        go false (some x) e q k = λ z. omega (arith, parent-depth p x e, step-depth g w t x q k)

    abbrev to_kid : Place → Place
    to_kid = kid_by ((i_moved w p + 1) % 2) ((j_moved w p + 1) % 2)

    from_step : number_of es (map to_kid from) ≡ number_of es (step g w p)
    from_step = go (dec_lt 0 p.depth)
      where
        by : Option Place → ℕ
        by o = number_of es (map to_kid (cond (stays w p) o (then (step g w) o)))

        go : Dec (0 < p.depth) → number_of es (map to_kid from) ≡ number_of es (step g w p)
        go (yes l) = ap by (parent_up p l) ∙ ap (number_of es) (sym (step-digits g w t p l smooth))
        go (no l) =
            let z : p.depth ≡ 0 = omega (arith, l) in
            let alone : number_of es (step g w p) ≡ 0 = ap (λ (x : Place). number_of es (step g w x)) (r.top n p h z) ∙ beside-root es r.top g (r.laps 0) w t in
            ap by (no-parent p z) ∙ rw cond_same (sym alone)

    number-from : cond (stays w p) (number_of es (parent p)) (number_of es (then (step g w) (parent p))) ≡ number_of es from
    number-from = go (stays w p)
      where
        go : (b : Bool) → cond b (number_of es (parent p)) (number_of es (then (step g w) (parent p))) ≡ number_of es (cond b (parent p) (then (step g w) (parent p)))
        go true = refl
        go false = refl

    pub side-by : side_of u cap n w ≡ number_of es (step g w p)
    unfolding side_of side_by
    side-by =
        rw (own-up, own-i, own-j, beside (parent p) refl, number-from)
        (kid-link ((i_moved w p + 1) % 2) ((j_moved w p + 1) % 2) (omega arith) (omega arith) from from-apart ∙ from_step)
