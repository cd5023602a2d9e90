-- Numbers and places of a list of entries in which no place stands twice.
-- Assumes nothing.
use Prim.Native.Nat.{ℕ}
use native.Mathlib.Nat.{zero-add}
use native.Mathlib.Decide.{ℕ_discrete}
use mathlib.Core.Path.{◌≡◌, refl, sym, ap, ◌∙◌}
use mathlib.Core.Logic.{◌≢◌}
use mathlib.Core.Option.{Option, none, some, none-ne-some}
use mathlib.Core.List.{List}
use lib.Dec.{T}
use Rattle.number_laws.specs.Numbered.{Numbered}
use Rattle.mesh.specs.Tools.{any, first, is_some}
use Rattle.mesh.specs.Place.{Place, Grid, Wind, root, lap, step}
use Rattle.mesh.specs.State.{State, Entry, nil, used, Cell, place_of, cell_of, stands, entry, cells, number, number_of, contents}
use Rattle.mesh.specs.Valid.{Valid}
use Rattle.place_laws.proofs.Bools.{bool-ext}
use Rattle.place_laws.proofs.Lists.{first-hit, first-at}
use Rattle.place_laws.proofs.SideDigits.{aside, step-depth, step_other}
use Rattle.number_laws.proofs.Entries.{stands-place, place-stands, place-used, in_list, in-stands, cell-there, cell-somewhere}

pub valid-numbered : {s : State} → Valid s → Numbered s.entries
valid-numbered v = record { zeroth = v.zeroth; once = v.once }

-- the patch under a place's number stands at that place
pub number-place : (es : List Entry) (p : Place) → number es p ≢ 0 → place_of (entry es (number es p)) ≡ some p
unfolding number
number-place es p h =
    let (k, e, l, t) = first-hit (stands p) nil 0 es h in
    stands-place p (entry es (first (stands p) 0 es)) (rw (e, zero-add) t)

module _ (es : List Entry) (u : Numbered es) where
  -- and a patch's number is the number of its place
  pub place-number : (n : ℕ) (p : Place) → place_of (entry es n) ≡ some p → number es p ≡ n
  unfolding number
  place-number n p h =
      first-at (stands p) nil 0 es n (in_list es n p h) (place-stands p (entry es n) h)
      (λ j lj tj. u.once j n p (stands-place p (entry es j) tj) h)
      ∙ zero-add n

  -- nothing has the number 0
  pub not-zero : (n : ℕ) (p : Place) → place_of (entry es n) ≡ some p → n ≢ 0
  not-zero n p h z = none-ne-some _ (ap place_of (sym u.zeroth ∙ ap (entry es) (sym z)) ∙ h)

  pub numbered-not-zero : (p : Place) → T (any (stands p) es) → number es p ≢ 0
  numbered-not-zero p t z =
      let (n, l, h) = in-stands es p t in
      not-zero n p h (sym (place-number n p h) ∙ z)

  -- a place without a number has no entry
  pub unnumbered : (p : Place) → number es p ≡ 0 → (n : ℕ) → place_of (entry es n) ≡ some p → ⊥
  unnumbered p z n h = not-zero n p h (sym (place-number n p h) ∙ z)

-- ---- beside the root

-- no other place is on the root's level
module _ (es : List Entry) (top : (n : ℕ) (q : Place) → place_of (entry es n) ≡ some q → q.depth ≡ 0 → q ≡ root) where
  pub off-root : (q : Place) → q.depth ≡ 0 → q ≢ root → number es q ≡ 0
  off-root q d z = go (ℕ_discrete (number es q) 0)
    where
      go : Dec (number es q ≡ 0) → number es q ≡ 0
      go (yes k) = k
      go (no k) = absurd (z (top (number es q) q (number-place es q k) d))

  pub beside-root : (g : Grid) → lap g 0 ≢ 1 → (w : Wind) → T (aside w) → number_of es (step g w root) ≡ 0
  beside-root g one w t = go (step g w root) refl
    where
      go : (o : Option Place) → step g w root ≡ o → number_of es o ≡ 0
      go none e = refl
      go (some q) e = off-root q (step-depth g w t root q e) (λ z. step_other g w t root one (e ∙ ap some z))

-- ---- what stands at a place

module _ (es : List Entry) (u : Numbered es) where
  pub entry-contents : (n : ℕ) (p : Place) (o : Option Cell) → entry es n ≡ used p o → contents es p ≡ o
  entry-contents n p o e = ap (λ (k : ℕ). cell_of (entry es k)) (place-number es u n p (ap place_of e)) ∙ ap cell_of e

  contents-cells : (p : Place) (o : Option Cell) → contents es p ≡ o → T (is_some o) → T (cells es p)
  contents-cells p none e t = absurd t
  contents-cells p (some x) e t = go (ℕ_discrete (number es p) 0)
    where
      go : Dec (number es p ≡ 0) → T (cells es p)
      go (yes z) = absurd (none-ne-some _ (ap cell_of (sym u.zeroth ∙ ap (entry es) (sym z)) ∙ e))
      go (no z) = cell-there es (number es p) p x (place-used (entry es (number es p)) p (number-place es p z) ∙ ap (used p) e)

  -- the cells are where the contents are some
  pub cells-contents : (p : Place) → cells es p ≡ is_some (contents es p)
  cells-contents p =
      bool-ext (cells es p) (is_some (contents es p))
      (λ t. let (n, x, e) = cell-somewhere es p t in rw (entry-contents n p (some x) e) tt)
      (λ t. contents-cells p (contents es p) refl t)
