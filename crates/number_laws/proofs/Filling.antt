-- The patches at some places get another cell, or none: places and numbers stay, and the contents change there alone.
-- Assumes nothing.
use Prim.Native.Nat.{ℕ}
use native.Mathlib.Decide.{ℕ_discrete}
use mathlib.Core.Path.{◌≡◌, refl, sym, ap, ◌∙◌, fun_ext}
use mathlib.Core.Logic.{◌≢◌}
use mathlib.Core.Bool.{Bool, true, false, cond}
use mathlib.Core.Option.{Option, some}
use mathlib.Core.List.{List}
use lib.ListN.{length, length-map, get_or-map}
use Rattle.number_laws.specs.Numbered.{Numbered}
use Rattle.mesh.specs.Tools.{any, or_else, first, is_some}
use Rattle.mesh.specs.Place.{Place, same, In}
use Rattle.mesh.specs.State.{Entry, nil, free, used, Cell, place_of, cell_of, is_nil, is_free, stands, entry, cells, number, contents}
use Rattle.mesh.specs.Request.{filled, fill}
use Rattle.place_laws.proofs.Bools.{no-is}
use Rattle.place_laws.proofs.Lists.{any-map, first-map}
use Rattle.number_laws.proofs.Entries.{place-used}
use Rattle.number_laws.proofs.NumberedPlaces.{number-place, cells-contents}

module _ (ps : List Place) (x : Option Cell) where
  -- ---- one entry

  pub filled-place : (e : Entry) → place_of (filled ps x e) ≡ place_of e
  filled-place nil = refl
  filled-place free = refl
  filled-place (used q y) = refl

  pub filled-nil : (e : Entry) → is_nil (filled ps x e) ≡ is_nil e
  filled-nil nil = refl
  filled-nil free = refl
  filled-nil (used q y) = refl

  pub filled-free : (e : Entry) → is_free (filled ps x e) ≡ is_free e
  filled-free nil = refl
  filled-free free = refl
  filled-free (used q y) = refl

  filled-cell : (e : Entry) (p : Place) → place_of e ≡ some p → cell_of (filled ps x e) ≡ cond (any (same p) ps) x (cell_of e)
  filled-cell e p h =
      let u = place-used e p h in
      ap (λ (d : Entry). cell_of (filled ps x d)) u

  filled-stands : (p : Place) (e : Entry) → stands p (filled ps x e) ≡ stands p e
  filled-stands p e = ap (λ (o : Option Place). or_else false (same p) o) (filled-place e)

  -- ---- the list

  module _ (es : List Entry) where
    pub fill-entry : (n : ℕ) → entry (fill ps x es) n ≡ filled ps x (entry es n)
    unfolding fill
    fill-entry n = get_or-map (filled ps x) es n nil

    pub fill-length : length (fill ps x es) ≡ length es
    unfolding fill
    fill-length = length-map es (filled ps x)

    pub fill-place : (n : ℕ) → place_of (entry (fill ps x es) n) ≡ place_of (entry es n)
    fill-place n = ap place_of (fill-entry n) ∙ filled-place (entry es n)

    pub fill-number : (p : Place) → number (fill ps x es) p ≡ number es p
    unfolding fill number
    fill-number p = first-map (stands p) (filled ps x) 0 es ∙ ap (λ (f : Entry → Bool). first f 0 es) (fun_ext (filled-stands p))

    pub fill-stands : (p : Place) → any (stands p) (fill ps x es) ≡ any (stands p) es
    unfolding fill
    fill-stands p = any-map (stands p) (filled ps x) es ∙ ap (λ (f : Entry → Bool). any f es) (fun_ext (filled-stands p))

    pub fill-numbered : Numbered es → Numbered (fill ps x es)
    fill-numbered u = record {
      zeroth = fill-entry 0 ∙ ap (filled ps x) u.zeroth;
      once = λ n m p a b. u.once n m p (sym (fill-place n) ∙ a) (sym (fill-place m) ∙ b);
    }

    -- where each of the places stands in the list, the contents change there alone
    module _ (u : Numbered es) (there : (q : Place) → In q ps → number es q ≢ 0) where
      pub fill-contents : (p : Place) → contents (fill ps x es) p ≡ cond (any (same p) ps) x (contents es p)
      fill-contents p =
          ap (λ (n : ℕ). cell_of (entry (fill ps x es) n)) (fill-number p)
          ∙ ap cell_of (fill-entry (number es p))
          ∙ go (ℕ_discrete (number es p) 0)
        where
          go : Dec (number es p ≡ 0) → cell_of (filled ps x (entry es (number es p))) ≡ cond (any (same p) ps) x (contents es p)
          go (yes z) =
              let e : entry es (number es p) ≡ nil = ap (entry es) z ∙ u.zeroth in
              rw (no-is (any (same p) ps) (λ t. there p t z)) (ap (λ (d : Entry). cell_of (filled ps x d)) e ∙ ap cell_of (sym e))
          go (no z) = filled-cell (entry es (number es p)) p (number-place es p z)

      pub fill-cells : (p : Place) → cells (fill ps x es) p ≡ cond (any (same p) ps) (is_some x) (cells es p)
      fill-cells p =
          cells-contents (fill ps x es) (fill-numbered u) p
          ∙ ap is_some (fill-contents p)
          ∙ either (any (same p) ps)
          ∙ ap (cond (any (same p) ps) (is_some x)) (sym (cells-contents es u p))
        where
          either : (b : Bool) → is_some (cond b x (contents es p)) ≡ cond b (is_some x) (is_some (contents es p))
          either true = refl
          either false = refl
