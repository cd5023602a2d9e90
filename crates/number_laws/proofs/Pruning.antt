-- "Free every patch that no longer exists": the patches of the cells stay under their numbers, and the other numbers are free.
-- Assumes nothing.
use Prim.Native.Nat.{ℕ, suc}
use native.Mathlib.Decide.{ℕ_discrete}
use mathlib.Core.Path.{◌≡◌, refl, sym, ap, ◌∙◌, fun_ext}
use mathlib.Core.Bool.{Bool, true, false, ◌&&◌, cond}
use mathlib.Core.Option.{Option, none, some, none-ne-some, some-injective}
use mathlib.Core.List.{List, [], ◌∷◌}
use lib.Dec.{T}
use lib.ListN.{length, length-map, get_or-map}
use lib.Seq.{ext_get_or}
use Rattle.number_laws.specs.Numbered.{Numbered}
use Rattle.mesh.specs.Tools.{any, first, is_some}
use Rattle.mesh.specs.Place.{Place, Grid}
use Rattle.mesh.specs.Mesh.{patch}
use Rattle.mesh.specs.State.{Entry, nil, free, used, Cell, place_of, cell_of, is_nil, stands, entry, cells, number, contents}
use Rattle.mesh.specs.Request.{pruned, prune}
use Rattle.place_laws.proofs.Bools.{yes-is, is-yes, no-is, bool-ext, and_both, and_left, and_right}
use Rattle.place_laws.proofs.Lists.{any-map, first-map}
use Rattle.number_laws.proofs.Entries.{stands-place, place-stands}
use Rattle.number_laws.proofs.NumberedPlaces.{number-place, cells-contents}

-- ---- a test that passes nowhere, or where another does

first-and : {A : Type 0} (b : Bool) (f : A → Bool) (n : ℕ) (xs : List A) → first (λ x. b && f x) n xs ≡ cond b (first f n xs) 0
first-and true f n xs = refl
first-and false f n [] = refl
first-and false f n (x ∷ xs) = first-and false f (suc n) xs

any-and : {A : Type 0} (b : Bool) (f : A → Bool) (xs : List A) → any (λ x. b && f x) xs ≡ (b && any f xs)
any-and true f xs = refl
any-and false f [] = refl
any-and false f (x ∷ xs) = any-and false f xs

-- ---- one entry

module _ (g : Grid) (c : Place → Bool) where
  pub pruned-nil : (e : Entry) → is_nil (pruned g c e) ≡ is_nil e
  pruned-nil nil = refl
  pruned-nil free = refl
  pruned-nil (used q x) = go (patch g c q)
    where
      go : (b : Bool) → is_nil (cond b (used q x) free) ≡ false
      go true = refl
      go false = refl

  pub pruned-kept : (e : Entry) (p : Place) → place_of e ≡ some p → T (patch g c p) → pruned g c e ≡ e
  pruned-kept nil p h t = refl
  pruned-kept free p h t = refl
  pruned-kept (used q x) p h t = rw (some-injective _ _ h, yes-is (patch g c p) t)

  pub pruned-freed : (e : Entry) (p : Place) → place_of e ≡ some p → (T (patch g c p) → ⊥) → pruned g c e ≡ free
  pruned-freed nil p h t = absurd (none-ne-some _ h)
  pruned-freed free p h t = refl
  pruned-freed (used q x) p h t = rw (some-injective _ _ h, no-is (patch g c p) t)

  pub pruned-place : (e : Entry) (p : Place) → place_of (pruned g c e) ≡ some p → (place_of e ≡ some p) × T (patch g c p)
  pruned-place nil p h = absurd (none-ne-some _ h)
  pruned-place free p h = absurd (none-ne-some _ h)
  pruned-place (used q x) p h = go (patch g c q) refl
    where
      go : (b : Bool) → patch g c q ≡ b → (some q ≡ some p) × T (patch g c p)
      go true e =
          let k : some q ≡ some p = rw e at h in
          (k, is-yes (patch g c p) (ap (patch g c) (sym (some-injective _ _ k)) ∙ e))
      go false e = absurd (none-ne-some _ (let k : none ≡ some p = rw e at h in k))

  pruned-stands : (p : Place) (e : Entry) → stands p (pruned g c e) ≡ (patch g c p && stands p e)
  pruned-stands p e =
      bool-ext (stands p (pruned g c e)) (patch g c p && stands p e)
      (λ t. let (h, k) = pruned-place e p (stands-place p (pruned g c e) t) in and_both (patch g c p) (stands p e) k (place-stands p e h))
      (λ t.
      let h = stands-place p e (and_right (patch g c p) (stands p e) t) in
      place-stands p (pruned g c e) (ap place_of (pruned-kept e p h (and_left (patch g c p) (stands p e) t)) ∙ h))

-- ---- the list

module _ (g : Grid) (es : List Entry) where
  pub prune-entry : (n : ℕ) → entry (prune g es) n ≡ pruned g (cells es) (entry es n)
  unfolding prune
  prune-entry n = get_or-map (pruned g (cells es)) es n nil

  pub prune-length : length (prune g es) ≡ length es
  unfolding prune
  prune-length = length-map es (pruned g (cells es))

  -- under each number: a patch stays, and another place goes
  pub prune-kept : (n : ℕ) (p : Place) → place_of (entry es n) ≡ some p → T (patch g (cells es) p) → entry (prune g es) n ≡ entry es n
  prune-kept n p h t = prune-entry n ∙ pruned-kept g (cells es) (entry es n) p h t

  pub prune-freed : (n : ℕ) (p : Place) → place_of (entry es n) ≡ some p → (T (patch g (cells es) p) → ⊥) → entry (prune g es) n ≡ free
  prune-freed n p h t = prune-entry n ∙ pruned-freed g (cells es) (entry es n) p h t

  pub prune-place : (n : ℕ) (p : Place) → place_of (entry (prune g es) n) ≡ some p → (place_of (entry es n) ≡ some p) × T (patch g (cells es) p)
  prune-place n p h = pruned-place g (cells es) (entry es n) p (ap place_of (sym (prune-entry n)) ∙ h)

  pub prune-numbered : Numbered es → Numbered (prune g es)
  prune-numbered u = record {
    zeroth = prune-entry 0 ∙ ap (pruned g (cells es)) u.zeroth;
    once = λ n m p a b. u.once n m p (prune-place n p a).0 (prune-place m p b).0;
  }

  -- a place stands then exactly if it stood and is a patch, and has the number that it had
  pub prune-stands : (p : Place) → any (stands p) (prune g es) ≡ (patch g (cells es) p && any (stands p) es)
  unfolding prune
  prune-stands p =
      any-map (stands p) (pruned g (cells es)) es
      ∙ ap (λ (f : Entry → Bool). any f es) (fun_ext (pruned-stands g (cells es) p))
      ∙ any-and (patch g (cells es) p) (stands p) es

  pub prune-number : (p : Place) → number (prune g es) p ≡ cond (patch g (cells es) p) (number es p) 0
  unfolding prune number
  prune-number p =
      first-map (stands p) (pruned g (cells es)) 0 es
      ∙ ap (λ (f : Entry → Bool). first f 0 es) (fun_ext (pruned-stands g (cells es) p))
      ∙ first-and (patch g (cells es) p) (stands p) 0 es

  -- where no other place stands, nothing changes
  pub prune-nothing : ((n : ℕ) (p : Place) → place_of (entry es n) ≡ some p → T (patch g (cells es) p)) → prune g es ≡ es
  prune-nothing h = ext_get_or nil (prune g es) es prune-length (λ n l. prune-entry n ∙ stays n (entry es n) refl)
    where
      stays : (n : ℕ) (e : Entry) → entry es n ≡ e → pruned g (cells es) e ≡ e
      stays n nil k = refl
      stays n free k = refl
      stays n (used q x) k = pruned-kept g (cells es) (used q x) q refl (h n q (ap place_of k))

  -- where every cell is a patch, the cells and what they carry stay
  module _ (u : Numbered es) (h : (q : Place) → T (cells es q) → T (patch g (cells es) q)) where
    pub prune-contents : (p : Place) → contents (prune g es) p ≡ contents es p
    prune-contents p = go (patch g (cells es) p) refl (ℕ_discrete (number es p) 0)
      where
        none-at : (f : List Entry) → Numbered f → number f p ≡ 0 → contents f p ≡ none
        none-at f w z = ap (λ (n : ℕ). cell_of (entry f n)) z ∙ ap cell_of w.zeroth

        no_cell : (o : Option Cell) → (T (is_some o) → ⊥) → none ≡ o
        no_cell none k = refl
        no_cell (some x) k = absurd (k tt)

        go : (b : Bool) → patch g (cells es) p ≡ b → Dec (number es p ≡ 0) → contents (prune g es) p ≡ contents es p
        go true e (yes z) = none-at (prune g es) (prune-numbered u) (prune-number p ∙ rw e z) ∙ sym (none-at es u z)
        go true e (no z) =
            ap (λ (n : ℕ). cell_of (entry (prune g es) n)) (prune-number p ∙ rw e refl)
            ∙ ap cell_of (prune-kept (number es p) p (number-place es p z) (is-yes (patch g (cells es) p) e))
        go false e d =
            none-at (prune g es) (prune-numbered u) (prune-number p ∙ rw e refl)
            ∙ no_cell (contents es p) (λ t. let k : T (patch g (cells es) p) = h p (rw (cells-contents es u p) t) in rw e at k)
