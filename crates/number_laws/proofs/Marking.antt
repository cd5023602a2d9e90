-- The requests sentence and set value: a leaf carries something else, the cells and the numbers stay.
-- Assumes nothing.
use Prim.Native.Nat.{ℕ, ◌<◌}
use native.Mathlib.Omega.{arith}
use mathlib.Core.Path.{◌≡◌, sym, ap, ◌∙◌, subst, fun_ext}
use mathlib.Core.Logic.{◌⊎◌, inl, inr}
use mathlib.Core.Bool.{Bool, false}
use mathlib.Core.Option.{Option, some, map, some-injective}
use mathlib.Core.List.{[], ◌∷◌}
use lib.Dec.{T}
use lib.Ieee.{Float}
use borrow.Author.Tests.{not-false, eqb-false}
use Rattle.mesh.specs.Tools.{is_some}
use Rattle.mesh.specs.Place.{Place, base, In}
use Rattle.mesh.specs.Mesh.{Mesh, has_kids}
use Rattle.mesh.specs.State.{State, Entry, Cell, cell_of, cells, place_at, grid_of, with_entries, contents}
use Rattle.mesh.specs.Carrying.{sentenced_cell, measured_cell}
use Rattle.mesh.specs.Deed.{held, put}
use Rattle.mesh.specs.Valid.{Valid, finite}
use Rattle.mesh.specs.Refusal.{refusal}
use Rattle.mesh.specs.Request.{sentence, set_value, loose_checks, effect, fill, new_cell}
use Rattle.place_laws.proofs.Bools.{is-yes}
use Rattle.place_laws.proofs.Places.{in_one}
use Rattle.place_laws.proofs.Kids.{leaf-kidless}
use Rattle.number_laws.proofs.NumberedPlaces.{valid-numbered}
use Rattle.number_laws.proofs.Checks.{passes}
use Rattle.number_laws.proofs.ByPlace.{CellRule, Rules, valid-rules, cells-held, put-cases, put-rules}
use Rattle.number_laws.proofs.Keeping.{Kept, kept-cells, kept-filled}
use Rattle.number_laws.proofs.Naming.{Named, named, named-leaf, named_in}

module _ (s : State) (v : Valid s) (n : ℕ) where
  abbrev p : Place
  p = place_at s.entries n

  -- ---- a leaf whose cell becomes h of what it is

  module _ (d : Named s n) (kidless : has_kids (grid_of s) (held (contents s.entries)) p ≡ false) (h : Cell → Cell) (own : CellRule (grid_of s) (contents s.entries) p (h d.its)) where
    abbrev new : Place → Option Cell
    new = put (p ∷ []) (some (h d.its)) (contents s.entries)

    same-cells : (q : Place) → cells s.entries q ≡ held new q
    same-cells q = ap (λ (c : Place → Bool). c q) (cells-held s.entries (valid-numbered v)) ∙ go (put-cases (contents s.entries) (p ∷ []) (some (h d.its)) q)
      where
        go : (In q (p ∷ []) × (new q ≡ some (h d.its))) ⊎ (new q ≡ contents s.entries q) → held (contents s.entries) q ≡ held new q
        go (inl (i, e)) = ap is_some (ap (contents s.entries) (in_one q p i) ∙ d.is-contents) ∙ ap is_some (sym e)
        go (inr e) = ap is_some (sym e)

    new-rules : Rules (grid_of s) new
    new-rules =
        put-rules (contents s.entries) (p ∷ []) (some (h d.its)) (grid_of s) (valid-rules s v)
        (subst (λ (c : Place → Bool). Mesh (grid_of s) c) (fun_ext same-cells) v.mesh)
        (λ q t. rw (cells-held s.entries (valid-numbered v)) at (was q t))
        (λ k q i e t. leaf-kidless (grid_of s) (cells s.entries) p (named-leaf v d kidless) q (e ∙ ap some (in_one k p i)) (was q t))
        (λ q y i e. rw (in_one q p i, ← some-injective _ _ e) own)
      where
        was : (q : Place) → T (held new q) → T (cells s.entries q)
        was q t = rw (same-cells q) t

    changed-kept : Kept s (p ∷ []) (map h (contents s.entries p)) (with_entries s (fill (p ∷ []) (new_cell s n h) s.entries))
    changed-kept = go (map h (contents s.entries p)) (new_cell s n h) (ap (map h) d.is-contents) (ap (λ (e : Entry). map h (cell_of e)) d.is-entry)
      where
        go : (x y : Option Cell) → x ≡ some (h d.its) → y ≡ some (h d.its) → Kept s (p ∷ []) x (with_entries s (fill (p ∷ []) y s.entries))
        go x y a b = rw (a, b) (kept-filled s v (p ∷ []) (some (h d.its)) (named_in d) new-rules same-cells)

  -- ---- "sentence"

  pub sentence-kept : refusal (loose_checks s (sentence n)) ≡ 0 → Kept s (place_at s.entries n ∷ []) (map sentenced_cell (contents s.entries (place_at s.entries n))) (effect s (sentence n))
  unfolding loose_checks effect
  sentence-kept h =
      let (d, h₁) = named s v n _ h in
      let (a, h₂) = passes 8 _ _ (λ z. omega arith) h₁ in
      let (b, _) = passes 12 _ _ (λ z. omega arith) h₂ in
      let high : base (grid_of s) < p.depth = omega (arith, v.mesh.low p d.is-there, eqb-false p.depth (base (grid_of s)) b) in
      changed-kept d a sentenced_cell (record {
        sentence = λ t. (high, rw (cells-held s.entries (valid-numbered v)) at (named-leaf v d a));
        value = ((valid-rules s v).each p d.its d.is-contents).value;
      })

  pub sentence-cells : refusal (loose_checks s (sentence n)) ≡ 0 → (q : Place) → cells (effect s (sentence n)).entries q ≡ cells s.entries q
  unfolding loose_checks
  sentence-cells h = let (d, _) = named s v n _ h in kept-cells (sentence-kept h) (rw d.is-contents tt) (named_in d)

  -- ---- "set value, status 1"

  module _ (x : Float) where
    pub set_value-kept : refusal (loose_checks s (set_value n x)) ≡ 0 → Kept s (place_at s.entries n ∷ []) (map (measured_cell x) (contents s.entries (place_at s.entries n))) (effect s (set_value n x))
    unfolding loose_checks effect
    set_value-kept h =
        let (d, h₁) = named s v n _ h in
        let (a, h₂) = passes 8 _ _ (λ z. omega arith) h₁ in
        let (b, _) = passes 16 _ _ (λ z. omega arith) h₂ in
        changed-kept d a (measured_cell x) (record {
          sentence = ((valid-rules s v).each p d.its d.is-contents).sentence;
          value = is-yes (finite x) (not-false (finite x) b);
        })

    pub set_value-cells : refusal (loose_checks s (set_value n x)) ≡ 0 → (q : Place) → cells (effect s (set_value n x)).entries q ≡ cells s.entries q
    unfolding loose_checks
    set_value-cells h = let (d, _) = named s v n _ h in kept-cells (set_value-kept h) (rw d.is-contents tt) (named_in d)
