-- The rules of a valid state that speak of cells, told of what stands at each place: no number is in them, so they pass from one list of
-- entries to another by what it holds.
-- Assumes nothing.
use Prim.Native.Nat.{ℕ, ◌<◌}
use native.Mathlib.Decide.{ℕ_discrete}
use mathlib.Core.Path.{◌≡◌, refl, sym, ap, ◌∙◌, subst, fun_ext}
use mathlib.Core.Logic.{◌⊎◌, inl, inr}
use mathlib.Core.Bool.{Bool, true, false, not}
use mathlib.Core.Option.{Option, none, some, none-ne-some}
use mathlib.Core.List.{List}
use lib.Dec.{T}
use Rattle.number_laws.specs.Numbered.{Numbered}
use Rattle.mesh.specs.Tools.{any, or_else}
use Rattle.mesh.specs.Place.{Place, Grid, same, base, parent, In}
use Rattle.mesh.specs.Mesh.{Mesh, leaf}
use Rattle.mesh.specs.State.{State, Entry, used, Cell, Value, blank, measured, carried, amount, is_blank, cell_of, value_of, entry, cells, number, number_of, grid_of, contents}
use Rattle.mesh.specs.Deed.{Contents, held, put}
use Rattle.mesh.specs.Valid.{finite, above_of, ValueRule, Valid}
use Rattle.place_laws.proofs.Bools.{no-is, is-yes}
use Rattle.place_laws.proofs.Kids.{leaf-kidless, is_leaf}
use Rattle.number_laws.proofs.Entries.{place-used}
use Rattle.number_laws.proofs.NumberedPlaces.{valid-numbered, number-place, entry-contents, cells-contents}

-- ---- the rules

-- the value of a place's parent; blank where there is no parent, or no cell there
abbrev pub value_above : Contents → Place → Value
value_above f p = or_else blank (λ x. x.value) (or_else none f (parent p))

-- the rule of a value, under the parent's
abbrev pub ValueUnder : Grid → Place → Value → Value → Type 0
ValueUnder g p a blank = T (is_blank a)
ValueUnder g p a (measured x) = T (finite x)
ValueUnder g p a (carried x) = (base g < p.depth) × T (finite x) × T (not (is_blank a)) × (amount a ≡ x)

pub record CellRule (g : Grid) (f : Contents) (p : Place) (x : Cell) : Type 0 where
  pub sentence : T x.sentenced → (base g < p.depth) × T (leaf g (held f) p)
  pub value : ValueUnder g p (value_above f p) x.value

pub record Rules (g : Grid) (f : Contents) : Type 0 where
  pub mesh : Mesh g (held f)
  pub each : (p : Place) (x : Cell) → f p ≡ some x → CellRule g f p x

-- ---- a state keeps its rules exactly if its contents do

pub contents-entry : (es : List Entry) → Numbered es → (p : Place) (x : Cell) → contents es p ≡ some x → entry es (number es p) ≡ used p (some x)
contents-entry es u p x e = go (ℕ_discrete (number es p) 0)
  where
    go : Dec (number es p ≡ 0) → entry es (number es p) ≡ used p (some x)
    go (yes z) = absurd (none-ne-some _ (ap cell_of (sym u.zeroth ∙ ap (entry es) (sym z)) ∙ e))
    go (no z) = place-used (entry es (number es p)) p (number-place es p z) ∙ ap (used p) e

pub cells-held : (es : List Entry) → Numbered es → cells es ≡ held (contents es)
cells-held es u = fun_ext (cells-contents es u)

module _ (s : State) (u : Numbered s.entries) where
  above-is : (p : Place) → above_of s p ≡ value_above (contents s.entries) p
  above-is p = go (parent p)
    where
      go : (o : Option Place) → value_of (entry s.entries (number_of s.entries o)) ≡ or_else blank (λ x. x.value) (or_else none (contents s.entries) o)
      go none = ap value_of u.zeroth
      go (some q) = refl

  rule-under : (p : Place) (v : Value) → ValueRule s p v ≡ ValueUnder (grid_of s) p (above_of s p) v
  rule-under p blank = refl
  rule-under p (measured x) = refl
  rule-under p (carried x) = refl

  rule-is : (p : Place) (v : Value) → ValueRule s p v ≡ ValueUnder (grid_of s) p (value_above (contents s.entries) p) v
  rule-is p v = rule-under p v ∙ ap (λ (a : Value). ValueUnder (grid_of s) p a v) (above-is p)

  module _ (r : Rules (grid_of s) (contents s.entries)) where
    pub rules-mesh : Mesh (grid_of s) (cells s.entries)
    rules-mesh = subst (λ (c : Place → Bool). Mesh (grid_of s) c) (sym (cells-held s.entries u)) r.mesh

    pub rules-sentences : (n : ℕ) (p : Place) (x : Cell) → entry s.entries n ≡ used p (some x) → T x.sentenced → (base (grid_of s) < p.depth) × T (leaf (grid_of s) (cells s.entries) p)
    rules-sentences n p x e t =
        subst (λ (c : Place → Bool). (base (grid_of s) < p.depth) × T (leaf (grid_of s) c p)) (sym (cells-held s.entries u))
        ((r.each p x (entry-contents s.entries u n p (some x) e)).sentence t)

    pub rules-values : (n : ℕ) (p : Place) (x : Cell) → entry s.entries n ≡ used p (some x) → ValueRule s p x.value
    rules-values n p x e = subst (λ (A : Type 0). A) (sym (rule-is p x.value)) (r.each p x (entry-contents s.entries u n p (some x) e)).value

pub valid-rules : (s : State) → Valid s → Rules (grid_of s) (contents s.entries)
valid-rules s v =
    let u = valid-numbered v in
    let c = cells-held s.entries u in
    record {
      mesh = subst (λ (c : Place → Bool). Mesh (grid_of s) c) c v.mesh;
      each = λ p x e.
          let k = contents-entry s.entries u p x e in
          record {
            sentence = λ t. subst (λ (c : Place → Bool). (base (grid_of s) < p.depth) × T (leaf (grid_of s) c p)) c (v.sentences (number s.entries p) p x k t);
            value = subst (λ (A : Type 0). A) (rule-is s u p x.value) (v.values (number s.entries p) p x k);
          };
    }

-- ---- other contents at some places

module _ (f : Contents) (ps : List Place) (x : Option Cell) where
  pub put-out : (q : Place) → (In q ps → ⊥) → put ps x f q ≡ f q
  put-out q i = rw (no-is (any (same q) ps) i)

  pub put-cases : (q : Place) → (In q ps × (put ps x f q ≡ x)) ⊎ (put ps x f q ≡ f q)
  put-cases q = go (any (same q) ps) refl
    where
      go : (b : Bool) → any (same q) ps ≡ b → (In q ps × (put ps x f q ≡ x)) ⊎ (put ps x f q ≡ f q)
      go true e = inl (is-yes (any (same q) ps) e, rw e)
      go false e = inr (rw e)

  -- the rules hold then if there are no new cells, no cell is left under a change, and each change keeps them
  module _ (g : Grid) (r : Rules g f) (m : Mesh g (held (put ps x f)))
      (fewer : (q : Place) → T (held (put ps x f) q) → T (held f q))
      (apart : (p q : Place) → In p ps → parent q ≡ some p → T (held (put ps x f) q) → ⊥)
      (own : (q : Place) (y : Cell) → In q ps → x ≡ some y → CellRule g f q y) where
    same_above : (q : Place) → T (held (put ps x f) q) → value_above (put ps x f) q ≡ value_above f q
    same_above q t = go (parent q) refl
      where
        go : (o : Option Place) → parent q ≡ o → or_else blank (λ y. y.value) (or_else none (put ps x f) o) ≡ or_else blank (λ y. y.value) (or_else none f o)
        go none e = refl
        go (some p) e = ap (λ (o : Option Cell). or_else blank (λ y. y.value) o) (put-out p (λ i. apart p q i e t))

    rule-kept : (q : Place) (y : Cell) → put ps x f q ≡ some y → CellRule g f q y → CellRule g (put ps x f) q y
    rule-kept q y e k =
        let t : T (held (put ps x f) q) = rw e tt in
        record {
          sentence = λ w.
              let (h, l) = k.sentence w in
              (h, is_leaf g (held (put ps x f)) q t (λ p d b. leaf-kidless g (held f) q l p d (fewer p b)));
          value = subst (λ (a : Value). ValueUnder g q a y.value) (sym (same_above q t)) k.value;
        }

    pub put-rules : Rules g (put ps x f)
    put-rules = record { mesh = m; each = λ q y e. rule-kept q y e (go q y e (put-cases q)) }
      where
        go : (q : Place) (y : Cell) → put ps x f q ≡ some y → (In q ps × (put ps x f q ≡ x)) ⊎ (put ps x f q ≡ f q) → CellRule g f q y
        go q y e (inl (i, h)) = own q y i (sym h ∙ e)
        go q y e (inr h) = r.each q y (sym h ∙ e)
