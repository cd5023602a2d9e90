-- The number that a request names, once the checks 6 and 7 have passed: a cell's, at its place.
-- Assumes nothing.
use Prim.Native.Nat.{ℕ}
use native.Mathlib.Omega.{arith}
use mathlib.Core.Path.{◌≡◌, refl, sym, ap, ◌∙◌}
use mathlib.Core.Bool.{true, false}
use mathlib.Core.Option.{none, some}
use mathlib.Core.List.{List, [], ◌∷◌}
use lib.Dec.{T}
use borrow.Author.Tests.{not-false}
use Rattle.mesh.specs.Tools.{or_else, is_some}
use Rattle.mesh.specs.Place.{Place, root, In}
use Rattle.mesh.specs.Mesh.{has_kids, leaf}
use Rattle.mesh.specs.State.{State, Entry, nil, free, used, Cell, place_of, cell_of, is_used, is_cell, entry, cells, place_at, grid_of, contents}
use Rattle.mesh.specs.Valid.{Valid}
use Rattle.mesh.specs.Refusal.{Check, refusal}
use Rattle.mesh.specs.Deed.{held, no7}
use Rattle.mesh.specs.Request.{no6}
use Rattle.place_laws.proofs.Bools.{is-yes}
use Rattle.place_laws.proofs.Places.{in_one}
use Rattle.place_laws.proofs.Kids.{kid-has, is_leaf}
use Rattle.number_laws.proofs.Entries.{cell-there}
use Rattle.number_laws.proofs.NumberedPlaces.{valid-numbered, entry-contents}
use Rattle.number_laws.proofs.ByPlace.{cells-held}
use Rattle.number_laws.proofs.Checks.{passes}

named-entry : (e : Entry) → T (is_cell e) → (x : Cell) × (e ≡ used (or_else root (λ p. p) (place_of e)) (some x))
named-entry nil t = absurd t
named-entry free t = absurd t
named-entry (used p none) t = absurd t
named-entry (used p (some x)) t = (x, refl)

-- the number n is that of a cell, at the place under it
pub record Named (s : State) (n : ℕ) : Type 0 where
  pub its : Cell
  pub is-entry : entry s.entries n ≡ used (place_at s.entries n) (some its)
  pub is-contents : contents s.entries (place_at s.entries n) ≡ some its
  pub is-there : T (cells s.entries (place_at s.entries n))

-- the cell at the place under a number that is in use is the number's
used-entry : (e : Entry) → is_used e ≡ true → e ≡ used (or_else root (λ p. p) (place_of e)) (cell_of e)
used-entry nil t = absurd (let z : ◌≡◌ {A = ℕ} 0 1 = cc in omega arith)
used-entry free t = absurd (let z : ◌≡◌ {A = ℕ} 0 1 = cc in omega arith)
used-entry (used p x) t = refl

pub contents-under : (s : State) → Valid s → (n : ℕ) → is_used (entry s.entries n) ≡ true → contents s.entries (place_at s.entries n) ≡ cell_of (entry s.entries n)
contents-under s v n t = entry-contents s.entries (valid-numbered v) n (place_at s.entries n) (cell_of (entry s.entries n)) (used-entry (entry s.entries n) t)

-- "number 0, above capacity, or free", "patch is no cell": neither, and the other checks are left
pub named : (s : State) → Valid s → (n : ℕ) (cs : List Check) → refusal (no6 s n ∷ no7 (grid_of s) (contents s.entries) (place_at s.entries n) ∷ cs) ≡ 0 → Named s n × (refusal cs ≡ 0)
named s v n cs h =
    let (a, h₁) = passes 6 _ _ (λ z. omega arith) h in
    let (b, h₂) = passes 7 _ cs (λ z. omega arith) h₁ in
    let cell : is_cell (entry s.entries n) ≡ true = sym (ap is_some (contents-under s v n (not-false (is_used (entry s.entries n)) a))) ∙ not-false (is_some (contents s.entries (place_at s.entries n))) b in
    let (x, e) = named-entry (entry s.entries n) (is-yes (is_cell (entry s.entries n)) cell) in (
      record {
        its = x;
        is-entry = e;
        is-contents = entry-contents s.entries (valid-numbered v) n (place_at s.entries n) (some x) e;
        is-there = cell-there s.entries n (place_at s.entries n) x e;
      },
      h₂,
    )

-- "cell has kids": no, so it is a leaf
pub named-leaf : {s : State} {n : ℕ} → Valid s → Named s n → has_kids (grid_of s) (held (contents s.entries)) (place_at s.entries n) ≡ false → T (leaf (grid_of s) (cells s.entries) (place_at s.entries n))
named-leaf {s} {n} v d e =
    is_leaf (grid_of s) (cells s.entries) (place_at s.entries n) d.is-there (λ q k t.
    let h : T (has_kids (grid_of s) (held (contents s.entries)) (place_at s.entries n)) = kid-has (grid_of s) (held (contents s.entries)) (place_at s.entries n) q k (rw (cells-held s.entries (valid-numbered v)) at t) in
    rw e at h)

pub named_in : {s : State} {n : ℕ} → Named s n → (q : Place) → In q (place_at s.entries n ∷ []) → T (cells s.entries q)
named_in {s} {n} d q i = rw (in_one q (place_at s.entries n) i) d.is-there
