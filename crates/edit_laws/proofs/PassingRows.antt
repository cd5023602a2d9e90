-- Rows of one depth gone through one after the other, each with a step that gives its place flags of its own, which keep its mark Sentenced: then
-- the places have these flags, if what the step needs stays right all the while. A step over a list of rows is one over the list of their places.
-- Assumes nothing.
use Prim.Native.Nat.{ℕ, suc, ◌+◌}
use native.Mathlib.Omega.{arith}
use native.Mathlib.Decide.{ℕ_discrete}
use mathlib.Core.Path.{◌≡◌, refl, sym, ap, ◌∙◌, subst, fun_ext}
use mathlib.Core.Logic.{◌≢◌, ◌⊎◌, inl, inr}
use mathlib.Core.Bool.{Bool, true, false, ◌||◌, cond}
use mathlib.Core.Option.{Option, none, some, some-injective}
use mathlib.Core.List.{List, [], ◌∷◌, ◌++◌, map}
use lib.Dec.{T}
use lib.IntN.{ℤ}
use lib.ListN.{length}
use Rattle.edit_laws.specs.Rooted.{Rooted}
use Rattle.edit_laws.specs.BuildSoFar.{InTurn}
use Rattle.mesh.specs.Tools.{any, or_else}
use Rattle.mesh.specs.Place.{Place, Grid, same, In}
use Rattle.mesh.specs.State.{Entry, place_of, entry, number, number_of}
use Rattle.place_laws.proofs.Bools.{is-yes, no-is, or_left, or_right, or_cases}
use Rattle.place_laws.proofs.Lists.{any_append, any-map}
use Rattle.place_laws.proofs.Places.{same-is, same_refl, in_one, in-here, in-there}
use Rattle.number_laws.proofs.NumberedPlaces.{number-place, place-number, unnumbered}
use Rattle.edit_laws.specs.Linked.{Flags, table_with, with_flags}
use Rattle.edit_laws.specs.Tables.{Spot, over_spots, each_at}
use Rattle.edit_laws.specs.Built.{each_row}
use Rattle.edit_laws.proofs.Setting.{flags-same}
use Rattle.edit_laws.proofs.FlagsAnew.{bit, Ready}
use Rattle.edit_laws.proofs.Named.{AllNamed, no_more, one_more, named-depth, kid_at_lem}

-- the place is one of these
abbrev pub among : Place → List (Option Place) → Bool
among p qs = any (λ o. or_else false (same p) o) qs

pub among-all : (p : Place) (qs : List Place) → among p (map some qs) ≡ any (same p) qs
among-all p qs = any-map (λ o. or_else false (same p) o) some qs

pub among-both : (p : Place) (ps qs : List (Option Place)) → among p (ps ++ qs) ≡ (among p ps || among p qs)
among-both p ps qs = any_append (λ o. or_else false (same p) o) ps qs

-- all of them have this depth
abbrev pub Level : ℕ → List (Option Place) → Type 0
Level e qs = (p : Place) → T (among p qs) → p.depth ≡ e

-- the places get the flags that x gives them
abbrev pub new_at : (Place → Bool → ℕ) → List (Option Place) → Flags → Flags
new_at x qs f p = cond (among p qs) (x p (bit 12 (f p))) (f p)

pub among_one : {e : ℕ} (o : Option Place) → ((p : Place) → o ≡ some p → p.depth ≡ e) → Level e (o ∷ [])
among_one none d p t = absurd t
among_one (some o) d p t = ap (λ (z : Place). z.depth) (in_one p o t) ∙ d o refl

pub named-level : {es : List Entry} {e : ℕ} {xs : List Spot} {qs : List (Option Place)} → AllNamed es e xs qs → Level (suc e) qs
named-level no_more p t = absurd t
named-level {e = e} (one_more {x} {q} {xs} {qs} n ns) p t = go (or_cases (or_else false (same p) q) (among p qs) t) (named-level ns p)
  where
    go : T (or_else false (same p) q) ⊎ T (among p qs) → (T (among p qs) → p.depth ≡ suc e) → p.depth ≡ suc e
    go (inl u) ih = among_one q (λ o k. named-depth (rw k at n)) p (or_left (or_else false (same p) q) false u)
    go (inr u) ih = ih u

-- what the rows of a depth need stays right where the flags keep the cells
pub ready-new : {g : Grid} {c : Place → Bool} {es : List Entry} {f : Flags} {e : ℕ} (x : Place → Bool → ℕ) → ((q : Place) (b : Bool) → bit 0 (x q b) ≡ c q)
    → Ready g es f c e → (qs : List (Option Place)) → Level e qs → Ready g es (new_at x qs f) c e
ready-new {g} {c} {es} {f} {e} x cell ready qs level = record {
  mesh = ready.mesh;
  stood = ready.stood;
  complete = λ q k t. own q (ready.complete q k t) (among q qs);
  boundaries_h = λ q k l t. rw (below q k) (ready.boundaries_h q k l t);
  boundaries_v = λ q k l t. rw (below q k) (ready.boundaries_v q k l t);
}
  where
    own : (q : Place) → bit 0 (f q) ≡ c q → (a : Bool) → bit 0 (cond a (x q (bit 12 (f q))) (f q)) ≡ c q
    own q k true = cell q (bit 12 (f q))
    own q k false = k

    below : (q : Place) → suc q.depth ≡ e → among q qs ≡ false
    below q k = no-is (among q qs) (λ t. omega (arith, level q t))

-- The step for one row gives its place, which has the depth e, the flags that `fresh` says. What it needs of the flags is `Right`.
pub record RowStep (g : Grid) (es : List Entry) (row : List ℤ → ℕ → List ℤ) (fresh : Place → Bool → ℕ) (Right : Flags → Type 0) (e : ℕ) : Type 0 where
  pub mark : (q : Place) (b : Bool) → bit 12 (fresh q b) ≡ b
  pub nil : (t : List ℤ) → row t 0 ≡ t
  pub one-row : (f : Flags) → Right f → (n : ℕ) (q : Place) → n ≢ 0 → place_of (entry es n) ≡ some q → q.depth ≡ e → row (table_with g es f) n ≡ table_with g es (with_flags q (fresh q (bit 12 (f q))) f)
  pub kept : (f : Flags) → Right f → (q : Option Place) → ((p : Place) → q ≡ some p → p.depth ≡ e) → Right (new_at fresh (q ∷ []) f)

module _ {g : Grid} {cap : ℕ} {es : List Entry} (r : Rooted g cap es) {row : List ℤ → ℕ → List ℤ} {fresh : Place → Bool → ℕ} {Right : Flags → Type 0} {e : ℕ} (s : RowStep g es row fresh Right e) where
  -- to do it twice is to do it once
  pub new-more : (ps qs : List (Option Place)) (f : Flags) (p : Place) → new_at fresh qs (new_at fresh ps f) p ≡ new_at fresh (ps ++ qs) f p
  new-more ps qs f p = go (among p ps) (among p qs) ∙ ap (λ (b : Bool). cond b (fresh p (bit 12 (f p))) (f p)) (sym (among-both p ps qs))
    where
      go : (a b : Bool) → cond b (fresh p (bit 12 (cond a (fresh p (bit 12 (f p))) (f p)))) (cond a (fresh p (bit 12 (f p))) (f p)) ≡ cond (a || b) (fresh p (bit 12 (f p))) (f p)
      go true true = ap (fresh p) (s.mark p (bit 12 (f p)))
      go true false = refl
      go false true = refl
      go false false = refl

  pub kept-all : (qs : List (Option Place)) → Level e qs → (f : Flags) → Right f → Right (new_at fresh qs f)
  kept-all [] d f right = right
  kept-all (q ∷ qs) d f right =
      subst Right (fun_ext (new-more (q ∷ []) qs f))
      (kept-all qs (λ p t. d p (or_right (or_else false (same p) q) (among p qs) t)) (new_at fresh (q ∷ []) f)
      (s.kept f right q (λ p i. d p (or_left (or_else false (same p) q) (among p qs) (rw i (same_refl p))))))

  -- one place: the row that stands there, if one does
  pub pass-place : (f : Flags) → Right f → (q : Option Place) → ((p : Place) → q ≡ some p → p.depth ≡ e) → row (table_with g es f) (number_of es q) ≡ table_with g es (new_at fresh (q ∷ []) f)
  pass-place f right none d = s.nil (table_with g es f)
  pass-place f right (some q) d = go (ℕ_discrete (number es q) 0)
    where
      one : (p : Place) (a : Bool) → same p q ≡ a → with_flags q (fresh q (bit 12 (f q))) f p ≡ cond (a || false) (fresh p (bit 12 (f p))) (f p)
      one p true i = rw (i, same-is p q (is-yes (same p q) i))
      one p false i = rw i

      absent : number es q ≡ 0 → (n : ℕ) (p : Place) → place_of (entry es n) ≡ some p → (a : Bool) → same p q ≡ a → f p ≡ cond (a || false) (fresh p (bit 12 (f p))) (f p)
      absent z n p h true i = absurd (unnumbered es r.numbered q z n (h ∙ ap some (same-is p q (is-yes (same p q) i))))
      absent z n p h false i = refl

      go : Dec (number es q ≡ 0) → row (table_with g es f) (number es q) ≡ table_with g es (new_at fresh (some q ∷ []) f)
      go (yes z) = ap (row (table_with g es f)) z ∙ s.nil (table_with g es f) ∙ flags-same g es f (new_at fresh (some q ∷ []) f) (λ n p h. absent z n p h (same p q) refl)
      go (no z) =
          s.one-row f right (number es q) q z (number-place es q z) (d q refl)
          ∙ flags-same g es (with_flags q (fresh q (bit 12 (f q))) f) (new_at fresh (some q ∷ []) f) (λ n p h. one p (same p q) refl)

  -- the kids at these spots
  pub pass : {d : ℕ} {xs : List Spot} {qs : List (Option Place)} → AllNamed es d xs qs → e ≡ suc d → (f : Flags) → Right f → each_at row cap xs (table_with g es f) ≡ table_with g es (new_at fresh qs f)
  unfolding over_spots
  pass no_more below f right = refl
  pass (one_more {x} {q} {xs} {qs} n ns) below f right =
      let deep : (p : Place) → q ≡ some p → p.depth ≡ e = λ p k. named-depth (rw k at n) ∙ sym below in
      ap (each_at row cap xs) (ap (row (table_with g es f)) (kid_at_lem r f n) ∙ pass-place f right q deep)
      ∙ pass ns below (new_at fresh (q ∷ []) f) (s.kept f right q deep)
      ∙ flags-same g es (new_at fresh qs (new_at fresh (q ∷ []) f)) (new_at fresh (q ∷ qs) f) (λ m p h. new-more (q ∷ []) qs f p)

  -- the rows of these places, which have successive numbers
  pub pass-rows : (qs : List Place) (n : ℕ) (f : Flags) → InTurn es n qs → ((q : Place) → In q qs → q.depth ≡ e) → Right f
      → each_row row (length qs) n (table_with g es f) ≡ table_with g es (new_at fresh (map some qs) f)
  unfolding each_row
  pass-rows [] n f t deep right = refl
  pass-rows (q ∷ qs) n f (h, t) deep right =
      let level : (p : Place) → some q ≡ some p → p.depth ≡ e = λ p k. ap (λ (o : Place). o.depth) (sym (some-injective _ _ k)) ∙ deep q (in-here q q qs refl) in
      ap (each_row row (length qs) (n + 1)) (ap (row (table_with g es f)) (sym (place-number es r.numbered n q h)) ∙ pass-place f right (some q) level)
      ∙ pass-rows qs (n + 1) (new_at fresh (some q ∷ []) f) t (λ p i. deep p (in-there p q qs i)) (s.kept f right (some q) level)
      ∙ flags-same g es (new_at fresh (map some qs) (new_at fresh (some q ∷ []) f)) (new_at fresh (some q ∷ map some qs) f) (λ m p i. new-more (some q ∷ []) (map some qs) f p)
