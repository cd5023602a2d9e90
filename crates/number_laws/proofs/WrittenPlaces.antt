-- A list of places written under the numbers from 1 on, with free numbers behind: under each number its place and what is given for it.
-- Assumes nothing.
use Prim.Native.Nat.{ℕ, zero, suc, ◌+◌, ◌<◌}
use native.Mathlib.Nat.{le_of_suc-le-suc}
use native.Mathlib.Omega.{arith}
use native.Mathlib.Decide.{ℕ_discrete}
use mathlib.Core.Path.{◌≡◌, refl, sym, ap, ◌∙◌}
use mathlib.Core.Logic.{◌⊎◌, inl, inr}
use mathlib.Core.Bool.{Bool, true, false, not, cond}
use mathlib.Core.Option.{Option, none, some, none-ne-some, some-injective}
use mathlib.Core.List.{List, [], ◌∷◌, ◌++◌, map}
use lib.Dec.{T}
use lib.ListN.{length, get_or, set, replicate, length-append, length-map, length-replicate}
use Rattle.number_laws.specs.Numbered.{Numbered, written}
use Rattle.mesh.specs.Tools.{any, count}
use Rattle.mesh.specs.Place.{Place, same, In, Distinct}
use Rattle.mesh.specs.State.{Entry, nil, free, used, Cell, is_nil, is_used, place_of, cell_of, entry, number, contents}
use Rattle.place_laws.proofs.Bools.{is-yes}
use Rattle.place_laws.proofs.Places.{in-cases, in-here, in-there}
use Rattle.number_laws.proofs.NumberedPlaces.{number-place, entry-contents}

pub free-none : (j n : ℕ) → place_of (get_or (replicate j free) n nil) ≡ none
free-none zero n = refl
free-none (suc j) zero = refl
free-none (suc j) (suc n) = free-none j n

module _ (x : Place → Option Cell) (k : ℕ) where
  -- under a number with a place stands what is given for it, and the place is one of the list
  written-given : (ps : List Place) (n : ℕ) (p : Place) → place_of (get_or (written x k ps) n nil) ≡ some p → In p ps × (get_or (written x k ps) n nil ≡ used p (x p))
  written-given [] n p e = absurd (none-ne-some _ (sym (free-none k n) ∙ e))
  written-given (q ∷ ps) zero p e = let s : q ≡ p = some-injective _ _ e in (in-here p q ps (sym s), rw s)
  written-given (q ∷ ps) (suc n) p e = let (i, h) = written-given ps n p e in (in-there p q ps i, h)

  -- each place of the list has a number
  pub written-there : (ps : List Place) (p : Place) → In p ps → (n : ℕ) × (get_or (written x k ps) n nil ≡ used p (x p))
  written-there [] p i = absurd i
  written-there (q ∷ ps) p i = go (in-cases p q ps i) (written-there ps p)
    where
      go : (p ≡ q) ⊎ In p ps → (In p ps → (n : ℕ) × (get_or (written x k ps) n nil ≡ used p (x p))) → (n : ℕ) × (get_or (written x k (q ∷ ps)) n nil ≡ used p (x p))
      go (inl e) ih = (0, rw e)
      go (inr j) ih = let (n, h) = ih j in (suc n, h)

  -- and only one
  written_once : (ps : List Place) → Distinct ps → (n m : ℕ) (p : Place) → place_of (get_or (written x k ps) n nil) ≡ some p → place_of (get_or (written x k ps) m nil) ≡ some p → n ≡ m
  written_once [] o n m p a b = absurd (none-ne-some _ (sym (free-none k n) ∙ a))
  written_once (q ∷ ps) o zero zero p a b = refl
  written_once (q ∷ ps) o zero (suc m) p a b = absurd (o.0 (rw (some-injective _ _ a) (written-given ps m p b).0))
  written_once (q ∷ ps) o (suc n) zero p a b = absurd (o.0 (rw (some-injective _ _ b) (written-given ps n p a).0))
  written_once (q ∷ ps) o (suc n) (suc m) p a b = ap suc (written_once ps o.1 n m p a b)

  free-not-nil : (j n : ℕ) → n < j → T (not (is_nil (get_or (replicate j free) n nil)))
  free-not-nil zero n l = absurd (omega arith)
  free-not-nil (suc j) zero l = tt
  free-not-nil (suc j) (suc n) l = free-not-nil j n (le_of_suc-le-suc l)

  pub written-not-nil : (ps : List Place) (n : ℕ) → n < length ps + k → T (not (is_nil (get_or (written x k ps) n nil)))
  written-not-nil [] n l = free-not-nil k n (omega arith)
  written-not-nil (q ∷ ps) zero l = tt
  written-not-nil (q ∷ ps) (suc n) l = written-not-nil ps n (omega arith)

  free-unused : (j : ℕ) → count is_used (replicate j free) ≡ 0
  free-unused zero = refl
  free-unused (suc j) = let h : 0 + count is_used (replicate j free) ≡ 0 = omega (arith, free-unused j) in h

  pub written_count : (ps : List Place) → count is_used (written x k ps) ≡ length ps
  written_count [] = free-unused k
  written_count (q ∷ ps) = let h : 1 + count is_used (written x k ps) ≡ suc (length ps) = omega (arith, written_count ps) in h

  pub written-length : (ps : List Place) → length (written x k ps) ≡ length ps + k
  written-length ps = simp (length-append, length-map, length-replicate)

  module _ (ps : List Place) (o : Distinct ps) where
    pub written-numbered : Numbered (nil ∷ written x k ps)
    written-numbered = record { zeroth = refl; once = once }
      where
        once : (n m : ℕ) (p : Place) → place_of (entry (nil ∷ written x k ps) n) ≡ some p → place_of (entry (nil ∷ written x k ps) m) ≡ some p → n ≡ m
        once zero m p a b = absurd (none-ne-some _ a)
        once (suc n) zero p a b = absurd (none-ne-some _ b)
        once (suc n) (suc m) p a b = ap suc (written_once ps o n m p a b)

    pub written_entry : (n : ℕ) (p : Place) → place_of (entry (nil ∷ written x k ps) n) ≡ some p → In p ps × (entry (nil ∷ written x k ps) n ≡ used p (x p))
    written_entry zero p e = absurd (none-ne-some _ e)
    written_entry (suc n) p e = written-given ps n p e

    pub written-contents : (p : Place) → contents (nil ∷ written x k ps) p ≡ cond (any (same p) ps) (x p) none
    written-contents p = go (any (same p) ps) refl (ℕ_discrete (number (nil ∷ written x k ps) p) 0)
      where
        go : (b : Bool) → any (same p) ps ≡ b → Dec (number (nil ∷ written x k ps) p ≡ 0) → contents (nil ∷ written x k ps) p ≡ cond b (x p) none
        go true e d = let (n, h) = written-there ps p (is-yes (any (same p) ps) e) in entry-contents (nil ∷ written x k ps) written-numbered (suc n) p (x p) h
        go false e (yes z) = ap (λ (n : ℕ). cell_of (entry (nil ∷ written x k ps) n)) z
        go false e (no z) =
            let t : In p ps = (written_entry (number (nil ∷ written x k ps) p) p (number-place (nil ∷ written x k ps) p z)).0 in
            absurd (let u : T false = rw e at t in u)

  -- a place that is not in the list has no number
  pub written-unnumbered : (ps : List Place) (p : Place) → (In p ps → ⊥) → number (nil ∷ written x k ps) p ≡ 0
  written-unnumbered ps p h = go (ℕ_discrete (number (nil ∷ written x k ps) p) 0)
    where
      never : (n : ℕ) → place_of (entry (nil ∷ written x k ps) n) ≡ some p → ⊥
      never zero e = none-ne-some _ e
      never (suc n) e = h (written-given ps n p e).0

      go : Dec (number (nil ∷ written x k ps) p ≡ 0) → number (nil ∷ written x k ps) p ≡ 0
      go (yes z) = z
      go (no z) = absurd (never (number (nil ∷ written x k ps) p) (number-place (nil ∷ written x k ps) p z))

  -- ---- one place more

  -- the first free number
  pub written_next : (ps : List Place) → get_or (map (λ p. used p (x p)) ps ++ replicate (suc k) free) (length ps) nil ≡ free
  written_next [] = refl
  written_next (p ∷ ps) = written_next ps

  pub written-set : (ps : List Place) (q : Place) → set (map (λ p. used p (x p)) ps ++ replicate (suc k) free) (length ps) (used q (x q)) ≡ written x k (ps ++ (q ∷ []))
  written-set [] q = refl
  written-set (p ∷ ps) q = ap (λ (es : List Entry). used p (x p) ∷ es) (written-set ps q)

  -- the places that are written stay under their numbers
  pub written-longer : (j : ℕ) (ps rs : List Place) (n : ℕ) (p : Place) → place_of (get_or (map (λ p. used p (x p)) ps ++ replicate j free) n nil) ≡ some p
      → place_of (get_or (written x k (ps ++ rs)) n nil) ≡ some p
  written-longer j [] rs n p e = absurd (none-ne-some _ (sym (free-none j n) ∙ e))
  written-longer j (q ∷ ps) rs zero p e = e
  written-longer j (q ∷ ps) rs (suc n) p e = written-longer j ps rs n p e

  pub written_at : (ps : List Place) (q : Place) (qs : List Place) → get_or (written x k (ps ++ (q ∷ qs))) (length ps) nil ≡ used q (x q)
  written_at [] q qs = refl
  written_at (p ∷ ps) q qs = written_at ps q qs
