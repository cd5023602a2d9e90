-- A picture, and the picture that an accepted request leaves: the words and the values of its effect, with the mark raised.
-- Assumes nothing.
use Prim.Native.Nat.{ℕ, ◌-◌}
use mathlib.Core.Path.{◌≡◌, refl, sym, ap, ◌∙◌}
use mathlib.Core.List.{List}
use lib.IntN.{ℤ}
use lib.Ieee.{Float}
use Rattle.mesh.specs.Place.{base}
use Rattle.mesh.specs.State.{State, grid_of, capacity}
use Rattle.mesh.specs.Valid.{Valid}
use Rattle.mesh.specs.Picture.{table, amounts}
use Rattle.mesh.specs.LeafCounts.{leaf_counts, Counted}
use Rattle.mesh.specs.Refusal.{refusal}
use Rattle.mesh.specs.Request.{Request, checks, effect, marked, accepted, request}
use Rattle.demand_laws.proofs.Requests.{Done, request-done}
use Rattle.picture_laws.proofs.Parts.{picture-words, picture-values, parts-picture}
use Rattle.tally_laws.proofs.Listed.{marked-counts}
use Rattle.apply.specs.Drawn.{lists, Drawn}

module _ {s : State} {cap d : ℕ} {t : List ℤ} {v : List Float} {c : List ℕ} (p : Drawn s cap d (lists t v c)) where
  pub drawn-words : t ≡ table s
  drawn-words = picture-words s (ap (λ (x : Counted). x.lent) p.is-counted)

  pub drawn-values : v ≡ amounts s
  drawn-values = picture-values s (ap (λ (x : Counted). x.lent) p.is-counted)

  pub drawn-counts : c ≡ leaf_counts s
  drawn-counts = ap (λ (x : Counted). x.counts) p.is-counted

  -- what of a table depends on the words, the capacity and the depth alone holds of a picture if it holds of the state's
  pub from-picture : (P : List ℤ → ℕ → ℕ → Type 0) → P (table s) (capacity s) (base (grid_of s)) → P t cap d
  from-picture P h = rw (drawn-words, ← p.is-capacity, ← p.is-depth) h

-- ---- an accepted request

pub request-accepted : (s : State) (q : Request) → refusal (checks s q) ≡ 0 → request s q ≡ accepted (marked (effect s q))
unfolding request
request-accepted s q ok = rw ok

pub accepted-done : (s : State) → Valid s → (q : Request) → refusal (checks s q) ≡ 0 → Done s q (marked (effect s q))
accepted-done s v q ok = request-done s v q (marked (effect s q)) (request-accepted s q ok)

-- its state, with the mark raised, is pictured by what is the picture of its effect
pub marked-drawn : {s : State} {cap d : ℕ} {t : List ℤ} {v : List Float} {c : List ℕ} (q : Request) {t' : List ℤ} {v' : List Float} {c' : List ℕ}
    → Drawn s cap d (lists t v c) → refusal (checks s q) ≡ 0 → t' ≡ table (effect s q) → v' ≡ amounts (effect s q) → c' ≡ leaf_counts (effect s q) → Drawn (marked (effect s q)) cap d (lists t' v' c')
unfolding marked table amounts
marked-drawn {s} q p ok x y z =
    let d = accepted-done s p.valid q ok in
    record {
      valid = d.valid;
      is-capacity = ap (λ (k : ℕ). k - 1) d.same_length ∙ p.is-capacity;
      is-depth = ap base d.same-grid ∙ p.is-depth;
      is-counted = λ i. record { lent = parts-picture (marked (effect s q)) refl x y i; counts = (z ∙ sym (marked-counts (effect s q))) i };
    }
