-- The leaf counts along an accepted request on a picture: what it moves can be moved, and the counts become those of its effect.
-- Assumes nothing.
use Prim.Native.Nat.{ℕ}
use native.Mathlib.Omega.{arith}
use mathlib.Core.Path.{◌≡◌, sym, ◌∙◌}
use mathlib.Core.List.{List}
use lib.IntN.{ℤ}
use lib.Ieee.{Float}
use Rattle.mesh.specs.State.{State, capacity}
use Rattle.mesh.specs.Valid.{Valid}
use Rattle.mesh.specs.Picture.{table, amounts}
use Rattle.mesh.specs.LeafCounts.{leaf_counts}
use Rattle.mesh.specs.Refusal.{refusal}
use Rattle.mesh.specs.Request.{Request, refine, sentence, remove, kill, set_value, loose_checks, effect}
use Rattle.tally_laws.proofs.Listed.{sentence-counts}
use Rattle.tally.specs.CountSteps.{Move, moved, Movable}
use Rattle.tally.specs.TallyRows.{Placed, LevelBelow, KidsPlaced, refined_move, removed_move, killed_move, measured_move}
use Rattle.tally.proofs.Moving.{Balanced, can-move, moves-on}
use Rattle.tally.proofs.RequestMoves.{refine-placed, refine-balanced, remove-placed, remove-balanced, kill-placed, kill-balanced, set-placed, set-balanced}
use Rattle.refusals.specs.Decide.{refine_refusal, remove_refusal, kill_refusal, set_refusal}
use Rattle.apply.specs.Drawn.{lists, Drawn, Pictured}
use Rattle.apply.proofs.Drawing.{drawn-words, drawn-values, drawn-counts}
use Rattle.apply.proofs.Deciding.{passed, refine-decides, remove-decides, kill-decides, set-decides}

-- the counts c can make the move m, and then are those of the effect
pub record Tallied (s : State) (q : Request) (c : List ℕ) (m : Move) : Type 0 where
  pub movable : Movable c m
  pub counted : moved c m ≡ leaf_counts (effect s q)

tallied : (s : State) → Valid s → (q : Request) (m : Move) → Balanced s (effect s q) m → Tallied s q (leaf_counts s) m
tallied s v q m b = record { movable = can-move s (effect s q) m b (omega (arith, v.sizes.1)); counted = moves-on s (effect s q) m b }

module _ {s : State} {cap d : ℕ} {t : List ℤ} {v : List Float} {c : List ℕ} (p : Drawn s cap d (lists t v c)) where
  -- what depends on the lists and the capacity alone holds of a picture if it holds of the state's
  from-counted : (P : List ℤ → List Float → List ℕ → ℕ → Type 0) → P (table s) (amounts s) (leaf_counts s) (capacity s) → P t v c cap
  from-counted P h = rw (drawn-words p, drawn-values p, drawn-counts p, ← p.is-capacity) h

  module _ (n : ℕ) where
    pub refine-tallied : refusal (loose_checks s (refine n)) ≡ 0 → Placed t v n × LevelBelow t n × Tallied s (refine n) c (refined_move t v n)
    refine-tallied ok =
        let (a, b) = refine-placed s p.valid n ok in
        from-counted (λ t v c cap. Placed t v n × LevelBelow t n × Tallied s (refine n) c (refined_move t v n)) (a, b, tallied s p.valid (refine n) _ (refine-balanced s p.valid n ok))

    pub remove-tallied : refusal (loose_checks s (remove n)) ≡ 0 → Placed t v n × KidsPlaced t v cap n × Tallied s (remove n) c (removed_move t v cap n)
    remove-tallied ok =
        let (a, b) = remove-placed s p.valid n ok in
        from-counted (λ t v c cap. Placed t v n × KidsPlaced t v cap n × Tallied s (remove n) c (removed_move t v cap n)) (a, b, tallied s p.valid (remove n) _ (remove-balanced s p.valid n ok))

    pub kill-tallied : refusal (loose_checks s (kill n)) ≡ 0 → Placed t v n × Tallied s (kill n) c (killed_move t v n)
    kill-tallied ok = from-counted (λ t v c cap. Placed t v n × Tallied s (kill n) c (killed_move t v n)) (kill-placed s p.valid n ok, tallied s p.valid (kill n) _ (kill-balanced s p.valid n ok))

    pub set-tallied : (x : Float) → refusal (loose_checks s (set_value n x)) ≡ 0 → Placed t v n × Tallied s (set_value n x) c (measured_move t v n x)
    set-tallied x ok = from-counted (λ t v c cap. Placed t v n × Tallied s (set_value n x) c (measured_move t v n x)) (set-placed s p.valid n x ok, tallied s p.valid (set_value n x) _ (set-balanced s p.valid n x ok))

    -- a sentence moves none
    pub sentence-tallied : refusal (loose_checks s (sentence n)) ≡ 0 → c ≡ leaf_counts (effect s (sentence n))
    sentence-tallied ok = drawn-counts p ∙ sentence-counts s p.valid n ok

-- ---- what the code asks for, once the request is not refused

module _ {cap d : ℕ} {t : List ℤ} {v : List Float} {c : List ℕ} (h : Pictured cap d (lists t v c)) (n : ℕ) where
  drawn : Drawn h.state cap d (lists t v c)
  drawn = h.drawn

  module _ {given : ℕ} (z : given ≡ 0) where
    pub refine-asks : given ≡ refine_refusal t cap n → Placed t v n × LevelBelow t n × Movable c (refined_move t v n)
    refine-asks x = let (a, b, m) = refine-tallied drawn n (passed h (refine n) (refine-decides cap d n t v c (sym z ∙ x))) in (a, b, m.movable)

    pub remove-asks : given ≡ remove_refusal t cap n → Placed t v n × KidsPlaced t v cap n × Movable c (removed_move t v cap n)
    remove-asks x = let (a, b, m) = remove-tallied drawn n (passed h (remove n) (remove-decides cap d n t v c (sym z ∙ x))) in (a, b, m.movable)

    pub kill-asks : given ≡ kill_refusal t cap d n → Placed t v n × Movable c (killed_move t v n)
    kill-asks x = let (a, m) = kill-tallied drawn n (passed h (kill n) (kill-decides cap d n t v c (sym z ∙ x))) in (a, m.movable)

    pub set-asks : (w : Float) → given ≡ set_refusal t cap n w → Placed t v n × Movable c (measured_move t v n w)
    set-asks w x = let (a, m) = set-tallied drawn n w (passed h (set_value n w) (set-decides cap d n t v c w (sym z ∙ x))) in (a, m.movable)
