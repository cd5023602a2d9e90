-- What every accepted request keeps, every tape keeps, and so does every list of tapes.
-- Assumes nothing.
use Prim.Native.Nat.{ℕ, zero, suc, ◌+◌}
use mathlib.Core.Path.{◌≡◌, refl}
use mathlib.Core.List.{List, [], ◌∷◌}
use Rattle.mesh.specs.State.{State}
use Rattle.mesh.specs.Request.{Request, accepted, request}
use Rattle.mesh.specs.Tape.{kind, Step, stop, next, step_by, run_from, run}
use Rattle.mesh.proofs.Runs.{run-stop, run-next}
use Rattle.demand_laws.specs.Deeds.{after}
use Rattle.demand_laws.proofs.Tapes.{step-next}

module _ (P : State → Type 0) (keeps : (s t : State) (r : Request) → request s r ≡ accepted t → P s → P t) where
  run-keeps : (bs : List ℕ) (l : ℕ) (s : State) (n o : ℕ) → P s → P (run_from l s n o bs).state
  unfolding run_from
  run-keeps [] l s n o h = h
  run-keeps (b ∷ bs) (suc l) s n o h = run-keeps bs l s n (o + 1) h
  run-keeps (k ∷ bs) zero s n o h = go (step_by s (kind k) bs) refl (run-keeps bs)
    where
      go : (x : Step) → step_by s (kind k) bs ≡ x → ((l : ℕ) (s : State) (n o : ℕ) → P s → P (run_from l s n o bs).state) → P (run_from zero s n o (k ∷ bs)).state
      go (stop r) e ih = rw (run-stop s n o k r bs e) h
      go (next t l) e ih =
          let (r, f, _) = step-next s (kind k) bs t l e in
          rw (run-next s n o k l t bs e) (ih l t (n + 1) (o + 1) (keeps s t r f h))

  pub tapes-keep : (ts : List (List ℕ)) (s : State) → P s → P (after s ts)
  unfolding after run
  tapes-keep [] s h = h
  tapes-keep (t ∷ ts) s h = tapes-keep ts (run s t).state (run-keeps t 0 s 0 0 h)
