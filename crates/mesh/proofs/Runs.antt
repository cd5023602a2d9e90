-- The equations of a tape's run that a reader expects: at its end, over a body's byte, and at a kind byte that stops it or goes on.
-- Assumes nothing.
use Prim.Native.Nat.{ℕ, suc, ◌+◌}
use mathlib.Core.Path.{◌≡◌, refl}
use mathlib.Core.List.{List, [], ◌∷◌}
use Rattle.mesh.specs.State.{State}
use Rattle.mesh.specs.Tape.{kind, stop, next, step_by, run_from}

module _ (s : State) (n o : ℕ) where
  pub run_end : (l : ℕ) → run_from l s n o [] ≡ record { state = s; done = n; refusal = 0; offset = o }
  unfolding run_from
  run_end l = refl

  pub run-over : (l b : ℕ) (bs : List ℕ) → run_from (suc l) s n o (b ∷ bs) ≡ run_from l s n (o + 1) bs
  unfolding run_from
  run-over l b bs = refl

  pub run-stop : (k r : ℕ) (bs : List ℕ) → step_by s (kind k) bs ≡ stop r → run_from 0 s n o (k ∷ bs) ≡ record { state = s; done = n; refusal = r; offset = o }
  unfolding run_from
  run-stop k r bs e = rw (run_from, e)

  pub run-next : (k l : ℕ) (t : State) (bs : List ℕ) → step_by s (kind k) bs ≡ next t l → run_from 0 s n o (k ∷ bs) ≡ run_from l t (n + 1) (o + 1) bs
  unfolding run_from
  run-next k l t bs e = rw (run_from, e)
