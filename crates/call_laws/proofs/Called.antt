-- A call that passes the first checks: the checks after them decide, and what was lent is the picture of the state that it decodes to, so what a
-- call answers by the state is what it answers by the rows.
-- Assumes nothing.
use Prim.Native.Nat.{ℕ}
use mathlib.Core.Path.{◌≡◌, sym, ap, ◌∙◌, subst}
use mathlib.Core.List.{List, ◌++◌}
use Rattle.mesh.specs.State.{State, capacity}
use Rattle.mesh.specs.Valid.{Valid}
use Rattle.mesh.specs.Picture.{Lent, picture}
use Rattle.mesh.specs.Refusal.{Check, refusal}
use Rattle.mesh.specs.Decode.{decode}
use Rattle.mesh.specs.Call.{lent_checks, lent_refusal}
use Rattle.number_laws.proofs.Checks.{past}
use Rattle.picture_laws.proofs.Decoding.{decode-back}
use Rattle.picture_laws.proofs.Accepted.{lent-sizes, lent-sound, sound-capacity}

module _ (cap : ℕ) (l : Lent) (h : lent_refusal cap l ≡ 0) where
  pub checks-after : (cs : List Check) → refusal (lent_checks cap l ++ cs) ≡ refusal cs
  unfolding lent_refusal lent_checks
  checks-after cs = past (lent_checks cap l) cs tt h

  -- what holds of the pictures of valid states holds of what was lent
  pub of-picture : (P : Lent → ℕ → Type 0) → ((s : State) → Valid s → P (picture s) (capacity s)) → P l cap
  of-picture P holds =
      let o = lent-sound cap l h in
      let drawn = subst (λ (x : Lent). P x (capacity o.state)) (sym o.is-picture) (holds o.state o.valid) in
      subst (P l) (sound-capacity cap l (lent-sizes cap l h) o) drawn

  -- what is read off the pictures of valid states is read off what was lent
  pub by-picture : {A : Type 0} (f : State → A) (k : Lent → ℕ → A) → ((s : State) → Valid s → f s ≡ k (picture s) (capacity s)) → f (decode l) ≡ k l cap
  by-picture f k agree = of-picture (λ x c. f (decode x) ≡ k x c) (λ s v. ap f (decode-back s v) ∙ agree s v)
