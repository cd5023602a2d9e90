-- The first checks of a call refuse nothing exactly if the lists have their sizes and what is lent is sound.
-- Assumes nothing.
use Prim.Native.Nat.{ℕ, ◌+◌, ◌*◌}
use native.Mathlib.Nat.{mul_comm}
use native.Mathlib.Omega.{arith}
use mathlib.Core.Path.{◌≡◌, ap, ◌∙◌}
use lib.ListN.{length}
use borrow.Author.Tests.{not-false}
use Rattle.mesh.specs.State.{State, capacity}
use Rattle.mesh.specs.Valid.{Valid}
use Rattle.mesh.specs.Picture.{row_words, Lent, picture, Sound}
use Rattle.mesh.specs.Test.{sound}
use Rattle.mesh.specs.Refusal.{refusal}
use Rattle.mesh.specs.Call.{Sizes, Rectangle, lent_checks, lent_refusal}
use Rattle.place_laws.proofs.Bools.{yes-is, is-yes}
use Rattle.place_laws.proofs.Ranges.{fits-sizes, sizes-fit}
use Rattle.place_laws.proofs.Base.{fits-range, range-fits}
use Rattle.number_laws.proofs.Checks.{passes}
use Rattle.picture_laws.proofs.Rows.{table-length, amounts-length}
use Rattle.picture_laws.proofs.Parts.{picture-header, picture-values}
use Rattle.picture_laws.proofs.Soundness.{picture-sound, sound-test, test-sound}

module _ (cap : ℕ) (l : Lent) where
  module _ (h : lent_refusal cap l ≡ 0) where
    pub lent-sizes : Sizes cap l
    unfolding lent_refusal lent_checks
    lent-sizes =
        let (a, _) = passes 1 _ _ (λ z. omega arith) h in
        fits-sizes cap l a

    pub lent-rectangle : Rectangle l.header.grid
    unfolding lent_refusal lent_checks
    lent-rectangle =
        let (_, h₁) = passes 1 _ _ (λ z. omega arith) h in
        let (b, _) = passes 2 _ _ (λ z. omega arith) h₁ in
        fits-range l.header.grid b

    pub lent-sound : Sound l
    unfolding lent_refusal lent_checks
    lent-sound =
        let (_, h₁) = passes 1 _ _ (λ z. omega arith) h in
        let (_, h₂) = passes 2 _ _ (λ z. omega arith) h₁ in
        let (c, _) = passes 3 _ _ (λ z. omega arith) h₂ in
        test-sound (is-yes (sound l) (not-false (sound l) c))

  pub sound-accepted : Sizes cap l → Sound l → lent_refusal cap l ≡ 0
  unfolding lent_refusal lent_checks refusal
  sound-accepted z o =
      let r : Rectangle l.header.grid = rw (picture-header o.state o.is-picture) o.valid.rectangle in
      rw (sizes-fit cap l z, range-fits l.header.grid r, yes-is (sound l) (sound-test o))

  pub sound-capacity : Sizes cap l → (o : Sound l) → capacity o.state ≡ cap
  sound-capacity z o = omega (arith, z.values, amounts-length o.state, ap length (picture-values o.state o.is-picture))

-- ---- the picture of a valid state

module _ (s : State) (v : Valid s) where
  pub picture-sizes : Sizes (capacity s) (picture s)
  picture-sizes =
      let long : length s.entries ≡ capacity s + 1 = omega (arith, v.sizes.0) in
      record {
        words = table-length s ∙ ap (λ (n : ℕ). n * row_words) long ∙ mul_comm (capacity s + 1) row_words;
        values = amounts-length s ∙ long;
        low = v.sizes.0;
        high = v.sizes.1;
      }

  pub picture-accepted : lent_refusal (capacity s) (picture s) ≡ 0
  picture-accepted = sound-accepted (capacity s) (picture s) picture-sizes (picture-sound v)
