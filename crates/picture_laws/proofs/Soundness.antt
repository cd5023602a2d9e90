-- What is lent is sound exactly if it passes the test: the state that it pictures, if any, is the decoded one.
-- Assumes nothing.
use Prim.Native.Nat.{ℕ}
use mathlib.Core.Path.{◌≡◌, refl, sym, ap, ◌∙◌, subst}
use mathlib.Core.Option.{none, some}
use lib.Dec.{T}
use lib.IntN.{pos}
use lib.ListN.{get_or}
use Rattle.mesh.specs.Tools.{same_list}
use Rattle.mesh.specs.Place.{Place}
use Rattle.mesh.specs.State.{State, Entry, nil, free, used, Value, blank, measured, carried, plus_zero, amount, value_of, entry}
use Rattle.mesh.specs.Valid.{Valid, ValueRule, finite}
use Rattle.mesh.specs.Picture.{table, amounts, Lent, picture, Sound}
use Rattle.mesh.specs.Decode.{decode}
use Rattle.mesh.specs.Test.{same_int, same_float, sound_tests, sound}
use Rattle.place_laws.proofs.Lists.{every-at, at_every}
use Rattle.picture_laws.proofs.Rows.{amounts-at}
use Rattle.picture_laws.proofs.Parts.{parts-picture}
use Rattle.picture_laws.proofs.Decoding.{decode-back}
use Rattle.picture_laws.proofs.Equal.{int_is, int-refl, float_is, float-refl, list-is, list-refl}
use Rattle.picture_laws.proofs.Testing.{valid-test, test-valid}

-- ---- the picture of a valid state

pub picture-sound : {s : State} → Valid s → Sound (picture s)
picture-sound {s} v = record { state = s; valid = v; is-picture = refl }

module _ (s : State) (v : Valid s) where
  pub finite-amount : (n : ℕ) → T (finite (amount (value_of (entry s.entries n))))
  finite-amount n = go (entry s.entries n) refl
    where
      by : (p : Place) (w : Value) → ValueRule s p w → T (finite (amount w))
      by p blank r = tt
      by p (measured x) r = r
      by p (carried x) r = r.1

      go : (e : Entry) → entry s.entries n ≡ e → T (finite (amount (value_of e)))
      go nil h = tt
      go free h = tt
      go (used p none) h = tt
      go (used p (some x)) h = by p x.value (v.values n p x h)

  same-amounts : T (same_list same_float (amounts s) (amounts s))
  same-amounts = list-refl same_float plus_zero (amounts s) (λ k. float-refl (get_or (amounts s) k plus_zero) (rw (amounts-at s k) (finite-amount k)))

module _ {l : Lent} where
  -- the state of what is sound is the decoded one
  pub sound-state : (o : Sound l) → o.state ≡ decode l
  sound-state o = sym (decode-back o.state o.valid) ∙ ap decode (sym o.is-picture)

  pub sound-valid : Sound l → Valid (decode l)
  sound-valid o = subst Valid (sound-state o) o.valid

  pub sound-test : Sound l → T (sound l)
  unfolding sound sound_tests
  sound-test o =
      let s = o.state in
      let back : decode (picture s) ≡ s = decode-back s o.valid in
      let same : T (same_list same_int (table s) (table s)) = list-refl same_int (pos 0) (table s) (λ k. int-refl (get_or (table s) k (pos 0))) in
      rw o.is-picture (at_every (sound_tests (picture s)) (rw back (valid-test s o.valid), (rw back same, (rw back (same-amounts s o.valid), tt))))

  pub test-sound : T (sound l) → Sound l
  unfolding sound sound_tests decode
  test-sound x =
      let s = decode l in
      let nth = every-at (sound_tests l) x in
      record {
        state = s;
        valid = test-valid s (nth 0);
        is-picture = parts-picture s refl (list-is same_int int_is l.words (table s) (nth 1)) (list-is same_float float_is l.values (amounts s) (nth 2));
      }
