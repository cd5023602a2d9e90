-- A scan in an order of any length is the scan in the four bytes that stand for it: whatever is no permutation is refused alike.
-- Assumes nothing.
use Prim.Native.Nat.{ℕ}
use native.Mathlib.Omega.{arith}
use mathlib.Core.Path.{◌≡◌, refl, sym, ◌∙◌}
use mathlib.Core.Logic.{◌≢◌}
use mathlib.Core.Bool.{Bool, true, false, cond}
use mathlib.Core.List.{List, [], ◌∷◌, ◌++◌}
use lib.Dec.{T, eqb, leb, leb→le}
use lib.ListN.{length}
use lib.IntN.{ℤ}
use Rattle.mesh.specs.Refusal.{Check, ◌if◌, refusal}
use Rattle.mesh.specs.Request.{no6}
use Rattle.mesh.specs.Scan.{permutation, scan_checks}
use Rattle.mesh.specs.Picture.{Lent}
use Rattle.mesh.specs.Decode.{decode}
use Rattle.mesh.specs.Call.{lent_checks, Wrote, scan_call}
use Rattle.place_laws.proofs.Bools.{and_left, and_right}
use Rattle.number_laws.proofs.Checks.{from}
use Rattle.demand_laws.proofs.Refusals.{unless-refused}
use Rattle.scan.specs.FourBytes.{four_of}

-- ---- what is checked behind a check that refuses plays no part

stops : (cs : List Check) (n : ℕ) (b : Bool) (ds : List Check) → refusal (cs ++ (n if b) ∷ (17 if true) ∷ ds) ≡ refusal (cs ++ (n if b) ∷ (17 if true) ∷ [])
unfolding refusal
stops [] n true ds = refl
stops [] n false ds = refl
stops ((k if true) ∷ cs) n b ds = refl
stops ((k if false) ∷ cs) n b ds = stops cs n b ds

refuses : (cs : List Check) → T (from 1 cs) → (b : Bool) → refusal (cs ++ (6 if b) ∷ (17 if true) ∷ []) ≢ 0
unfolding refusal
refuses [] t true e = omega (arith, e)
refuses [] t false e = omega (arith, e)
refuses ((k if true) ∷ cs) t b e = omega (arith, e, leb→le 1 k (and_left (leb 1 k) (from 1 cs) t))
refuses ((k if false) ∷ cs) t b e = refuses cs (and_right (leb 1 k) (from 1 cs) t) b e

-- ---- the call

module _ (cap : ℕ) (l : Lent) (n : ℕ) (k : ℕ) (from to : ℤ) (out : List ℕ) where
  unfoldable given : ℕ
  given = refusal (lent_checks cap l ++ no6 (decode l) n ∷ (17 if true) ∷ [])

  unordered : (o : List ℕ) → permutation o ≡ false → scan_call cap l n o k from to out ≡ record { refusal = given; count = 0; out = out }
  unfolding scan_call scan_checks lent_checks given
  unordered o e =
      rw (e, stops (lent_checks cap l) 6 _ _) (unless-refused _ _ _ (refuses (lent_checks cap l) tt _))

  pub scan-four : (o : List ℕ) → scan_call cap l n (four_of o) k from to out ≡ scan_call cap l n o k from to out
  scan-four o = go (eqb (length o) 4) refl
    where
      go : (b : Bool) → eqb (length o) 4 ≡ b → scan_call cap l n (cond b o (0 ∷ 0 ∷ 0 ∷ 0 ∷ [])) k from to out ≡ scan_call cap l n o k from to out
      go true e = refl
      go false e = unordered (0 ∷ 0 ∷ 0 ∷ 0 ∷ []) refl ∙ sym (unordered o (rw e))

  -- as a call has it: the order as four bytes, and the levels as words
  pub scanned : (o : List ℕ) {o' : List ℕ} {from' to' : ℤ} (w : Wrote) → w ≡ scan_call cap l n o' k from' to' out → o' ≡ four_of o → from' ≡ from → to' ≡ to → w ≡ scan_call cap l n o k from to out
  scanned o w h e f g =
      let same : scan_call cap l n _ k _ _ out ≡ scan_call cap l n (four_of o) k from to out = λ i. scan_call cap l n (e i) k (f i) (g i) out in
      h ∙ same ∙ scan-four o
