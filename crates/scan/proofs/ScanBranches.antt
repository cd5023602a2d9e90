-- What a scan answers where a branch of the code has decided a test.
-- Assumes nothing.
use Prim.Native.Nat.{ℕ, zero, suc, ◌≤◌}
use native.Mathlib.Omega.{arith}
use mathlib.Core.Path.{◌≡◌, refl, sym, ◌∙◌}
use mathlib.Core.Logic.{◌≢◌}
use mathlib.Core.Bool.{Bool, true, false, not, ◌&&◌, ◌||◌}
use mathlib.Core.List.{List, [], ◌∷◌, ◌++◌}
use lib.Dec.{T, leb, leb→le}
use lib.ListN.{length}
use lib.IntN.{ℤ, ◌-ℤ◌, nat_abs}
use lib.Signed.{lt_z}
use borrow.Author.Tests.{lt-ltb, le-ltb, leb-true, leb-false, not-false}
use Rattle.mesh.specs.Tools.{all}
use Rattle.mesh.specs.Refusal.{Check, refusal}
use Rattle.mesh.specs.Scan.{permutation, no18}
use Rattle.mesh.specs.Call.{unless, wrote}
use Rattle.table.specs.Words.{taken}
use Rattle.table.proofs.Taken.{taken-within}
use Rattle.place_laws.proofs.Bools.{is-yes, and_left, and_right, neither}
use Rattle.number_laws.proofs.Checks.{passes, kept}
use Rattle.walk.specs.WalkRows.{kids_word, row_walk}
use Rattle.listing.specs.ListedRows.{scans}
use Rattle.scan.specs.ScanRows.{level_of, start_checks, row_scan, row_scan_out}
use Rattle.listing.specs.Written.{WroteWhatFits}
use Rattle.scan.proofs.OrderWords.{permutation-words}
use Rattle.listing.proofs.Writing.{wrote-whole}

-- what a scan that is not refused by 6 or 17 has
pub record Open (t : List ℤ) (cap n : ℕ) (o : List ℕ) (k : ℕ) : Type 0 where
  pub used : taken t cap n ≡ true
  pub order : T (permutation o)
  pub first : 1 ≤ n
  pub within : n ≤ cap
  pub words : T (all kids_word o)
  pub least : 1 ≤ k
  pub most : k ≤ 6

module _ (t : List ℤ) (cap n : ℕ) (o : List ℕ) (k : ℕ) (from to : ℤ) where
  abbrev start : List Check
  start = start_checks t cap n o k from to

  -- from equal levels
  pub same-checks : {from' to' : ℤ} → from' ≡ from → to' ≡ to → {r : ℕ} → r ≡ refusal (start_checks t cap n o k from' to') → r ≡ refusal start
  same-checks f g e = rw (f, g) at e

  -- 17 as the code decides it
  pub unfit : {b : Bool} {level from' to' : ℤ} → b ≡ permutation o → level ≡ level_of t n → from' ≡ from → to' ≡ to
      → (not b || (not (leb 1 k && leb k 6) || (lt_z from' level || lt_z to' from'))) ≡ (not (permutation o) || (not (leb 1 k && leb k 6) || (lt_z from (level_of t n) || lt_z to from)))
  unfit p l f g = rw (← p, ← l, ← f, ← g)

  module _ (e : refusal start ≡ 0) where
    passed : (taken t cap n ≡ true) × ((not (permutation o) || (not (leb 1 k && leb k 6) || (lt_z from (level_of t n) || lt_z to from))) ≡ false)
    passed =
        let (x, h) = passes 6 _ _ (λ z. omega arith) e in
        let (y, _) = passes 17 _ _ (λ z. omega arith) h in
        (not-false (taken t cap n) x, y)

    pub opened : Open t cap n o k
    opened =
        let (p, h) = neither (not (permutation o)) _ passed.1 in
        let (q, h') = neither (not (leb 1 k && leb k 6)) _ h in
        let order = is-yes (permutation o) (not-false (permutation o) p) in
        let known = is-yes (leb 1 k && leb k 6) (not-false (leb 1 k && leb k 6) q) in
        record {
          used = passed.0;
          order = order;
          first = (taken-within t cap n passed.0).0;
          within = (taken-within t cap n passed.0).1;
          words = permutation-words o order;
          least = leb→le 1 k (and_left (leb 1 k) (leb k 6) known);
          most = leb→le k 6 (and_right (leb 1 k) (leb k 6) known);
        }

  module _ (d : ℕ) (out : List ℕ) where
    abbrev xs : List ℕ
    xs = row_scan t cap d n o k from to

    pub refused-scan : (r : ℕ) → r ≡ refusal start → r ≢ 0 → record { refusal = r; count = 0; out = out } ≡ row_scan_out t cap d n o k from to out
    unfolding row_scan_out unless
    refused-scan r e z =
        let s : refusal (start ++ (no18 (length out) xs ∷ [])) ≡ r = kept start (no18 (length out) xs ∷ []) (λ h. z (e ∙ h)) ∙ sym e in
        rw s (go r z)
      where
        go : (r : ℕ) → r ≢ 0 → record { refusal = r; count = 0; out = out } ≡ wrote r xs out
        go zero z = absurd (z refl)
        go (suc r) z = refl

    module _ (e : refusal start ≡ 0) where
      pub short-scan : leb (length xs) (length out) ≡ false → record { refusal = 18; count = 0; out = out } ≡ row_scan_out t cap d n o k from to out
      unfolding row_scan_out refusal unless
      short-scan h =
          let (x, y) = passed e in
          rw (x, y, lt-ltb (length out) (length xs) (leb-false (length xs) (length out) h))

      pub whole-scan : leb (length xs) (length out) ≡ true → (g : List ℕ) (q : ℕ) → WroteWhatFits out 0 xs g q → record { refusal = 0; count = q; out = g } ≡ row_scan_out t cap d n o k from to out
      unfolding row_scan_out refusal unless
      whole-scan h g q w =
          let (x, y) = passed e in
          let l = leb-true (length xs) (length out) h in
          let (i, j) = wrote-whole l w in
          rw (x, y, le-ltb (length out) (length xs) l, i, j)

  -- the rows that the code walks
  pub scan-rows-are : (d left : ℕ) {k' : ℕ} {level from' to' : ℤ} → k' ≡ k → level ≡ level_of t n → from' ≡ from → to' ≡ to → left ≡ nat_abs (to' -ℤ level)
      → row_walk t cap (scans t cap d from' k') o left n ≡ row_scan t cap d n o k from to
  unfolding row_scan
  scan-rows-are d left h l f g e = rw (e, h, l, f, g)
