-- A scan call that passes the first checks answers what the scan by rows answers: in the picture of a valid state the start's row is in use exactly
-- if its number is, its word says its level, and past 6 and 17 the rows that are walked are those of the scan.
-- Assumes nothing.
use Prim.Native.Nat.{ℕ}
use native.Mathlib.Omega.{arith}
use mathlib.Core.Path.{◌≡◌, refl, sym, ap, ◌∙◌}
use mathlib.Core.Bool.{Bool, true, false}
use mathlib.Core.List.{List}
use lib.Dec.{T}
use lib.ListN.{length}
use lib.IntN.{ℤ}
use Rattle.mesh.specs.Tools.{or_else}
use Rattle.mesh.specs.Place.{Place, base, root, level}
use Rattle.mesh.specs.State.{State, is_used, entry, place_at, grid_of, capacity}
use Rattle.mesh.specs.Valid.{Valid}
use Rattle.mesh.specs.Picture.{table, Lent}
use Rattle.mesh.specs.Refusal.{refusal}
use Rattle.mesh.specs.Scan.{permutation, scan, scan_checks}
use Rattle.mesh.specs.Decode.{decode}
use Rattle.mesh.specs.Call.{lent_refusal, unless, wrote, scan_call}
use Rattle.walk.specs.Walkable.{Walkable}
use Rattle.scan.specs.ScanRows.{level_of, row_scan, Few, row_scan_out}
use Rattle.scan.proofs.ScanBranches.{opened}
use Rattle.place_laws.proofs.Bools.{is-yes}
use Rattle.number_laws.proofs.Entries.{used-is}
use Rattle.table_laws.proofs.Pictured.{level-word}
use Rattle.table_laws.proofs.TakenRows.{taken-row}
use Rattle.walk_laws.proofs.Few.{scan-few}
use Rattle.call_laws.proofs.WalkedRows.{row-scan}
use Rattle.call_laws.proofs.WalkablePicture.{walkable-picture}
use Rattle.call_laws.proofs.Called.{checks-after, by-picture, of-picture}

module _ (n : ℕ) (o : List ℕ) (k : ℕ) (from to : ℤ) where
  module _ (s : State) (v : Valid s) where
    level-there : T (is_used (entry s.entries n)) → level_of (table s) n ≡ level (grid_of s) (place_at s.entries n)
    level-there t =
        let (p, e) = used-is (entry s.entries n) t in
        level-word s n p e ∙ ap (level (grid_of s)) (sym (ap (or_else root (λ (q : Place). q)) e))

    scan-there : T (is_used (entry s.entries n)) → T (permutation o) → row_scan (table s) (capacity s) (base (grid_of s)) n o k from to ≡ scan s n o k from to
    unfolding row_scan
    scan-there t u = rw (level-there t) (sym (row-scan s v n o k from to t u))

    few-there : Few (table s) (capacity s) (base (grid_of s)) n o k from to
    few-there e =
        let h = opened (table s) (capacity s) n o k from to e in
        let t = is-yes (is_used (entry s.entries n)) (sym (taken-row s v n) ∙ h.used) in
        omega (arith, ap length (scan-there t h.order), scan-few s v n o k from to t h.order)

    -- where 6 or 17 is given, what would be written is not looked at
    scan-picture : (out : List ℕ) → wrote (refusal (scan_checks s (length out) n o k from to)) (scan s n o k from to) out ≡ row_scan_out (table s) (capacity s) (base (grid_of s)) n o k from to out
    unfolding scan_checks row_scan_out refusal unless
    scan-picture out = go (is_used (entry s.entries n)) (permutation o) refl refl
      where
        go : (a b : Bool) → is_used (entry s.entries n) ≡ a → permutation o ≡ b
            → wrote (refusal (scan_checks s (length out) n o k from to)) (scan s n o k from to) out ≡ row_scan_out (table s) (capacity s) (base (grid_of s)) n o k from to out
        go false b e f = rw (taken-row s v n, e)
        go true false e f = rw (taken-row s v n, e, f)
        go true true e f =
            let t = is-yes (is_used (entry s.entries n)) e in
            rw (taken-row s v n, level-there t, scan-there t (is-yes (permutation o) f))

  -- the scan call, by rows
  pub scan-call : (out : List ℕ) (cap : ℕ) (l : Lent) → lent_refusal cap l ≡ 0
      → scan_call cap l n o k from to out ≡ row_scan_out l.words cap (base l.header.grid) n o k from to out
  unfolding scan_call
  scan-call out cap l h =
      ap (λ (r : ℕ). wrote r (scan (decode l) n o k from to) out) (checks-after cap l h (scan_checks (decode l) (length out) n o k from to))
      ∙ by-picture cap l h (λ s. wrote (refusal (scan_checks s (length out) n o k from to)) (scan s n o k from to) out) (λ x c. row_scan_out x.words c (base x.header.grid) n o k from to out) (λ s v. scan-picture s v out)

  -- and it lists no more numbers than the table has rows
  pub few-lent : (cap : ℕ) (l : Lent) → lent_refusal cap l ≡ 0 → Few l.words cap (base l.header.grid) n o k from to
  few-lent cap l h = of-picture cap l h (λ x c. Few x.words c (base x.header.grid) n o k from to) few-there

-- what was lent can be read as it stands
pub walkable-lent : (cap : ℕ) (l : Lent) → lent_refusal cap l ≡ 0 → Walkable l.words cap (base l.header.grid)
walkable-lent cap l h = of-picture cap l h (λ x c. Walkable x.words c (base x.header.grid)) walkable-picture
