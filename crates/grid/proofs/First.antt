-- The first checks of a call: where one refuses, the call's own do not matter; where none does, the call by rows is the call's.
-- Assumes nothing.
use Prim.Native.Nat.{ℕ, ◌+◌, ◌≤◌}
use native.Mathlib.Omega.{arith}
use mathlib.Core.Path.{◌≡◌, sym, ap, ◌∙◌}
use mathlib.Core.Logic.{◌≢◌}
use mathlib.Core.List.{List, ◌++◌}
use lib.ListN.{length}
use Rattle.mesh.specs.Picture.{Lent}
use Rattle.mesh.specs.LeafCounts.{Counted, counted}
use Rattle.mesh.specs.Tape.{Run, run}
use Rattle.mesh.specs.Refusal.{Check, refusal}
use Rattle.mesh.specs.State.{blank}
use Rattle.mesh.specs.Scan.{scan_checks}
use Rattle.mesh.specs.Lookup.{lookup_checks}
use Rattle.mesh.specs.Decode.{decode}
use Rattle.mesh.specs.Call.{lent_checks, lent_refusal, check_call, Taped, tape_call, Wrote, Found, scan_call, lookup_call, page_call}
use Rattle.place_laws.proofs.Base.{base-range}
use lib.IntN.{ℤ}
use Rattle.walk.specs.Walkable.{Walkable}
use Rattle.scan.specs.ScanRows.{Few, row_scan_out}
use Rattle.lookup.specs.LookupRows.{row_lookup_out}
use Rattle.call_laws.proofs.Scanned.{scan-call, few-lent, walkable-lent}
use Rattle.call_laws.proofs.Looked.{lookup-call}
use Rattle.mesh.specs.Place.{base}
use Rattle.leaves.specs.LeavesFrom.{leaves_from}
use Rattle.page.specs.PageRows.{row_out}
use Rattle.call_laws.proofs.Paged.{page-call, page-few}
use Rattle.mesh.specs.Page.{page_checks}
use Rattle.number_laws.proofs.Checks.{kept}
use Rattle.demand_laws.proofs.Refusals.{unless-refused, unless-accepted}
use Rattle.picture_laws.proofs.Accepted.{lent-rectangle}

-- a tape that they let through runs on the state that is pictured
abbrev pub ran_of : Run → Taped
ran_of r = record { done = r.done; refusal = r.refusal; offset = r.offset; lent = counted r.state }

pub tape-ran : (cap : ℕ) (l : Counted) → check_call cap l ≡ 0 → (bytes : List ℕ) → tape_call cap l bytes ≡ ran_of (run (decode l.lent) bytes)
unfolding tape_call
tape-ran cap l h bytes = unless-accepted _ _ (check_call cap l) h

-- a call that the first checks refuse, whatever its own are
module _ (cap : ℕ) (l : Lent) (r : ℕ) (is : r ≡ lent_refusal cap l) (some : r ≢ 0) where
  first : (cs : List Check) → refusal (lent_checks cap l ++ cs) ≡ r
  unfolding lent_refusal
  first cs = kept (lent_checks cap l) cs (λ z. some (is ∙ z)) ∙ sym is

  pub scan-first : (n : ℕ) (o : List ℕ) (k : ℕ) (from to : ℤ) (out : List ℕ) → record { refusal = r; count = 0; out = out } ≡ scan_call cap l n o k from to out
  unfolding scan_call
  scan-first n o k from to out = sym (rw (first (scan_checks (decode l) (length out) n o k from to)) (unless-refused _ _ r some))

  pub lookup_first : (x y : ℕ) → record { refusal = r; leaf = 0; value = blank } ≡ lookup_call cap l x y
  unfolding lookup_call
  lookup_first x y = sym (rw (first (lookup_checks (decode l) x y)) (unless-refused _ _ r some))

  pub page-first : (out : List ℕ) → record { refusal = r; count = 0; out = out } ≡ page_call cap l out
  unfolding page_call
  page-first out = sym (rw (first (page_checks (decode l) (length out))) (unless-refused _ _ r some))

-- the depth of level 0, where they let a call through
pub shallow : (cap : ℕ) (l : Lent) → lent_refusal cap l ≡ 0 → base l.header.grid ≤ 6
shallow cap l ok = (base-range l.header.grid (lent-rectangle cap l ok)).1

-- a scan and a lookup that they let through; the levels are passed on as words
pub scan-done : (cap : ℕ) (l : Lent) (n : ℕ) (o : List ℕ) (k : ℕ) {from to from' to' : ℤ} (out : List ℕ) (d : ℕ) (w : Wrote) → lent_refusal cap l ≡ 0 → d ≡ base l.header.grid
    → from' ≡ from → to' ≡ to → w ≡ row_scan_out l.words cap d n o k from' to' out → w ≡ scan_call cap l n o k from to out
scan-done cap l n o k {from} {to} {from'} {to'} out d w ok e f g h =
    let same : row_scan_out l.words cap d n o k from' to' out ≡ row_scan_out l.words cap (base l.header.grid) n o k from to out = λ i. row_scan_out l.words cap (e i) n o k (f i) (g i) out in
    h ∙ same ∙ sym (scan-call n o k from to out cap l ok)

-- what a scan and a lookup ask of what is lent
pub lent-walkable : (cap : ℕ) (l : Lent) (d : ℕ) → lent_refusal cap l ≡ 0 → d ≡ base l.header.grid → Walkable l.words cap d
lent-walkable cap l d ok e = rw e (walkable-lent cap l ok)

pub lent-few : (cap : ℕ) (l : Lent) (n : ℕ) (o : List ℕ) (k : ℕ) {from to from' to' : ℤ} (d : ℕ) → lent_refusal cap l ≡ 0 → d ≡ base l.header.grid
    → from' ≡ from → to' ≡ to → Few l.words cap d n o k from' to'
lent-few cap l n o k {from} {to} {from'} {to'} d ok e f g = rw (e, f, g) (few-lent n o k from to cap l ok)

pub lookup-done : (cap : ℕ) (l : Lent) (x y d : ℕ) (w : Found) → lent_refusal cap l ≡ 0 → d ≡ base l.header.grid → w ≡ row_lookup_out l.header.grid l.words l.values cap d x y → w ≡ lookup_call cap l x y
lookup-done cap l x y d w ok e h = h ∙ ap (λ (d : ℕ). row_lookup_out l.header.grid l.words l.values cap d x y) e ∙ sym (lookup-call x y cap l ok)

-- a page call that they let through
pub page-listed : (cap : ℕ) (l : Lent) (d : ℕ) → lent_refusal cap l ≡ 0 → cap ≤ 4095 → d ≡ base l.header.grid → length (leaves_from l.words cap (d + 12) 1) ≤ 4096
page-listed cap l d ok h e = rw e (omega (arith, page-few cap l ok))

pub page-done : (cap : ℕ) (l : Lent) (out : List ℕ) (d : ℕ) (w : Wrote) → lent_refusal cap l ≡ 0 → d ≡ base l.header.grid
    → w ≡ row_out l.header l.words l.values cap d out → w ≡ page_call cap l out
page-done cap l out d w ok e h = h ∙ ap (λ (d : ℕ). row_out l.header l.words l.values cap d out) e ∙ sym (page-call cap l out ok)
