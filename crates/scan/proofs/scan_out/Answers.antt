-- `scan::scan_out` meets its contract: past 6 and 17 the order names kids and no level is below the start's, so the rows are written if
-- they fit.
use Prim.Native.Nat.{ℕ}
use native.Mathlib.Omega.{arith}
use mathlib.Core.Path.{refl, ◌≡◌, sym, ap, ◌∙◌}
use mathlib.Core.List.{List}
use lib.Dec.{leb}
use lib.IntN.{ℤ, ◌-ℤ◌, nat_abs}
use lib.ListN.{length}
use mir.Syntax.{w32}
use mir.Val.{SFits, to_z, of_z}
use mir.Facts.{to_z-of_z}
use borrow.Author.Rules.{sfits_of}
use Rattle.mesh.specs.Refusal.{refusal}
use Rattle.std.proofs.Common.{Option, Some}
use Rattle.listing.specs.ListedRows.{scans}
use Rattle.listing.specs.Kinds.{number_of, kind_of}
use Rattle.listing.specs.declared.kinds.Kind.{Kind}
use Rattle.listing.proofs.KindNumbers.{number_known, kind_known}
use Rattle.scan.specs.ScanRows.{level_of, start_checks, row_scan}
use Rattle.walk.specs.WalkRows.{row_walk}
use Rattle.scan.proofs.ScanBranches.{Open, same-checks, opened, refused-scan, short-scan, whole-scan, scan-rows-are}
use Rattle.listing.proofs.Writing.{wrote_as}
use Rattle.std.proofs.Common.{rules, Err}
use Rattle.std.proofs.lemmas.Bool.{not-true, not-false}
use Rattle.answer.specs.declared.Refusal.{Refusal}
use Rattle.answer.specs.declared.Refusal.TheVariants.{TooShort}
use Rattle.answer.specs.OutputLists.{wrote_of}
use Rattle.answer.proofs.RefusalNumbers.{not-zero}
use Rattle.answer.proofs.InOrder.{refuses, passes}
use Rattle.scan.proofs.scan_out.Goals as goal

-- ---- the levels as the code passes them on

-- a level as it is passed
abbrev passed : ℤ → ℤ
passed z = to_z w32 (of_z w32 z)

module _ (t : List ℤ) (cap n : ℕ) (o : List ℕ) (k : ℕ) (from to : ℤ) where
  checked : SFits w32 from → SFits w32 to → {r : ℕ} → r ≡ refusal (start_checks t cap n o k (passed from) (passed to)) → r ≡ refusal (start_checks t cap n o k from to)
  checked f g e = same-checks t cap n o k from to (to_z-of_z f) (to_z-of_z g) e

  clear : SFits w32 from → SFits w32 to → {r : ℕ} → r ≡ refusal (start_checks t cap n o k (passed from) (passed to)) → r ≡ 0 → refusal (start_checks t cap n o k from to) ≡ 0
  clear f g e z = sym (checked f g e) ∙ z

  open_at : SFits w32 from → SFits w32 to → {r : ℕ} → r ≡ refusal (start_checks t cap n o k (passed from) (passed to)) → r ≡ 0 → Open t cap n o k
  open_at f g e z = opened t cap n o k from to (clear f g e z)

  -- the rows that are walked are those of the scan, and so is their count
  walk_is : (d left : ℕ) (kind : Kind) → SFits w32 from → SFits w32 to → Open t cap n o k → {known : Option Kind} → known ≡ kind_of k → known ≡ Some kind
      → {level : ℤ} → SFits w32 level → level ≡ level_of t n → left ≡ nat_abs (passed to -ℤ passed level)
      → row_walk t cap (scans t cap d (passed from) (number_of kind)) o left n ≡ row_scan t cap d n o k from to
  walk_is d left kind f g h q p l e i =
      scan-rows-are t cap n o k from to d left (number_known k h.least h.most kind (sym q ∙ p)) (to_z-of_z l ∙ e) (to_z-of_z f) (to_z-of_z g) i

-- ---- what is needed

pub returns-in_err-scan_refusal : goal.returns-in_err-scan_refusal
returns-in_err-scan_refusal c =
    let a = c.args in
    let r = c.in_err-scan_refusal.field-0.0 in
    let e = checked a.t.now a.cap a.start a.order a.kind a.from a.to c.ranges.from c.ranges.to c.in_err-scan_refusal.ensures in
    let o : wrote_of c.from_residual.result a.out.now ≡ wrote_of (Err r) a.out.now = search rules in
    o ∙ refused-scan a.t.now a.cap a.start a.order a.kind a.from a.to a.d a.out.now _ e (not-zero r)

pub raw-requires : goal.raw-requires
raw-requires c =
    let a = c.args in
    let o = open_at a.t.now a.cap a.start a.order a.kind a.from a.to c.ranges.from c.ranges.to c.in_ok-scan_refusal.ensures refl in
    omega (arith, o.within, c.requires.0.plain.sized.words)

pub unwrap-kind-requires : goal.unwrap-kind-requires
unwrap-kind-requires c =
    let a = c.args in
    let o = open_at a.t.now a.cap a.start a.order a.kind a.from a.to c.ranges.from c.ranges.to c.in_ok-scan_refusal.ensures refl in
    rw c.of.ensures (kind_known a.kind o.least o.most)

pub invariant_of-scan : goal.invariant_of-scan
invariant_of-scan c =
    let a = c.args in
    let o = open_at a.t.now a.cap a.start a.order a.kind a.from a.to c.ranges.from c.ranges.to c.in_ok-scan_refusal.ensures refl in
    record { kids = o.words }

pub has_room-requires : goal.has_room-requires
has_room-requires c =
    let a = c.args in
    let f = c.ranges in
    let z = clear a.t.now a.cap a.start a.order a.kind a.from a.to f.from f.to c.in_ok-scan_refusal.ensures refl in
    let o = opened a.t.now a.cap a.start a.order a.kind a.from a.to z in
    let w = walk_is a.t.now a.cap a.start a.order a.kind a.from a.to a.d c.abs_diff-left.result c.unwrap-kind.result f.from f.to o c.of.ensures c.unwrap-kind.ensures (sfits_of {w = w32} c.raw.type_inv) c.raw.ensures c.abs_diff-left.ensures in
    (o.within, o.first, omega (arith, c.requires.1 z, ap length w))

pub returns-in_err-refuse_if : goal.returns-in_err-refuse_if
returns-in_err-refuse_if c =
    let a = c.args in
    let f = c.ranges in
    let z = clear a.t.now a.cap a.start a.order a.kind a.from a.to f.from f.to c.in_ok-scan_refusal.ensures refl in
    let o = opened a.t.now a.cap a.start a.order a.kind a.from a.to z in
    let w = walk_is a.t.now a.cap a.start a.order a.kind a.from a.to a.d c.abs_diff-left.result c.unwrap-kind.result f.from f.to o c.of.ensures c.unwrap-kind.ensures (sfits_of {w = w32} c.raw.type_inv) c.raw.ensures c.abs_diff-left.ensures in
    let room = c.has_room.ensures ∙ ap (λ (xs : List ℕ). leb (length xs) (length a.out.now)) w in
    let (short, same) = refuses _ TooShort c.in_err-refuse_if.ensures in
    let r : wrote_of c.from_residual-in_err-refuse_if.result a.out.now ≡ wrote_of (Err c.in_err-refuse_if.field-0.0) a.out.now = search rules in
    r ∙ ap (λ (x : Refusal). wrote_of (Err x) a.out.now) same ∙ short-scan a.t.now a.cap a.start a.order a.kind a.from a.to a.d a.out.now z (sym room ∙ not-true _ short)

pub write-requires : goal.write-requires
write-requires c =
    let a = c.args in
    let o = open_at a.t.now a.cap a.start a.order a.kind a.from a.to c.ranges.from c.ranges.to c.in_ok-scan_refusal.ensures refl in
    (o.within, o.first)

pub returns : goal.returns
returns c =
    let a = c.args in
    let f = c.ranges in
    let z = clear a.t.now a.cap a.start a.order a.kind a.from a.to f.from f.to c.in_ok-scan_refusal.ensures refl in
    let o = opened a.t.now a.cap a.start a.order a.kind a.from a.to z in
    let w = walk_is a.t.now a.cap a.start a.order a.kind a.from a.to a.d c.abs_diff-left.result c.unwrap-kind.result f.from f.to o c.of.ensures c.unwrap-kind.ensures (sfits_of {w = w32} c.raw.type_inv) c.raw.ensures c.abs_diff-left.ensures in
    let room = c.has_room.ensures ∙ ap (λ (xs : List ℕ). leb (length xs) (length a.out.now)) w in
    whole-scan a.t.now a.cap a.start a.order a.kind a.from a.to a.d a.out.now z (sym room ∙ not-false _ (passes _ TooShort c.in_ok-refuse_if.ensures)) _ _ (wrote_as w c.write.ensures)
