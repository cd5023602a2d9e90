-- `scan::scan_refusal` meets its contract.
use Rattle.std.proofs.Common.{rules, ap, ◌∙◌, not}
use Rattle.std.proofs.lemmas.Bool.{not-false}
use Rattle.answer.specs.declared.Refusal.TheVariants.{NoPatch, BadScan}
use Rattle.answer.proofs.InOrder.{decided, stops, goes_on, ends, passed}
use Rattle.scan.proofs.ScanBranches.{unfit}
use native.Mathlib.Omega.{arith}
use mir.Syntax.{w32}
use mir.Facts.{to_z-of_z}
use borrow.Author.Rules.{rules, sfits_of}
use Rattle.table.proofs.Taken.{taken-within}
use mathlib.Core.Bool.{not}
use Rattle.scan.proofs.scan_refusal.Goals as goal

pub returns-in_err-refuse_if : goal.returns-in_err-refuse_if
returns-in_err-refuse_if c = decided _ (stops NoPatch (ap not c.is_taken.ensures) c.in_err-refuse_if.ensures (search rules))

pub raw-level-requires : goal.raw-level-requires
raw-level-requires c = omega (arith, taken-within _ _ _ (not-false _ (passed NoPatch (ap not c.is_taken.ensures) c.in_ok-refuse_if.ensures)))

pub returns : goal.returns
returns c =
    let a = c.args in
    let is = unfit a.t.now a.cap a.n a.order a.kind a.from a.to c.is_order-ordered.ensures (to_z-of_z {w = w32} (sfits_of c.raw-level.type_inv) ∙ c.raw-level.ensures) (to_z-of_z {w = w32} (search rules)) (to_z-of_z {w = w32} (search rules)) in
    decided _ (goes_on NoPatch (ap not c.is_taken.ensures) c.in_ok-refuse_if.ensures (ends BadScan is c.refuse_if-2.ensures))
