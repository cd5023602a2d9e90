-- A page call that passes the first checks answers what the page by rows answers.
-- Assumes nothing.
use Prim.Native.Nat.{ℕ, ◌+◌, ◌≤◌}
use mathlib.Core.Path.{◌≡◌, sym, ap, ◌∙◌}
use mathlib.Core.List.{List, [], ◌∷◌}
use lib.ListN.{length}
use Rattle.mesh.specs.Place.{base}
use Rattle.mesh.specs.State.{State}
use Rattle.mesh.specs.Refusal.{refusal}
use Rattle.mesh.specs.Scan.{no18}
use Rattle.mesh.specs.Page.{page, page_checks}
use Rattle.mesh.specs.Picture.{Lent}
use Rattle.mesh.specs.Decode.{decode}
use Rattle.mesh.specs.Call.{lent_refusal, wrote, page_call}
use Rattle.leaves.specs.LeavesFrom.{leaves_from}
use Rattle.page.specs.PageRows.{row_page, row_out}
use Rattle.call_laws.proofs.Called.{checks-after, of-picture, by-picture}
use Rattle.call_laws.proofs.Rowed.{row-few, row-page}

-- the page call, by rows
pub page-call : (cap : ℕ) (l : Lent) (out : List ℕ) → lent_refusal cap l ≡ 0
    → page_call cap l out ≡ row_out l.header l.words l.values cap (base l.header.grid) out
unfolding page_call page_checks row_out
page-call cap l out h =
    ap (λ (r : ℕ). wrote r (page (decode l)) out) (checks-after cap l h (page_checks (decode l) (length out)))
    ∙ ap (λ (p : List ℕ). wrote (refusal (no18 (length out) p ∷ [])) p out)
    (by-picture cap l h page (λ x c. row_page x.header x.words x.values c (base x.header.grid)) (λ (s : State) x. sym (row-page s x)))

-- and it finds no more leaves than there are numbers
pub page-few : (cap : ℕ) (l : Lent) → lent_refusal cap l ≡ 0 → length (leaves_from l.words cap (base l.header.grid + 12) 1) ≤ cap + 1
page-few cap l h = of-picture cap l h (λ x c. length (leaves_from x.words c (base x.header.grid + 12) 1) ≤ c + 1) row-few
