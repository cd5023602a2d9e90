-- How each accepted request moves the leaf counts: by what its effect makes of the contents.
-- Assumes nothing.
use Prim.Native.Nat.{ℕ, ◌+◌}
use native.Mathlib.Omega.{arith}
use mathlib.Core.Path.{◌≡◌, refl, sym, ap, ◌∙◌, subst}
use mathlib.Core.Bool.{false}
use mathlib.Core.Option.{Option, map}
use mathlib.Core.List.{List, [], ◌∷◌}
use lib.Dec.{T}
use Rattle.mesh.specs.Tools.{or_else}
use Rattle.mesh.specs.Place.{Place, kids}
use Rattle.mesh.specs.Mesh.{Mesh, leaf, has_kids}
use Rattle.mesh.specs.State.{State, Entry, Cell, Header, blank, status, value_of, cells, place_at, grid_of, contents}
use Rattle.mesh.specs.Carrying.{kid_cell, sentenced_cell, measured_cell}
use Rattle.mesh.specs.Deed.{held, put}
use Rattle.mesh.specs.Valid.{Valid}
use Rattle.mesh.specs.Refusal.{refusal}
use Rattle.mesh.specs.Request.{Request, refine, sentence, remove, kill, set_value, loose_checks, effect}
use Rattle.mesh.specs.LeafCounts.{leaf_count}
use Rattle.tally_laws.specs.Moves.{spot, its_depth, its_status, leaving, coming}
use Rattle.tally_laws.specs.LeavesOn.{status_at, leaves_on}
use Rattle.number_laws.proofs.NumberedPlaces.{valid-numbered}
use Rattle.number_laws.proofs.Checks.{passes}
use Rattle.number_laws.proofs.ByPlace.{cells-held, valid-rules}
use Rattle.number_laws.proofs.Keeping.{Kept}
use Rattle.number_laws.proofs.Naming.{Named, named, named-leaf}
use Rattle.number_laws.proofs.Marking.{sentence-kept, set_value-kept}
use Rattle.number_laws.proofs.Refining.{refine-frame, refine-contents, refine-valid}
use Rattle.number_laws.proofs.Taking.{remove-passed, remove-kept, kill-passed, kill-kept}
use Rattle.tally_laws.proofs.FullCounts.{counts-full}
use Rattle.tally_laws.proofs.Families.{Changed, leaf_changed, leaf-gone, kids-gone, kids-come}

-- ---- a state and what a request makes of it

-- as the full count moves, so does the leaf count
moved : {s t : State} (ps : List Place) (x : Option Cell) → Valid s → Valid t → t.header ≡ s.header → ((q : Place) → contents t.entries q ≡ put ps x (contents s.entries) q)
    → (l k a b : ℕ) → (Changed (grid_of s) (contents s.entries) ps x (contents t.entries) → leaves_on (grid_of s) (contents t.entries) l k + a ≡ leaves_on (grid_of s) (contents s.entries) l k + b) → leaf_count t l k + a ≡ leaf_count s l k + b
moved {s} {t} ps x v w frame each l k a b full =
    let now = subst (λ (h : Header). Mesh h.grid (held (contents t.entries))) frame (valid-rules t w).mesh in
    omega (
      arith,
      counts-full s v l k,
      counts-full t w l k,
      ap (λ (h : Header). leaves_on h.grid (contents t.entries) l k) frame,
      full (record { before = (valid-rules s v).mesh; after = now; each = each }),
    )

kept-moved : {s t : State} {ps : List Place} {x : Option Cell} → Valid s → Kept s ps x t
    → (l k a b : ℕ) → (Changed (grid_of s) (contents s.entries) ps x (contents t.entries) → leaves_on (grid_of s) (contents t.entries) l k + a ≡ leaves_on (grid_of s) (contents s.entries) l k + b) → leaf_count t l k + a ≡ leaf_count s l k + b
kept-moved {s} {t} {ps} {x} v kept = moved ps x v kept.valid kept.header_is kept.contents-is

-- ---- the cell that a request names

its-status : {s : State} {n : ℕ} → Named s n → its_status s n ≡ status_at (contents s.entries) (place_at s.entries n)
its-status d = ap (λ (e : Entry). status (value_of e)) d.is-entry ∙ sym (ap (λ (o : Option Cell). status (or_else blank (λ x. x.value) o)) d.is-contents)

-- a leaf of the state is one by the contents
held-leaf : {s : State} → Valid s → (q : Place) → T (leaf (grid_of s) (cells s.entries) q) → T (leaf (grid_of s) (held (contents s.entries)) q)
held-leaf {s} v q t = rw (cells-held s.entries (valid-numbered v)) at t

-- a leaf that carries something else
leaf-counts : {s t : State} {n : ℕ} (v : Valid s) (d : Named s n) → has_kids (grid_of s) (held (contents s.entries)) (place_at s.entries n) ≡ false → (f : Cell → Cell) → Kept s (place_at s.entries n ∷ []) (map f (contents s.entries (place_at s.entries n))) t
    → (l k : ℕ) → leaf_count t l k + spot (grid_of s) l k (its_depth s n) (its_status s n) ≡ leaf_count s l k + spot (grid_of s) l k (its_depth s n) (status (f d.its).value)
leaf-counts {s} {t} {n} v d kidless f kept l k =
    rw (its-status d) (kept-moved v kept l k _ _ (λ h. leaf_changed h (held-leaf v (place_at s.entries n) (named-leaf v d kidless)) l k (f d.its) (ap (map f) d.is-contents)))

-- ---- the five requests

pub effect-counts : (s : State) → Valid s → (r : Request) → refusal (loose_checks s r) ≡ 0 → (l k : ℕ) → leaf_count (effect s r) l k + leaving s r l k ≡ leaf_count s l k + coming s r l k
unfolding loose_checks leaving coming
effect-counts s v (refine n) ok l k =
    let (d, rest) = named s v n _ ok in
    let (kidless, _) = passes 8 _ _ (λ z. omega arith) rest in
    rw (its-status d, ap value_of d.is-entry)
    (moved (kids (place_at s.entries n)) _ v (refine-valid s v n ok) (refine-frame s v n ok).0 (refine-contents s v n ok) l k _ _
    (λ h. kids-come (place_at s.entries n) h l k d.its (ap (map kid_cell) d.is-contents) (held-leaf v (place_at s.entries n) (named-leaf v d kidless))))
effect-counts s v (sentence n) ok l k =
    let (d, rest) = named s v n _ ok in
    let (kidless, _) = passes 8 _ _ (λ z. omega arith) rest in
    let e = ap (λ (e : Entry). spot (grid_of s) l k (its_depth s n) (status (value_of e))) d.is-entry in
    omega (arith, leaf-counts v d kidless sentenced_cell (sentence-kept s v n ok) l k, e)
effect-counts s v (remove n) ok l k =
    let (d, leaves) = remove-passed s v n ok in
    rw (its-status d)
    (kept-moved v (remove-kept s v n ok) l k _ _ (λ h. kids-gone (place_at s.entries n) h l k refl (rw d.is-contents tt) (λ q e. held-leaf v q (leaves q e))))
effect-counts s v (kill n) ok l k =
    let (d, ground, leaf, _) = kill-passed s v n ok in
    rw (its-status d) (kept-moved v (kill-kept s v n ok) l k _ _ (λ h. leaf-gone h (held-leaf v (place_at s.entries n) leaf) l k refl ground))
effect-counts s v (set_value n x) ok l k =
    let (d, rest) = named s v n _ ok in
    let (kidless, _) = passes 8 _ _ (λ z. omega arith) rest in
    leaf-counts v d kidless (measured_cell x) (set_value-kept s v n x ok) l k
