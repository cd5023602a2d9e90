-- The rows in use are the patches of the mesh: a row from level 0 up is touched and a ghost has a kid; and a cell's row has rows at its four
-- corners, and each row but the root one at its parent's place.
-- Assumes nothing.
use Prim.Native.Nat.{ℕ, zero, suc, ◌+◌, ◌≤◌, ◌<◌}
use native.Mathlib.Omega.{arith}
use native.Mathlib.Decide.{dec_lt}
use mathlib.Core.Path.{◌≡◌, sym, ap, ◌∙◌}
use mathlib.Core.Logic.{◌≢◌}
use mathlib.Core.Option.{some, some-injective}
use mathlib.Core.List.{List}
use lib.Dec.{T}
use lib.IntN.{ℤ}
use lib.Ieee.{Float}
use Rattle.mesh.specs.Place.{Place, Grid, base, parent, step, to_north, to_east, N, E}
use Rattle.mesh.specs.Mesh.{patch}
use Rattle.mesh.specs.State.{Entry, cells}
use Rattle.mesh.specs.Picture.{parent_word, north_word, east_word}
use Rattle.table.specs.Words.{link_of}
use Rattle.place_laws.proofs.Steps.{step-north, step-east}
use Rattle.place_laws.proofs.Kids.{parent-depth}
use Rattle.place_laws.proofs.Near.{Corner, c-here, c-east, c-north, c-both, touched-corner}
use Rattle.place_laws.proofs.Tree.{patch-touched, touched-patch, ghost-kid, kid-ghost}
use Rattle.checker_laws.proofs.Facts.{Used, said_place}
use Rattle.checker_laws.proofs.Climbing.{said-depth, not_root}
use Rattle.checker_laws.proofs.Patches.{CellRow}
use Rattle.checker_laws.proofs.Reading.{Reads}
use Rattle.checker_laws.proofs.Linking.{side-link}
use Rattle.checker_laws.proofs.Meshing.{Stands, linked, cell_row, cell-facts, row-touched, ghost-kid-row}

module _ {g : Grid} {cap : ℕ} {t : List ℤ} {v : List Float} {es : List Entry} (o : Reads g cap t v es) where
  -- ---- a row stands at a patch

  each-by : (e n : ℕ) → Used cap t n → base g ≤ (said_place g t n).depth + e → T (patch g (cells es) (said_place g t n))
  each-by zero n u l = touched-patch g (cells es) (said_place g t n) (omega arith) (row-touched o n u (omega (arith, said-depth g t n)))
  each-by (suc e) n u l = go (dec_lt (said_place g t n).depth (base g)) (each-by e)
    where
      go : Dec ((said_place g t n).depth < base g) → ((n : ℕ) → Used cap t n → base g ≤ (said_place g t n).depth + e → T (patch g (cells es) (said_place g t n))) → T (patch g (cells es) (said_place g t n))
      go (yes k) ih =
          let (i, ui, s) = ghost-kid-row o n u (omega (arith, said-depth g t n)) in
          kid-ghost g (cells es) (said_place g t n) (said_place g t i) k s (ih i ui (omega (arith, parent-depth (said_place g t i) (said_place g t n) s)))
      go (no k) ih = touched-patch g (cells es) (said_place g t n) (omega (arith, k)) (row-touched o n u (omega (arith, k, said-depth g t n)))

  pub row-patch : (n : ℕ) → Used cap t n → T (patch g (cells es) (said_place g t n))
  row-patch n u = each-by (base g) n u (omega arith)

  -- ---- a patch has a row

  north-row : (n : ℕ) → Used cap t n → link_of t cap n north_word ≢ 0 → Used cap t (link_of t cap n north_word) × (said_place g t (link_of t cap n north_word) ≡ to_north g (said_place g t n))
  north-row n u z =
      let e = side-link o N tt n u in
      let (k, s) = rw e at (linked o (step g N (said_place g t n)) (λ y. z (sym e ∙ y))) in
      (k, sym (some-injective _ _ (sym (step-north g (said_place g t n)) ∙ s)))

  east-row : (n : ℕ) → Used cap t n → link_of t cap n east_word ≢ 0 → Used cap t (link_of t cap n east_word) × (said_place g t (link_of t cap n east_word) ≡ to_east g (said_place g t n))
  east-row n u z =
      let e = side-link o E tt n u in
      let (k, s) = rw e at (linked o (step g E (said_place g t n)) (λ y. z (sym e ∙ y))) in
      (k, sym (some-injective _ _ (sym (step-east g (said_place g t n)) ∙ s)))

  corner-row : {r q : Place} → Corner g r q → (n : ℕ) → Used cap t n → said_place g t n ≡ r → CellRow g cap t n → Stands o q
  corner-row {r} c-here n u s f = (n, u, s)
  corner-row {r} c-east n u s f = let (k, e) = east-row n u f.east in (link_of t cap n east_word, k, e ∙ ap (to_east g) s)
  corner-row {r} c-north n u s f = let (k, e) = north-row n u f.north in (link_of t cap n north_word, k, e ∙ ap (to_north g) s)
  corner-row {r} c-both n u s f =
      let (k, e) = east-row n u f.east in
      let (i, d) = north-row (link_of t cap n east_word) k f.both in
      (link_of t cap (link_of t cap n east_word) north_word, i, d ∙ ap (to_north g) (e ∙ ap (to_east g) s))

  point-row : (p : Place) → base g ≤ p.depth → T (patch g (cells es) p) → Stands o p
  point-row p l h =
      let (r, c, i) = touched-corner g (cells es) p (patch-touched g (cells es) p l h) in
      let (n, u, s, f) = cell_row o r i in
      corner-row c n u s (cell-facts o n u f)

  up-row : (q p : Place) → parent q ≡ some p → Stands o q → Stands o p
  up-row q p e (n, u, s) =
      let d : 0 < (said_place g t n).depth = rw s (omega (arith, parent-depth q p e)) in
      let c = (o.tested.row n u).child (not_root o.tested n d) in
      (link_of t cap n parent_word, c.above, some-injective _ _ (sym c.halved ∙ ap parent s ∙ e))

  every-by : (e : ℕ) (p : Place) → base g ≤ p.depth + e → T (patch g (cells es) p) → Stands o p
  every-by zero p l h = point-row p (omega arith) h
  every-by (suc e) p l h = go (dec_lt p.depth (base g)) (every-by e)
    where
      go : Dec (p.depth < base g) → ((q : Place) → base g ≤ q.depth + e → T (patch g (cells es) q) → Stands o q) → Stands o p
      go (no k) ih = point-row p (omega (arith, k)) h
      go (yes k) ih =
          let (q, s, c) = ghost-kid g (cells es) p k h in
          up-row q p s (ih q (omega (arith, parent-depth q p s)) c)

  pub patch-row : (p : Place) → T (patch g (cells es) p) → Stands o p
  patch-row p h = every-by (base g) p (omega arith) h
