-- Points in the picture of a valid state: the digits of a point lead from the root down the places that hold it, and the first leaf among them is
-- the one leaf that holds the point. Where no patch stands any more none does.
-- Assumes nothing.
use Prim.Native.Nat.{ℕ, zero, suc, ◌+◌, ◌-◌, ◌/◌, ◌%◌, ◌^◌, ◌≤◌, ◌<◌}
use native.Mathlib.Nat.{div-eq_of_lt}
use native.Mathlib.Omega.{arith}
use native.Mathlib.Decide.{ℕ_discrete, dec_lt}
use mathlib.Core.Path.{◌≡◌, refl, sym, ap, ◌∙◌, subst}
use mathlib.Core.Logic.{◌≢◌}
use mathlib.Core.Bool.{Bool, true, false, ◌&&◌, cond}
use mathlib.Core.Option.{some}
use mathlib.Core.List.{List}
use lib.Dec.{T, ltb, ltb→lt, lt→ltb}
use borrow.Author.Tests.{ne_eqb}
use Rattle.mesh.specs.Place.{Place, Grid, root, base}
use Rattle.mesh.specs.Mesh.{patch, leaf}
use Rattle.mesh.specs.State.{State, Entry, cells, number, grid_of, capacity}
use Rattle.mesh.specs.Valid.{Valid}
use Rattle.mesh.specs.Picture.{table}
use Rattle.mesh.specs.Holding.{holds, leaf_at}
use Rattle.table.specs.Words.{link_of}
use Rattle.worked.specs.Worked.{kid_word}
use Rattle.lookup.specs.LookupRows.{row_find, row_at}
use Rattle.lookup.proofs.LookupSteps.{find-nil, no-digits}
use Rattle.place_laws.proofs.Bools.{is-yes}
use Rattle.place_laws.proofs.Places.{place-path}
use Rattle.place_laws.proofs.Kids.{leaf-cell}
use Rattle.place_laws.proofs.Tree.{cell-patch, patch-parent}
use Rattle.place_laws.proofs.Base.{depth-zero-root}
use Rattle.place_laws.proofs.SideDigits.{kid_by, parent_by}
use Rattle.place_laws.proofs.UnitPoints.{place_at, place-at-depth, place-at-holds, holds-place-at, place-at-parent}
use Rattle.number_laws.proofs.NumberedPlaces.{valid-numbered, place-number, numbered-not-zero}
use Rattle.table_laws.proofs.LinkedRows.{kid-link}
use Rattle.walk_laws.proofs.Leaves.{leaf-at-place, leaf-number}
use Rattle.call_laws.proofs.WalkedRows.{leaf-row}

module _ (s : State) (v : Valid s) (x y : ℕ) where
  abbrev g : Grid
  g = grid_of s

  abbrev es : List Entry
  es = s.entries

  abbrev c : Place → Bool
  c = cells s.entries

  -- the place of depth e that holds the point
  abbrev at-depth : ℕ → Place
  at-depth e = place_at (grid_of s) e x y

  -- ---- the leaf that holds the point

  abbrev Leaf : Place → Type 0
  Leaf q = T (leaf g c q) × T (holds g q x y)

  none_found : ((q : Place) → Leaf q → ⊥) → leaf_at s x y ≡ 0
  none_found h = go (ℕ_discrete (leaf_at s x y) 0)
    where
      go : Dec (leaf_at s x y ≡ 0) → leaf_at s x y ≡ 0
      go (yes z) = z
      go (no z) = let (q, e, a, b) = leaf-at-place v x y z in absurd (h q (a, b))

  -- a patch stands at each place that holds the point, from the root to the leaf
  place-at-above : (n e d : ℕ) → d ≡ e + n → d ≤ base g + 12 → T (patch g c (at-depth d)) → T (patch g c (at-depth e))
  place-at-above zero e d f l t =
      let i : d ≡ e = omega arith in
      rw (← i) t
  place-at-above (suc n) e d f l t = patch-parent g c v.mesh (at-depth (suc e)) (at-depth e) (place-at-parent g x y e (omega arith)) (place-at-above n (suc e) d (omega arith) l t)

  leaf-above : (q : Place) → Leaf q → (e : ℕ) → e ≤ q.depth → T (patch g c (at-depth e))
  leaf-above q (a, b) e l =
      let k = leaf-cell g c q a in
      let t : T (patch g c (at-depth q.depth)) = subst (λ (p : Place). T (patch g c p)) (holds-place-at g x y q b) (cell-patch g c v.mesh q k) in
      place-at-above (q.depth - e) e q.depth (omega arith) (v.mesh.high q k) t

  -- ---- down the rows

  place-at-indices : (e l : ℕ) → base g + 12 - e ≡ l → ((at-depth e).i ≡ x / 2 ^ l) × ((at-depth e).j ≡ y / 2 ^ l)
  unfolding place_at
  place-at-indices e l k = (ap (λ (n : ℕ). x / 2 ^ n) k, ap (λ (n : ℕ). y / 2 ^ n) k)

  -- the kid that the digits lead to is the one that holds the point
  link-place-at : (e l : ℕ) → suc e + l ≡ base g + 12 → link_of (table s) (capacity s) (number es (at-depth e)) (kid_word (x / 2 ^ l % 2) (y / 2 ^ l % 2)) ≡ number es (at-depth (suc e))
  link-place-at e l h =
      let (i, j) = place-at-indices (suc e) l (omega arith) in
      let kid : at-depth (suc e) ≡ kid_by (x / 2 ^ l % 2) (y / 2 ^ l % 2) (at-depth e) = parent_by (at-depth (suc e)) (at-depth e) (place-at-parent g x y e (omega arith)) ∙ rw (i, j) in
      kid-link s v (x / 2 ^ l % 2) (y / 2 ^ l % 2) (omega arith) (omega arith) (some (at-depth e)) ∙ ap (number es) (sym kid)

  found_here : (e : ℕ) → leaf g c (at-depth e) ≡ true → number es (at-depth e) ≡ leaf_at s x y
  found_here e i = sym (leaf-number v x y (at-depth e) (is-yes (leaf g c (at-depth e)) i) (place-at-holds g x y e)).0

  found_below : (e : ℕ) → leaf g c (at-depth e) ≡ false → (q : Place) → Leaf q → e ≤ q.depth → suc e ≤ q.depth
  found_below e i q (a, b) l = go (dec_lt e q.depth)
    where
      go : Dec (e < q.depth) → suc e ≤ q.depth
      go (yes k) = k
      go (no k) =
          let d : q.depth ≡ e = omega (arith, k) in
          let t : T (leaf g c (at-depth e)) = subst (λ (p : Place). T (leaf g c p)) (holds-place-at g x y q b ∙ ap at-depth d) a in
          absurd (let f : T false = rw i at t in f)

  -- from a patch that holds the point, under which the leaf lies if there is one
  find-row : (l e : ℕ) → e + l ≡ base g + 12 → ((q : Place) → Leaf q → e ≤ q.depth) → number es (at-depth e) ≢ 0 → row_find (table s) (capacity s) x y l (number es (at-depth e)) ≡ leaf_at s x y
  unfolding row_find
  find-row zero e h low z = rw (leaf-row s v (at-depth e) z) (go (leaf g c (at-depth e)) refl)
    where
      go : (b : Bool) → leaf g c (at-depth e) ≡ b → cond b (number es (at-depth e)) 0 ≡ leaf_at s x y
      go true i = found_here e i
      go false i = sym (none_found (λ q f. omega (arith, found_below e i q f (low q f), v.mesh.high q (leaf-cell g c q f.0))))
  find-row (suc l) e h low z = rw (leaf-row s v (at-depth e) z, ne_eqb (number es (at-depth e)) 0 z, link-place-at e l (omega arith)) (go (leaf g c (at-depth e)) refl (find-row l (suc e) (omega arith)))
    where
      go : (b : Bool) → leaf g c (at-depth e) ≡ b
          → (((q : Place) → Leaf q → suc e ≤ q.depth) → number es (at-depth (suc e)) ≢ 0 → row_find (table s) (capacity s) x y l (number es (at-depth (suc e))) ≡ leaf_at s x y)
          → cond b (number es (at-depth e)) (row_find (table s) (capacity s) x y l (number es (at-depth (suc e)))) ≡ leaf_at s x y
      go true i ih = found_here e i
      go false i ih = on (ℕ_discrete (number es (at-depth (suc e))) 0)
        where
          on : Dec (number es (at-depth (suc e)) ≡ 0) → row_find (table s) (capacity s) x y l (number es (at-depth (suc e))) ≡ leaf_at s x y
          on (no k) = ih (λ q f. found_below e i q f (low q f)) k
          on (yes k) =
              rw (k, ← find-nil (table s) (capacity s) x y l)
              (sym (none_found (λ q f. numbered-not-zero es (valid-numbered v) (at-depth (suc e)) (v.every (at-depth (suc e)) (leaf-above q f (suc e) (found_below e i q f (low q f)))) k)))

  -- ---- from the root

  abbrev width : ℕ
  width = 2 ^ (base (grid_of s) + 12)

  -- a point lies in the root's place exactly if it lies in the root's square
  root-place-at : x < width → y < width → at-depth 0 ≡ root
  root-place-at a b =
      let (i, j) = place-at-indices 0 (base g + 12) (omega arith) in
      place-path (at-depth 0) root (place-at-depth g x y 0) (i ∙ div-eq_of_lt a) (j ∙ div-eq_of_lt b)

  place-at-root : at-depth 0 ≡ root → (x < width) × (y < width)
  place-at-root e =
      let (i, j) = place-at-indices 0 (base g + 12) (omega arith) in
      (below x (sym i ∙ ap (λ (p : Place). p.i) e), below y (sym j ∙ ap (λ (p : Place). p.j) e))
    where
      below : (u : ℕ) → u / width ≡ 0 → u < width
      below u z = ltb→lt u width (is-yes (ltb u width) (no-digits (base g + 12) u z))

  -- the leaf by rows is the leaf that holds the point
  pub row-at : row_at (table s) (capacity s) (base g) x y ≡ leaf_at s x y
  unfolding row_at
  row-at = go (ltb x width) (ltb y width) refl refl
    where
      outside : ((x < width) × (y < width) → ⊥) → 0 ≡ leaf_at s x y
      outside h = sym (none_found (λ q f. h (place-at-root (depth-zero-root g c v.mesh v.rectangle (at-depth 0) (place-at-depth g x y 0) (leaf-above q f 0 (omega arith))))))

      go : (a b : Bool) → ltb x width ≡ a → ltb y width ≡ b → cond (a && b) (row_find (table s) (capacity s) x y (base g + 12) 1) 0 ≡ leaf_at s x y
      go true true i j =
          let r = root-place-at (ltb→lt x width (is-yes (ltb x width) i)) (ltb→lt y width (is-yes (ltb y width) j)) in
          let n : number es (at-depth 0) ≡ 1 = ap (number es) r ∙ place-number es (valid-numbered v) 1 root v.first-root in
          ap (row_find (table s) (capacity s) x y (base g + 12)) (sym n)
          ∙ find-row (base g + 12) 0 (omega arith) (λ q f. omega arith) (λ z. let k : ◌≡◌ {A = ℕ} 1 0 = sym n ∙ z in omega arith)
      go true false i j = outside (λ (a, b). let t : T (ltb y width) = lt→ltb y width b in let t' : T false = rw j at t in t')
      go false b i j = outside (λ (a, b). let t : T (ltb x width) = lt→ltb x width a in let t' : T false = rw i at t in t')
