-- An accepted removal on the table: the kids lose their cells, the patches at their corners that no cell touches any more are taken out, and the
-- flags near them are worked out anew. What comes out is the picture of the state after the request.
-- Assumes nothing.
use Prim.Native.Nat.{ℕ, ◌≤◌}
use native.Mathlib.Omega.{arith}
use native.Mathlib.Decide.{dec_le}
use mathlib.Core.Path.{◌≡◌, sym, ap, ◌∙◌, subst}
use mathlib.Core.Logic.{◌≢◌}
use mathlib.Core.Bool.{Bool, false, cond}
use mathlib.Core.Option.{none, some}
use mathlib.Core.List.{List, map}
use lib.Dec.{T}
use lib.IntN.{ℤ}
use Rattle.edit_laws.specs.Rooted.{Rooted}
use Rattle.mesh.specs.Tools.{any}
use Rattle.mesh.specs.Place.{Place, Grid, same, base, kids, to_east, In}
use Rattle.mesh.specs.Mesh.{Mesh, patch, leaf}
use Rattle.mesh.specs.State.{State, Entry, place_of, stands, entry, cells, number, place_at, grid_of, capacity, with_entries, contents}
use Rattle.mesh.specs.Valid.{Valid}
use Rattle.mesh.specs.Picture.{table, amounts}
use Rattle.mesh.specs.Refusal.{refusal}
use Rattle.mesh.specs.Request.{remove, loose_checks, effect, wanted, fill, prune}
use Rattle.place_laws.proofs.Bools.{no-is}
use Rattle.place_laws.proofs.Kids.{in-parent, parent-depth, leaf-cell}
use Rattle.place_laws.proofs.Near.{c-east, corner-depth}
use Rattle.place_laws.proofs.Tree.{cell-patch}
use Rattle.place_laws.proofs.Wanted.{corner-wanted, kid-wanted}
use Rattle.table.specs.Words.{free_at}
use Rattle.carried.specs.Carried.{nothing}
use Rattle.number_laws.proofs.Entries.{stands-in}
use Rattle.number_laws.proofs.NumberedPlaces.{numbered-not-zero}
use Rattle.number_laws.proofs.Filling.{fill-place, fill-number, fill-stands}
use Rattle.number_laws.proofs.Pruning.{prune-kept}
use Rattle.number_laws.proofs.Keeping.{Kept}
use Rattle.number_laws.proofs.Naming.{Named}
use Rattle.number_laws.proofs.Taking.{remove-passed, remove-kept}
use Rattle.table_laws.proofs.LinkedRows.{touched-stands, corner-numbered}
use Rattle.edit_laws.specs.Linked.{Flags, table_with}
use Rattle.edit_laws.specs.Tables.{kid_spots, wanted_spots, emptied, drop_untouched, each_at, dropped_near, refresh_near, put_amounts, remove_table, remove_values}
use Rattle.edit_laws.proofs.Linked.{picture-linked}
use Rattle.edit_laws.proofs.Rooted.{valid-rooted}
use Rattle.edit_laws.proofs.Setting.{fill-rooted}
use Rattle.edit_laws.proofs.Named.{kids_in_turn, kids-turn, kids-named, wanted-named}
use Rattle.edit_laws.proofs.PassingRows.{among-all}
use Rattle.edit_laws.proofs.Celling.{with_all, all-alive, fill-same, cells-put, values_of}
use Rattle.edit_laws.proofs.Starting.{start_flags, start-alive, picture-start, free-numbers}
use Rattle.edit_laws.proofs.FreeNumbers.{free-at, fill-frees}
use Rattle.edit_laws.proofs.Emptied.{emptied-complete, emptied-sentenced, emptied-away}
use Rattle.edit_laws.proofs.Nearby.{Nearly, ready, refresh-near}
use Rattle.edit_laws.proofs.Thinning.{thinned-nothing, thinned-place, thinned-prune}
use Rattle.edit_laws.proofs.Losing.{patch-left, high-left, ghost-left, untouched-kidless}
use Rattle.edit_laws.proofs.Dropping.{Dropped, dropped-all}
use Rattle.edit_laws.proofs.Between.{Between, in_between}
use Rattle.edit_laws.proofs.Pruned.{prune-values}

module _ (s : State) (v : Valid s) (n : ℕ) (h : refusal (loose_checks s (remove n)) ≡ 0) where
  abbrev g : Grid
  g = grid_of s

  abbrev cap : ℕ
  cap = capacity s

  abbrev es : List Entry
  es = s.entries

  abbrev c : Place → Bool
  c = cells es

  abbrev p : Place
  p = place_at es n

  -- ---- the cell and its kids

  r : Rooted g cap es
  r = valid-rooted v

  its : Named s n
  its = (remove-passed s v n h).0

  leaves : (q : Place) → In q (kids p) → T (leaf g c q)
  leaves q i = (remove-passed s v n h).1 q (in-parent q p i)

  low : base g ≤ p.depth
  low = v.mesh.low p its.is-there

  there : place_of (entry es n) ≡ some p
  there = ap place_of its.is-entry

  -- ---- the entries between, and after

  abbrev between : List Entry
  between = fill (kids p) none es

  abbrev after : List Entry
  after = prune g between

  kept : Kept s (kids p) none (with_entries s after)
  unfolding effect
  kept = remove-kept s v n h

  mid : Between s (kids p)
  mid = in_between v (λ q i. leaf-cell g c q (leaves q i)) kept

  kids-there : (q : Place) → In q (kids_in_turn p) → number es q ≢ 0
  kids-there q i = numbered-not-zero es r.numbered q (mid.there q (subst T (kids-turn p q) i))

  -- ---- the flags before any row is refreshed

  abbrev f₀ : Flags
  f₀ = start_flags g es

  abbrev f₁ : Flags
  f₁ = with_all (kids_in_turn p) 0 f₀

  module _ (ds : List Entry) (mesh : Mesh g (cells ds)) (cells_is : (q : Place) → cells ds q ≡ cond (any (same q) (kids p)) false (c q))
      (contents-is : (q : Place) → contents ds q ≡ cond (any (same q) (kids p)) none (contents es q))
      (every : (q : Place) → T (patch g (cells ds) q) → T (any (stands q) ds)) (stood : (q : Place) → T (any (stands q) ds) → T (any (stands q) es)) where
    near : Nearly g ds p c f₁
    near = record {
      mesh = mesh;
      low = low;
      else = λ q o. sym (cells_is q ∙ rw (no-is (any (same q) (kids p)) (λ i. o (in-parent q p i))));
      stood = λ q d t. every q (touched-stands g (cells ds) mesh q t);
      complete = λ q t. emptied-complete g es ds r.numbered (kids p) (kids_in_turn p) (kids-turn p) cells_is contents-is q;
      sentenced = λ q t. emptied-sentenced g es ds r.numbered (kids p) (kids_in_turn p) (kids-turn p) cells_is contents-is q;
      away = λ q t o.
          emptied-away g es ds r.numbered (kids p) (kids_in_turn p) (kids-turn p) cells_is contents-is q (λ i. o (kid-wanted g p q i))
          (numbered-not-zero es r.numbered q (stood q t));
    }

  -- ---- the kids lose their cells

  r₁ : Rooted g cap between
  r₁ = fill-rooted (kids p) none r

  there₁ : place_of (entry between n) ≡ some p
  there₁ = fill-place (kids p) none es n ∙ there

  without-cells : emptied (table s) cap n ≡ table_with g between f₁
  without-cells =
      ap (λ (t : List ℤ). emptied t cap n) (picture-start s r.numbered)
      ∙ (cells-put r f₀ 0 none (kids_in_turn p) (kids-named r f₀ n p there) kids-there).0
      ∙ ap (λ (ds : List Entry). table_with g ds f₁) (fill-same (kids_in_turn p) (kids p) none es (kids-turn p))

  near₁ : Nearly g between p c f₁
  near₁ = near between mid.mesh mid.cells_are mid.contents-are mid.left-stands (λ q t. rw (fill-stands (kids p) none es q) at t)

  -- ---- the patches that no cell touches go

  dropped : Dropped g cap (cells between) f₁ p.depth between between (each_at (drop_untouched cap) cap (wanted_spots (table_with g between f₁) cap n) (table_with g between f₁)) (map some (wanted g p))
  dropped =
      dropped-all cap (omega (arith, low)) (ready near₁)
      (λ q d out m z e k. untouched-kidless g c (cells between) (kids p) mid.left v.mesh leaves q z (omega (arith, low)) out k (mid.was-patch m z e))
      (map some (wanted g p)) (record { rooted = r₁; thinned = thinned-nothing g (cells between) between })
      (wanted-named r₁ f₁ n p there₁ (λ z. corner-numbered s v its.is-there c-east (sym (fill-number (kids p) none es (to_east g p)) ∙ z)))

  -- every patch that is left is one of the mesh
  left-patch : (m : ℕ) (q : Place) → place_of (entry dropped.rest.left m) ≡ some q → T (patch g (cells between) q)
  left-patch m q e = go (dec_le (base g) q.depth)
    where
      was : T (patch g c q)
      was = mid.was-patch m q (thinned-place dropped.rest.less.thinned m q e)

      ground : (x : Place) → x.depth ≡ base g → T (patch g c x) → T (patch g (cells between) x)
      ground x d = patch-left g c (cells between) (kids p) mid.left x (omega arith) (λ y i k. omega (arith, low, corner-depth k, parent-depth y p (in-parent y p i)))

      go : Dec (base g ≤ q.depth) → T (patch g (cells between) q)
      go (yes l) =
          high-left g c (cells between) (kids p) mid.left (wanted g p) q l (λ x i k. corner-wanted g p low (in-parent x p i) k)
          (λ k. dropped.only-touched q (rw (among-all q (wanted g p)) k) (stands-in dropped.rest.left m q e)) was
      go (no l) = ghost-left g c (cells between) (kids p) mid.left ground q (omega (arith, l)) was

  left_is : dropped.rest.left ≡ after
  left_is = thinned-prune dropped.rest.less.thinned left-patch

  without-patches : dropped_near (table s) cap n ≡ table_with g after f₁
  without-patches =
      ap (λ (t : List ℤ). each_at (drop_untouched cap) cap (wanted_spots t cap n) t) without-cells
      ∙ dropped.rest.is-table
      ∙ ap (λ (ds : List Entry). table_with g ds f₁) left_is

  -- ---- and the flags are worked out anew

  r₂ : Rooted g cap after
  r₂ = subst (Rooted g cap) left_is dropped.rest.less.rooted

  near₂ : Nearly g after p c f₁
  near₂ = near after kept.valid.mesh kept.cells_is kept.contents-is kept.valid.every mid.stood

  p-cell : T (cells after p)
  p-cell = rw mid.cells_same (mid.left p its.is-there (λ i. omega (arith, parent-depth p p (in-parent p p i))))

  there₂ : place_of (entry after n) ≡ some p
  there₂ = ap place_of (prune-kept g between n p there₁ (rw (← mid.cells_same) (cell-patch g (cells after) kept.valid.mesh p p-cell))) ∙ there₁

  pub remove-table : remove_table (table s) (capacity s) (base (grid_of s)) n ≡ table (effect s (remove n))
  unfolding remove_table effect
  remove-table =
      ap (λ (u : List ℤ). refresh_near u cap (base g) n) without-patches
      ∙ refresh-near near₂ r₂ n there₂ (corner-numbered (with_entries s after) kept.valid p-cell c-east)
      ∙ sym (picture-linked (with_entries s after) r₂.numbered)

  -- ---- the free numbers: kids that lose their cells are not free, and flags free none

  pub emptied-free : free_at (emptied (table s) (capacity s) n) ≡ free_at (table s)
  emptied-free = ap free_at without-cells ∙ free-at g between f₁ (all-alive (kids_in_turn p) (start-alive g es)) ∙ fill-frees (kids p) none es ∙ sym (free-numbers s r.numbered)

  pub dropped-free : free_at (dropped_near (table s) (capacity s) n) ≡ free_at (table (effect s (remove n)))
  unfolding effect
  dropped-free = ap free_at without-patches ∙ free-at g after f₁ (all-alive (kids_in_turn p) (start-alive g es)) ∙ sym (free-numbers (with_entries s after) r₂.numbered)

  pub remove-values : remove_values (table s) (capacity s) n (amounts s) ≡ amounts (effect s (remove n))
  unfolding remove_values effect amounts
  remove-values =
      ap (λ (t : List ℤ). put_amounts 0 nothing cap (kid_spots t cap n) t (values_of es)) (picture-start s r.numbered)
      ∙ (cells-put r f₀ 0 none (kids_in_turn p) (kids-named r f₀ n p there) kids-there).1
      ∙ ap values_of (fill-same (kids_in_turn p) (kids p) none es (kids-turn p))
      ∙ sym (prune-values g between (cell-patch g (cells between) mid.mesh))
