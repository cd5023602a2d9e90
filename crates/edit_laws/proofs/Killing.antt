-- An accepted kill on the table: the cell goes, its corners that no cell touches any more are taken out with the ghosts above them that have no kid
-- left, and the flags along its border are worked out anew, level by level. What comes out is the picture of the state after the request.
-- Assumes nothing.
use Prim.Native.Nat.{ℕ, zero, suc, ◌+◌, ◌-◌, ◌≤◌}
use native.Mathlib.Omega.{arith}
use native.Mathlib.Decide.{dec_le, ℕ_discrete}
use mathlib.Core.Path.{◌≡◌, refl, sym, ap, ◌∙◌, subst, fun_ext}
use mathlib.Core.Bool.{Bool, true, false, ◌||◌, cond}
use mathlib.Core.Option.{Option, none, some}
use mathlib.Core.List.{List, [], ◌∷◌, map}
use lib.Dec.{T}
use lib.IntN.{ℤ}
use borrow.Author.Tests.{eq-eqb, ne_eqb}
use Rattle.edit_laws.specs.Rooted.{Rooted}
use Rattle.mesh.specs.Tools.{any, digits}
use Rattle.mesh.specs.Place.{Place, Grid, N, E, S, W, same, base, to_north, to_east, In, step}
use Rattle.mesh.specs.Mesh.{patch, leaf, flags}
use Rattle.mesh.specs.State.{State, Entry, place_of, stands, entry, cells, number, number_of, place_at, grid_of, capacity, with_entries}
use Rattle.mesh.specs.Valid.{Valid}
use Rattle.mesh.specs.Picture.{table, amounts}
use Rattle.mesh.specs.Refusal.{refusal}
use Rattle.mesh.specs.Request.{kill, loose_checks, effect, fill, prune}
use Rattle.table.specs.Words.{code, word_of, link_of, free_at}
use Rattle.place_laws.proofs.Bools.{no-is}
use Rattle.place_laws.proofs.Places.{in_one}
use Rattle.place_laws.proofs.Steps.{step-north, step-east}
use Rattle.place_laws.proofs.SideDigits.{step-depth}
use Rattle.place_laws.proofs.Near.{Corner, c-here, c-east, c-north, c-both, corner-depth}
use Rattle.place_laws.proofs.Tree.{touched-patch, cell-patch, ghost-kid, kid-ghost}
use Rattle.place_laws.proofs.Base.{root-patch, lap-size}
use Rattle.place_laws.proofs.Kids.{parent-depth}
use Rattle.place_laws.proofs.Frames.{ghost-same}
use Rattle.number_laws.proofs.Entries.{stands-in, in-stands}
use Rattle.number_laws.proofs.NumberedPlaces.{number-place, place-number, numbered-not-zero}
use Rattle.number_laws.proofs.Filling.{fill-number}
use Rattle.number_laws.proofs.Keeping.{Kept}
use Rattle.number_laws.proofs.Naming.{Named, named_in}
use Rattle.number_laws.proofs.Taking.{kill-passed, kill-kept}
use Rattle.table_laws.proofs.LinkedRows.{touched-stands, corner-numbered}
use Rattle.edit_laws.specs.Linked.{Flags, table_with, flags_of}
use Rattle.edit_laws.specs.Tables.{cleared, dropped_corners, still_used, refresh_levels, kill_table, kill_values}
use Rattle.edit_laws.proofs.Linked.{picture-linked, flags-of, word-free}
use Rattle.edit_laws.proofs.Rooted.{valid-rooted}
use Rattle.edit_laws.proofs.Setting.{flags-same, fill-rooted}
use Rattle.edit_laws.proofs.FlagsAnew.{Ready, link-side}
use Rattle.edit_laws.proofs.Celling.{with_all, all-alive, put-cell, put-amount}
use Rattle.edit_laws.proofs.Starting.{mark_of, start_flags, start-alive, picture-start, free-numbers}
use Rattle.edit_laws.proofs.FreeNumbers.{Alive, free-at, fill-frees}
use Rattle.edit_laws.proofs.Thinning.{thinned-nothing, thinned-place, thinned-prune}
use Rattle.edit_laws.proofs.Losing.{patch-left, high-left, untouched-kidless}
use Rattle.edit_laws.proofs.Between.{Between, in_between}
use Rattle.edit_laws.proofs.Pruned.{prune-values}
use Rattle.edit_laws.proofs.Emptied.{emptied-complete, emptied-sentenced, emptied-away}
use Rattle.edit_laws.proofs.Corners.{corners, corner-in, in-corner, corners-distinct, south-off, west-off}
use Rattle.edit_laws.proofs.Withering.{Budding, Withered, drop_corners, cornered-all}
use Rattle.edit_laws.proofs.Bordering.{border_of, Gone, Upto, levels-done}

module _ (s : State) (v : Valid s) (n : ℕ) (h : refusal (loose_checks s (kill n)) ≡ 0) where
  abbrev g : Grid
  g = grid_of s

  abbrev cap : ℕ
  cap = capacity s

  abbrev es : List Entry
  es = s.entries

  abbrev c : Place → Bool
  c = cells es

  abbrev p : Place
  p = place_at es n

  -- ---- the cell

  r : Rooted g cap es
  r = valid-rooted v

  its : Named s n
  its = (kill-passed s v n h).0

  ground : p.depth ≡ base g
  ground = (kill-passed s v n h).1

  leaves : (q : Place) → In q (p ∷ []) → T (leaf g c q)
  leaves q i = subst (λ (x : Place). T (leaf g c x)) (sym (in_one q p i)) (kill-passed s v n h).2

  there : place_of (entry es n) ≡ some p
  there = ap place_of its.is-entry

  own-number : n ≡ number es p
  own-number = sym (place-number es r.numbered n p there)

  -- ---- the entries between, and after

  abbrev between : List Entry
  between = fill (p ∷ []) none es

  abbrev after : List Entry
  after = prune g between

  kept : Kept s (p ∷ []) none (with_entries s after)
  unfolding effect
  kept = kill-kept s v n h

  mid : Between s (p ∷ [])
  mid = in_between v (named_in its) kept

  -- ---- the cell goes

  abbrev f₀ : Flags
  f₀ = start_flags g es

  abbrev f₁ : Flags
  f₁ = with_all (p ∷ []) 0 f₀

  without-cell : cleared (table_with g es f₀) n ≡ table_with g between f₁
  without-cell =
      put-cell g es r.numbered n p there none f₀ 0
      ∙ ap (table_with g between) (fun_ext (λ q. alone (same q p) (f₀ q)))
    where
      alone : (b : Bool) (x : ℕ) → cond b 0 x ≡ cond (b || false) 0 x
      alone true x = refl
      alone false x = refl

  -- ---- the corners go, with the ghosts above them

  ready : Ready g between f₁ (cells between) (base g)
  ready = record {
    mesh = mid.mesh;
    stood = λ q d t. mid.left-stands q (touched-patch g (cells between) q (omega arith) t);
    complete = λ q d t. emptied-complete g es between r.numbered (p ∷ []) (p ∷ []) (λ x. refl) mid.cells_are mid.contents-are q;
    boundaries_h = λ q d l t. absurd (omega arith);
    boundaries_v = λ q d l t. absurd (omega arith);
  }

  budding : Budding g between
  budding q l t =
      let (m, b, e) = in-stands between q t in
      let (z, k, u) = ghost-kid g c q l (mid.was-patch m q e) in
      (z, k, mid.patch-stands z u)

  dropped : Withered g cap (cells between) f₁ between between (drop_corners (map (number es) (corners g p)) (table_with g between f₁) cap (base g)) (corners g p)
  dropped =
      cornered-all cap f₁ mid.left-stands (root-patch g (cells between) mid.mesh v.rectangle) ready
      (λ q d out m z e k. untouched-kidless g c (cells between) (p ∷ []) mid.left v.mesh leaves q z (omega arith) out k (mid.was-patch m z e))
      (corners g p) (corners-distinct g p (lap-size g v.rectangle p.depth)) (number es) (record { rooted = fill-rooted (p ∷ []) none r; thinned = thinned-nothing g (cells between) between }) budding
      (λ q i.
      let k = in-corner g p q i in
      let e = fill-number (p ∷ []) none es q in
      (corner-depth k ∙ ground, sym e, λ z. corner-numbered s v its.is-there k (sym e ∙ z)))

  -- every patch that is left is one of the mesh
  high-patch : (m : ℕ) (q : Place) → place_of (entry dropped.rest.left m) ≡ some q → base g ≤ q.depth → T (patch g (cells between) q)
  high-patch m q e l =
      high-left g c (cells between) (p ∷ []) mid.left (corners g p) q l (λ x i k. corner-in g p (subst (λ (y : Place). Corner g y q) (in_one x p i) k))
      (λ i. dropped.only-touched q i (stands-in dropped.rest.left m q e)) (mid.was-patch m q (thinned-place dropped.rest.less.thinned m q e))

  -- a ghost has a kid, down to level 0
  ghost-patch : (k m : ℕ) (q : Place) → q.depth + k ≡ base g → place_of (entry dropped.rest.left m) ≡ some q → T (patch g (cells between) q)
  ghost-patch zero m q d e = high-patch m q e (omega arith)
  ghost-patch (suc k) m q d e =
      let (z, i, t) = dropped.budding q (omega arith) (stands-in dropped.rest.left m q e) in
      let (j, b, u) = in-stands dropped.rest.left z t in
      kid-ghost g (cells between) q z (omega arith) i (ghost-patch k j z (omega (arith, parent-depth z q i)) u)

  left-patch : (m : ℕ) (q : Place) → place_of (entry dropped.rest.left m) ≡ some q → T (patch g (cells between) q)
  left-patch m q e = go (dec_le (base g) q.depth)
    where
      go : Dec (base g ≤ q.depth) → T (patch g (cells between) q)
      go (yes l) = high-patch m q e l
      go (no l) = ghost-patch (base g - q.depth) m q (omega (arith, l)) e

  left_is : dropped.rest.left ≡ after
  left_is = thinned-prune dropped.rest.less.thinned left-patch

  without-corners : drop_corners (map (number es) (corners g p)) (table_with g between f₁) cap (base g) ≡ table_with g after f₁
  without-corners = dropped.rest.is-table ∙ ap (λ (ds : List Entry). table_with g ds f₁) left_is

  -- ---- the flags along the border are worked out anew

  r₂ : Rooted g cap after
  r₂ = subst (Rooted g cap) left_is dropped.rest.less.rooted

  gone : Gone g cap after c p
  gone = record {
    rooted = r₂;
    mesh = kept.valid.mesh;
    stood = λ q t. kept.valid.every q (touched-stands g (cells after) kept.valid.mesh q t);
    ground = ground;
    else = λ q o. sym (kept.cells_is q ∙ rw (no-is (any (same q) (p ∷ [])) (λ i. o (in_one q p i))));
  }

  -- elsewhere the flags did not change
  away : (q : Place) → T (any (stands q) after) → (q ≡ p → ⊥) → f₁ q ≡ digits (flags g c q (mark_of after q))
  away q t o = emptied-away g es after r.numbered (p ∷ []) (p ∷ []) (λ x. refl) kept.cells_is kept.contents-is q (λ i. o (in_one q p i)) (numbered-not-zero es r.numbered q (mid.stood q t))

  -- and a ghost's are right
  upto : Upto g after c p 0 f₁
  unfolding flags
  upto = record {
    complete = λ q t. emptied-complete g es after r.numbered (p ∷ []) (p ∷ []) (λ x. refl) kept.cells_is kept.contents-is q;
    sentenced = λ q t. emptied-sentenced g es after r.numbered (p ∷ []) (p ∷ []) (λ x. refl) kept.cells_is kept.contents-is q;
    right = λ q l t. away q t (λ e. omega (arith, ground, ap (λ (x : Place). x.depth) e)) ∙ rw (ghost-same g c (cells after) v.mesh kept.valid.mesh q (omega arith));
    before = λ q l. away q;
  }

  done : (h : Flags) × (refresh_levels 13 (border_of g after p) 0 (table_with g after f₁) cap (base g) ≡ table_with g after h) × Upto g after c p 13 h
  done = levels-done gone 13 0 f₁ upto

  right : (m : ℕ) (q : Place) → place_of (entry after m) ≡ some q → done.0 q ≡ flags_of g after q
  unfolding flags_of
  right m q e = done.2.right q (omega (arith, r₂.deepest m q e)) (stands-in after m q e)

  -- ---- the rows of the border

  -- a place of level 0 that is no corner of the cell keeps its number
  unmoved : (q : Place) → q.depth ≡ base g → (Corner g p q → ⊥) → number es q ≡ number after q
  unmoved q d o = go (patch g (cells after) q) refl
    where
      gone : (T (patch g (cells after) q) → ⊥) → Dec (number es q ≡ 0) → number es q ≡ 0
      gone k (yes z) = z
      gone k (no z) =
          absurd (k (rw mid.cells_same (patch-left g c (cells between) (p ∷ []) mid.left q (omega arith) (λ x i j. o (subst (λ (y : Place). Corner g y q) (in_one x p i) j))
          (v.each (number es q) q (number-place es q z)))))

      go : (b : Bool) → patch g (cells after) q ≡ b → number es q ≡ number after q
      go true e = sym (kept.number_is q ∙ rw e)
      go false e = gone (λ t. let w : T false = rw e at t in w) (ℕ_discrete (number es q) 0) ∙ sym (kept.number_is q ∙ rw e)

  beside : (o : Option Place) → ((q : Place) → o ≡ some q → (q.depth ≡ base g) × (Corner g p q → ⊥)) → number_of es o ≡ number_of after o
  beside none k = refl
  beside (some q) k = let (d, o) = k q refl in unmoved q d o

  alive : Alive f₁
  alive = all-alive (p ∷ []) (start-alive g es)

  -- a corner's row is free, or still the corner's
  still : (q : Place) → Corner g p q → still_used (table_with g after f₁) (number es q) ≡ number after q
  unfolding word_of
  still q k = go (patch g (cells after) q) refl
    where
      go : (b : Bool) → patch g (cells after) q ≡ b → still_used (table_with g after f₁) (number es q) ≡ number after q
      go true e =
          let i : number after q ≡ number es q = kept.number_is q ∙ rw e in
          let j : place_of (entry after (number es q)) ≡ some q = ap (λ (m : ℕ). place_of (entry after m)) (sym i) ∙ number-place after q (λ z. corner-numbered s v its.is-there k (sym i ∙ z)) in
          rw (ne_eqb (word_of (table_with g after f₁) (number es q) 12) 8192 (λ z. alive q (sym (flags-of g after f₁ (number es q) q j) ∙ z))) (sym i)
      go false e =
          let i = kept.freed (number es q) q (number-place es q (corner-numbered s v its.is-there k)) (λ t. let w : T false = rw e at t in w) in
          rw (eq-eqb (word_of (table_with g after f₁) (number es q) 12) 8192 (ap code (word-free g after f₁ (number es q) 12 (omega arith) i))) (sym (kept.number_is q ∙ rw e))

  -- ---- the rows around, before

  abbrev t₀ : List ℤ
  t₀ = table_with g es f₀

  north-row : link_of t₀ cap n 5 ≡ number es (to_north g p)
  north-row = link-side r f₀ n p there N tt ∙ ap (number_of es) (step-north g p)

  east-row : link_of t₀ cap n 6 ≡ number es (to_east g p)
  east-row = link-side r f₀ n p there E tt ∙ ap (number_of es) (step-east g p)

  both-row : link_of t₀ cap (link_of t₀ cap n 6) 5 ≡ number es (to_north g (to_east g p))
  both-row =
      ap (λ (k : ℕ). link_of t₀ cap k 5) east-row
      ∙ link-side r f₀ (number es (to_east g p)) (to_east g p) (number-place es (to_east g p) (corner-numbered s v its.is-there c-east)) N tt
      ∙ ap (number_of es) (step-north g (to_east g p))

  corners-read : dropped_corners t₀ cap (base g) n ≡ drop_corners (map (number es) (corners g p)) (table_with g between f₁) cap (base g)
  corners-read = λ i. drop_corners (both-row i ∷ north-row i ∷ east-row i ∷ own-number i ∷ []) (without-cell i) cap (base g)

  -- ---- the free numbers: a cell that goes is not free, and flags free none

  pub cleared-free : free_at (cleared (table s) n) ≡ free_at (table s)
  cleared-free =
      ap (λ (t : List ℤ). free_at (cleared t n)) (picture-start s r.numbered)
      ∙ ap free_at without-cell
      ∙ free-at g between f₁ alive
      ∙ fill-frees (p ∷ []) none es
      ∙ sym (free-numbers s r.numbered)

  pub dropped-free : free_at (dropped_corners (table s) (capacity s) (base (grid_of s)) n) ≡ free_at (table (effect s (kill n)))
  unfolding effect
  dropped-free =
      ap (λ (t : List ℤ). free_at (dropped_corners t cap (base g) n)) (picture-start s r.numbered)
      ∙ ap free_at (corners-read ∙ without-corners)
      ∙ free-at g after f₁ alive
      ∙ sym (free-numbers (with_entries s after) r₂.numbered)

  -- ---- the steps together

  -- what is done to a table whose cell has gone, by the rows around
  abbrev finish : ℕ → ℕ → ℕ → ℕ → ℕ → ℕ → List ℤ → List ℤ
  finish own north east both south west t =
      let u = drop_corners (both ∷ north ∷ east ∷ own ∷ []) t cap (base g) in
      refresh_levels 13 (record { own = still_used u own; north = still_used u north; east = still_used u east; both = still_used u both; south = south; west = west }) 0 u cap (base g)

  rows-read : kill_table t₀ cap (base g) n
      ≡ finish (number es p) (number es (to_north g p)) (number es (to_east g p)) (number es (to_north g (to_east g p))) (number_of es (step g S p)) (number_of es (step g W p)) (table_with g between f₁)
  unfolding kill_table
  rows-read =
      let south : link_of t₀ cap n 7 ≡ number_of es (step g S p) = link-side r f₀ n p there S tt in
      let west : link_of t₀ cap n 8 ≡ number_of es (step g W p) = link-side r f₀ n p there W tt in
      λ i. finish (own-number i) (north-row i) (east-row i) (both-row i) (south i) (west i) (without-cell i)

  border-is : finish (number es p) (number es (to_north g p)) (number es (to_east g p)) (number es (to_north g (to_east g p))) (number_of es (step g S p)) (number_of es (step g W p)) (table_with g between f₁)
      ≡ refresh_levels 13 (border_of g after p) 0 (table_with g after f₁) cap (base g)
  border-is =
      let row : (q : Place) → Corner g p q → still_used (drop_corners (map (number es) (corners g p)) (table_with g between f₁) cap (base g)) (number es q) ≡ number after q =
      λ q k. ap (λ (u : List ℤ). still_used u (number es q)) without-corners ∙ still q k in
      let south : number_of es (step g S p) ≡ number_of after (step g S p) = beside (step g S p) (λ q e. (step-depth g S tt p q e ∙ ground, south-off g p (lap-size g v.rectangle p.depth) q e)) in
      let west : number_of es (step g W p) ≡ number_of after (step g W p) = beside (step g W p) (λ q e. (step-depth g W tt p q e ∙ ground, west-off g p q e)) in
      λ i. refresh_levels 13 (record { own = row p c-here i; north = row (to_north g p) c-north i; east = row (to_east g p) c-east i; both = row (to_north g (to_east g p)) c-both i; south = south i; west = west i }) 0 (without-corners i) cap (base g)

  pub kill-table : kill_table (table s) (capacity s) (base (grid_of s)) n ≡ table (effect s (kill n))
  unfolding effect
  kill-table =
      ap (λ (t : List ℤ). kill_table t cap (base g) n) (picture-start s r.numbered)
      ∙ rows-read
      ∙ border-is
      ∙ done.1
      ∙ flags-same g after done.0 (flags_of g after) right
      ∙ sym (picture-linked (with_entries s after) r₂.numbered)

  pub kill-values : kill_values n (amounts s) ≡ amounts (effect s (kill n))
  unfolding kill_values effect amounts
  kill-values =
      put-amount g es r.numbered n p there none
      ∙ sym (prune-values g between (cell-patch g (cells between) mid.mesh))
