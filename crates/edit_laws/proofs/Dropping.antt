-- Patches that no cell touches any more are taken out, one after the other: what is left of the entries is thinner by them.
-- Assumes nothing.
use Prim.Native.Nat.{ℕ, suc, ◌≤◌}
use native.Mathlib.Omega.{arith}
use native.Mathlib.Decide.{ℕ_discrete}
use mathlib.Core.Path.{◌≡◌, refl, sym, ap, ◌∙◌, subst}
use mathlib.Core.Logic.{◌≢◌, ◌⊎◌, inl, inr}
use mathlib.Core.Bool.{Bool, true, false, ◌||◌, cond}
use mathlib.Core.Option.{Option, none, some, none-ne-some}
use mathlib.Core.List.{List, [], ◌∷◌}
use lib.Dec.{T, eqb}
use lib.IntN.{ℤ}
use lib.ListN.{set}
use borrow.Author.Tests.{eq-eqb, ne_eqb}
use Rattle.edit_laws.specs.Rooted.{Rooted}
use Rattle.mesh.specs.Tools.{any, or_else}
use Rattle.mesh.specs.Place.{Place, Grid, root, same, base, parent}
use Rattle.mesh.specs.Mesh.{touched, patch}
use Rattle.mesh.specs.State.{Entry, free, place_of, stands, entry, number, number_of}
use Rattle.place_laws.proofs.Bools.{is-yes, or_left, or_cases}
use Rattle.place_laws.proofs.Places.{in_one}
use Rattle.place_laws.proofs.Tree.{patch-touched, touched-patch}
use Rattle.number_laws.proofs.Entries.{stands-in, in-stands}
use Rattle.number_laws.proofs.NumberedPlaces.{number-place, numbered-not-zero}
use Rattle.edit_laws.specs.Linked.{Flags, table_with}
use Rattle.edit_laws.specs.PatchSteps.{take_out}
use Rattle.worked.specs.Worked.{touched_in}
use Rattle.edit_laws.specs.Tables.{Spot, drop_untouched, over_spots, each_at}
use Rattle.edit_laws.proofs.Changing.{swap-number, swap-same, swap-other}
use Rattle.edit_laws.proofs.Removing.{removing, take_out_lem, take-out-number, take-out-rooted}
use Rattle.edit_laws.proofs.FlagsAnew.{Ready}
use Rattle.edit_laws.proofs.Named.{AllNamed, no_more, one_more, Names, named-same, named-depth, kid_at_lem}
use Rattle.edit_laws.proofs.PassingRows.{among}
use Rattle.edit_laws.proofs.Touching.{touched-row}
use Rattle.edit_laws.proofs.Thinning.{Thinned, thinned-place, thinned-stood, thinned-stands, thinned-free}

-- ---- entries that are thinner

-- of the entries es and the cells c, what is left: a tree, thinner than es
pub record Less (g : Grid) (cap : ℕ) (c : Place → Bool) (es ds : List Entry) : Type 0 where
  pub rooted : Rooted g cap ds
  pub thinned : Thinned g c es ds

-- the table t is what is left of the entries ds, thinner than es
pub record Left (g : Grid) (cap : ℕ) (c : Place → Bool) (f : Flags) (es ds : List Entry) (t : List ℤ) : Type 0 where
  pub left : List Entry
  pub is-table : t ≡ table_with g left f
  pub less : Less g cap c es left
  pub fewer : (q : Place) → T (any (stands q) left) → T (any (stands q) ds)

module _ {g : Grid} {cap : ℕ} {c : Place → Bool} {f : Flags} {es ds : List Entry} {t : List ℤ} where
  -- all of them
  abbrev pub left-whole : Less g cap c es ds → t ≡ table_with g ds f → Left g cap c f es ds t
  left-whole h i = record { left = ds; is-table = i; less = h; fewer = λ q u. u }

  -- what is left of some that are fewer
  abbrev pub left-then : {ms : List Entry} {u : List ℤ} → ((q : Place) → T (any (stands q) ms) → T (any (stands q) ds)) → t ≡ u → Left g cap c f es ms u → Left g cap c f es ds t
  left-then k i a = record { left = a.left; is-table = i ∙ a.is-table; less = a.less; fewer = λ q u. k q (a.fewer q u) }

module _ {g : Grid} {cap : ℕ} {c : Place → Bool} {es ds : List Entry} (h : Less g cap c es ds) where
  -- the flags' needs stay right, as the touched places from level 0 up are patches
  pub less-ready : {f : Flags} {e : ℕ} → base g ≤ e → Ready g es f c e → Ready g ds f c e
  less-ready {f} {e} l ready = record {
    mesh = ready.mesh;
    stood = λ q d t. thinned-stands h.thinned q (touched-patch g c q (omega arith) t) (ready.stood q d t);
    complete = λ q d t. ready.complete q d (thinned-stood h.thinned q t);
    boundaries_h = λ q d b t. ready.boundaries_h q d b (thinned-stood h.thinned q t);
    boundaries_v = λ q d b t. ready.boundaries_v q d b (thinned-stood h.thinned q t);
  }

  -- a patch without kids is taken out
  module _ (f : Flags) (q : Place) (there : number ds q ≢ 0) (gone : T (patch g c q) → ⊥) (not_root : q ≢ root)
      (kidless : (n : ℕ) (p : Place) → place_of (entry ds n) ≡ some p → parent p ≡ some q → ⊥) where
    abbrev k : ℕ
    k = number ds q

    pub out-table : take_out (table_with g ds f) cap (number ds q) ≡ table_with g (set ds (number ds q) free) f
    out-table = take_out_lem h.rooted f k q (number-place ds q there) not_root kidless

    pub out-less : Less g cap c es (set ds (number ds q) free)
    out-less = record {
      rooted = take-out-rooted h.rooted f k q (number-place ds q there) not_root kidless;
      thinned = thinned-free h.thinned k q (number-place ds q there) gone;
    }

    pub out-number : (p : Place) → p ≢ q → number (set ds (number ds q) free) p ≡ number ds p
    out-number = swap-number (removing h.rooted f k q (number-place ds q there) not_root kidless)

    pub out-fewer : (p : Place) → T (any (stands p) (set ds (number ds q) free)) → T (any (stands p) ds)
    out-fewer p t =
        let (n, l, i) = in-stands (set ds k free) p t in
        stands-in ds n p (kept n i (ℕ_discrete n k))
      where
        kept : (n : ℕ) → place_of (entry (set ds (number ds q) free) n) ≡ some p → Dec (n ≡ number ds q) → place_of (entry ds n) ≡ some p
        kept n i (yes z) = absurd (none-ne-some _ (ap place_of (sym (swap-same (removing h.rooted f k q (number-place ds q there) not_root kidless)) ∙ ap (entry (set ds k free)) (sym z)) ∙ i))
        kept n i (no z) = ap place_of (sym (swap-other (removing h.rooted f k q (number-place ds q there) not_root kidless) n z)) ∙ i

    pub out_stays : (p : Place) → p ≢ q → T (any (stands p) ds) → T (any (stands p) (set ds (number ds q) free))
    out_stays p z t = stands-in (set ds k free) (number (set ds k free) p) p (number-place (set ds k free) p (λ y. numbered-not-zero ds h.rooted.numbered p t (sym (out-number p z) ∙ y)))

    pub out-gone : T (any (stands q) (set ds (number ds q) free)) → ⊥
    out-gone t = numbered-not-zero (set ds k free) out-less.rooted.numbered q t (take-out-number h.rooted f k q (number-place ds q there) not_root kidless)

-- ---- the places of some spots, where no cell touches them

-- of the places qs only touched ones are left; no number changes at the depth e
pub record Dropped (g : Grid) (cap : ℕ) (c : Place → Bool) (f : Flags) (e : ℕ) (es ds : List Entry) (t : List ℤ) (qs : List (Option Place)) : Type 0 where
  pub rest : Left g cap c f es ds t
  pub above : (o : Place) → o.depth ≡ e → number ds o ≡ number rest.left o
  pub only-touched : (q : Place) → T (among q qs) → T (any (stands q) rest.left) → T (touched g c q)

module _ {g : Grid} (cap : ℕ) {es : List Entry} {f : Flags} {c : Place → Bool} {e : ℕ} (low : base g ≤ suc e) (ready : Ready g es f c (suc e))
    (kidless : (q : Place) → q.depth ≡ suc e → (T (touched g c q) → ⊥) → (n : ℕ) (z : Place) → place_of (entry es n) ≡ some z → parent z ≡ some q → ⊥) where
  module _ {ds : List Entry} (h : Less g cap c es ds) where
    unchanged : {t : List ℤ} {qs : List (Option Place)} → t ≡ table_with g ds f → ((q : Place) → T (among q qs) → T (any (stands q) ds) → T (touched g c q)) → Dropped g cap c f e es ds t qs
    unchanged i k = record { rest = left-whole h i; above = λ o d. refl; only-touched = k }

    dropped-out : (q : Place) → q.depth ≡ suc e → number ds q ≢ 0 → (T (touched g c q) → ⊥) → Dropped g cap c f e es ds (take_out (table_with g ds f) cap (number ds q)) (some q ∷ [])
    dropped-out q d z k =
        let gone : T (patch g c q) → ⊥ = λ t. k (patch-touched g c q (omega arith) t) in
        let not_root : q ≢ root = λ i. (let y : q.depth ≡ 0 = ap (λ (p : Place). p.depth) i in omega arith) in
        let bare : (n : ℕ) (p : Place) → place_of (entry ds n) ≡ some p → parent p ≡ some q → ⊥ = λ n p i. kidless q d k n p (thinned-place h.thinned n p i) in
        let out : T (any (stands q) (set ds (number ds q) free)) → ⊥ = out-gone h f q z gone not_root bare in
        record {
          rest = left-then (out-fewer h f q z gone not_root bare) (out-table h f q z gone not_root bare) (left-whole (out-less h f q z gone not_root bare) refl);
          above = λ o i. sym (out-number h f q z gone not_root bare o (λ y. (let x : o.depth ≡ q.depth = ap (λ (p : Place). p.depth) y in omega arith)));
          only-touched = λ p i t. absurd (out (subst (λ (x : Place). T (any (stands x) (set ds (number ds q) free))) (in_one p q i) t));
        }

    dropped-one : (o : Option Place) → ((q : Place) → o ≡ some q → q.depth ≡ suc e) → Dropped g cap c f e es ds (drop_untouched cap (table_with g ds f) (number_of ds o)) (o ∷ [])
    dropped-one none d = unchanged refl (λ q i. absurd i)
    dropped-one (some q) d = go (ℕ_discrete (number ds q) 0)
      where
        t : List ℤ
        t = table_with g ds f

        by : (a b : Bool) → eqb (number ds q) 0 ≡ a → touched_in t cap (number ds q) ≡ b → drop_untouched cap t (number ds q) ≡ cond (a || b) t (take_out t cap (number ds q))
        by a b i j = ap (λ (x : Bool). cond (x || touched_in t cap (number ds q)) t (take_out t cap (number ds q))) i ∙ ap (λ (x : Bool). cond (a || x) t (take_out t cap (number ds q))) j

        touch : number ds q ≢ 0 → (b : Bool) → touched g c q ≡ b → Dropped g cap c f e es ds (drop_untouched cap t (number ds q)) (some q ∷ [])
        touch z b i = one b (by false b (ne_eqb (number ds q) 0 z) (touched-row h.rooted f c (suc e) low (less-ready h low ready) (number ds q) q (number-place ds q z) (d q refl) ∙ i)) i
          where
            one : (b : Bool) → drop_untouched cap t (number ds q) ≡ cond b t (take_out t cap (number ds q)) → touched g c q ≡ b → Dropped g cap c f e es ds (drop_untouched cap t (number ds q)) (some q ∷ [])
            one true j i = unchanged j (λ p k u. subst (λ (x : Place). T (touched g c x)) (sym (in_one p q k)) (is-yes (touched g c q) i))
            one false j i = subst (λ (u : List ℤ). Dropped g cap c f e es ds u (some q ∷ [])) (sym j) (dropped-out q (d q refl) z (λ u. let w : T false = rw i at u in w))

        go : Dec (number ds q ≡ 0) → Dropped g cap c f e es ds (drop_untouched cap t (number ds q)) (some q ∷ [])
        go (yes z) = unchanged (by true (touched_in t cap (number ds q)) (eq-eqb (number ds q) 0 z) refl) (λ p k u. absurd (numbered-not-zero ds h.rooted.numbered p u (ap (number ds) (in_one p q k) ∙ z)))
        go (no z) = touch z (touched g c q) refl

  pub dropped-all : (qs : List (Option Place)) {ds : List Entry} {xs : List Spot} → Less g cap c es ds → AllNamed ds e xs qs → Dropped g cap c f e es ds (each_at (drop_untouched cap) cap xs (table_with g ds f)) qs
  unfolding over_spots
  dropped-all [] h no_more = unchanged h refl (λ q i. absurd i)
  dropped-all (o ∷ qs) {ds} h (one_more {x} {xs = xs} n ns) =
      let a = dropped-one h o (λ q i. named-depth (subst (Names ds e x) i n)) in
      let b = dropped-all qs a.rest.less (named-same a.above ns) in
      record {
        rest =
            left-then a.rest.fewer
            (ap (λ (k : ℕ). each_at (drop_untouched cap) cap xs (drop_untouched cap (table_with g ds f) k)) (kid_at_lem h.rooted f n) ∙ ap (λ (t : List ℤ). each_at (drop_untouched cap) cap xs t) a.rest.is-table)
            b.rest;
        above = λ p d. a.above p d ∙ b.above p d;
        only-touched = λ q i t. either q (or_else false (same q) o) (or_cases (or_else false (same q) o) (among q qs) i) (λ j. a.only-touched q (or_left (or_else false (same q) o) false j) (b.rest.fewer q t)) (λ j. b.only-touched q j t);
      }
    where
      either : (q : Place) (b : Bool) → T b ⊎ T (among q qs) → (T b → T (touched g c q)) → (T (among q qs) → T (touched g c q)) → T (touched g c q)
      either q b (inl j) x y = x j
      either q b (inr j) x y = y j
