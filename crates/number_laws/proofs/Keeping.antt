-- A valid state whose cells at some places become another cell or none is valid after the patches that no longer exist are freed, if the new
-- contents keep the rules; its patches stay under their numbers.
-- Assumes nothing.
use Prim.Native.Nat.{ℕ}
use mathlib.Core.Path.{◌≡◌, refl, sym, ap, ◌∙◌, subst, fun_ext}
use mathlib.Core.Logic.{◌≢◌, ◌⊎◌, inl, inr}
use mathlib.Core.Bool.{Bool, true, false, cond}
use mathlib.Core.Option.{Option, some}
use mathlib.Core.List.{List}
use lib.Dec.{T}
use lib.ListN.{length}
use Rattle.number_laws.specs.Numbered.{Numbered}
use Rattle.mesh.specs.Tools.{any, is_some}
use Rattle.mesh.specs.Place.{Place, root, same, In}
use Rattle.mesh.specs.Mesh.{Mesh, patch}
use Rattle.mesh.specs.State.{State, Entry, free, Cell, place_of, is_nil, stands, entry, cells, number, grid_of, with_entries, contents}
use Rattle.mesh.specs.Deed.{held, put}
use Rattle.mesh.specs.Valid.{Valid}
use Rattle.mesh.specs.Request.{fill, prune}
use Rattle.place_laws.proofs.Bools.{yes-is, is-yes, and_both}
use Rattle.place_laws.proofs.Tree.{cell-patch, patch-more}
use Rattle.place_laws.proofs.Base.{root-patch}
use Rattle.number_laws.proofs.Entries.{stands-in, cell-somewhere}
use Rattle.number_laws.proofs.NumberedPlaces.{valid-numbered, numbered-not-zero, cells-contents}
use Rattle.number_laws.proofs.Filling.{filled-nil, fill-entry, fill-length, fill-place, fill-number, fill-stands, fill-numbered, fill-contents, fill-cells}
use Rattle.number_laws.proofs.Pruning.{pruned-nil, prune-entry, prune-length, prune-kept, prune-freed, prune-place, prune-stands, prune-number, prune-numbered, prune-nothing, prune-contents}
use Rattle.number_laws.proofs.ByPlace.{Rules, rules-mesh, rules-sentences, rules-values, cells-held, put-cases}

-- what a state t is to s, where the cells of s at ps become x
pub record Kept (s : State) (ps : List Place) (x : Option Cell) (t : State) : Type 0 where
  pub valid : Valid t
  pub header_is : t.header ≡ s.header
  pub length-is : length t.entries ≡ length s.entries
  pub contents-is : (q : Place) → contents t.entries q ≡ cond (any (same q) ps) x (contents s.entries q)
  pub cells_is : (q : Place) → cells t.entries q ≡ cond (any (same q) ps) (is_some x) (cells s.entries q)
  -- a patch keeps its number, and the number of a place that is no patch any more is free
  pub number_is : (q : Place) → number t.entries q ≡ cond (patch (grid_of s) (cells t.entries) q) (number s.entries q) 0
  pub freed : (n : ℕ) (q : Place) → place_of (entry s.entries n) ≡ some q → (T (patch (grid_of s) (cells t.entries) q) → ⊥) → entry t.entries n ≡ free

-- cells that become other cells: the set of cells is the same
pub kept-cells : {s t : State} {ps : List Place} {x : Option Cell} → Kept s ps x t → T (is_some x) → ((q : Place) → In q ps → T (cells s.entries q)) → (q : Place) → cells t.entries q ≡ cells s.entries q
kept-cells {s} {t} {ps} {x} k y there q = k.cells_is q ∙ go (any (same q) ps) refl
  where
    go : (b : Bool) → any (same q) ps ≡ b → cond b (is_some x) (cells s.entries q) ≡ cells s.entries q
    go true e = yes-is (is_some x) y ∙ sym (yes-is (cells s.entries q) (there q (is-yes (any (same q) ps) e)))
    go false e = refl

module _ (s : State) (v : Valid s) (ps : List Place) (x : Option Cell) (there : (q : Place) → In q ps → T (cells s.entries q))
    (r : Rules (grid_of s) (put ps x (contents s.entries))) where
  abbrev between : List Entry
  between = fill ps x s.entries

  abbrev after : State
  after = with_entries s (prune (grid_of s) between)

  -- ---- the cells at the places are others

  stands-there : (q : Place) → In q ps → number s.entries q ≢ 0
  stands-there q i =
      let (n, y, e) = cell-somewhere s.entries q (there q i) in
      numbered-not-zero s.entries (valid-numbered v) q (stands-in s.entries n q (ap place_of e))

  between-numbered : Numbered between
  between-numbered = fill-numbered ps x s.entries (valid-numbered v)

  between-contents : contents between ≡ put ps x (contents s.entries)
  between-contents = fun_ext (fill-contents ps x s.entries (valid-numbered v) stands-there)

  between-cells : cells between ≡ held (put ps x (contents s.entries))
  between-cells = cells-held between between-numbered ∙ ap held between-contents

  between-mesh : Mesh (grid_of s) (cells between)
  between-mesh = rules-mesh (with_entries s between) between-numbered (rw between-contents r)

  fewer : (q : Place) → T (cells between q) → T (cells s.entries q)
  fewer q t = go (rw between-cells at t) (put-cases (contents s.entries) ps x q)
    where
      go : T (is_some (put ps x (contents s.entries) q)) → (In q ps × (put ps x (contents s.entries) q ≡ x)) ⊎ (put ps x (contents s.entries) q ≡ contents s.entries q) → T (cells s.entries q)
      go h (inl (i, e)) = there q i
      go h (inr e) = rw (cells-contents s.entries (valid-numbered v) q) (rw e at h)

  -- ---- and the patches that no longer exist are freed

  after-numbered : Numbered after.entries
  after-numbered = prune-numbered (grid_of s) between between-numbered

  after-contents : contents after.entries ≡ contents between
  after-contents = fun_ext (prune-contents (grid_of s) between between-numbered (cell-patch (grid_of s) (cells between) between-mesh))

  after-cells : cells after.entries ≡ cells between
  after-cells = cells-held after.entries after-numbered ∙ ap held after-contents ∙ sym (cells-held between between-numbered)

  after-rules : Rules (grid_of s) (contents after.entries)
  after-rules = rw (after-contents, between-contents) r

  after-length : length after.entries ≡ length s.entries
  after-length = prune-length (grid_of s) between ∙ fill-length ps x s.entries

  after-nil : (n : ℕ) → is_nil (entry after.entries n) ≡ is_nil (entry s.entries n)
  after-nil n =
      ap is_nil (prune-entry (grid_of s) between n)
      ∙ pruned-nil (grid_of s) (cells between) (entry between n)
      ∙ ap is_nil (fill-entry ps x s.entries n)
      ∙ filled-nil ps x (entry s.entries n)

  after-valid : Valid after
  after-valid = record {
    sizes = rw after-length v.sizes;
    rectangle = v.rectangle;
    zeroth = after-numbered.zeroth;
    others = λ n a b. rw (after-nil n) (v.others n a (rw after-length at b));
    mesh = rules-mesh after after-numbered after-rules;
    each = λ n p h. rw after-cells (prune-place (grid_of s) between n p h).1;
    every = λ p t.
        let k : T (patch (grid_of s) (cells between) p) = rw after-cells at t in
        let w : T (any (stands p) s.entries) = v.every p (patch-more (grid_of s) (cells between) (cells s.entries) fewer p k) in
        rw (prune-stands (grid_of s) between p) (and_both (patch (grid_of s) (cells between) p) (any (stands p) between) k (rw (fill-stands ps x s.entries p) w));
    once = after-numbered.once;
    first-root =
        let h : place_of (entry between 1) ≡ some root = fill-place ps x s.entries 1 ∙ v.first-root in
        ap place_of (prune-kept (grid_of s) between 1 root h (root-patch (grid_of s) (cells between) between-mesh v.rectangle)) ∙ h;
    sentences = rules-sentences after after-numbered after-rules;
    values = rules-values after after-numbered after-rules;
  }

  -- a place that is left without a patch is freed
  pub kept-pruned : Kept s ps x (with_entries s (prune (grid_of s) (fill ps x s.entries)))
  kept-pruned = record {
    valid = after-valid;
    header_is = refl;
    length-is = after-length;
    contents-is = λ q. (λ i. (after-contents ∙ between-contents) i q);
    cells_is = λ q. (λ i. after-cells i q) ∙ fill-cells ps x s.entries (valid-numbered v) stands-there q;
    number_is = λ q. rw after-cells (prune-number (grid_of s) between q ∙ ap (λ (n : ℕ). cond (patch (grid_of s) (cells between) q) n 0) (fill-number ps x s.entries q));
    freed = λ n q h k. prune-freed (grid_of s) between n q (fill-place ps x s.entries n ∙ h) (rw after-cells at k);
  }

  -- where the cells are the same, no place is left without a patch
  pub kept-filled : ((q : Place) → cells s.entries q ≡ held (put ps x (contents s.entries)) q) → Kept s ps x (with_entries s (fill ps x s.entries))
  kept-filled h = subst (λ (es : List Entry). Kept s ps x (with_entries s es)) (prune-nothing (grid_of s) between patches) kept-pruned
    where
      patches : (n : ℕ) (p : Place) → place_of (entry between n) ≡ some p → T (patch (grid_of s) (cells between) p)
      patches n p e =
          let same : cells s.entries ≡ cells between = fun_ext h ∙ sym between-cells in
          rw same at (v.each n p (sym (fill-place ps x s.entries n) ∙ e))
