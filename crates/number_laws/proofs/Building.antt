-- An accepted build gives a valid state: its numbers are the patches of the full rectangle, each once, and every cell is blank.
-- Assumes nothing.
use Prim.Native.Nat.{ℕ, zero, suc, ◌+◌, ◌-◌, ◌≤◌}
use native.Mathlib.Omega.{arith}
use mathlib.Core.Path.{◌≡◌, refl, sym, ap, ◌∙◌, fun_ext}
use mathlib.Core.Bool.{Bool, true, false, not, cond}
use mathlib.Core.Option.{Option, none, some, none-ne-some, some-injective}
use lib.Dec.{T}
use lib.ListN.{length}
use Rattle.number_laws.specs.Numbered.{Numbered, written}
use Rattle.mesh.specs.Call.{Rectangle}
use Rattle.mesh.specs.Tools.{any, count, is_some}
use Rattle.mesh.specs.Place.{Place, Grid, same, root, parent}
use Rattle.mesh.specs.Mesh.{patch}
use Rattle.mesh.specs.State.{Entry, nil, free, used, Cell, is_blank, is_nil, is_used, place_of, cell_of, value_of, stands, entry, cells, number_of, in_use, capacity, contents}
use Rattle.mesh.specs.Valid.{Valid}
use Rattle.mesh.specs.Build.{full, numbered, blank_cell, built}
use Rattle.place_laws.proofs.Bools.{no-is}
use Rattle.place_laws.proofs.Tree.{cell-patch}
use Rattle.place_laws.proofs.Full.{full-mesh}
use Rattle.number_laws.proofs.Entries.{stands-in}
use Rattle.number_laws.proofs.NumberedPlaces.{cells-contents}
use Rattle.number_laws.proofs.Levels.{numbered-distinct, numbered-patch, patch-numbered, numbered-first}
use Rattle.number_laws.proofs.WrittenPlaces.{written-there, written-not-nil, written_count, written-length, written-numbered, written_entry, written-contents}

-- ---- what a build gives to each place

abbrev given : Grid → Place → Option Cell
given g p = cond (full g p) (some blank_cell) none

given-some : (g : Grid) (p : Place) → is_some (given g p) ≡ full g p
given-some g p = go (full g p)
  where
    go : (b : Bool) → is_some (cond b (some blank_cell) none) ≡ b
    go true = refl
    go false = refl

given-blank : (g : Grid) (p : Place) (x : Cell) → given g p ≡ some x → x ≡ blank_cell
given-blank g p x e = go (full g p) e
  where
    go : (b : Bool) → cond b (some blank_cell) none ≡ some x → x ≡ blank_cell
    go true e = sym (some-injective _ _ e)
    go false e = absurd (none-ne-some _ e)

used-cell : {p q : Place} {a b : Option Cell} → used p a ≡ used q b → a ≡ b
used-cell e = ap cell_of e

pub built-in-use : (g : Grid) (cap : ℕ) → in_use (built g cap).entries ≡ length (numbered g)
unfolding built in_use
built-in-use g cap =
    let k = cap - length (numbered g) in
    let h : 0 + count is_used (written (given g) k (numbered g)) ≡ length (numbered g) = omega (arith, written_count (given g) k (numbered g)) in
    h

pub built-capacity : (g : Grid) (cap : ℕ) → length (numbered g) ≤ cap → capacity (built g cap) ≡ cap
unfolding built
built-capacity g cap fits =
    let k = cap - length (numbered g) in
    let h : suc (length (written (given g) k (numbered g))) - 1 ≡ cap = omega (arith, written-length (given g) k (numbered g)) in
    h

built-other : (g : Grid) (cap n : ℕ) → 1 ≤ n → n ≤ cap → T (not (is_nil (entry (built g cap).entries n)))
unfolding built
built-other g cap zero l h = absurd (omega arith)
built-other g cap (suc n) l h = written-not-nil (given g) (cap - length (numbered g)) (numbered g) n (omega arith)

module _ (g : Grid) (cap : ℕ) (in-range : Rectangle g) where
  -- ---- the cells

  pub built-numbered : Numbered (built g cap).entries
  unfolding built
  built-numbered = written-numbered (given g) (cap - length (numbered g)) (numbered g) (numbered-distinct g in-range)

  pub built-contents : (q : Place) → contents (built g cap).entries q ≡ cond (full g q) (some blank_cell) none
  unfolding built
  built-contents q =
      written-contents (given g) (cap - length (numbered g)) (numbered g) (numbered-distinct g in-range) q ∙ go (any (same q) (numbered g)) refl
    where
      go : (b : Bool) → any (same q) (numbered g) ≡ b → cond b (given g q) none ≡ given g q
      go true e = refl
      go false e = rw (no-is (full g q) (λ t. rw e at (patch-numbered g in-range q (cell-patch g (full g) (full-mesh g in-range) q t))))

  pub built-cells : (q : Place) → cells (built g cap).entries q ≡ full g q
  built-cells q = cells-contents (built g cap).entries built-numbered q ∙ ap is_some (built-contents q) ∙ given-some g q

  cells-full : cells (built g cap).entries ≡ full g
  cells-full = fun_ext built-cells

  -- ---- the entries

  -- an entry in use stands at a patch and is as given
  built-entry : (n : ℕ) (p : Place) → place_of (entry (built g cap).entries n) ≡ some p → T (patch g (full g) p) × (entry (built g cap).entries n ≡ used p (given g p))
  unfolding built
  built-entry n p e =
      let (i, h) = written_entry (given g) (cap - length (numbered g)) (numbered g) (numbered-distinct g in-range) n p e in
      (numbered-patch g in-range p i, h)

  built-blank : (n : ℕ) (p : Place) (x : Cell) → entry (built g cap).entries n ≡ used p (some x) → x ≡ blank_cell
  built-blank n p x e = let (t, h) = built-entry n p (ap place_of e) in given-blank g p x (used-cell (sym h ∙ e))

  blank-value : (n : ℕ) → T (is_blank (value_of (entry (built g cap).entries n)))
  blank-value n = go (entry (built g cap).entries n) refl
    where
      go : (d : Entry) → entry (built g cap).entries n ≡ d → T (is_blank (value_of d))
      go nil e = tt
      go free e = tt
      go (used p none) e = tt
      go (used p (some x)) e = rw (built-blank n p x e) tt

  patch-stands : (p : Place) → T (patch g (full g) p) → T (any (stands p) (built g cap).entries)
  unfolding built
  patch-stands p t =
      let (n, h) = written-there (given g) (cap - length (numbered g)) (numbered g) p (patch-numbered g in-range p t) in
      stands-in (built g cap).entries (suc n) p (ap place_of h)

  root-first : place_of (entry (built g cap).entries 1) ≡ some root
  unfolding built
  root-first = let (rest, e) = numbered-first g in rw e

  -- ---- the state

  pub built-valid : 5 ≤ cap → cap ≤ 4095 → length (numbered g) ≤ cap → Valid (built g cap)
  unfolding built
  built-valid low high fits = record {
    sizes = rw (built-capacity g cap fits) (low, high);
    rectangle = in-range;
    zeroth = refl;
    others = λ n l h. built-other g cap n l (rw (built-capacity g cap fits) at h);
    mesh = rw cells-full (full-mesh g in-range);
    each = λ n p e. rw cells-full (built-entry n p e).0;
    every = λ p t. patch-stands p (rw cells-full at t);
    once = built-numbered.once;
    first-root = root-first;
    sentences = λ n p x e t. absurd (rw (built-blank n p x e) at t);
    values = λ n p x e. rw (built-blank n p x e) (blank-value (number_of (built g cap).entries (parent p)));
  }
