-- The entries of a valid state make a tree under the root. Where entries do, a link is the number of a place, and the level's word gives the depth
-- back.
-- Assumes nothing.
use Prim.Native.Nat.{ℕ, suc, ◌+◌, ◌-◌, ◌≤◌, ◌<◌}
use native.Mathlib.Omega.{arith}
use native.Mathlib.Decide.{dec_lt, ℕ_discrete}
use mathlib.Core.Path.{◌≡◌, sym, ap, ◌∙◌}
use mathlib.Core.Option.{Option, none, some, map}
use mathlib.Core.List.{List}
use lib.Dec.{T}
use lib.IntN.{sub_ℕ}
use lib.ListN.{get_or}
use borrow.Author.Tests.{lt-ltb, le-ltb, le-leb}
use Rattle.edit_laws.specs.Rooted.{Rooted}
use Rattle.mesh.specs.Place.{Place, Grid, base, level, around}
use Rattle.mesh.specs.Mesh.{patch}
use Rattle.mesh.specs.State.{State, Entry, place_of, entry, cells, number, number_of, grid_of, capacity}
use Rattle.mesh.specs.Valid.{Valid}
use Rattle.place_laws.proofs.Base.{base-range, depth-zero-root, lap-many}
use Rattle.place_laws.proofs.SideDigits.{kid_by, kid-by-parent}
use Rattle.place_laws.proofs.Near.{corner-depth, touched-corner}
use Rattle.place_laws.proofs.Tree.{patch-parent, patch-touched}
use Rattle.number_laws.proofs.Entries.{in_list}
use Rattle.number_laws.proofs.NumberedPlaces.{valid-numbered, number-place, numbered-not-zero}
use Rattle.table.specs.Words.{code, word_of, link_of, depth_from, depth_of}
use Rattle.edit_laws.specs.Linked.{Flags, table_with}
use Rattle.edit_laws.proofs.Linked.{number-of, word-level}

-- ---- a valid state's entries are

patch-depth : (s : State) → Valid s → (p : Place) → T (patch (grid_of s) (cells s.entries) p) → p.depth ≤ base (grid_of s) + 12
patch-depth s v p t = go (dec_lt p.depth (base (grid_of s)))
  where
    go : Dec (p.depth < base (grid_of s)) → p.depth ≤ base (grid_of s) + 12
    go (yes h) = omega arith
    go (no h) =
        let (r, k, b) = touched-corner (grid_of s) (cells s.entries) p (patch-touched (grid_of s) (cells s.entries) p (omega (arith, h)) t) in
        omega (arith, corner-depth k, v.mesh.high r b)

pub valid-rooted : {s : State} → Valid s → Rooted (grid_of s) (capacity s) s.entries
valid-rooted {s} v = record {
  numbered = valid-numbered v;
  long = omega (arith, v.sizes.0);
  sizes = ((base-range (grid_of s) v.rectangle).1, v.sizes.1);
  laps = lap-many (grid_of s) v.rectangle;
  first-root = v.first-root;
  top = λ n p h e. depth-zero-root (grid_of s) (cells s.entries) v.mesh v.rectangle p e (v.each n p h);
  deepest = λ n p h. patch-depth s v p (v.each n p h);
  parents = λ n q p h e. v.every p (patch-parent (grid_of s) (cells s.entries) v.mesh q p e (v.each n q h));
}

-- ---- numbers and words

-- the depth of a level's word
level-depth : (a b : ℕ) → a ≤ b + 12 → depth_from b (code (sub_ℕ a b)) ≡ a
level-depth a b l = go (dec_lt a b)
  where
    go : Dec (a < b) → depth_from b (code (sub_ℕ a b)) ≡ a
    go (yes h) =
        let x = b - suc a in
        let e : 2147483648 + x - 2147483648 ≡ x = omega arith in
        let back : b - 1 - x ≡ a = omega arith in
        rw (lt-ltb a b h, le-ltb (2147483648 + x) 2147483648 (omega arith), e, lt-ltb x b (omega arith)) back
    go (no h) =
        let back : a - b + b ≡ a = omega (arith, h) in
        rw (le-ltb a b (omega (arith, h)), lt-ltb (a - b) 2147483648 (omega arith)) back

module _ {g : Grid} {cap : ℕ} {es : List Entry} (r : Rooted g cap es) where
  -- a place's number is one of the table's
  pub number-le : (o : Option Place) → number_of es o ≤ cap
  number-le none = omega arith
  number-le (some p) = go (ℕ_discrete (number es p) 0)
    where
      go : Dec (number es p ≡ 0) → number es p ≤ cap
      go (yes z) = omega arith
      go (no z) = omega (arith, r.long, in_list es (number es p) p (number-place es p z))

  -- a word of each row that names a kid, read at the number of a place: where no patch stands, no kid of it does
  pub kid-read : (read : ℕ → ℕ) (Fit : Option Place → Type 0) (l m : ℕ) → l ≤ 1 → m ≤ 1 → Fit none
      → ((n : ℕ) (o : Option Place) → place_of (entry es n) ≡ o → Fit o → read n ≡ number_of es (map (kid_by l m) o))
      → (o : Option Place) → Fit o → read (number_of es o) ≡ number_of es (map (kid_by l m) o)
  kid-read read Fit l m x y nowhere is none d = is 0 none (ap place_of r.numbered.zeroth) nowhere
  kid-read read Fit l m x y nowhere is (some q) d = go (ℕ_discrete (number es q) 0)
    where
      kidless : number es q ≡ 0 → Dec (number es (kid_by l m q) ≡ 0) → number es (kid_by l m q) ≡ 0
      kidless z (yes k) = k
      kidless z (no k) = absurd (numbered-not-zero es r.numbered q (r.parents (number es (kid_by l m q)) (kid_by l m q) q (number-place es (kid_by l m q) k) (kid-by-parent l m q x y)) z)

      go : Dec (number es q ≡ 0) → read (number es q) ≡ number es (kid_by l m q)
      go (no z) = is (number es q) (some q) (number-place es q z) d
      go (yes z) = ap read z ∙ is 0 none (ap place_of r.numbered.zeroth) nowhere ∙ sym (kidless z (ℕ_discrete (number es (kid_by l m q)) 0))

  module _ (f : Flags) where
    pub link-of : (n w : ℕ) → w < 9 → link_of (table_with g es f) cap n w ≡ number_of es (get_or (around g (place_of (entry es n))) w none)
    unfolding link_of
    link-of n w l = rw (number-of g es f n w l, le-leb _ _ (number-le (get_or (around g (place_of (entry es n))) w none)))

    pub depth-of : (n : ℕ) (p : Place) → place_of (entry es n) ≡ some p → depth_of (table_with g es f) (base g) n ≡ p.depth
    unfolding depth_of word_of level
    depth-of n p h = rw (word-level g es f n p h) (level-depth p.depth (base g) (r.deepest n p h))
