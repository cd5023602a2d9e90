-- The leaf count by places: the entries that are counted stand at places of their level, each place once, so their count is the full count from the
-- cells alone.
-- Assumes nothing.
use Prim.Native.Nat.{ℕ, suc, ◌+◌, ◌*◌, ◌^◌, ◌≤◌, ◌<◌}
use native.Mathlib.Omega.{arith}
use mathlib.Core.Path.{◌≡◌, refl, sym, ap, ◌∙◌, subst}
use mathlib.Core.Logic.{◌⊎◌, inl, inr}
use mathlib.Core.Bool.{Bool, false, ◌&&◌, and-false}
use mathlib.Core.Option.{none, some}
use mathlib.Core.List.{List, [], ◌∷◌}
use lib.Dec.{T, eqb, eqb→eq}
use lib.ListN.{get_or}
use borrow.Author.Tests.{eq-eqb, ne_eqb}
use Rattle.mesh.specs.Tools.{keep, count, or_else}
use Rattle.mesh.specs.Place.{Place, Grid, base, In, Distinct}
use Rattle.mesh.specs.Mesh.{Mesh, leaf}
use Rattle.mesh.specs.State.{State, Entry, nil, free, used, Cell, Value, blank, measured, carried, status, place_of, entry, cells, grid_of, contents}
use Rattle.mesh.specs.Deed.{Contents, held}
use Rattle.mesh.specs.Valid.{Valid}
use Rattle.mesh.specs.LeafCounts.{is_counted, leaf_count}
use Rattle.tally_laws.specs.LeavesOn.{status_at, leaves_on}
use Rattle.place_laws.proofs.Bools.{yes-is, no-is, and_left, and_right}
use Rattle.place_laws.proofs.Lists.{any-hit}
use Rattle.place_laws.proofs.Counting.{count_none}
use Rattle.place_laws.proofs.Distinct.{keep-in, in-keep, keep-distinct}
use Rattle.place_laws.proofs.Kids.{leaf-cell}
use Rattle.place_laws.proofs.Base.{cell-on}
use Rattle.number_laws.specs.Numbered.{Numbered}
use Rattle.number_laws.proofs.Entries.{stands-in, cell-there, cell-somewhere}
use Rattle.number_laws.proofs.NumberedPlaces.{valid-numbered, entry-contents}
use Rattle.number_laws.proofs.ByPlace.{cells-held, valid-rules}
use Rattle.walk_laws.specs.Points.{box, cells_on}
use Rattle.walk_laws.proofs.Points.{box_in, box-at, box-distinct}
use Rattle.walk_laws.proofs.Counts.{placed, placed-stands, placed-count, placed-distinct}
use Rattle.tally_laws.proofs.Shares.{count_same}

-- ---- the places of a level

abbrev pub level_places : Grid → ℕ → List Place
level_places g l = box (base g + l) (g.columns * 2 ^ l) (g.rows * 2 ^ l)

pub level-distinct : (g : Grid) (l : ℕ) → Distinct (level_places g l)
level-distinct g l = box-distinct (base g + l) (g.columns * 2 ^ l) (g.rows * 2 ^ l)

-- a leaf of level l with the status k stands there
abbrev pub counts : Grid → Contents → ℕ → ℕ → Place → Bool
counts g c l k q = (eqb q.depth (base g + l) && eqb (status_at c q) k) && leaf g (held c) q

module _ (g : Grid) (c : Contents) (l k : ℕ) where
  pub counts-is : (q : Place) → T (counts g c l k q) → T (leaf g (held c) q) × (q.depth ≡ base g + l) × (status_at c q ≡ k)
  counts-is q t =
      let a = eqb q.depth (base g + l) in
      let b = eqb (status_at c q) k in
      let u = and_left (a && b) (leaf g (held c) q) t in
      (and_right (a && b) (leaf g (held c) q) t, eqb→eq _ _ (and_left a b u), eqb→eq _ _ (and_right a b u))

  pub is-counts : (q : Place) → T (leaf g (held c) q) → q.depth ≡ base g + l → status_at c q ≡ k → T (counts g c l k q)
  is-counts q t d e = rw (yes-is (leaf g (held c) q) t, eq-eqb q.depth (base g + l) d, eq-eqb (status_at c q) k e) tt

  pub counts-cell : (q : Place) → T (counts g c l k q) → T (held c q)
  counts-cell q t = leaf-cell g (held c) q (counts-is q t).0

  pub counts-in : Mesh g (held c) → (q : Place) → T (counts g c l k q) → In q (level_places g l)
  counts-in m q t =
      let (_, e, _) = counts-is q t in
      let (x, y) = cell-on g (held c) m l q e (counts-cell q t) in
      box_in (base g + l) (g.columns * 2 ^ l) (g.rows * 2 ^ l) q e x y

  pub leaves-on : leaves_on g c l k ≡ count (counts g c l k) (level_places g l)
  unfolding leaves_on cells_on
  leaves-on =
      count_same (λ q. leaf g (held c) q && eqb (status_at c q) k) (counts g c l k) (keep (held c) (level_places g l)) (level_places g l)
      (keep-distinct (held c) (level_places g l) (level-distinct g l)) (level-distinct g l)
      (λ q i t.
      let a = leaf g (held c) q in
      let b = eqb (status_at c q) k in
      let j = (keep-in (held c) (level_places g l) q i).0 in
      (j, is-counts q (and_left a b t) (box-at (base g + l) (g.columns * 2 ^ l) (g.rows * 2 ^ l) q j).0 (eqb→eq _ _ (and_right a b t))))
      (λ q i t.
      let (a, _, e) = counts-is q t in
      (in-keep (held c) (level_places g l) q i (counts-cell q t), rw (yes-is (leaf g (held c) q) a, eq-eqb (status_at c q) k e) tt))

-- ---- the entries

count-each : {A : Type 0} (f h : A → Bool) (d : A) (xs : List A) → ((n : ℕ) → f (get_or xs n d) ≡ h (get_or xs n d)) → count f xs ≡ count h xs
count-each f h d [] e = refl
count-each f h d (x ∷ xs) e = let z : f x ≡ h x = e 0 in rw (z, count-each f h d xs (λ n. e (suc n)))

module _ (g : Grid) (es : List Entry) (u : Numbered es) (l k : ℕ) where
  -- an entry counts if its place does
  entry-counts : (n : ℕ) → is_counted g (cells es) l k (entry es n) ≡ or_else false (counts g (contents es) l k) (place_of (entry es n))
  entry-counts n = go (entry es n) refl
    where
      go : (e : Entry) → entry es n ≡ e → is_counted g (cells es) l k e ≡ or_else false (counts g (contents es) l k) (place_of e)
      go nil e = refl
      go free e = refl
      go (used p none) e =
          sym (no-is (counts g (contents es) l k p) (λ t.
          let h = counts-cell g (contents es) l k p t in
          rw (entry-contents es u n p none e) at h))
      go (used p (some x)) e = rw (cells-held es u, entry-contents es u n p (some x) e)

  counted-places : Mesh g (held (contents es)) → count (is_counted g (cells es) l k) es ≡ leaves_on g (contents es) l k
  counted-places m =
      count-each (is_counted g (cells es) l k) (λ e. or_else false (counts g (contents es) l k) (place_of e)) nil es entry-counts
      ∙ sym (placed-count es (counts g (contents es) l k))
      ∙ count_same (counts g (contents es) l k) (counts g (contents es) l k) (placed es) (level_places g l) (placed-distinct es u) (level-distinct g l)
      (λ q i t. (counts-in g (contents es) l k m q t, t))
      (λ q i t.
      let (n, x, e) = cell-somewhere es q (rw (cells-held es u) (counts-cell g (contents es) l k q t)) in
      (rw (placed-stands es q) (stands-in es n q (ap place_of e)), t))
      ∙ sym (leaves-on g (contents es) l k)

-- ---- the state

pub leaf-count : (s : State) → Numbered s.entries → Mesh (grid_of s) (held (contents s.entries)) → (l k : ℕ) → leaf_count s l k ≡ leaves_on (grid_of s) (contents s.entries) l k
unfolding leaf_count
leaf-count s u m l k = counted-places (grid_of s) s.entries u l k m

pub counts-full : (s : State) → Valid s → (l k : ℕ) → leaf_count s l k ≡ leaves_on (grid_of s) (contents s.entries) l k
counts-full s v l k = leaf-count s (valid-numbered v) (valid-rules s v).mesh l k

-- ---- "39 leaf counts": no leaf is on another level or has another status

status-most : (w : Value) → status w ≤ 2
status-most blank = omega arith
status-most (measured x) = omega arith
status-most (carried x) = omega arith

pub leaf-placed : (s : State) → Valid s → (n : ℕ) (p : Place) (x : Cell) → entry s.entries n ≡ used p (some x) → (base (grid_of s) ≤ p.depth) × (p.depth ≤ base (grid_of s) + 12) × (status x.value ≤ 2)
leaf-placed s v n p x e = let t = cell-there s.entries n p x e in (v.mesh.low p t, v.mesh.high p t, status-most x.value)

pub none-else : (s : State) → Valid s → (l k : ℕ) → (12 < l) ⊎ (2 < k) → leaf_count s l k ≡ 0
unfolding leaf_count
none-else s v l k h = count_none counts-here s.entries (λ t. let (n, _, u) = any-hit counts-here nil s.entries t in subst T (go n (entry s.entries n) refl) u)
  where
    counts-here : Entry → Bool
    counts-here = is_counted (grid_of s) (cells s.entries) l k

    apart : (n : ℕ) (p : Place) (x : Cell) → entry s.entries n ≡ used p (some x) → (12 < l) ⊎ (2 < k) → (eqb p.depth (base (grid_of s) + l) && eqb (status x.value) k) ≡ false
    apart n p x e (inl a) = let (_, high, _) = leaf-placed s v n p x e in rw (ne_eqb p.depth (base (grid_of s) + l) (λ z. omega arith))
    apart n p x e (inr a) = let (_, _, few) = leaf-placed s v n p x e in rw (ne_eqb (status x.value) k (λ z. omega arith)) (and-false (eqb p.depth (base (grid_of s) + l)))

    go : (n : ℕ) (e : Entry) → entry s.entries n ≡ e → is_counted (grid_of s) (cells s.entries) l k e ≡ false
    go n nil e = refl
    go n free e = refl
    go n (used p none) e = refl
    go n (used p (some x)) e = rw (apart n p x e h)
