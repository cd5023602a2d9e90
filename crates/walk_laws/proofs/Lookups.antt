-- What a lookup finds, over the area and the squares of its leaves: in the area the point's own leaf; on the area's right and top edge the leaf that
-- ends there; and 19 exactly where none of the tries reaches the area.
-- Assumes nothing.
use Prim.Native.Nat.{ℕ, ◌+◌, ◌-◌, ◌*◌, ◌≤◌, ◌<◌}
use native.Mathlib.Nat.{sub-zero}
use native.Mathlib.Omega.{arith}
use native.Mathlib.Decide.{dec_lt}
use mathlib.Core.Path.{◌≡◌, refl, ap, ◌∙◌, subst}
use mathlib.Core.Bool.{Bool, true, false, not, ◌&&◌, cond}
use mathlib.Core.List.{List, [], ◌∷◌, ◌++◌, map}
use lib.Dec.{T, eqb, leb, leb→le}
use borrow.Author.Tests.{le-leb}
use Rattle.mesh.proofs.Tries.{tried-own}
use Rattle.mesh.specs.Tools.{any, foremost}
use Rattle.mesh.specs.Place.{Place, is_ring}
use Rattle.mesh.specs.Mesh.{leaf}
use Rattle.mesh.specs.State.{State, cells, number, grid_of}
use Rattle.mesh.specs.Valid.{Valid}
use Rattle.mesh.specs.Refusal.{refusal}
use Rattle.mesh.specs.Holding.{west_edge, east_edge, south_edge, north_edge, holds, leaf_at, ground_of}
use Rattle.mesh.specs.Lookup.{tries, tried, first_found, beyond, lookup, lookup_checks}
use Rattle.place_laws.proofs.Bools.{and_both, and_left, and_right, yes-is, no-is, neither}
use Rattle.place_laws.proofs.Lists.{foremost-any, foremost-first}
use Rattle.place_laws.proofs.UnitPoints.{Within, held, holding}
use Rattle.place_laws.proofs.Tiling.{tiling-none}
use Rattle.walk_laws.specs.Reach.{nears, reaches}
use Rattle.walk_laws.proofs.Leaves.{leaf-at-some, leaf-at-zero}

-- where an interval has the number before x, and x not, it ends at x
last-unit : (h i x : ℕ) → 1 ≤ x → Within h i (x - 1) → (Within h i x → ⊥) → (i + 1) * h ≡ x
last-unit h i x l (a, b) n = go (dec_lt x ((i + 1) * h))
  where
    go : Dec (x < (i + 1) * h) → (i + 1) * h ≡ x
    go (yes k) = absurd (n (omega arith, k))
    go (no k) = omega arith

-- ---- the tries

module _ {s : State} (w : Valid s) (u v : ℕ) where
  abbrev try : ℕ × ℕ → ℕ
  try = tried (leaf_at s) u v

  -- a try finds a leaf exactly if it comes to the area
  try-zero : (e : ℕ × ℕ) → eqb (try e) 0 ≡ not (nears s u v e)
  try-zero (left, down) = go (leb left u && leb down v)
    where
      go : (b : Bool) → eqb (cond b (leaf_at s (u - left) (v - down)) 0) 0 ≡ not (b && cells s.entries (ground_of (grid_of s) (u - left) (v - down)))
      go true = leaf-at-zero w (u - left) (v - down)
      go false = refl

  -- 19, "if none" is found: exactly where none of the tries reaches the area
  pub lookup-refused : refusal (lookup_checks s u v) ≡ cond (any (reaches s u v) tries) 0 19
  unfolding refusal lookup_checks lookup first_found
  lookup-refused = go (beyond (grid_of s) v)
    where
      else : (b : Bool) → ◌≡◌ {A = ℕ} (cond (not b) 19 0) (cond b 0 19)
      else true = refl
      else false = refl

      go : (b : Bool) → ◌≡◌ {A = ℕ} (cond (eqb (cond b 0 (foremost (map try tries))) 0) 19 0) (cond (any (λ e. not b && nears s u v e) tries) 0 19)
      go true = refl
      go false = rw (foremost-any try (nears s u v) try-zero tries) (else (any (nears s u v) tries))

  -- the first that reaches the area gives the answer
  first-try : (before after : List (ℕ × ℕ)) (e : ℕ × ℕ) → tries ≡ before ++ e ∷ after → any (reaches s u v) before ≡ false → T (reaches s u v e) → lookup s u v ≡ try e
  unfolding lookup first_found
  first-try before after e h n t = go (beyond (grid_of s) v) n t
    where
      go : (b : Bool) → any (λ e. not b && nears s u v e) before ≡ false → T (not b && nears s u v e) → cond b 0 (foremost (map try tries)) ≡ try e
      go true n t = absurd t
      go false n t = ap (λ (es : List (ℕ × ℕ)). foremost (map try es)) h ∙ foremost-first try (nears s u v) try-zero before after e n t

  -- ---- in the area

  -- the point's own leaf is the answer
  pub lookup-inside : T (cells s.entries (ground_of (grid_of s) u v)) → lookup s u v ≡ leaf_at s u v
  lookup-inside t =
      let rows = (grid_of s).rows in
      let low : v < rows * 4096 = omega (arith, (w.mesh.inside (ground_of (grid_of s) u v) t refl).1) in
      let clear : beyond (grid_of s) v ≡ false = no-is (beyond (grid_of s) v) (λ b. omega (arith, leb→le (rows * 4096) v (and_right (is_ring (grid_of s)) (leb (rows * 4096) v) b))) in
      let own : T (reaches s u v (0, 0)) = rw (clear, le-leb 0 u (omega arith), le-leb 0 v (omega arith), sub-zero u, sub-zero v) t in
      first-try [] _ (0, 0) refl refl own ∙ tried-own (leaf_at s) u v

  -- ---- on its right and top edge

  abbrev IsLeaf : Place → Type 0
  IsLeaf p = T (leaf (grid_of s) (cells s.entries) p)

  -- none of these tries reaches the area
  abbrev Missed : List (ℕ × ℕ) → Type 0
  Missed es = any (reaches s u v) es ≡ false

  -- the leaf that the first try to reach the area finds
  found : (left down : ℕ) (before after : List (ℕ × ℕ)) → tries ≡ before ++ (left, down) ∷ after → Missed before → T (reaches s u v (left, down))
      → (p : Place) × IsLeaf p × (left ≤ u) × (down ≤ v) × T (holds (grid_of s) p (u - left) (v - down)) × (lookup s u v ≡ number s.entries p)
  found left down before after h n r =
      let t = and_right (not (beyond (grid_of s) v)) (nears s u v (left, down)) r in
      let b = leb left u && leb down v in
      let c = cells s.entries (ground_of (grid_of s) (u - left) (v - down)) in
      let k = and_left b c t in
      let (p, a, x, e, z) = leaf-at-some w (u - left) (v - down) (and_right b c t) in
      let there : try (left, down) ≡ leaf_at s (u - left) (v - down) = ap (λ (b : Bool). cond b (leaf_at s (u - left) (v - down)) 0) (yes-is b k) in
      (p, a, leb→le left u (and_left (leb left u) (leb down v) k), leb→le down v (and_right (leb left u) (leb down v) k), x, first-try before after (left, down) h n r ∙ there ∙ e)

  -- tries are made
  abbrev Tried : Type 0
  Tried = T (not (beyond (grid_of s) v))

  is-tried : (e : ℕ × ℕ) → T (reaches s u v e) → Tried
  is-tried e t = and_left (not (beyond (grid_of s) v)) (nears s u v e) t

  -- where a leaf holds a try, it reaches the area
  reached : Tried → (left down : ℕ) → left ≤ u → down ≤ v → (p : Place) → IsLeaf p → T (holds (grid_of s) p (u - left) (v - down)) → T (reaches s u v (left, down))
  reached y left down l d p a h =
      and_both (not (beyond (grid_of s) v)) (nears s u v (left, down)) y (rw (le-leb left u l, le-leb down v d) (tiling-none w.mesh (u - left) (v - down) p a h))

  -- a leaf that holds a try one unit to the left ends there, if the try without that unit does not reach the area; likewise one unit down
  east-end : Tried → (p : Place) → IsLeaf p → (down : ℕ) → 1 ≤ u → down ≤ v → T (holds (grid_of s) p (u - 1) (v - down)) → reaches s u v (0, down) ≡ false → east_edge (grid_of s) p ≡ u
  east-end z p a down l d h m =
      let (x, y) = holding (grid_of s) p (u - 1) (v - down) h in
      last-unit _ _ u l x (λ k. subst T m (reached z 0 down (omega arith) d p a (rw (sub-zero u) (held (grid_of s) p u (v - down) k y))))

  north-end : Tried → (p : Place) → IsLeaf p → (left : ℕ) → left ≤ u → 1 ≤ v → T (holds (grid_of s) p (u - left) (v - 1)) → reaches s u v (left, 0) ≡ false → north_edge (grid_of s) p ≡ v
  north-end z p a left l d h m =
      let (x, y) = holding (grid_of s) p (u - left) (v - 1) h in
      last-unit _ _ v d y (λ k. subst T m (reached z left 0 l (omega arith) p a (rw (sub-zero v) (held (grid_of s) p (u - left) v x k))))

  -- the area ends to the right: the leaf whose right edge the point lies on
  pub right-edge : Missed ((0, 0) ∷ []) → T (reaches s u v (1, 0))
      → (p : Place) × IsLeaf p × (east_edge (grid_of s) p ≡ u) × (south_edge (grid_of s) p ≤ v) × (v < north_edge (grid_of s) p) × (lookup s u v ≡ number s.entries p)
  right-edge m t =
      let (p, a, l, d, h, e) = found 1 0 ((0, 0) ∷ []) _ refl m t in
      let (x, y) = holding (grid_of s) p (u - 1) v (rw (sub-zero v) at h) in
      (p, a, east-end (is-tried (1, 0) t) p a 0 l d h (neither _ _ m).0, y.0, y.1, e)

  -- it ends at the top, and not to the right: the leaf whose upper edge the point lies on
  pub top-edge : Missed ((0, 0) ∷ (1, 0) ∷ []) → T (reaches s u v (0, 1))
      → (p : Place) × IsLeaf p × (west_edge (grid_of s) p ≤ u) × (u < east_edge (grid_of s) p) × (north_edge (grid_of s) p ≡ v) × (lookup s u v ≡ number s.entries p)
  top-edge m t =
      let (p, a, l, d, h, e) = found 0 1 ((0, 0) ∷ (1, 0) ∷ []) _ refl m t in
      let (x, y) = holding (grid_of s) p u (v - 1) (rw (sub-zero u) at h) in
      (p, a, x.0, x.1, north-end (is-tried (0, 1) t) p a 0 l d h (neither _ _ m).0, e)

  -- it has its upper right corner here: the leaf whose upper right corner that is
  pub top-right-corner : Missed ((0, 0) ∷ (1, 0) ∷ (0, 1) ∷ []) → T (reaches s u v (1, 1))
      → (p : Place) × IsLeaf p × (east_edge (grid_of s) p ≡ u) × (north_edge (grid_of s) p ≡ v) × (lookup s u v ≡ number s.entries p)
  top-right-corner m t =
      let (p, a, l, d, h, e) = found 1 1 ((0, 0) ∷ (1, 0) ∷ (0, 1) ∷ []) _ refl m t in
      let n = neither _ _ (neither (reaches s u v (0, 0)) _ m).1 in
      (p, a, east-end (is-tried (1, 1) t) p a 1 l d h (neither _ _ n.1).0, north-end (is-tried (1, 1) t) p a 1 l d h n.0, e)
