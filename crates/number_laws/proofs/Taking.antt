-- The requests remove and kill: the cells at some places go, and the patches that no longer exist.
-- Assumes nothing.
use Prim.Native.Nat.{ℕ}
use native.Mathlib.Omega.{arith}
use mathlib.Core.Path.{◌≡◌, refl, subst, fun_ext}
use mathlib.Core.Bool.{Bool, true, false, not, ◌&&◌, cond}
use mathlib.Core.Option.{Option, none, some, none-ne-some}
use mathlib.Core.List.{List, [], ◌∷◌}
use lib.Dec.{T, eqb}
use borrow.Author.Tests.{not-false, eqb-true}
use Rattle.mesh.specs.Tools.{any, all, or_else, is_some}
use Rattle.mesh.specs.Place.{Place, Grid, same, base, kids, parent, In}
use Rattle.mesh.specs.Mesh.{Mesh, leaf}
use Rattle.mesh.specs.State.{State, Cell, cells, place_at, grid_of, with_entries, contents}
use Rattle.mesh.specs.Deed.{Contents, held, held_sentenced, any_ground, put}
use Rattle.mesh.specs.Valid.{Valid}
use Rattle.mesh.specs.Refusal.{refusal}
use Rattle.mesh.specs.Request.{remove, kill, loose_checks, effect, fill, prune}
use Rattle.place_laws.proofs.Bools.{is-yes}
use Rattle.place_laws.proofs.Ground.{other-ground}
use Rattle.place_laws.proofs.Kids.{leaf-cell, in-parent, all-kids}
use Rattle.place_laws.proofs.Shrinking.{shrunk, stayed, not-gone, Removable, shrunk-mesh, kids-removable, ground-removable}
use Rattle.number_laws.proofs.NumberedPlaces.{valid-numbered}
use Rattle.number_laws.proofs.Checks.{passes}
use Rattle.number_laws.proofs.ByPlace.{Rules, valid-rules, cells-held, put-rules}
use Rattle.number_laws.proofs.Keeping.{Kept, kept-pruned}
use Rattle.number_laws.proofs.Naming.{Named, named, named-leaf, named_in}

-- ---- cells that can go

module _ (g : Grid) (f : Contents) (r : Rules g f) (ps : List Place) (gone : Removable g (held f) ps) where
  left-cells : (q : Place) → shrunk (held f) ps q ≡ held (put ps none f) q
  left-cells q = less (f q) (any (same q) ps)
    where
      less : (o : Option Cell) (b : Bool) → (is_some o && not b) ≡ is_some (cond b none o)
      less none true = refl
      less none false = refl
      less (some x) true = refl
      less (some x) false = refl

  left-rules : Rules g (put ps none f)
  left-rules =
      put-rules f ps none g r
      (subst (λ (c : Place → Bool). Mesh g c) (fun_ext left-cells) (shrunk-mesh g (held f) r.mesh ps gone))
      (λ q t. stayed (held f) ps q (is q t))
      (λ p q i e t. not-gone (held f) ps q (is q t) (gone.below p q i e (stayed (held f) ps q (is q t))))
      (λ q y i e. absurd (none-ne-some _ e))
    where
      is : (q : Place) → T (held (put ps none f) q) → T (shrunk (held f) ps q)
      is q t = rw (left-cells q) t

taken-kept : (s : State) → Valid s → (ps : List Place) → ((q : Place) → In q ps → T (cells s.entries q)) → Removable (grid_of s) (cells s.entries) ps → Kept s ps none (with_entries s (prune (grid_of s) (fill ps none s.entries)))
taken-kept s v ps there gone =
    kept-pruned s v ps none there (left-rules (grid_of s) (contents s.entries) (valid-rules s v) ps (rw (cells-held s.entries (valid-numbered v)) at gone))

module _ (s : State) (v : Valid s) (n : ℕ) where
  abbrev p : Place
  p = place_at s.entries n

  -- ---- "remove the four kids"

  sentenced-leaf : (q : Place) → T (held_sentenced (contents s.entries) q) → T (leaf (grid_of s) (cells s.entries) q)
  sentenced-leaf q t = go (contents s.entries q) refl t
    where
      go : (o : Option Cell) → contents s.entries q ≡ o → T (or_else false (λ x. x.sentenced) o) → T (leaf (grid_of s) (cells s.entries) q)
      go none e u = absurd u
      go (some x) e u = rw (cells-held s.entries (valid-numbered v)) (((valid-rules s v).each q x e).sentence u).1

  -- the cell and its kids, which are leaves
  pub remove-passed : refusal (loose_checks s (remove n)) ≡ 0 → Named s n × ((q : Place) → parent q ≡ some (place_at s.entries n) → T (leaf (grid_of s) (cells s.entries) q))
  unfolding loose_checks
  remove-passed h =
      let (d, h₁) = named s v n _ h in
      let (_, h₂) = passes 13 _ _ (λ z. omega arith) h₁ in
      let (b, _) = passes 14 _ _ (λ z. omega arith) h₂ in
      let sentenced : T (all (held_sentenced (contents s.entries)) (kids p)) = is-yes (all (held_sentenced (contents s.entries)) (kids p)) (not-false (all (held_sentenced (contents s.entries)) (kids p)) b) in
      (d, λ q e. sentenced-leaf q (all-kids (held_sentenced (contents s.entries)) p sentenced q e))

  pub remove-kept : refusal (loose_checks s (remove n)) ≡ 0 → Kept s (kids (place_at s.entries n)) none (effect s (remove n))
  unfolding effect
  remove-kept h =
      let (d, leaves) = remove-passed h in
      taken-kept s v (kids p)
      (λ q i. leaf-cell (grid_of s) (cells s.entries) q (leaves q (in-parent q p i)))
      (kids-removable (grid_of s) (cells s.entries) v.mesh p d.is-there leaves)

  -- ---- "kill a level-0 cell"

  -- the cell, which is a leaf on level 0, and another one there
  pub kill-passed : refusal (loose_checks s (kill n)) ≡ 0 → Named s n × ((place_at s.entries n).depth ≡ base (grid_of s)) × T (leaf (grid_of s) (cells s.entries) (place_at s.entries n))
      × ((o : Place) × (o.depth ≡ base (grid_of s)) × T (cells s.entries o) × (o ≡ place_at s.entries n → ⊥))
  unfolding loose_checks
  kill-passed h =
      let (d, h₁) = named s v n _ h in
      let (a, h₂) = passes 12 _ _ (λ z. omega arith) h₁ in
      let (b, h₃) = passes 8 _ _ (λ z. omega arith) h₂ in
      let (c, _) = passes 15 _ _ (λ z. omega arith) h₃ in
      let e : p.depth ≡ base (grid_of s) = eqb-true _ _ (not-false (eqb p.depth (base (grid_of s))) a) in
      (d, e, named-leaf v d b, another (not-false (any_ground (grid_of s) (λ q. held (contents s.entries) q && not (same q p))) c))
    where
      another : any_ground (grid_of s) (λ q. held (contents s.entries) q && not (same q p)) ≡ true → (o : Place) × (o.depth ≡ base (grid_of s)) × T (cells s.entries o) × (o ≡ p → ⊥)
      another e =
          let (o, f, t, other) = other-ground (grid_of s) (held (contents s.entries)) p (is-yes (any_ground (grid_of s) (λ q. held (contents s.entries) q && not (same q p))) e) in
          (o, f, rw (cells-held s.entries (valid-numbered v)) t, other)

  pub kill-kept : refusal (loose_checks s (kill n)) ≡ 0 → Kept s (place_at s.entries n ∷ []) none (effect s (kill n))
  unfolding effect
  kill-kept h =
      let (d, e, l, (o, f, t, other)) = kill-passed h in
      taken-kept s v (p ∷ []) (named_in d) (ground-removable (grid_of s) (cells s.entries) v.mesh p o l e f t other)
