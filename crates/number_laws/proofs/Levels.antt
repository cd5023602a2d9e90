-- The numbering of a build holds exactly the patches, each once, the root first: from a list of all patches of one depth, `next_level` makes
-- the list of the next, because a patch's parent is a patch and no two places have a kid in common.
-- Assumes nothing.
use Prim.Native.Nat.{ℕ, zero, suc, ◌+◌, ◌≤◌, ◌<◌}
use native.Mathlib.Omega.{arith}
use native.Mathlib.Decide.{dec_le}
use mathlib.Core.Path.{◌≡◌, refl, sym, ap, ◌∙◌}
use mathlib.Core.Logic.{◌⊎◌, inl, inr}
use mathlib.Core.Bool.{not}
use mathlib.Core.Option.{some, some-injective}
use mathlib.Core.List.{List, [], ◌∷◌, ◌++◌, map}
use lib.Dec.{T, eqb, eqb_refl, T_not}
use lib.ListN.{get_or}
use Rattle.number_laws.specs.Numbered.{Patches}
use Rattle.mesh.specs.Call.{Rectangle}
use Rattle.mesh.specs.Tools.{any, all, flat}
use Rattle.mesh.specs.Place.{Place, Grid, same, root, base, Wind, NE, SE, SW, NW, kid, kids, parent, In, Distinct}
use Rattle.mesh.specs.Mesh.{patch}
use Rattle.mesh.specs.Build.{full, next_level, levels, numbered}
use Rattle.place_laws.proofs.Bools.{and_left, and_right}
use Rattle.place_laws.proofs.Lists.{at_every, any_at}
use Rattle.place_laws.proofs.Places.{same_refl, in-cases, in-here, in_one, all_in}
use Rattle.place_laws.proofs.Counting.{any-parts, parts-any}
use Rattle.place_laws.proofs.Kids.{up, parent_up, up_depth, parent-depth, parent_in, some-kid, turn, turn_of, turn-kid}
use Rattle.place_laws.proofs.Tree.{patch-up}
use Rattle.place_laws.proofs.Base.{depth-zero-root, root-patch}
use Rattle.place_laws.proofs.Full.{full-mesh, full-depth}
use Rattle.place_laws.proofs.Distinct.{in-append, append_left, append_right, distinct_append, keep-in, in-keep, keep-distinct}

-- ---- the kids of a list of places

-- a place's kids in the order of a build
abbrev born : Place → List Place
born p = map (λ w. kid w p) (SW ∷ NW ∷ SE ∷ NE ∷ [])

born-kid : (p q : Place) → parent q ≡ some p → In q (born p)
unfolding kids
born-kid p q e =
    all_in (λ r. any (same r) (born p)) (kids p)
    (at_every (map (λ r. any (same r) (born p)) (kids p)) (is NE 3 (omega arith) refl, (is SE 2 (omega arith) refl, (is SW 0 (omega arith) refl, (is NW 1 (omega arith) refl, tt)))))
    q (parent_in q p e)
  where
    is : (w : Wind) (k : ℕ) → k < 4 → get_or (born p) k root ≡ kid w p → In (kid w p) (born p)
    is w k l h = any_at (same (kid w p)) root (born p) k l (rw h (same_refl (kid w p)))

-- the kids of one place differ: their winds go to different sides
same_turn : (p : Place) (w v : Wind) → kid w p ≡ kid v p → turn w ≡ turn v
same_turn p w v e = sym (turn-kid w p) ∙ ap turn_of e ∙ turn-kid v p

pub other-kids : (p : Place) (w : Wind) (ws : List Wind) → T (all (λ v. not (eqb (turn w) (turn v))) ws) → In (kid w p) (map (λ v. kid v p) ws) → ⊥
other-kids p w [] h t = t
other-kids p w (v ∷ ws) h t =
    let a = not (eqb (turn w) (turn v)) in
    let b = all (λ v. not (eqb (turn w) (turn v))) ws in
    go (and_left a b h) (in-cases (kid w p) (kid v p) (map (λ v. kid v p) ws) t) (other-kids p w ws (and_right a b h))
  where
    go : T (not (eqb (turn w) (turn v))) → (kid w p ≡ kid v p) ⊎ In (kid w p) (map (λ v. kid v p) ws) → (In (kid w p) (map (λ v. kid v p) ws) → ⊥) → ⊥
    go d (inl e) ih = T_not (eqb (turn w) (turn v)) d (rw (same_turn p w v e) (eqb_refl (turn v)))
    go d (inr i) ih = ih i

born-distinct : (p : Place) → Distinct (born p)
born-distinct p = (other-kids p SW (NW ∷ SE ∷ NE ∷ []) tt, (other-kids p NW (SE ∷ NE ∷ []) tt, (other-kids p SE (NE ∷ []) tt, (other-kids p NE [] tt, tt))))

abbrev brood : List Place → List Place
brood ps = flat (map born ps)

brood-parent : (ps : List Place) (q : Place) → In q (brood ps) → (p : Place) × In p ps × (parent q ≡ some p)
brood-parent ps q t = let (p, i, u) = any-parts (same q) born ps t in (p, i, some-kid p q (SW ∷ NW ∷ SE ∷ NE ∷ []) u)

parent-brood : (ps : List Place) (p q : Place) → In p ps → parent q ≡ some p → In q (brood ps)
parent-brood ps p q i e = parts-any (same q) born p ps i (born-kid p q e)

brood-distinct : (ps : List Place) → Distinct ps → Distinct (brood ps)
brood-distinct [] o = tt
brood-distinct (p ∷ ps) o = distinct_append (born p) (brood ps) (born-distinct p) (brood-distinct ps o.1) apart
  where
    apart : (q : Place) → In q (born p) → In q (brood ps) → ⊥
    apart q i j =
        let (r, k, e) = brood-parent ps q j in
        let h : r ≡ p = some-injective _ _ (sym e ∙ some-kid p q (SW ∷ NW ∷ SE ∷ NE ∷ []) i) in
        o.0 (rw h at k)

-- ---- level by level

module _ (g : Grid) (in-range : Rectangle g) where
  pub first-level : Patches g 0 0 (root ∷ [])
  first-level = record {
    once = (λ t. t, tt);
    holds = λ q t. rw (in_one q root t) (omega arith, omega arith, root-patch g (full g) (full-mesh g in-range) in-range);
    all_of = λ q l h t. in-here q root [] (depth-zero-root g (full g) (full-mesh g in-range) in-range q (omega arith) t);
  }

  pub next_level_lem : (e : ℕ) (ps : List Place) → Patches g e e ps → Patches g (suc e) (suc e) (next_level g ps)
  unfolding next_level
  next_level_lem e ps l = record {
    once = keep-distinct (patch g (full g)) (brood ps) (brood-distinct ps l.once);
    holds = λ q t.
        let (i, u) = keep-in (patch g (full g)) (brood ps) q t in
        let (p, j, h) = brood-parent ps q i in
        let (a, b, v) = l.holds p j in
        (omega (arith, parent-depth q p h), omega (arith, parent-depth q p h), u);
    all_of = λ q a b t.
        let z : 0 < q.depth = omega arith in
        let d = up_depth q z in
        let i = l.all_of (up q) (omega arith) (omega arith) (patch-up g (full g) (full-mesh g in-range) q z t) in
        in-keep (patch g (full g)) (brood ps) q (parent-brood ps (up q) q i (parent_up q z)) t;
  }

  -- the patches of some depths, and then those of the depths that follow
  joined : (a b c : ℕ) (ps rs : List Place) → a ≤ b → b ≤ c → Patches g a b ps → Patches g (suc b) c rs → Patches g a c (ps ++ rs)
  joined a b c ps rs ab bc l m = record {
    once = distinct_append ps rs l.once m.once (λ q i j. let (v, w, t) = l.holds q i in let (x, y, u) = m.holds q j in omega arith);
    holds = λ q t. member q (in-append q ps rs t);
    all_of = λ q x y t. place q x y t (dec_le q.depth b);
  }
    where
      member : (q : Place) → In q ps ⊎ In q rs → (a ≤ q.depth) × (q.depth ≤ c) × T (patch g (full g) q)
      member q (inl i) = let (x, y, t) = l.holds q i in (x, omega arith, t)
      member q (inr i) = let (x, y, t) = m.holds q i in (omega arith, y, t)

      place : (q : Place) → a ≤ q.depth → q.depth ≤ c → T (patch g (full g) q) → Dec (q.depth ≤ b) → In q (ps ++ rs)
      place q x y t (yes h) = append_left q ps rs (l.all_of q x h t)
      place q x y t (no h) = append_right q ps rs (m.all_of q (omega arith) y t)

  more-levels : (n a b : ℕ) (ps : List Place) → a + n ≡ b → Patches g a a ps → Patches g a b (levels g n ps)
  unfolding levels
  more-levels zero a b ps e l = let z : b ≡ a = omega arith in rw z l
  more-levels (suc n) a b ps e l =
      joined a a b ps (levels g n (next_level g ps)) (omega arith) (omega arith) l (more-levels n (suc a) b (next_level g ps) (omega arith) (next_level_lem a ps l))

  all-levels : Patches g 0 (base g) (numbered g)
  unfolding numbered
  all-levels = more-levels (base g) 0 (base g) (root ∷ []) (omega arith) first-level

  -- ---- the numbering of a build

  pub numbered-distinct : Distinct (numbered g)
  numbered-distinct = all-levels.once

  pub numbered-patch : (q : Place) → In q (numbered g) → T (patch g (full g) q)
  numbered-patch q t = let (a, b, u) = all-levels.holds q t in u

  pub patch-numbered : (q : Place) → T (patch g (full g) q) → In q (numbered g)
  patch-numbered q t = all-levels.all_of q (omega arith) (full-depth g q t) t

levels-first : (g : Grid) (n : ℕ) (p : Place) (ps : List Place) → (rest : List Place) × (levels g n (p ∷ ps) ≡ p ∷ rest)
unfolding levels
levels-first g zero p ps = (ps, refl)
levels-first g (suc n) p ps = (ps ++ levels g n (next_level g (p ∷ ps)), refl)

pub numbered-first : (g : Grid) → (rest : List Place) × (numbered g ≡ root ∷ rest)
unfolding numbered
numbered-first g = levels-first g (base g) root []
