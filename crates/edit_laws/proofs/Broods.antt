-- A table grows level by level: the kids of a place that the rectangle has, those of every place of a level, and so the levels of a build.
-- Assumes nothing.
use Prim.Native.Nat.{ℕ, zero, suc, ◌+◌, ◌-◌, ◌/◌}
use native.Mathlib.Omega.{arith}
use mathlib.Core.Path.{◌≡◌, refl, sym, ap, ◌∙◌, subst}
use mathlib.Core.Bool.{Bool}
use mathlib.Core.Option.{some}
use mathlib.Core.List.{List, [], ◌∷◌, ◌++◌, map, append_assoc, append-nil}
use lib.ListN.{length, length-append}
use Rattle.number_laws.specs.Numbered.{Patches}
use Rattle.edit_laws.specs.BuildSoFar.{bare, Grown, InTurn, Room, toward, born}
use Rattle.mesh.specs.Call.{Rectangle}
use Rattle.mesh.specs.Tools.{flat}
use Rattle.mesh.specs.Place.{Place, Grid, base, compass, kid, Wind, NE, SE, SW, NW, In}
use Rattle.mesh.specs.Mesh.{patch}
use Rattle.mesh.specs.State.{place_of, entry}
use Rattle.mesh.specs.Build.{full, next_level, levels}
use Rattle.mesh.proofs.Winds.{rule}
use Rattle.place_laws.proofs.Lists.{keep_append}
use Rattle.place_laws.proofs.Places.{in-here, in-there}
use Rattle.place_laws.proofs.Distinct.{append-distinct}
use Rattle.place_laws.proofs.SideDigits.{kid_by}
use Rattle.number_laws.proofs.Levels.{next_level_lem}
use Rattle.edit_laws.specs.Built.{Growth, each_row, grow, grow_kids, grow_level, grow_levels, ground_from}
use Rattle.edit_laws.proofs.GrowingTable.{bare-longer, turn-longer, last-in-turn, grow-one}

room-before : (cap : ℕ) (ps rs : List Place) → Room cap (ps ++ rs) → Room cap ps
room-before cap ps rs (d, f) = ((append-distinct ps rs d).0, omega (arith, length-append ps rs))

module _ (g : Grid) where
  abbrev there : Place → Bool
  there = patch g (full g)

  -- the first of them, and then the others
  split-kid : (o : Place) (w : Wind) (ws : List Wind) (ps : List Place) → ps ++ toward g o (w ∷ ws) ≡ ps ++ toward g o (w ∷ []) ++ toward g o ws
  split-kid o w ws ps = ap (λ (qs : List Place). ps ++ qs) (keep_append there (kid w o ∷ []) (map (λ w. kid w o) ws)) ∙ sym (append_assoc ps (toward g o (w ∷ [])) (toward g o ws))

  split-brood : (q : Place) (qs ps : List Place) → ps ++ next_level g (q ∷ qs) ≡ ps ++ born g q ++ next_level g qs
  unfolding next_level
  split-brood q qs ps =
      ap (λ (rs : List Place). ps ++ rs) (keep_append there (map (λ w. kid w q) (SW ∷ NW ∷ SE ∷ NE ∷ [])) (flat (map (λ p. kid SW p ∷ kid NW p ∷ kid SE p ∷ kid NE p ∷ []) qs)))
      ∙ sym (append_assoc ps (born g q) (next_level g qs))

  pub room-kid : (cap : ℕ) (o : Place) (w : Wind) (ws : List Wind) (ps : List Place) → Room cap (ps ++ toward g o (w ∷ ws))
      → Room cap (ps ++ toward g o (w ∷ []) ++ toward g o ws) × Room cap (ps ++ toward g o (w ∷ []))
  room-kid cap o w ws ps room = let all = subst (λ (qs : List Place). Room cap qs) (split-kid o w ws ps) room in (all, room-before cap (ps ++ toward g o (w ∷ [])) (toward g o ws) all)

  pub room-brood : (cap : ℕ) (q : Place) (qs ps : List Place) → Room cap (ps ++ next_level g (q ∷ qs)) → Room cap (ps ++ born g q ++ next_level g qs) × Room cap (ps ++ born g q)
  room-brood cap q qs ps room = let all = subst (λ (rs : List Place). Room cap rs) (split-brood q qs ps) room in (all, room-before cap (ps ++ born g q) (next_level g qs) all)

module _ (g : Grid) (cap : ℕ) (in-range : Rectangle g) where
  -- ---- the kids of one place

  -- to these winds
  abbrev grows : ℕ → ℕ → List Wind → Growth → Growth
  grows up p [] r = r
  grows up p (w ∷ ws) r = grows up p ws (grow g cap (base g) up p ((compass w).east / 2) ((compass w).north / 2) r)

  pub grow-kid : (up p : ℕ) (o : Place) → o.depth + suc up ≡ base g → (w : Wind) (ps : List Place) (r : Growth) → Grown g cap ps r → place_of (entry (bare cap ps) p) ≡ some o
      → Room cap (ps ++ toward g o (w ∷ [])) → Grown g cap (ps ++ toward g o (w ∷ [])) (grow g cap (base g) up p ((compass w).east / 2) ((compass w).north / 2) r)
  unfolding kid kid_by
  grow-kid up p o e w ps r s h (d, f) = grow-one s p ((compass w).east / 2) ((compass w).north / 2) o h (omega (arith, (rule w).east-back)) (omega (arith, (rule w).north-back)) in-range up e d f

  grow-some : (up p : ℕ) (o : Place) → o.depth + suc up ≡ base g → (ws : List Wind) (ps : List Place) (r : Growth) → Grown g cap ps r → place_of (entry (bare cap ps) p) ≡ some o
      → Room cap (ps ++ toward g o ws) → Grown g cap (ps ++ toward g o ws) (grows up p ws r)
  grow-some up p o e [] ps r s h room = rw append-nil s
  grow-some up p o e (w ∷ ws) ps r s h room =
      let (all, one) = room-kid g cap o w ws ps room in
      subst (λ (qs : List Place). Grown g cap qs (grows up p (w ∷ ws) r)) (sym (split-kid g o w ws ps))
      (grow-some up p o e ws (ps ++ toward g o (w ∷ [])) (grow g cap (base g) up p ((compass w).east / 2) ((compass w).north / 2) r) (grow-kid up p o e w ps r s h one)
      (bare-longer cap ps (toward g o (w ∷ [])) p o h) all)

  pub grow-kids : (up p : ℕ) (o : Place) → o.depth + suc up ≡ base g → (ps : List Place) (r : Growth) → Grown g cap ps r → place_of (entry (bare cap ps) p) ≡ some o
      → Room cap (ps ++ born g o) → Grown g cap (ps ++ born g o) (grow_kids g cap (base g) up p r)
  unfolding grow_kids
  grow-kids up p o e ps r s h room = grow-some up p o e (SW ∷ NW ∷ SE ∷ NE ∷ []) ps r s h room

  -- ---- the kids of the places under successive numbers

  pub grow-level : (up : ℕ) (qs ps : List Place) (p : ℕ) (r : Growth) → ((q : Place) → In q qs → q.depth + suc up ≡ base g) → Grown g cap ps r → InTurn (bare cap ps) p qs
      → Room cap (ps ++ next_level g qs) → Grown g cap (ps ++ next_level g qs) (grow_level g cap (base g) up (length qs) p r)
  unfolding each_row next_level
  grow-level up [] ps p r deep s turn room = rw append-nil s
  grow-level up (q ∷ qs) ps p r deep s (h, t) room =
      let (all, one) = room-brood g cap q qs ps room in
      subst (λ (rs : List Place). Grown g cap rs (grow_level g cap (base g) up (suc (length qs)) p r)) (sym (split-brood g q qs ps))
      (grow-level up qs (ps ++ born g q) (p + 1) (grow_kids g cap (base g) up p r) (λ x i. deep x (in-there x q qs i)) (grow-kids up p q (deep q (in-here q q qs refl)) ps r s h one)
      (turn-longer cap ps (born g q) (p + 1) qs t) all)

  -- ---- levels

  -- the levels of a build are the ghosts and then the places of level 0
  pub record Ground (up : ℕ) (qs : List Place) : Type 0 where
    pub ghosts : List Place
    pub floor : List Place
    pub in_order : levels g up qs ≡ ghosts ++ floor
    pub on-floor : Patches g (base g) (base g) floor

  first_of : (n : ℕ) (qs : List Place) → (rest : List Place) × (levels g n qs ≡ qs ++ rest)
  unfolding levels
  first_of zero qs = ([], sym (append-nil qs))
  first_of (suc n) qs = (levels g n (next_level g qs), refl)

  -- the table with these levels more, and the first number of the last of them
  abbrev pub Levelled : ℕ → List Place → List Place → ℕ → Growth → Type 0
  Levelled up ps qs p r =
      (f : Ground up qs) × Grown g cap (ps ++ levels g up qs) (grow_levels g cap (base g) up p r) × (ground_from g cap (base g) up p r ≡ length (ps ++ f.ghosts) + 1)

  levelled-more : (up : ℕ) (ps qs : List Place) (p : ℕ) (r : Growth) → r.next - p ≡ length qs
      → Levelled up (ps ++ qs) (next_level g qs) r.next (grow_level g cap (base g) up (length qs) p r) → Levelled (suc up) ps qs p r
  unfolding levels grow_levels ground_from
  levelled-more up ps qs p r many (f, u, at-floor) =
      rw many (
        record {
          ghosts = qs ++ f.ghosts;
          floor = f.floor;
          in_order = ap (λ (rs : List Place). qs ++ rs) f.in_order ∙ sym (append_assoc qs f.ghosts f.floor);
          on-floor = f.on-floor;
        },
        subst (λ (rs : List Place). Grown g cap rs (grow_levels g cap (base g) up r.next (grow_level g cap (base g) up (length qs) p r))) (append_assoc ps qs (levels g up (next_level g qs))) u,
        at-floor ∙ ap (λ (rs : List Place). length rs + 1) (append_assoc ps qs f.ghosts),
      )

  -- the next level has room where all levels have
  pub room_next : (up : ℕ) (ps qs : List Place) → Room cap (ps ++ levels g (suc up) qs) → Room cap (ps ++ qs ++ levels g up (next_level g qs)) × Room cap (ps ++ qs ++ next_level g qs)
  unfolding levels
  room_next up ps qs room =
      let next = next_level g qs in
      let (rest, first) = first_of up next in
      let all : Room cap (ps ++ qs ++ levels g up next) = subst (λ (rs : List Place). Room cap rs) (sym (append_assoc ps qs (levels g up next))) room in
      let split : ps ++ qs ++ levels g up next ≡ ps ++ qs ++ next ++ rest = ap (λ (rs : List Place). ps ++ qs ++ rs) first ∙ sym (append_assoc (ps ++ qs) next rest) in
      (all, room-before cap (ps ++ qs ++ next) rest (subst (λ (rs : List Place). Room cap rs) split all))

  pub grow-levels : (up e : ℕ) (ps qs : List Place) (p : ℕ) (r : Growth) → e + up ≡ base g → Patches g e e qs → Grown g cap (ps ++ qs) r → p ≡ length ps + 1
      → Room cap (ps ++ levels g up qs) → Levelled up ps qs p r
  unfolding levels grow_levels ground_from
  grow-levels zero e ps qs p r d l s at-end room =
      let z : e ≡ base g = omega arith in
      (record { ghosts = []; floor = qs; in_order = refl; on-floor = rw z at l }, s, rw append-nil at-end)
  grow-levels (suc up) e ps qs p r d l s at-end room =
      let (all, one) = room_next up ps qs room in
      levelled-more up ps qs p r (omega (arith, s.next-is, length-append ps qs))
      (grow-levels up (suc e) (ps ++ qs) (next_level g qs) r.next (grow_level g cap (base g) up (length qs) p r) (omega arith) (next_level_lem g in-range e qs l)
      (grow-level up qs (ps ++ qs) p r (λ q i. let (a, b, c) = l.holds q i in omega arith) s (last-in-turn cap ps qs p at-end) one) s.next-is all)
