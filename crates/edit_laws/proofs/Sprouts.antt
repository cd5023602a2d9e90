-- What a build knows of its table between two steps: which kids, which rows of a level and which levels are still to grow, and that there is room
-- for them. Each step leaves this for the rest.
-- Assumes nothing.
use Prim.Native.Nat.{ℕ, zero, suc, ◌+◌, ◌-◌, ◌*◌, ◌/◌, ◌^◌, ◌≤◌}
use native.Mathlib.Nat.{one-le-pow, mul-le-mul_left}
use native.Mathlib.Omega.{arith}
use mathlib.Core.Path.{◌≡◌, refl, subst}
use mathlib.Core.Bool.{Bool, true, false, cond}
use mathlib.Core.List.{List, [], ◌∷◌, ◌++◌}
use lib.Dec.{T}
use lib.ListN.{length, length-append}
use Rattle.edit_laws.specs.BuildSoFar.{dark, bare, InTurn, Room, KidsToGrow, LevelToGrow, LevelsToGrow, Able, toward, born}
use Rattle.mesh.specs.Call.{Rectangle}
use Rattle.mesh.specs.Place.{Place, Grid, root, base, compass, kid, Wind, NE, SE, SW, NW, In}
use Rattle.mesh.specs.Seam.{opened, last_j}
use Rattle.mesh.specs.Mesh.{patch}
use Rattle.mesh.specs.Build.{full, next_level, levels, numbered}
use Rattle.mesh.proofs.Winds.{rule}
use Rattle.place_laws.proofs.Places.{in-here, in-there}
use Rattle.place_laws.proofs.SideDigits.{kid_by, kid-by}
use Rattle.place_laws.proofs.Base.{base-range}
use Rattle.place_laws.proofs.Extent.{patch-within, last-j}
use Rattle.number_laws.proofs.Entries.{in_list}
use Rattle.number_laws.proofs.Levels.{first-level, next_level_lem, numbered-distinct}
use Rattle.edit_laws.specs.Built.{Growth, grow, grow_kids, grow_level, start}
use Rattle.edit_laws.proofs.Linked.{i-of, j-of}
use Rattle.edit_laws.proofs.Rooted.{depth-of}
use Rattle.edit_laws.proofs.GrowingTable.{bare-longer, turn-longer, last-in-turn, in-full-patch}
use Rattle.edit_laws.proofs.Broods.{room-kid, room-brood, room_next, grow-kid, grow-kids, grow-level}
use Rattle.edit_laws.proofs.Started.{started}

-- ---- what is to grow

-- ---- one kid

module _ {g : Grid} {cap up p : ℕ} {w : Wind} {ws : List Wind} {r : Growth} (k : KidsToGrow g cap up p (w ∷ ws) r) where
  pub kid-able : Able g cap (base g) up p ((compass w).east / 2) ((compass w).north / 2) r
  unfolding base
  kid-able = record {
    parent_in = omega (arith, in_list (bare cap k.ps) p k.o k.there, k.grown.rooted.long);
    next-in = omega (arith, k.grown.next-is, one.1, length-append k.ps (toward g k.o (w ∷ [])));
    level_in = omega (arith, k.deep, (base-range g in-range).1);
    tall = in-range.2;
    i = rw (k.grown.words_are, i-of (opened g) (bare cap k.ps) dark p k.o k.there) (omega (arith, within.0, in-range.1));
    j = rw (k.grown.words_are, j-of (opened g) (bare cap k.ps) dark p k.o k.there) (omega (arith, within.1, in-range.3));
    depth = rw (k.grown.words_are, depth-of k.grown.rooted dark p k.o k.there) (omega (arith, k.deep, (base-range g in-range).1));
    room = λ t. omega (arith, k.grown.next-is, there-is (rw (in-full-patch k.grown p l m k.o k.there l-digit m-digit in-range up k.deep) at t));
  }
    where
      in-range : Rectangle g
      in-range = k.in-range

      one : Room cap (k.ps ++ toward g k.o (w ∷ []))
      one = (room-kid g cap k.o w ws k.ps k.room).1

      l : ℕ
      l = (compass w).east / 2

      m : ℕ
      m = (compass w).north / 2

      l-digit : l ≤ 1
      l-digit = omega (arith, (rule w).east-back)

      m-digit : m ≤ 1
      m-digit = omega (arith, (rule w).north-back)

      unscaled : (i n b : ℕ) → i * 2 ^ n ≤ b → i ≤ b
      unscaled i n b h = omega (arith, mul-le-mul_left {m = 1} {n = 2 ^ n} i (one-le-pow n 2 (omega arith)))

      within : (k.o.i ≤ g.columns) × (k.o.j ≤ g.rows)
      within = let (x, y) = patch-within g in-range (suc up) k.o k.deep k.is-patch in (unscaled k.o.i (suc up) g.columns x, omega (arith, unscaled k.o.j (suc up) (last_j g) y, last-j g))

      there-is : T (patch g (full g) (kid_by l m k.o)) → length k.ps + 1 ≤ cap
      there-is t = go (patch g (full g) (kid w k.o)) (rw (kid-by w k.o) t) one.1
        where
          go : (b : Bool) → T b → length (k.ps ++ cond b (kid w k.o ∷ []) []) ≤ cap → length k.ps + 1 ≤ cap
          go true t h = omega (arith, length-append k.ps (kid w k.o ∷ []))
          go false t h = absurd t

  pub kids-rest : KidsToGrow g cap up p ws (grow g cap (base g) up p ((compass w).east / 2) ((compass w).north / 2) r)
  kids-rest = record {
    in-range = k.in-range;
    ps = k.ps ++ toward g k.o (w ∷ []);
    o = k.o;
    grown = grow-kid g cap k.in-range up p k.o k.deep w k.ps r k.grown k.there (room-kid g cap k.o w ws k.ps k.room).1;
    there = bare-longer cap k.ps (toward g k.o (w ∷ [])) p k.o k.there;
    deep = k.deep;
    is-patch = k.is-patch;
    room = (room-kid g cap k.o w ws k.ps k.room).0;
  }

-- ---- one row

module _ {g : Grid} {cap up n p : ℕ} {r : Growth} (k : LevelToGrow g cap up (suc n) p r) where
  pub level-kids : KidsToGrow g cap up p (SW ∷ NW ∷ SE ∷ NE ∷ []) r
  level-kids = go k.qs k.many k.turn k.deep k.room
    where
      go : (qs : List Place) → length qs ≡ suc n → InTurn (bare cap k.ps) p qs → ((q : Place) → In q qs → (q.depth + suc up ≡ base g) × T (patch g (full g) q))
          → Room cap (k.ps ++ next_level g qs) → KidsToGrow g cap up p (SW ∷ NW ∷ SE ∷ NE ∷ []) r
      go [] many turn deep room = absurd (omega arith)
      go (q ∷ qs) many (h, turn) deep room =
          let (d, t) = deep q (in-here q q qs refl) in
          record { in-range = k.in-range; ps = k.ps; o = q; grown = k.grown; there = h; deep = d; is-patch = t; room = (room-brood g cap q qs k.ps room).1 }

  pub level-rest : LevelToGrow g cap up n (p + 1) (grow_kids g cap (base g) up p r)
  level-rest = go k.qs k.many k.turn k.deep k.room
    where
      go : (qs : List Place) → length qs ≡ suc n → InTurn (bare cap k.ps) p qs → ((q : Place) → In q qs → (q.depth + suc up ≡ base g) × T (patch g (full g) q))
          → Room cap (k.ps ++ next_level g qs) → LevelToGrow g cap up n (p + 1) (grow_kids g cap (base g) up p r)
      go [] many turn deep room = absurd (omega arith)
      go (q ∷ qs) many (h, turn) deep room =
          let (all, one) = room-brood g cap q qs k.ps room in
          record {
            in-range = k.in-range;
            ps = k.ps ++ born g q;
            qs = qs;
            grown = grow-kids g cap k.in-range up p q (deep q (in-here q q qs refl)).0 k.ps r k.grown h one;
            turn = turn-longer cap k.ps (born g q) (p + 1) qs turn;
            many = omega arith;
            deep = λ x i. deep x (in-there x q qs i);
            room = all;
          }

-- ---- one level

module _ {g : Grid} {cap up p : ℕ} {r : Growth} (k : LevelsToGrow g cap (suc up) p r) where
  level-many : length k.qs ≡ r.next - p
  level-many = omega (arith, k.grown.next-is, k.from, length-append k.ps k.qs)

  level-deep : (q : Place) → In q k.qs → (q.depth + suc up ≡ base g) × T (patch g (full g) q)
  level-deep q i = let (a, b, t) = k.patches.holds q i in (omega (arith, k.deep), t)

  pub levels-level : LevelToGrow g cap up (r.next - p) p r
  levels-level = record {
    in-range = k.in-range;
    ps = k.ps ++ k.qs;
    qs = k.qs;
    grown = k.grown;
    turn = last-in-turn cap k.ps k.qs p k.from;
    many = level-many;
    deep = level-deep;
    room = (room_next g cap k.in-range up k.ps k.qs k.room).1;
  }

  pub levels-rest : LevelsToGrow g cap up r.next (grow_level g cap (base g) up (r.next - p) p r)
  levels-rest = subst (λ (n : ℕ). LevelsToGrow g cap up r.next (grow_level g cap (base g) up n p r)) level-many (record {
    in-range = k.in-range;
    e = suc k.e;
    ps = k.ps ++ k.qs;
    qs = next_level g k.qs;
    grown =
        grow-level g cap k.in-range up k.qs (k.ps ++ k.qs) p r (λ q i. (level-deep q i).0) k.grown (last-in-turn cap k.ps k.qs p k.from)
        (room_next g cap k.in-range up k.ps k.qs k.room).1;
    from = k.grown.next-is;
    deep = omega (arith, k.deep);
    patches = next_level_lem g k.in-range k.e k.qs k.patches;
    room = (room_next g cap k.in-range up k.ps k.qs k.room).0;
  })

pub levels-start : (g : Grid) (cap : ℕ) → Rectangle g → 1 ≤ cap → cap ≤ 4095 → length (numbered g) ≤ cap → LevelsToGrow g cap (base g) 1 (start g cap (base g))
unfolding numbered
levels-start g cap in-range low high fits = record {
  in-range = in-range;
  e = 0;
  ps = [];
  qs = root ∷ [];
  grown = started g cap in-range low high;
  from = refl;
  deep = omega arith;
  patches = first-level g in-range;
  room = (numbered-distinct g in-range, fits);
}

-- ---- the numbers in between

pub level-bound : {g : Grid} {cap up n p : ℕ} {r : Growth} → LevelToGrow g cap up n p r → r.next ≤ cap + 1
level-bound {g} k = omega (arith, k.grown.next-is, k.room.1, length-append k.ps (next_level g k.qs))

pub levels-bounds : {g : Grid} {cap p : ℕ} {r : Growth} (up : ℕ) → LevelsToGrow g cap up p r → (1 ≤ p) × (p ≤ r.next) × (r.next ≤ cap + 1)
unfolding levels
levels-bounds zero k = (omega (arith, k.from), omega (arith, k.from, k.grown.next-is, length-append k.ps k.qs), omega (arith, k.grown.next-is, k.room.1))
levels-bounds (suc up) k = (omega (arith, k.from), omega (arith, k.from, k.grown.next-is, length-append k.ps k.qs), level-bound (levels-level k))
