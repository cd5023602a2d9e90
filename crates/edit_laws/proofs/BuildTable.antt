-- The table of a build, made step by step, is the picture of the built state: the levels grow from the root, level 0 gets its cells and its
-- flags, and a ghost has none.
-- Assumes nothing.
use Prim.Native.Nat.{ℕ, suc, ◌+◌, ◌-◌, ◌≤◌, ◌<◌}
use native.Mathlib.Omega.{arith}
use native.Mathlib.Decide.{dec_lt}
use mathlib.Core.Path.{◌≡◌, refl, sym, ap, ◌∙◌, subst, fun_ext}
use mathlib.Core.Bool.{Bool, true, false, cond}
use mathlib.Core.Option.{Option, none, some}
use mathlib.Core.List.{List, [], ◌∷◌, ◌++◌, map}
use lib.Dec.{T}
use lib.IntN.{ℤ}
use lib.ListN.{length, get_or, length-append}
use Rattle.edit_laws.specs.Rooted.{Rooted}
use Rattle.edit_laws.specs.BuildSoFar.{dark, bare, Grown, InTurn}
use Rattle.number_laws.specs.Numbered.{Numbered}
use Rattle.mesh.specs.Call.{Rectangle}
use Rattle.mesh.specs.Tools.{any, keep, digits, or_else}
use Rattle.mesh.specs.Place.{Place, Grid, same, root, base, is_ring, In}
use Rattle.mesh.specs.Seam.{opened}
use Rattle.mesh.specs.Mesh.{patch, flags}
use Rattle.mesh.specs.State.{Entry, blank, status, place_of, stands, entry, number}
use Rattle.mesh.specs.Picture.{table}
use Rattle.mesh.specs.Build.{full, numbered, blank_cell, built}
use Rattle.place_laws.proofs.Bools.{is-yes, yes-is, no-is, bool-ext}
use Rattle.place_laws.proofs.Distinct.{keep-in, in-keep}
use Rattle.place_laws.proofs.Tree.{touched-patch, cell-patch}
use Rattle.place_laws.proofs.Walls.{ghost-flags}
use Rattle.place_laws.proofs.Base.{lap-many, open_is, patch-below}
use Rattle.place_laws.proofs.Full.{full-cell, full-mesh, full-depth}
use Rattle.number_laws.proofs.Entries.{stands-in}
use Rattle.number_laws.proofs.NumberedPlaces.{number-place, numbered-not-zero}
use Rattle.number_laws.proofs.Levels.{first-level, numbered-distinct, numbered-patch, patch-numbered}
use Rattle.number_laws.proofs.WrittenPlaces.{written-there, written_entry}
use Rattle.number_laws.proofs.Building.{built-numbered, built-contents, built-cells}
use Rattle.table_laws.proofs.Pictured.{digit_at}
use Rattle.edit_laws.specs.Linked.{Flags, table_with, flags_of}
use Rattle.edit_laws.specs.Anew.{point_row}
use Rattle.edit_laws.specs.Built.{Growth, each_row, grow_levels, ground_from, start, seam_row, linked_table, ground_table, build_table}
use Rattle.edit_laws.proofs.Linked.{picture-linked}
use Rattle.edit_laws.proofs.Setting.{flags-same}
use Rattle.edit_laws.proofs.FlagsAnew.{bit, Ready, Walled, wall_flags}
use Rattle.edit_laws.proofs.PassingRows.{among, among-all, new_at, ready-new, pass-rows}
use Rattle.edit_laws.proofs.Walling.{walls_of, mesh_of, walls-cell, walls-point, wall-step, point-step}
use Rattle.edit_laws.proofs.GrowingTable.{last-in-turn}
use Rattle.edit_laws.proofs.Broods.{Ground, grow-levels}
use Rattle.edit_laws.proofs.Started.{started}
use Rattle.edit_laws.proofs.Sewing.{sew}
use Rattle.edit_laws.proofs.Grounding.{complete_at, put-ground}
use Rattle.edit_laws.proofs.Alike.{table-alike}

-- a linked table whose only flag is Complete
pub record CellsAlone (g : Grid) (cap : ℕ) (t : List ℤ) : Type 0 where
  pub entries : List Entry
  pub flags : Flags
  pub rooted : Rooted g cap entries
  pub is-linked : t ≡ table_with g entries flags
  pub small : (p : Place) → flags p ≤ 1

module _ (g : Grid) (cap : ℕ) (in-range : Rectangle g) (low : 5 ≤ cap) (high : cap ≤ 4095) (fits : length (numbered g) ≤ cap) where
  -- ---- all levels

  -- the places of a build, those of level 0 last
  abbrev Floor : Type 0
  Floor = Ground g cap in-range (base g) (root ∷ [])

  abbrev end : Growth
  end = grow_levels g cap (base g) (base g) 1 (start g cap (base g))

  abbrev from : ℕ
  from = ground_from g cap (base g) (base g) 1 (start g cap (base g))

  grown : (f : Floor) × Grown g cap (numbered g) end × (from ≡ length f.ghosts + 1)
  unfolding numbered
  grown = grow-levels g cap in-range (base g) 0 [] (root ∷ []) 1 (start g cap (base g)) (omega arith) (first-level g in-range) (started g cap in-range (omega arith) high) refl (numbered-distinct g in-range, fits)

  pub build-next : (grow_levels g cap (base g) (base g) 1 (start g cap (base g))).next ≡ length (numbered g) + 1
  build-next = grown.1.next-is

  -- ---- level 0

  -- nothing is sentenced
  abbrev mesh_flags : Flags
  mesh_flags p = mesh_of g (full g) p false

  abbrev es : List Entry
  es = bare cap (numbered g)

  module _ (f : Floor) where
    in_order : numbered g ≡ f.ghosts ++ f.floor
    unfolding numbered
    in_order = f.in_order

    on-floor : (q : Place) → In q f.floor → q.depth ≡ base g
    on-floor q i = let (a, b, t) = f.on-floor.holds q i in omega arith

    -- the cells are the places of level 0 in the rectangle
    floor-cells : (q : Place) → any (same q) (keep (full g) f.floor) ≡ full g q
    floor-cells q =
        bool-ext (any (same q) (keep (full g) f.floor)) (full g q)
        (λ t. (keep-in (full g) f.floor q t).1)
        (λ t.
        let d = (full-cell g q t).0 in
        in-keep (full g) f.floor q (f.on-floor.all_of q (omega arith) (omega arith) (cell-patch g (full g) (full-mesh g in-range) q t)) t)

    -- they alone have a flag
    abbrev marked : Flags
    marked = complete_at (keep (full g) f.floor) dark

    ready : Ready g es marked (full g) (base g)
    ready = record {
      mesh = full-mesh g in-range;
      stood = λ q d t.
          let (n, h) = written-there (λ p. none) (cap - length (numbered g)) (numbered g) q (patch-numbered g in-range q (touched-patch g (full g) q (omega arith) t)) in
          stands-in es (suc n) q (ap place_of h);
      complete = λ q d t. rw (floor-cells q) (one (full g q));
      boundaries_h = λ q d l t. absurd (omega arith);
      boundaries_v = λ q d l t. absurd (omega arith);
    }
      where
        one : (b : Bool) → bit 0 (cond b 1 0) ≡ b
        one true = refl
        one false = refl

    unsentenced : (q : Place) → bit 12 (marked q) ≡ false
    unsentenced q = one (any (same q) (keep (full g) f.floor))
      where
        one : (b : Bool) → bit 12 (cond b 1 0) ≡ false
        one true = refl
        one false = refl

    -- ---- walls first

    abbrev floor_places : List (Option Place)
    floor_places = map some f.floor

    abbrev walls : Flags
    walls = new_at (walls_of g (full g)) floor_places marked

    -- what stands on level 0 is one of its places
    floor-all : (n : ℕ) (p : Place) → place_of (entry es n) ≡ some p → base g ≤ p.depth → among p floor_places ≡ true
    floor-all n p h d =
        let t : T (patch g (full g) p) = numbered-patch g in-range p (written_entry (λ p. none) (cap - length (numbered g)) (numbered g) (numbered-distinct g in-range) n p h).0 in
        among-all p f.floor ∙ yes-is (any (same p) f.floor) (f.on-floor.all_of p d (full-depth g p t) t)

    walled : Numbered es → Walled g es walls (full g) (base g)
    unfolding wall_flags
    walled numbers = record {
      ready = ready-new (walls_of g (full g)) (walls-cell g (full g)) ready floor_places (λ q t. on-floor q (subst T (among-all q f.floor) t));
      walls_h = bits 1;
      walls_v = bits 2;
      boundary_h = bits 4;
      boundary_v = bits 5;
      green_h = bits 8;
      green_v = bits 9;
    }
      where
        bits : (k : ℕ) (q : Place) → q.depth ≡ base g → T (any (stands q) es) → bit k (walls q) ≡ get_or (wall_flags g (full g) q (bit 12 (marked q))) k false
        bits k q d t =
            rw (floor-all (number es q) q (number-place es q (numbered-not-zero es numbers q t)) (omega arith))
            (digit_at (wall_flags g (full g) q (bit 12 (marked q))) k)

    -- ---- the flags of every place

    abbrev finished : Flags
    finished = new_at (mesh_of g (full g)) floor_places walls

    settled-flags : (n : ℕ) (p : Place) → place_of (entry es n) ≡ some p → finished p ≡ mesh_flags p
    settled-flags n p h = go (dec_lt p.depth (base g))
      where
        go : Dec (p.depth < base g) → finished p ≡ mesh_flags p
        go (yes l) =
            rw (no-is (among p floor_places) (λ t. omega (arith, on-floor p (subst T (among-all p f.floor) t))), floor-cells p, no-is (full g p) (λ u. omega (arith, (full-cell g p u).0)))
            (sym (ghost-flags g (full g) (full-mesh g in-range) p l))
        go (no l) = rw (floor-all n p h (omega (arith, l))) (ap (mesh_of g (full g) p) (walls-point g (full g) p (bit 12 (marked p)) ∙ unsentenced p))

    -- ---- the table

    module _ (u : Grown g cap (numbered g) end) (e : from ≡ length f.ghosts + 1) where
      many : end.next - from ≡ length f.floor
      many = omega (arith, u.next-is, ap length in_order, length-append f.ghosts f.floor)

      turn : InTurn es from f.floor
      turn = rw in_order (last-in-turn cap f.ghosts f.floor from e)

      rooted : Rooted g cap es
      unfolding base
      rooted = record {
        numbered = u.rooted.numbered;
        long = u.rooted.long;
        sizes = u.rooted.sizes;
        laps = lap-many g in-range;
        first-root = u.rooted.first-root;
        top = u.rooted.top;
        deepest = u.rooted.deepest;
        parents = u.rooted.parents;
      }

      linked : linked_table g cap (base g) ≡ table_with g es dark
      unfolding linked_table
      linked = go (is_ring g) refl
        where
          patched : (n : ℕ) (p : Place) → place_of (entry es n) ≡ some p → T (patch g (full g) p)
          patched n p h = numbered-patch g in-range p (written_entry (λ p. none) (cap - length (numbered g)) (numbered g) (numbered-distinct g in-range) n p h).0

          go : (b : Bool) → is_ring g ≡ b → cond b (each_row (seam_row g cap (base g)) (end.next - from) from end.words) end.words ≡ table_with g es dark
          go false o = u.words_are ∙ ap (λ (h : Grid). table_with h es dark) (open_is g in-range o)
          go true o =
              rw (many, u.words_are)
              (sew rooted dark o (omega (arith, in-range.5 (is-yes (is_ring g) o))) f.floor from turn
              (λ n p h d. let t = patched n p h in (omega (arith, d, full-depth g p t), f.on-floor.all_of p d (full-depth g p t) t))
              (λ n p h. patch-below g (full g) (full-mesh g in-range) p (patched n p h)) on-floor)

      ground : ground_table g cap (base g) ≡ table_with g es marked
      unfolding ground_table
      ground = rw (many, linked) (put-ground rooted f.floor from dark turn on-floor)

      done : build_table g cap (base g) ≡ table_with g es finished
      unfolding build_table
      done =
          rw (many, ground)
          (ap (each_row (point_row cap) (length f.floor) from) (pass-rows rooted (wall-step rooted (full g) (base g) (omega arith)) f.floor from marked turn on-floor ready)
          ∙ pass-rows rooted (point-step rooted (full g) (base g) (omega arith)) f.floor from walls turn on-floor (walled rooted.numbered))

  pub grown-linked : CellsAlone (opened g) cap (grow_levels g cap (base g) (base g) 1 (start g cap (base g))).words
  grown-linked = let (f, u, e) = grown in record { entries = es; flags = dark; rooted = u.rooted; is-linked = u.words_are; small = λ p. omega arith }

  pub ground-linked : CellsAlone g cap (ground_table g cap (base g))
  ground-linked =
      let (f, u, e) = grown in
      record { entries = es; flags = marked f; rooted = rooted f u e; is-linked = ground f u e; small = λ p. one (any (same p) (keep (full g) f.floor)) }
    where
      one : (b : Bool) → cond b 1 0 ≤ 1
      one true = omega arith
      one false = omega arith

  -- ---- the picture of the built state

  built-flags : (p : Place) → flags_of g (built g cap).entries p ≡ mesh_flags p
  unfolding flags_of
  built-flags p = rw (built-contents g cap in-range p, fun_ext (built-cells g cap in-range)) (go (full g p))
    where
      go : (b : Bool) → digits (flags g (full g) p (or_else false (λ x. x.sentenced) (cond b (some blank_cell) none))) ≡ mesh_flags p
      go true = refl
      go false = refl

  built-linked : table_with g es (mesh_flags) ≡ table (built g cap)
  unfolding built
  built-linked =
      table-alike (λ p. none) (λ p. cond (full g p) (some blank_cell) none) (cap - length (numbered g)) g (mesh_flags) (λ p. blank-status (full g p)) (numbered g)
      ∙ ap (table_with g (built g cap).entries) (sym (fun_ext built-flags))
      ∙ sym (picture-linked (built g cap) (built-numbered g cap in-range))
    where
      blank-status : (b : Bool) → status blank ≡ status (or_else blank (λ x. x.value) (cond b (some blank_cell) none))
      blank-status true = refl
      blank-status false = refl

  pub build-table : build_table g cap (base g) ≡ table (built g cap)
  build-table = let (f, u, e) = grown in done f u e ∙ flags-same g es (finished f) (mesh_flags) (settled-flags f) ∙ built-linked
