-- What an accepted request moves by the rows of a picture is what it moves in the state: so the counts become those of the state after.
-- Assumes nothing.
use Prim.Native.Nat.{ℕ, zero, suc, ◌+◌, ◌*◌, ◌≤◌, ◌<◌}
use native.Mathlib.Omega.{arith}
use mathlib.Core.Path.{◌≡◌, sym, ap, ◌∙◌}
use mathlib.Core.Logic.{◌≢◌}
use mathlib.Core.Bool.{Bool, true, false, cond}
use mathlib.Core.Option.{some}
use mathlib.Core.List.{[], ◌∷◌}
use lib.Dec.{T, eqb}
use lib.Ieee.{Float}
use borrow.Author.Tests.{ne_eqb, eqb-false}
use Rattle.mesh.specs.Tools.{count}
use Rattle.mesh.specs.Place.{Place, Wind, NE, SE, SW, NW, kid_winds, base, kid, kids}
use Rattle.mesh.specs.Winds.{word_of_wind, ◌of◌}
use Rattle.mesh.specs.State.{State, Entry, used, Cell, status, value_of, place_of, entry, cells, number, place_at, grid_of, capacity}
use Rattle.mesh.specs.Valid.{Valid}
use Rattle.mesh.specs.Picture.{level_word, table, amounts}
use Rattle.mesh.specs.LeafCounts.{count_places, count_place}
use Rattle.mesh.specs.Carrying.{inherited}
use Rattle.mesh.specs.Refusal.{refusal}
use Rattle.mesh.specs.Request.{refine, remove, kill, set_value, loose_checks, effect}
use Rattle.place_laws.proofs.Kids.{kid-depth, parent-kid, leaf-cell}
use Rattle.number_laws.proofs.Checks.{passes}
use Rattle.number_laws.proofs.Entries.{cell-somewhere}
use Rattle.number_laws.proofs.NumberedPlaces.{valid-numbered, place-number}
use Rattle.number_laws.proofs.Naming.{Named, named}
use Rattle.number_laws.proofs.Taking.{remove-passed, kill-passed}
use Rattle.table.specs.Words.{word_of, link_of}
use Rattle.carried.specs.Carried.{status_of, carried_of, passed_down}
use Rattle.table_laws.proofs.Pictured.{carried-there}
use Rattle.table_laws.proofs.LinkedRows.{link-kid}
use Rattle.tally_laws.specs.Moves.{spot, leaving, coming, its_status}
use Rattle.tally_laws.proofs.RequestCounts.{effect-counts}
use Rattle.tally.specs.TallyRows.{row_place, Placed, LevelBelow, KidsPlaced, refined_move, removed_move, killed_move, measured_move}
use Rattle.tally.proofs.RowPlaces.{passed-status}
use Rattle.tally.proofs.Moving.{Balanced}
use Rattle.tally.proofs.PicturedPlaces.{place_inside, spot-at, status-passed, row-depth, row-placed, row-spot}

-- ---- what is counted at a place

cond-many : (n : ℕ) (b : Bool) → cond b n 0 ≡ n * cond b 1 0
cond-many n true = omega arith
cond-many n false = omega arith

none-past : (i j : ℕ) → i < count_places → count_places ≤ j → ◌≡◌ {A = ℕ} (cond (eqb j i) 1 0) 0
none-past i j l h = rw (ne_eqb j i (λ e. omega arith))

module _ (s : State) (v : Valid s) where
  abbrev place : ℕ → ℕ
  place n = row_place (table s) (amounts s) n

  module _ (n : ℕ) (d : Named s n) where
    abbrev p : Place
    p = place_at s.entries n

    abbrev w : ℕ
    w = word_of (table s) n level_word

    pub named-placed : Placed (table s) (amounts s) n
    named-placed = row-placed s v n p d.its d.is-entry

    depth_is : p.depth ≡ base (grid_of s) + w
    depth_is = row-depth s v n p d.its d.is-entry

    -- the cell itself
    own-spot : (l k : ℕ) → k ≤ 2 → cond (eqb (count_place l k) (place n)) 1 0 ≡ spot (grid_of s) l k p.depth (its_status s n)
    own-spot l k low = row-spot s v n p d.its d.is-entry l k low ∙ ap (λ (e : Entry). spot (grid_of s) l k p.depth (status (value_of e))) (sym d.is-entry)

    -- a cell of another level or status in its stead
    other-spot : (l k a b c : ℕ) → k ≤ 2 → c ≤ 2 → b ≡ base (grid_of s) + a → cond (eqb (count_place l k) (count_place a c)) 1 0 ≡ spot (grid_of s) l k b c
    other-spot l k a b c low few e = sym (spot-at s v l k a c low few) ∙ ap (λ (x : ℕ). spot (grid_of s) l k x c) (sym e)

    one-past : (j : ℕ) → count_places ≤ j → count (eqb j) (place n ∷ []) ≡ 0
    one-past j h = omega (arith, none-past (place n) j (place_inside s n named-placed) h)

  -- ---- refine

  module _ (n : ℕ) (ok : refusal (loose_checks s (refine n)) ≡ 0) where
    refine-named : Named s n × ((place_at s.entries n).depth ≢ base (grid_of s) + 12)
    unfolding loose_checks
    refine-named =
        let (d, h₁) = named s v n _ ok in
        let (_, h₂) = passes 8 _ _ (λ z. omega arith) h₁ in
        let (a, _) = passes 9 _ _ (λ z. omega arith) h₂ in
        (d, eqb-false _ _ a)

    pub refine-placed : Placed (table s) (amounts s) n × LevelBelow (table s) n
    refine-placed =
        let (d, low) = refine-named in
        let p = named-placed n d in
        let e = depth_is n d in
        let not_last : word_of (table s) n level_word ≢ 12 = λ z. low (omega arith) in
        (p, omega (arith, p.level, not_last))

    pub refine-balanced : Balanced s (effect s (refine n)) (refined_move (table s) (amounts s) n)
    unfolding leaving coming
    refine-balanced =
        let d = refine-named.0 in
        let (p, low) = refine-placed in
        let x = carried_of (table s) (amounts s) n in
        let e : status_of (passed_down x) ≡ status (inherited (value_of (entry s.entries n))) = ap (λ y. status_of (passed_down y)) (carried-there s n) ∙ status-passed (value_of (entry s.entries n)) in
        let few = passed-status x in
        record {
          inside = omega (arith, low, few);
          within = one-past n d;
          few = omega arith;
          balance = λ l k a b.
              let into = count_place (word_of (table s) n level_word + 1) (status_of (passed_down x)) in
              let z : cond (eqb (count_place l k) into) 4 0 ≡ 4 * spot (grid_of s) l k (suc (place_at s.entries n).depth) (status (inherited (value_of (entry s.entries n)))) =
              cond-many 4 (eqb (count_place l k) into)
              ∙ ap (λ (y : ℕ). 4 * y) (other-spot n d l k (word_of (table s) n level_word + 1) (suc (place_at s.entries n).depth) (status_of (passed_down x)) b few (omega (arith, depth_is n d)) ∙ ap (spot (grid_of s) l k (suc (place_at s.entries n).depth)) e) in
              omega (arith, effect-counts s v (refine n) ok l k, own-spot n d l k b, z);
        }

  -- ---- kill and set value

  module _ (n : ℕ) (ok : refusal (loose_checks s (kill n)) ≡ 0) where
    pub kill-placed : Placed (table s) (amounts s) n
    kill-placed = named-placed n (kill-passed s v n ok).0

    pub kill-balanced : Balanced s (effect s (kill n)) (killed_move (table s) (amounts s) n)
    unfolding leaving coming
    kill-balanced =
        let d = (kill-passed s v n ok).0 in
        record {
          inside = place_inside s n kill-placed;
          within = one-past n d;
          few = omega arith;
          balance = λ l k a b. omega (arith, effect-counts s v (kill n) ok l k, own-spot n d l k b, cond-many 0 (eqb (count_place l k) (place n)));
        }

  module _ (n : ℕ) (x : Float) (ok : refusal (loose_checks s (set_value n x)) ≡ 0) where
    set-named : Named s n
    unfolding loose_checks
    set-named = (named s v n _ ok).0

    pub set-placed : Placed (table s) (amounts s) n
    set-placed = named-placed n set-named

    pub set-balanced : Balanced s (effect s (set_value n x)) (measured_move (table s) (amounts s) n x)
    unfolding leaving coming
    set-balanced = record {
      inside = omega (arith, set-placed.level);
      within = one-past n set-named;
      few = omega arith;
      balance = λ l k a b.
          omega (arith, effect-counts s v (set_value n x) ok l k, own-spot n set-named l k b, other-spot n set-named l k (word_of (table s) n level_word) (place_at s.entries n).depth 1 b (omega arith) (depth_is n set-named));
    }

  -- ---- remove

  module _ (n : ℕ) (ok : refusal (loose_checks s (remove n)) ≡ 0) where
    abbrev q : Wind → Place
    q u = kid u (place_at s.entries n)

    d : Named s n
    d = (remove-passed s v n ok).0

    -- the kids are cells, each under its word
    record Kid (u : Wind) : Type 0 where
      its : Cell
      is-entry : entry s.entries (number s.entries (q u)) ≡ used (q u) (some its)
      is-link : link_of (table s) (capacity s) n (word_of_wind u) ≡ number s.entries (q u)

    kid-there : (u : Wind) → T (u of kid_winds) → Kid u
    kid-there u t =
        let (m, x, e) = cell-somewhere s.entries (q u) (leaf-cell (grid_of s) (cells s.entries) (q u) ((remove-passed s v n ok).1 (q u) (parent-kid u (place_at s.entries n)))) in
        let same : number s.entries (q u) ≡ m = place-number s.entries (valid-numbered v) m (q u) (ap place_of e) in
        let own : number s.entries (place_at s.entries n) ≡ n = place-number s.entries (valid-numbered v) n (place_at s.entries n) (ap place_of d.is-entry) in
        record {
          its = x;
          is-entry = ap (entry s.entries) same ∙ e;
          is-link = ap (λ (i : ℕ). link_of (table s) (capacity s) i (word_of_wind u)) (sym own) ∙ link-kid s v u t (some (place_at s.entries n));
        }

    kid-placed : (u : Wind) → T (u of kid_winds) → Placed (table s) (amounts s) (link_of (table s) (capacity s) n (word_of_wind u))
    kid-placed u t = let k = kid-there u t in rw k.is-link (row-placed s v (number s.entries (q u)) (q u) k.its k.is-entry)

    kid-spot : (u : Wind) → T (u of kid_winds) → (l k : ℕ) → k ≤ 2
        → cond (eqb (count_place l k) (place (link_of (table s) (capacity s) n (word_of_wind u)))) 1 0 ≡ spot (grid_of s) l k (suc (place_at s.entries n).depth) (its_status s (number s.entries (q u)))
    kid-spot u t l k low =
        let z = kid-there u t in
        rw z.is-link
        (row-spot s v (number s.entries (q u)) (q u) z.its z.is-entry l k low
        ∙ (λ i. spot (grid_of s) l k (kid-depth u (place_at s.entries n) i) (status (value_of (sym z.is-entry i)))))

    pub remove-placed : Placed (table s) (amounts s) n × KidsPlaced (table s) (amounts s) (capacity s) n
    remove-placed = (named-placed n d, four)
      where
        four : KidsPlaced (table s) (amounts s) (capacity s) n
        four zero a b = absurd (omega arith)
        four (suc zero) a b = kid-placed NE tt
        four (suc (suc zero)) a b = kid-placed SE tt
        four (suc (suc (suc zero))) a b = kid-placed SW tt
        four (suc (suc (suc (suc zero)))) a b = kid-placed NW tt
        four (suc (suc (suc (suc (suc m))))) a b = absurd (omega arith)

    past : (u : Wind) → T (u of kid_winds) → (j : ℕ) → count_places ≤ j → ◌≡◌ {A = ℕ} (cond (eqb j (place (link_of (table s) (capacity s) n (word_of_wind u)))) 1 0) 0
    past u t j h = none-past (place (link_of (table s) (capacity s) n (word_of_wind u))) j (place_inside s _ (kid-placed u t)) h

    pub remove-balanced : Balanced s (effect s (remove n)) (removed_move (table s) (amounts s) (capacity s) n)
    unfolding leaving coming kids
    remove-balanced = record {
      inside = place_inside s n remove-placed.0;
      within = λ j h. omega (arith, past NE tt j h, past SE tt j h, past SW tt j h, past NW tt j h);
      few = omega arith;
      balance = λ l k a b.
          omega (arith, effect-counts s v (remove n) ok l k, own-spot n d l k b, kid-spot NE tt l k b, kid-spot SE tt l k b, kid-spot SW tt l k b, kid-spot NW tt l k b);
    }
