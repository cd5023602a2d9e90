-- The numbers that the rules give: those of a build, of an accepted refinement and of a change of cells.
-- Assumes nothing.
use Prim.Native.Nat.{ℕ, zero, suc, ◌-◌, ◌≤◌, ◌<◌}
use native.Mathlib.Omega.{arith}
use mathlib.Core.Path.{◌≡◌, refl, sym, ap, ◌∙◌}
use mathlib.Core.Logic.{◌≢◌}
use mathlib.Core.Bool.{Bool, true, false, cond}
use mathlib.Core.Option.{Option, none, some, none-ne-some}
use mathlib.Core.List.{List, [], ◌∷◌, ◌++◌, map}
use lib.ListN.{length, get_or, replicate}
use Rattle.mesh.specs.Tools.{any}
use Rattle.mesh.specs.Place.{Place, Grid, same, kids, In}
use Rattle.mesh.specs.Mesh.{patch}
use Rattle.mesh.specs.State.{State, nil, free, used, Cell, place_of, is_free, entry, cells, number, place_at, free_count, grid_of, next_free}
use Rattle.mesh.specs.Valid.{Valid}
use Rattle.mesh.specs.Build.{full, numbered, blank_cell, built}
use Rattle.mesh.specs.Refusal.{refusal}
use Rattle.mesh.specs.Carrying.{kid_cell}
use Rattle.mesh.specs.Request.{refine, wanted, loose_checks, give, new_cell, effect, marked}
use Rattle.place_laws.proofs.Bools.{yes-is, is-yes}
use Rattle.place_laws.proofs.Distinct.{append-distinct}
use Rattle.place_laws.proofs.Base.{lap-many}
use Rattle.place_laws.proofs.Wanted.{wanted-distinct}
use Rattle.number_laws.proofs.NumberedPlaces.{valid-numbered, number-place, place-number}
use Rattle.number_laws.proofs.WrittenPlaces.{free-none}
use Rattle.number_laws.proofs.Filling.{fill-number}
use Rattle.number_laws.proofs.Giving.{Next, Change, stays, taken, lacking, lacking-append, lacking-after, Gave, gave, kept-number}
use Rattle.number_laws.proofs.Turns.{give-append}
use Rattle.number_laws.proofs.Keeping.{Kept}
use Rattle.number_laws.proofs.Refining.{refinable, have, refine-frame, refine-stays, refine-number, refine-turn}
use Rattle.mesh.specs.Deed.{Deed, refined}
use Rattle.demand_laws.specs.Numbers.{NumberedAs, turns, FreeBehind, Smallest, Numbers}

-- ---- a build

pub built-numbers : (g : Grid) (cap : ℕ) → NumberedAs (numbered g) (built g cap)
unfolding built
built-numbers g cap = written (numbered g)
  where
    written : (ps : List Place) (k : ℕ)
        → place_of (get_or (map (λ p. used p (cond (full g p) (some blank_cell) none)) ps ++ replicate (cap - length (numbered g)) free) k nil) ≡ get_or (map some ps) k none
    written [] k = free-none (cap - length (numbered g)) k
    written (p ∷ ps) zero = refl
    written (p ∷ ps) (suc k) = written ps k

-- ---- a refinement

module _ (s : State) (v : Valid s) (n : ℕ) (ok : refusal (loose_checks s (refine n)) ≡ 0) where
  abbrev t : State
  t = effect s (refine n)

  abbrev order : List Place
  order = wanted (grid_of s) (place_at s.entries n)

  filled-number : (r : Place) → number t.entries r ≡ number (give s order).entries r
  unfolding effect
  filled-number r = fill-number (kids (place_at s.entries n)) (new_cell s n kid_cell) (give s order).entries r

  all-given : Gave s (give s order) order
  all-given = let (p, x, r) = refinable s v n ok in rw r.stood (have s v n p x r)

  room : lacking s.entries order ≤ free_count s.entries
  room = let (p, x, r) = refinable s v n ok in rw r.stood r.room

  module _ (xs ys : List Place) (q : Place) (e : order ≡ xs ++ q ∷ ys) where
    -- the places before have their turn, and then those behind
    abbrev between : State
    between = give s xs

    halves : Gave s between xs × Gave between (give between (q ∷ ys)) (q ∷ ys)
    halves =
        let (a, b, apart) = append-distinct xs (q ∷ ys) (rw e at (wanted-distinct (grid_of s) (place_at s.entries n) (lap-many (grid_of s) v.rectangle (place_at s.entries n).depth))) in
        let sum = lacking-append s.entries xs (q ∷ ys) in
        let fits : lacking s.entries (xs ++ q ∷ ys) ≤ free_count s.entries = rw e at room in
        let before = gave xs a s (valid-numbered v) (omega arith) in
        (before, gave (q ∷ ys) b between before.numbered (omega (arith, lacking-after xs (q ∷ ys) before apart, before.free-fewer)))

    -- a number that is taken before this turn stays taken
    stays-taken : (r : Place) → number between.entries r ≢ 0 → number t.entries r ≡ number between.entries r
    stays-taken r h =
        filled-number r
        ∙ ap (λ (l : List Place). number (give s l).entries r) e
        ∙ ap (λ (u : State). number u.entries r) (give-append xs (q ∷ ys) s)
        ∙ kept-number halves.1 r h

    refine-smallest : number s.entries q ≡ 0 → Smallest (FreeBehind s t xs) (number t.entries q)
    refine-smallest z =
        let (next, is) = refine-turn s v n ok xs ys q e z in
        rw is (record {
          holds = (was_free (next_free between) next.vacant (halves.0.change (next_free between)), λ r i h. apart r i next h);
          none_below = λ m l (f, others). taken-below m l next f others (halves.0.change m);
        })
      where
        was_free : (m : ℕ) → entry between.entries m ≡ free → Change xs (entry s.entries m) (entry between.entries m) → entry s.entries m ≡ free
        was_free m f (stays e) = sym e ∙ f
        was_free m f (taken r a b i) = a

        apart : (r : Place) → In r xs → Next between → number t.entries r ≡ next_free between → ⊥
        apart r i next h =
            let there = halves.0.there r i in
            let k : number between.entries r ≡ next_free between = sym (stays-taken r there) ∙ h in
            none-ne-some _ (ap place_of (sym next.vacant) ∙ ap (λ (m : ℕ). place_of (entry between.entries m)) (sym k) ∙ number-place between.entries r there)

        taken-below : (m : ℕ) → m < next_free between → Next between → entry s.entries m ≡ free → ((r : Place) → In r xs → number t.entries r ≢ m)
            → Change xs (entry s.entries m) (entry between.entries m) → ⊥
        taken-below m l next f others (stays e) = let x : true ≡ false = sym (ap is_free (e ∙ f)) ∙ next.smallest m l in let y : ◌≡◌ {A = ℕ} 0 1 = cc in omega arith
        taken-below m l next f others (taken r a b i) =
            let k = place-number between.entries halves.0.numbered m r (ap place_of b) in
            others r i (stays-taken r (halves.0.there r i) ∙ k)

  refine-in-turn : (q : Place) → number s.entries q ≡ 0 → number t.entries q ≢ 0 → In q order
  refine-in-turn q z h = go (any (same q) order) refl
    where
      go : (b : Bool) → any (same q) order ≡ b → In q order
      go true i = is-yes (any (same q) order) i
      go false i = absurd (h (filled-number q ∙ all-given.elsewhere q (λ y. rw i at y) ∙ z))

  pub refine-numbers : Numbers s (refined (place_at s.entries n)) t
  refine-numbers = record {
    keeps = λ q h y. refine-number s v n ok q h;
    frees = λ m q h f. absurd (f (rw (refine-frame s v n ok).0 (refine-stays s v n ok q (v.each m q h))));
    takes = refine-smallest;
    in-turn = refine-in-turn;
  }

-- ---- other cells or none: no patch is new

pub kept-numbers : {s t : State} {ps : List Place} {x : Option Cell} (d : Deed) → turns (grid_of s) d ≡ [] → Kept s ps x t → Numbers s d t
kept-numbers {s} {t} d none-new k = record {
  keeps = λ q h y. k.number_is q ∙ rw (yes-is (patch (grid_of s) (cells t.entries) q) (rw k.header_is at y));
  frees = λ n q h f. k.freed n q h (λ y. f (rw k.header_is y));
  takes = λ xs ys q e z. absurd (no-turn xs ys q (sym none-new ∙ e));
  in-turn = λ q z h. absurd (h (k.number_is q ∙ unnumbered (patch (grid_of s) (cells t.entries) q) (number s.entries q) z));
}
  where
    no-turn : (xs ys : List Place) (q : Place) → [] ≡ xs ++ q ∷ ys → ⊥
    no-turn [] ys q e = let z : ◌≡◌ {A = ℕ} 0 1 = cc in omega arith
    no-turn (x ∷ xs) ys q e = let z : ◌≡◌ {A = ℕ} 0 1 = cc in omega arith

    unnumbered : (b : Bool) (n : ℕ) → n ≡ 0 → cond b n 0 ≡ 0
    unnumbered true n e = e
    unnumbered false n e = refl

-- the mark plays no part
pub marked-numbers : (s : State) (d : Deed) (t : State) → Numbers s d t → Numbers s d (marked t)
unfolding marked
marked-numbers s d t k = record { keeps = k.keeps; frees = k.frees; takes = k.takes; in-turn = k.in-turn }
