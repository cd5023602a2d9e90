-- New patches are supplied on the table as on the entries: the smallest free number is that of the free rows, and the row under it is linked in,
-- without a flag.
-- Assumes nothing.
use Prim.Native.Nat.{ℕ, ◌+◌, ◌-◌, ◌≤◌, ◌<◌}
use native.Mathlib.Omega.{arith}
use native.Mathlib.Decide.{ℕ_discrete}
use mathlib.Core.Path.{◌≡◌, refl, sym, ap, ◌∙◌, fun_ext}
use mathlib.Core.Logic.{◌≢◌}
use mathlib.Core.Bool.{Bool, true, false}
use mathlib.Core.Option.{none, some}
use mathlib.Core.List.{List, [], ◌∷◌, map}
use lib.IntN.{ℤ}
use lib.ListN.{set}
use borrow.Author.Tests.{eq-eqb, ne_eqb}
use Rattle.edit_laws.specs.Rooted.{Rooted}
use Rattle.mesh.specs.Place.{Place, Grid, base, same, parent, Wind, In, Distinct}
use Rattle.mesh.specs.State.{State, Entry, used, place_of, is_free, entry, number, number_of, free_count, next_free}
use Rattle.mesh.specs.Request.{supply, give}
use Rattle.place_laws.proofs.Bools.{is-yes}
use Rattle.place_laws.proofs.Laps.{Smooth, smooth-above}
use Rattle.place_laws.proofs.Places.{same-is, mapped, in-here, in-there, in_one}
use Rattle.place_laws.proofs.SideDigits.{kid_by, kid-by-parent}
use Rattle.number_laws.proofs.NumberedPlaces.{number-place}
use Rattle.number_laws.proofs.Giving.{Next, next-free, lacking, lacking-append, lacking-after, Gave, supply-gave, kept-number}
use Rattle.table.specs.Words.{free_at}
use Rattle.edit_laws.specs.Linked.{Flags, table_with, with_flags}
use Rattle.edit_laws.specs.PatchSteps.{link_in}
use Rattle.free.specs.Free.{next_in}
use Rattle.free.proofs.FirstFree.{search-hit}
use Rattle.edit_laws.specs.Tables.{Spot, kid_at, over_spots, supplied, supplied_all}
use Rattle.edit_laws.proofs.FreeNumbers.{Alive, free-at}
use Rattle.edit_laws.proofs.Adding.{link-in, link-in-rooted}
use Rattle.edit_laws.proofs.Named.{AllNamed, no_more, one_more, named-same, named-depth, kid-link}

-- ---- a table that shows the entries

-- where no patch stands there are no flags
abbrev pub Blank : List Entry → Flags → Type 0
Blank es f = (q : Place) → number es q ≡ 0 → f q ≡ 0

pub record Shows (g : Grid) (cap : ℕ) (f : Flags) (s : State) (t : List ℤ) : Type 0 where
  pub rooted : Rooted g cap s.entries
  pub is-table : t ≡ table_with g s.entries f
  pub blank : Blank s.entries f

-- ---- one patch

module _ {g : Grid} {cap : ℕ} {f : Flags} (alive : Alive f) {s : State} {t : List ℤ} (h : Shows g cap f s t) (x : Spot) (o : Place)
    (is_row : x.parent ≡ number s.entries o) (there : number s.entries o ≢ 0) (l-digit : x.l ≤ 1) (m-digit : x.m ≤ 1) (room : o.depth < base g + 12) (low : base g ≤ o.depth)
    (enough : lacking s.entries (kid_by x.l x.m o ∷ []) ≤ free_count s.entries) where
  abbrev es : List Entry
  es = s.entries

  abbrev q : Place
  q = kid_by x.l x.m o

  -- above level 0 a step goes as the parent's does
  smooth : (w : Wind) → Smooth g w (kid_by x.l x.m o)
  unfolding kid_by
  smooth w = smooth-above g w (kid_by x.l x.m o) (omega arith)

  kid-number : kid_at t cap x ≡ number es q
  kid-number = rw (h.is-table, is_row) (kid-link h.rooted f x.l x.m l-digit m-digit (some o))

  number-found : Next s → next_in t cap ≡ next_free s
  unfolding next_in
  number-found next = rw h.is-table (
      search-hit (free_at (table_with g es f)) cap 1 (next_free s - 1) (next_free s) (omega (arith, next.not-nil)) (omega (arith, next.inside, next.not-nil, h.rooted.long))
      (λ j _ l. rw (free-at g es f alive) (next.smallest j l))
      (rw (free-at g es f alive) (ap is_free next.vacant))
      )

  blank-after : Gave s (supply s q) (q ∷ []) → Blank (supply s q).entries f
  blank-after k p z = go (ℕ_discrete (number es p) 0)
    where
      go : Dec (number es p ≡ 0) → f p ≡ 0
      go (yes y) = h.blank p y
      go (no y) = absurd (y (sym (kept-number k p y) ∙ z))

  -- it is missing
  module _ (z : number es q ≡ 0) (next : Next s) where
    abbrev more : List Entry
    more = set es (next_free s) (used q none)

    own : place_of (entry es x.parent) ≡ some o
    own = rw is_row (number-place es o there)

    no-flags : with_flags q 0 f ≡ f
    no-flags = fun_ext (λ p. go p (same p q) refl)
      where
        go : (p : Place) (b : Bool) → same p q ≡ b → with_flags q 0 f p ≡ f p
        go p true e = rw e (sym (ap f (same-is p q (is-yes (same p q) e)) ∙ h.blank q z))
        go p false e = rw e

    new-table : link_in t cap (base g) x.parent x.l x.m (next_free s) ≡ table_with g more f
    new-table =
        rw h.is-table
        (link-in h.rooted f (next_free s) x.parent x.l x.m o next.vacant own l-digit m-digit z room smooth ∙ ap (table_with g more) no-flags)

    new-rooted : Rooted g cap more
    new-rooted = link-in-rooted h.rooted f (next_free s) x.parent x.l x.m o next.vacant own l-digit m-digit z room smooth

  pub supply-shows : Shows g cap f (supply s (kid_by x.l x.m o)) (supplied cap (base g) x t)
  unfolding supply supplied
  supply-shows = go (ℕ_discrete (number es q) 0) (blank-after (supply-gave s h.rooted.numbered q enough))
    where
      go : Dec (number es q ≡ 0) → Blank (supply s q).entries f → Shows g cap f (supply s q) (supplied cap (base g) x t)
      go (no z) b = rw (kid-number, ne_eqb (number es q) 0 z) h
      go (yes z) b =
          let i = eq-eqb (number es q) 0 z in
          let c : 0 < free_count es = rw i at enough in
          let next = next-free s h.rooted.numbered.zeroth c in
          rw (kid-number, i, number-found next, ne_eqb (next_free s) 0 next.not-nil, new-table z next) (record { rooted = new-rooted z next; is-table = refl; blank = rw i at b })

-- ---- several patches

pub give-shows : {g : Grid} {cap : ℕ} {f : Flags} → Alive f → {e : ℕ} → e < base g + 12 → base g ≤ e → {xs : List Spot} (qs : List Place) {s : State} {t : List ℤ} → Shows g cap f s t
    → AllNamed s.entries e xs (map some qs) → ((q o : Place) → In q qs → parent q ≡ some o → number s.entries o ≢ 0)
    → Distinct qs → lacking s.entries qs ≤ free_count s.entries → Shows g cap f (give s qs) (supplied_all cap (base g) xs t)
unfolding give over_spots
give-shows alive room low [] h no_more there d enough = h
give-shows {g} {cap} {f} alive {e} room low (q ∷ qs) {s} {t} h (one_more {x = x} {xs = xs} n ns) there d enough =
    let (o, a, k) = mapped (kid_by x.l x.m) q n.above n.is-kid in
    let above : parent q ≡ some o = ap parent (sym k) ∙ kid-by-parent x.l x.m o n.l-digit n.m-digit in
    let sum = lacking-append s.entries (q ∷ []) qs in
    let first : Gave s (supply s q) (q ∷ []) = supply-gave s h.rooted.numbered q (omega arith) in
    let apart : (p : Place) → In p (q ∷ []) → In p qs → ⊥ = λ p i j. d.0 (rw (in_one p q i) at j) in
    let stay : (p : Place) → p.depth ≡ e → number s.entries p ≡ number (supply s q).entries p =
    λ p y. sym (first.elsewhere p (λ i. omega (arith, named-depth n, ap (λ (z : Place). z.depth) (in_one p q i)))) in
    let one = supply-shows alive h x o (n.is_row ∙ ap (number_of s.entries) a) (there q o (in-here q q qs refl) above) n.l-digit n.m-digit (rw (n.level o a) room) (rw (n.level o a) low) (rw k (omega arith)) in
    give-shows alive room low {xs = xs} qs (rw k at one) (named-same stay ns)
    (λ p r i a z. let y = there p r (in-there p q qs i) a in y (sym (kept-number first r y) ∙ z)) d.1
    (omega (arith, lacking-after (q ∷ []) qs first apart, first.free-fewer))
