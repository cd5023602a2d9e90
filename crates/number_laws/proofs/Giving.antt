-- New patches at places where they are missing: each takes the smallest free number, and everything that has a place stays.
-- Assumes nothing.
use Prim.Native.Nat.{ℕ, suc, ◌+◌, ◌≤◌, ◌<◌}
use native.Mathlib.Nat.{zero-add}
use native.Mathlib.Decide.{ℕ_discrete}
use native.Mathlib.Omega.{arith}
use mathlib.Core.Path.{◌≡◌, refl, sym, ap, ◌∙◌, subst}
use mathlib.Core.Logic.{◌≢◌, ◌⊎◌, inl, inr}
use mathlib.Core.Bool.{Bool, true, false, cond}
use mathlib.Core.Option.{none, some, none-ne-some}
use mathlib.Core.List.{List, [], ◌∷◌, ◌++◌}
use lib.Dec.{eqb}
use lib.ListN.{length, set, length-set}
use lib.Seq.{get_or-set_same, get_or-set_other}
use borrow.Author.Tests.{eq-eqb, ne_eqb}
use Rattle.number_laws.specs.Numbered.{Numbered}
use Rattle.mesh.specs.Tools.{count, first, keep}
use Rattle.mesh.specs.Place.{Place, same, In, Distinct}
use Rattle.mesh.specs.State.{State, Entry, nil, free, used, place_of, cell_of, is_free, is_used, stands, entry, number, free_count, in_use, with_entries, next_free, contents}
use Rattle.mesh.specs.Request.{supply, give}
use Rattle.place_laws.proofs.Bools.{no-is}
use Rattle.place_laws.proofs.Lists.{first-hit, first-before, first_found_lem, first-set, count_set, count-more}
use Rattle.place_laws.proofs.Places.{same-is, in-here, in_one}
use Rattle.place_laws.proofs.Distinct.{in-append, append_left, append_right, keep_same}
use Rattle.number_laws.proofs.Entries.{free-is}
use Rattle.number_laws.proofs.NumberedPlaces.{number-place, place-number, unnumbered}

-- ---- the next free number

pub record Next (s : State) : Type 0 where
  pub not-nil : next_free s ≢ 0
  pub vacant : entry s.entries (next_free s) ≡ free
  pub inside : next_free s < length s.entries
  pub smallest : (m : ℕ) → m < next_free s → is_free (entry s.entries m) ≡ false

found : (s : State) → next_free s ≢ 0 → Next s
unfolding next_free
found s nz =
    let (k, e, l, t) = first-hit is_free nil 0 s.entries nz in
    let is : first is_free 0 s.entries ≡ k = e ∙ zero-add k in
    record {
      not-nil = nz;
      vacant = free-is (entry s.entries (first is_free 0 s.entries)) (rw is t);
      inside = rw is l;
      smallest = λ m h. first-before is_free nil 0 s.entries k m e (rw is at h);
    }

-- where a number is free, there is a next one: it is not 0, which is the nil patch's
pub next-free : (s : State) → entry s.entries 0 ≡ nil → 0 < free_count s.entries → Next s
unfolding next_free free_count
next-free s z c = found s (go s.entries z c)
  where
    go : (es : List Entry) → entry es 0 ≡ nil → 0 < count is_free es → first is_free 0 es ≢ 0
    go [] z c = absurd (omega arith)
    go (x ∷ es) z c = rw z (first_found_lem is_free nil 1 es (omega arith) (let d : 0 < 0 + count is_free es = rw z at c in omega arith))

-- ---- what giving makes

-- an entry is what it was, or it was free and is a patch without a cell at one of the places
pub data Change (qs : List Place) (a b : Entry) : Type 0 where
  stays : b ≡ a → Change qs a b
  taken : (q : Place) → a ≡ free → b ≡ used q none → In q qs → Change qs a b

-- how many of the places have no number
abbrev pub lacking : List Entry → List Place → ℕ
lacking es qs = length (keep (λ q. eqb (number es q) 0) qs)

pub record Gave (s t : State) (qs : List Place) : Type 0 where
  pub header-same : t.header ≡ s.header
  pub long_same : length t.entries ≡ length s.entries
  pub numbered : Numbered t.entries
  pub change : (n : ℕ) → Change qs (entry s.entries n) (entry t.entries n)
  pub there : (q : Place) → In q qs → number t.entries q ≢ 0
  pub elsewhere : (q : Place) → (In q qs → ⊥) → number t.entries q ≡ number s.entries q
  pub free-fewer : free_count t.entries + lacking s.entries qs ≡ free_count s.entries
  pub used-more : in_use t.entries ≡ in_use s.entries + lacking s.entries qs

module _ {s t : State} {qs : List Place} (g : Gave s t qs) where
  -- an entry with a place is kept
  pub kept : (n : ℕ) (p : Place) → place_of (entry s.entries n) ≡ some p → entry t.entries n ≡ entry s.entries n
  kept n p h = go (g.change n)
    where
      go : Change qs (entry s.entries n) (entry t.entries n) → entry t.entries n ≡ entry s.entries n
      go (stays e) = e
      go (taken q a b i) = absurd (none-ne-some _ (sym (ap place_of a) ∙ h))

  pub kept-place : (n : ℕ) (p : Place) → place_of (entry s.entries n) ≡ some p → place_of (entry t.entries n) ≡ some p
  kept-place n p h = ap place_of (kept n p h) ∙ h

  -- and so is its number
  pub kept-number : (p : Place) → number s.entries p ≢ 0 → number t.entries p ≡ number s.entries p
  kept-number p h = place-number t.entries g.numbered (number s.entries p) p (kept-place (number s.entries p) p (number-place s.entries p h))

  -- a new patch has no cell
  pub gave-contents : Numbered s.entries → (p : Place) → contents t.entries p ≡ contents s.entries p
  gave-contents u p = go (ℕ_discrete (number s.entries p) 0)
    where
      blank : {es : List Entry} → Numbered es → (n : ℕ) → n ≡ 0 → cell_of (entry es n) ≡ none
      blank {es} v n z = ap (λ (k : ℕ). cell_of (entry es k)) z ∙ ap cell_of v.zeroth

      fresh : number s.entries p ≡ 0 → Dec (number t.entries p ≡ 0) → Change qs (entry s.entries (number t.entries p)) (entry t.entries (number t.entries p)) → contents t.entries p ≡ none
      fresh z (yes y) c = blank g.numbered (number t.entries p) y
      fresh z (no y) (stays e) = absurd (unnumbered s.entries u p z (number t.entries p) (sym (ap place_of e) ∙ number-place t.entries p y))
      fresh z (no y) (taken q a b i) = ap cell_of b

      go : Dec (number s.entries p ≡ 0) → contents t.entries p ≡ contents s.entries p
      go (yes z) = fresh z (ℕ_discrete (number t.entries p) 0) (g.change (number t.entries p)) ∙ sym (blank u (number s.entries p) z)
      go (no h) =
          ap (λ (k : ℕ). cell_of (entry t.entries k)) (kept-number p h)
          ∙ ap cell_of (kept (number s.entries p) p (number-place s.entries p h))

-- ---- one patch

module _ (s : State) (u : Numbered s.entries) (q : Place) (z : number s.entries q ≡ 0) (c : 0 < free_count s.entries) where
  abbrev one_more : State
  one_more = with_entries s (set s.entries (next_free s) (used q none))

  next : Next s
  next = next-free s u.zeroth c

  more_same : entry one_more.entries (next_free s) ≡ used q none
  more_same = get_or-set_same s.entries (next_free s) (used q none) nil next.inside

  more-other : (n : ℕ) → n ≢ next_free s → entry one_more.entries n ≡ entry s.entries n
  more-other n h = get_or-set_other s.entries (next_free s) n (used q none) nil h

  -- an entry of the new list is the new one, or an old one
  more-cases : (n : ℕ) → ((n ≡ next_free s) × (entry one_more.entries n ≡ used q none)) ⊎ (entry one_more.entries n ≡ entry s.entries n)
  more-cases n = go (ℕ_discrete n (next_free s))
    where
      go : Dec (n ≡ next_free s) → ((n ≡ next_free s) × (entry one_more.entries n ≡ used q none)) ⊎ (entry one_more.entries n ≡ entry s.entries n)
      go (yes y) = inl (y, ap (entry one_more.entries) y ∙ more_same)
      go (no y) = inr (more-other n y)

  more-numbered : Numbered one_more.entries
  more-numbered = record {
    zeroth = more-other 0 (λ y. next.not-nil (sym y)) ∙ u.zeroth;
    once = λ n m p a b. both n m p a b (more-cases n) (more-cases m);
  }
    where
      -- no other entry stands at q
      alone : (n m : ℕ) (p : Place) → entry one_more.entries n ≡ used q none → entry one_more.entries m ≡ entry s.entries m → place_of (entry one_more.entries n) ≡ some p → place_of (entry one_more.entries m) ≡ some p → ⊥
      alone n m p x y a b = unnumbered s.entries u q z m (sym (ap place_of y) ∙ b ∙ sym a ∙ ap place_of x)

      both : (n m : ℕ) (p : Place) → place_of (entry one_more.entries n) ≡ some p → place_of (entry one_more.entries m) ≡ some p
          → ((n ≡ next_free s) × (entry one_more.entries n ≡ used q none)) ⊎ (entry one_more.entries n ≡ entry s.entries n)
          → ((m ≡ next_free s) × (entry one_more.entries m ≡ used q none)) ⊎ (entry one_more.entries m ≡ entry s.entries m) → n ≡ m
      both n m p a b (inl x) (inl y) = x.0 ∙ sym y.0
      both n m p a b (inl x) (inr y) = absurd (alone n m p x.1 y a b)
      both n m p a b (inr x) (inl y) = absurd (alone m n p y.1 x b a)
      both n m p a b (inr x) (inr y) = u.once n m p (sym (ap place_of x) ∙ a) (sym (ap place_of y) ∙ b)

  more-number : number one_more.entries q ≡ next_free s
  more-number = place-number one_more.entries more-numbered (next_free s) q (ap place_of more_same)

  pub supply-number : number (supply s q).entries q ≡ next_free s
  unfolding supply
  supply-number = rw (eq-eqb (number s.entries q) 0 z) more-number

  more-free : suc (free_count one_more.entries) ≡ free_count s.entries
  unfolding free_count
  more-free = sym (count_set is_free nil s.entries (next_free s) (used q none) next.inside (rw next.vacant tt) refl)

  more-used : in_use one_more.entries ≡ suc (in_use s.entries)
  unfolding in_use
  more-used = count-more is_used nil s.entries (next_free s) (used q none) next.inside (ap is_used next.vacant) tt

  more-elsewhere : (r : Place) → same r q ≡ false → number one_more.entries r ≡ number s.entries r
  unfolding number
  more-elsewhere r e = first-set (stands r) nil 0 s.entries (next_free s) (used q none) (e ∙ ap (stands r) (sym next.vacant))

  more-gave : Gave s one_more (q ∷ [])
  more-gave = record {
    header-same = refl;
    long_same = length-set s.entries (next_free s) (used q none);
    numbered = more-numbered;
    change = λ n. changed n (more-cases n);
    there = λ r i y. next.not-nil (sym more-number ∙ ap (number one_more.entries) (sym (in_one r q i)) ∙ y);
    elsewhere = λ r f. more-elsewhere r (no-is (same r q) (λ t. f (in-here r q [] (same-is r q t))));
    free-fewer = rw lacks (omega (arith, more-free));
    used-more = rw lacks (omega (arith, more-used));
  }
    where
      lacks : lacking s.entries (q ∷ []) ≡ 1
      lacks = rw (eq-eqb (number s.entries q) 0 z)

      changed : (n : ℕ) → ((n ≡ next_free s) × (entry one_more.entries n ≡ used q none)) ⊎ (entry one_more.entries n ≡ entry s.entries n) → Change (q ∷ []) (entry s.entries n) (entry one_more.entries n)
      changed n (inl x) = taken q (ap (entry s.entries) x.0 ∙ next.vacant) x.1 (in-here q q [] refl)
      changed n (inr e) = stays e

-- "each only where missing"
pub supply-gave : (s : State) → Numbered s.entries → (q : Place) → lacking s.entries (q ∷ []) ≤ free_count s.entries → Gave s (supply s q) (q ∷ [])
unfolding supply
supply-gave s u q l = go (ℕ_discrete (number s.entries q) 0)
  where
    go : Dec (number s.entries q ≡ 0) → Gave s (supply s q) (q ∷ [])
    go (yes z) =
        let b = eq-eqb (number s.entries q) 0 z in
        let c : 0 < free_count s.entries = rw b at l in
        rw b (more-gave s u q z c)
    go (no h) =
        let b = ne_eqb (number s.entries q) 0 h in
        let lacks : lacking s.entries (q ∷ []) ≡ 0 = rw b in
        rw b (record {
          header-same = refl;
          long_same = refl;
          numbered = u;
          change = λ n. stays refl;
          there = λ r i y. h (ap (number s.entries) (sym (in_one r q i)) ∙ y);
          elsewhere = λ r f. refl;
          free-fewer = omega (arith, lacks);
          used-more = omega (arith, lacks);
        })

-- ---- several patches

change-join : (ps qs : List Place) (a b c : Entry) → Change ps a b → Change qs b c → Change (ps ++ qs) a c
change-join ps qs a b c (stays e) (stays f) = stays (f ∙ e)
change-join ps qs a b c (stays e) (taken r x y i) = taken r (sym e ∙ x) y (append_right r ps qs i)
change-join ps qs a b c (taken r x y i) (stays f) = taken r x (f ∙ y) (append_left r ps qs i)
change-join ps qs a b c (taken r x y i) (taken r' x' y' i') = absurd (let w : ◌≡◌ {A = ℕ} 0 1 = cc in omega arith)

pub lacking-append : (es : List Entry) (ps qs : List Place) → lacking es (ps ++ qs) ≡ lacking es ps + lacking es qs
lacking-append es [] qs = omega arith
lacking-append es (p ∷ ps) qs = go (eqb (number es p) 0) (lacking-append es ps qs)
  where
    go : (b : Bool) → lacking es (ps ++ qs) ≡ lacking es ps + lacking es qs → length (cond b (p ∷ keep (λ r. eqb (number es r) 0) (ps ++ qs)) (keep (λ r. eqb (number es r) 0) (ps ++ qs))) ≡ length (cond b (p ∷ keep (λ r. eqb (number es r) 0) ps) (keep (λ r. eqb (number es r) 0) ps)) + lacking es qs
    go true ih = omega arith
    go false ih = omega arith

-- what new patches leave missing of other places
pub lacking-after : {s t : State} (ps qs : List Place) → Gave s t ps → ((r : Place) → In r ps → In r qs → ⊥) → lacking t.entries qs ≡ lacking s.entries qs
lacking-after {s} {t} ps qs g f = ap length (keep_same (λ r. eqb (number t.entries r) 0) (λ r. eqb (number s.entries r) 0) qs (λ r i. ap (λ (k : ℕ). eqb k 0) (g.elsewhere r (λ j. f r j i))))

gave-join : {s t w : State} (ps qs : List Place) → ((r : Place) → In r ps → In r qs → ⊥) → Gave s t ps → Gave t w qs → Gave s w (ps ++ qs)
gave-join {s} {t} {w} ps qs f g h = record {
  header-same = h.header-same ∙ g.header-same;
  long_same = h.long_same ∙ g.long_same;
  numbered = h.numbered;
  change = λ n. change-join ps qs (entry s.entries n) (entry t.entries n) (entry w.entries n) (g.change n) (h.change n);
  there = λ r i. there r (in-append r ps qs i);
  elsewhere = λ r i. h.elsewhere r (λ j. i (append_right r ps qs j)) ∙ g.elsewhere r (λ j. i (append_left r ps qs j));
  free-fewer = omega (arith, lacking-append s.entries ps qs, lacking-after ps qs g f, g.free-fewer, h.free-fewer);
  used-more = omega (arith, lacking-append s.entries ps qs, lacking-after ps qs g f, g.used-more, h.used-more);
}
  where
    there : (r : Place) → In r ps ⊎ In r qs → number w.entries r ≢ 0
    there r (inl i) = let y = g.there r i in λ z. y (sym (kept-number h r y) ∙ z)
    there r (inr i) = h.there r i

pub gave : (qs : List Place) → Distinct qs → (s : State) → Numbered s.entries → lacking s.entries qs ≤ free_count s.entries → Gave s (give s qs) qs
unfolding give
gave [] d s u l = record {
  header-same = refl;
  long_same = refl;
  numbered = u;
  change = λ n. stays refl;
  there = λ q i. absurd i;
  elsewhere = λ q f. refl;
  free-fewer = omega arith;
  used-more = omega arith;
}
gave (q ∷ qs) d s u l =
    let first = supply-gave s u q (omega (arith, lacking-append s.entries (q ∷ []) qs)) in
    let apart : (r : Place) → In r (q ∷ []) → In r qs → ⊥ = λ r i j. d.0 (subst (λ (x : Place). In x qs) (in_one r q i) j) in
    gave-join (q ∷ []) qs apart first
    (gave qs d.1 (supply s q) first.numbered (omega (arith, lacking-append s.entries (q ∷ []) qs, lacking-after (q ∷ []) qs first apart, first.free-fewer)))
