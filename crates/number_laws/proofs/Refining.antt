-- An accepted refinement leaves a valid state: the cells grow by the kids, each with its parent's value, and all that stood there stays.
-- Assumes nothing.
use Prim.Native.Nat.{ℕ, ◌+◌, ◌≤◌, ◌<◌}
use native.Mathlib.Omega.{arith}
use native.Mathlib.Decide.{ℕ_discrete}
use mathlib.Core.Path.{◌≡◌, refl, sym, ap, ◌∙◌, subst, fun_ext}
use mathlib.Core.Logic.{◌≢◌, ◌⊎◌, inl, inr}
use mathlib.Core.Bool.{Bool, true, false, not, ◌||◌, cond}
use mathlib.Core.Option.{Option, none, some, map, some-injective}
use mathlib.Core.List.{List, ◌∷◌, ◌++◌}
use lib.Dec.{T, eqb}
use lib.ListN.{length}
use borrow.Author.Tests.{eq-eqb, eqb-false, ltb-false}
use Rattle.number_laws.specs.Numbered.{Numbered}
use Rattle.mesh.specs.Tools.{any, count, or_else, is_some}
use Rattle.mesh.specs.Place.{Place, Grid, NE, same, root, base, kid, kids, parent, In}
use Rattle.mesh.specs.Mesh.{leaf, patch}
use Rattle.mesh.specs.State.{State, Header, Entry, used, Cell, Value, blank, measured, carried, place_of, value_of, is_nil, is_used, stands, entry, cells, number, number_of, place_at, free_count, in_use, grid_of, with_entries, next_free, contents}
use Rattle.mesh.specs.Carrying.{inherited, kid_cell}
use Rattle.mesh.specs.Valid.{Valid, ValueRule, above_of}
use Rattle.mesh.specs.Refusal.{refusal}
use Rattle.mesh.specs.Request.{refine, wanted, missing, loose_checks, give, filled, fill, effect}
use Rattle.place_laws.proofs.Bools.{is-yes, no-is}
use Rattle.place_laws.proofs.Lists.{keep-length, count_map}
use Rattle.place_laws.proofs.Distinct.{in-length, in-keep}
use Rattle.place_laws.proofs.Kids.{in-parent, kid_in, parent-depth, leaf-cell, leaf-kidless, is_leaf}
use Rattle.place_laws.proofs.Base.{lap-many}
use Rattle.place_laws.proofs.Wanted.{kid-wanted, wanted-distinct}
use Rattle.place_laws.proofs.Growing.{grown, grown-old, grown-cases, grown-mesh, patch-grown, grown-patch, middle-new}
use Rattle.number_laws.proofs.Entries.{cell-there, cell-somewhere, in-stands, stands-in}
use Rattle.number_laws.proofs.NumberedPlaces.{valid-numbered, number-place, entry-contents, cells-contents}
use Rattle.number_laws.proofs.Filling.{filled-place, filled-nil, fill-entry, fill-length, fill-place, fill-number, fill-numbered, fill-contents}
use Rattle.number_laws.proofs.Checks.{passes}
use Rattle.number_laws.proofs.Naming.{named, named-leaf}
use Rattle.number_laws.proofs.Giving.{Next, Change, stays, taken, lacking, Gave, gave, kept-place, kept-number, gave-contents}
use Rattle.number_laws.proofs.Turns.{give-turn}

-- ---- what the checks say

pub record Refinable (s : State) (n : ℕ) (p : Place) (x : Cell) : Type 0 where
  pub stood : entry s.entries n ≡ used p (some x)
  pub not-sentenced : x.sentenced ≡ false
  pub kidless : (q : Place) → parent q ≡ some p → T (cells s.entries q) → ⊥
  pub low : p.depth < base (grid_of s) + 12
  pub room : lacking s.entries (wanted (grid_of s) p) ≤ free_count s.entries

pub refinable : (s : State) → Valid s → (n : ℕ) → refusal (loose_checks s (refine n)) ≡ 0 → (p : Place) × (x : Cell) × Refinable s n p x
unfolding loose_checks missing
refinable s v n ok =
    let (d, h₂) = named s v n _ ok in
    let (a₃, h₃) = passes 8 _ _ (λ z. omega arith) h₂ in
    let (a₄, h₄) = passes 9 _ _ (λ z. omega arith) h₃ in
    let (a₅, h₅) = passes 10 _ _ (λ z. omega arith) h₄ in
    let (a₆, h₆) = passes 11 _ _ (λ z. omega arith) h₅ in
    let p = place_at s.entries n in
    let top = eqb-false p.depth (base (grid_of s) + 12) a₄ in (
      p,
      d.its,
      record {
        stood = d.is-entry;
        not-sentenced = rw d.is-contents at a₅;
        kidless = leaf-kidless (grid_of s) (cells s.entries) p (named-leaf v d a₃);
        low = omega (arith, v.mesh.high p d.is-there);
        room = ltb-false _ _ a₆;
      },
    )

-- ---- how many

-- another cell or none makes no number free
fill-used : (ps : List Place) (x : Option Cell) (es : List Entry) → in_use (fill ps x es) ≡ in_use es
unfolding in_use fill
fill-used ps x es = count_map is_used (filled ps x) es ∙ ap (λ (f : Entry → Bool). count f es) (fun_ext (λ e. ap is_some (filled-place ps x e)))

-- ---- contents and the values above

-- where there is a cell, some number has it
contents-entry : (es : List Entry) → Numbered es → (q : Place) (y : Cell) → contents es q ≡ some y → (m : ℕ) × (entry es m ≡ used q (some y))
contents-entry es u q y e =
    let (m, z, f) = cell-somewhere es q (is-yes (cells es q) (cells-contents es u q ∙ ap is_some e)) in
    (m, f ∙ ap (used q) (sym (entry-contents es u m q (some z) f) ∙ e))

above-is : (s : State) (q : Place) (o : Option Place) → parent q ≡ o → above_of s q ≡ value_of (entry s.entries (number_of s.entries o))
above-is s q o e = ap (λ (o : Option Place). value_of (entry s.entries (number_of s.entries o))) e

-- the rule of a value asks only what stands above
rule-same : (s : State) (es : List Entry) (q : Place) (w : Value) → above_of (with_entries s es) q ≡ above_of s q → ValueRule s q w → ValueRule (with_entries s es) q w
rule-same s es q blank e r = rw e r
rule-same s es q (measured y) e r = r
rule-same s es q (carried y) e r = rw e r

-- a value that keeps the rule is carried down in keeping with it
rule-inherited : (s : State) (es : List Entry) (p q : Place) (w : Value) → base (grid_of s) < q.depth → above_of (with_entries s es) q ≡ w → ValueRule s p w → ValueRule (with_entries s es) q (inherited w)
rule-inherited s es p q blank d e r = rw e tt
rule-inherited s es p q (measured y) d e r = (d, r, rw e tt, rw e)
rule-inherited s es p q (carried y) d e r = (d, r.1, rw e tt, rw e)

-- ---- the state that a refinement makes

module _ (s : State) (v : Valid s) (n : ℕ) (p : Place) (x : Cell) (r : Refinable s n p x) where
  abbrev g : Grid
  g = grid_of s

  abbrev c : Place → Bool
  c = cells s.entries

  abbrev given : State
  given = give s (wanted g p)

  abbrev after : List Entry
  after = fill (kids p) (some (kid_cell x)) given.entries

  pub have : Gave s given (wanted g p)
  have = gave (wanted g p) (wanted-distinct g p (lap-many g v.rectangle p.depth)) s (valid-numbered v) r.room

  pub here : T (c p)
  here = cell-there s.entries n p x r.stood

  pub kids-there : (q : Place) → In q (kids p) → number given.entries q ≢ 0
  kids-there q i = have.there q (kid-wanted g p q i)

  pub after-numbered : Numbered after
  after-numbered = fill-numbered (kids p) (some (kid_cell x)) given.entries have.numbered

  pub after-contents : (q : Place) → contents after q ≡ cond (any (same q) (kids p)) (some (kid_cell x)) (contents s.entries q)
  after-contents q =
      fill-contents (kids p) (some (kid_cell x)) given.entries have.numbered kids-there q
      ∙ ap (cond (any (same q) (kids p)) (some (kid_cell x))) (gave-contents have (valid-numbered v) q)

  pub after-cells : cells after ≡ grown c (kids p)
  after-cells = fun_ext (λ q.
      cells-contents after after-numbered q ∙ ap is_some (after-contents q)
      ∙ go (any (same q) (kids p)) (contents s.entries q)
      ∙ ap (λ (b : Bool). b || any (same q) (kids p)) (sym (cells-contents s.entries (valid-numbered v) q)))
    where
      go : (b : Bool) (o : Option Cell) → is_some (cond b (some (kid_cell x)) o) ≡ (is_some o || b)
      go true none = refl
      go true (some y) = refl
      go false none = refl
      go false (some y) = refl

  after-place : (m : ℕ) → place_of (entry after m) ≡ place_of (entry given.entries m)
  after-place = fill-place (kids p) (some (kid_cell x)) given.entries

  -- a number with a place keeps it
  after_kept : (m : ℕ) (q : Place) → place_of (entry s.entries m) ≡ some q → place_of (entry after m) ≡ some q
  after_kept m q h = after-place m ∙ kept-place have m q h

  -- a cell is a kid, with the value carried down, or was there before
  after-cell : (m : ℕ) (q : Place) (y : Cell) → entry after m ≡ used q (some y) → ((parent q ≡ some p) × (y ≡ kid_cell x)) ⊎ (contents s.entries q ≡ some y)
  after-cell m q y h = go (any (same q) (kids p)) refl (sym (after-contents q) ∙ entry-contents after after-numbered m q (some y) h)
    where
      go : (b : Bool) → any (same q) (kids p) ≡ b → cond (any (same q) (kids p)) (some (kid_cell x)) (contents s.entries q) ≡ some y → ((parent q ≡ some p) × (y ≡ kid_cell x)) ⊎ (contents s.entries q ≡ some y)
      go true b e = inl (in-parent q p (is-yes _ b), sym (some-injective _ _ (rw b at e)))
      go false b e = inr (rw b at e)

  -- no old cell is a kid, nor the parent of an old one
  not-kid : (q : Place) → (In q (kids p) → ⊥) → contents after q ≡ contents s.entries q
  not-kid q f = after-contents q ∙ rw (no-is (any (same q) (kids p)) f)

  above-kid : (q : Place) → parent q ≡ some p → above_of (with_entries s after) q ≡ x.value
  above-kid q e =
      above-is (with_entries s after) q (some p) e
      ∙ ap (or_else blank (λ y. y.value)) (not-kid p (λ i. omega (arith, parent-depth p p (in-parent p p i))) ∙ entry-contents s.entries (valid-numbered v) n p (some x) r.stood)

  above-old : (q : Place) → T (c q) → above_of (with_entries s after) q ≡ above_of s q
  above-old q t = go (parent q) refl
    where
      go : (o : Option Place) → parent q ≡ o → above_of (with_entries s after) q ≡ above_of s q
      go none e = above-is (with_entries s after) q none e ∙ ap value_of (after-numbered.zeroth ∙ sym v.zeroth) ∙ sym (above-is s q none e)
      go (some o) e = above-is (with_entries s after) q (some o) e ∙ ap (or_else blank (λ y. y.value)) (not-kid o (λ i. old o e (in-parent o p i))) ∙ sym (above-is s q (some o) e)
        where
          old : (o : Place) → parent q ≡ some o → parent o ≡ some p → ⊥
          old o e f =
              let h : base g < q.depth = omega (arith, v.mesh.low p here, parent-depth q o e, parent-depth o p f) in
              r.kidless o f (rw e at (v.mesh.above q t h))

  -- a sentenced leaf is not p
  leaf-stays : (q : Place) (y : Cell) → contents s.entries q ≡ some y → T y.sentenced → T (leaf g c q) → T (leaf g (grown c (kids p)) q)
  leaf-stays q y e t l = is_leaf g (grown c (kids p)) q (grown-old c (kids p) q (leaf-cell g c q l)) (λ o f u. go o f (grown-cases c p o u))
    where
      go : (o : Place) → parent o ≡ some q → T (c o) ⊎ (parent o ≡ some p) → ⊥
      go o f (inl a) = leaf-kidless g c q l o f a
      go o f (inr k) =
          let qp : q ≡ p = some-injective _ _ (sym f ∙ k) in
          let xy : x ≡ y = some-injective _ _ (sym (entry-contents s.entries (valid-numbered v) n p (some x) r.stood) ∙ ap (contents s.entries) (sym qp) ∙ e) in
          subst T (ap (λ (z : Cell). z.sentenced) (sym xy) ∙ r.not-sentenced) t

  pub after-valid : Valid (with_entries s after)
  after-valid = record {
    sizes = rw long v.sizes;
    rectangle = v.rectangle;
    zeroth = after-numbered.zeroth;
    others = λ m a b. others m (v.others m a (rw long at b)) (have.change m);
    mesh = rw after-cells (grown-mesh g c v.mesh p here r.low);
    each = λ m q h. rw after-cells (grown-patch g c v.mesh p here q (each m q (sym (after-place m) ∙ h) (have.change m)));
    every = λ q t. every q (patch-grown g c v.mesh p here q (rw after-cells at t));
    once = after-numbered.once;
    first-root = after_kept 1 root v.first-root;
    sentences = λ m q y e t. rw after-cells (sentences q y t (after-cell m q y e));
    values = λ m q y e. values q y (after-cell m q y e);
  }
    where
      long : length after ≡ length s.entries
      long = fill-length (kids p) (some (kid_cell x)) given.entries ∙ have.long_same

      others : (m : ℕ) → T (not (is_nil (entry s.entries m))) → Change (wanted g p) (entry s.entries m) (entry given.entries m) → T (not (is_nil (entry after m)))
      others m t h = rw (ap is_nil (fill-entry (kids p) (some (kid_cell x)) given.entries m) ∙ filled-nil (kids p) (some (kid_cell x)) (entry given.entries m)) (go h)
        where
          go : Change (wanted g p) (entry s.entries m) (entry given.entries m) → T (not (is_nil (entry given.entries m)))
          go (stays e) = rw e t
          go (taken q a b i) = rw b tt

      each : (m : ℕ) (q : Place) → place_of (entry given.entries m) ≡ some q → Change (wanted g p) (entry s.entries m) (entry given.entries m) → T (patch g c q) ⊎ In q (wanted g p)
      each m q h (stays e) = inl (v.each m q (sym (ap place_of e) ∙ h))
      each m q h (taken o a b i) = inr (subst (λ (z : Place). In z (wanted g p)) (some-injective _ _ (sym (ap place_of b) ∙ h)) i)

      every : (q : Place) → T (patch g c q) ⊎ In q (wanted g p) → T (any (stands q) after)
      every q (inl t) = let (m, l, h) = in-stands s.entries q (v.every q t) in stands-in after m q (after_kept m q h)
      every q (inr i) = let m = number given.entries q in stands-in after m q (after-place m ∙ number-place given.entries q (have.there q i))

      sentences : (q : Place) (y : Cell) → T y.sentenced → ((parent q ≡ some p) × (y ≡ kid_cell x)) ⊎ (contents s.entries q ≡ some y) → (base g < q.depth) × T (leaf g (grown c (kids p)) q)
      sentences q y t (inl k) = absurd (subst (λ (z : Cell). T z.sentenced) k.1 t)
      sentences q y t (inr e) =
          let (m, f) = contents-entry s.entries (valid-numbered v) q y e in
          let (d, l) = v.sentences m q y f t in
          (d, leaf-stays q y e t l)

      values : (q : Place) (y : Cell) → ((parent q ≡ some p) × (y ≡ kid_cell x)) ⊎ (contents s.entries q ≡ some y) → ValueRule (with_entries s after) q y.value
      values q y (inl k) =
          let d : base g < q.depth = omega (arith, v.mesh.low p here, parent-depth q p k.0) in
          subst (λ (z : Cell). ValueRule (with_entries s after) q z.value) (sym k.1)
          (rule-inherited s after p q x.value d (above-kid q k.0) (v.values n p x r.stood))
      values q y (inr e) =
          let (m, f) = contents-entry s.entries (valid-numbered v) q y e in
          rule-same s after q y.value (above-old q (cell-there s.entries m q y f)) (v.values m q y f)

  -- ---- it is what the request makes

  pub effect_is : effect s (refine n) ≡ with_entries s after
  unfolding effect
  effect_is = rw r.stood (ap (λ (h : Header). record { header = h; entries = after }) have.header-same)

  effect-contents : (q : Place) → contents (effect s (refine n)).entries q ≡ cond (any (same q) (kids (place_at s.entries n))) (map kid_cell (contents s.entries (place_at s.entries n))) (contents s.entries q)
  effect-contents q = rw (effect_is, r.stood, entry-contents s.entries (valid-numbered v) n p (some x) r.stood) (after-contents q)

  effect-number : (q : Place) → number s.entries q ≢ 0 → number (effect s (refine n)).entries q ≡ number s.entries q
  effect-number q h = rw effect_is (fill-number (kids p) (some (kid_cell x)) given.entries q ∙ kept-number have q h)

  -- the point in the middle is missing
  middle-missing : number s.entries (kid NE p) ≡ 0
  middle-missing = go (ℕ_discrete (number s.entries (kid NE p)) 0)
    where
      go : Dec (number s.entries (kid NE p) ≡ 0) → number s.entries (kid NE p) ≡ 0
      go (yes z) = z
      go (no h) = absurd (middle-new g c v.mesh p here r.kidless (v.each (number s.entries (kid NE p)) (kid NE p) (number-place s.entries (kid NE p) h)))

  at-most-nine : lacking s.entries (wanted g p) ≤ 9
  unfolding wanted
  at-most-nine = keep-length (λ q. eqb (number s.entries q) 0) (wanted g p)

  effect-takes : (1 ≤ length (missing s (place_at s.entries n))) × (length (missing s (place_at s.entries n)) ≤ 9) × (in_use (effect s (refine n)).entries ≡ in_use s.entries + length (missing s (place_at s.entries n)))
  unfolding missing
  effect-takes = rw (effect_is, r.stood) (
    in-length (kid NE p) (missing s p) (in-keep (λ q. eqb (number s.entries q) 0) (wanted g p) (kid NE p) (kid-wanted g p (kid NE p) (kid_in NE p)) (is-yes _ (eq-eqb _ _ middle-missing))),
    at-most-nine,
    fill-used (kids p) (some (kid_cell x)) given.entries ∙ have.used-more,
  )

  effect-turn : (xs ys : List Place) (q : Place) → wanted g p ≡ xs ++ q ∷ ys → number s.entries q ≡ 0 → Next (give s xs) × (number (effect s (refine n)).entries q ≡ next_free (give s xs))
  effect-turn xs ys q e z =
      let (next, is) = give-turn xs ys q (rw e at (wanted-distinct g p (lap-many g v.rectangle p.depth))) s (valid-numbered v) (rw e at r.room) z in
      (next, rw effect_is (fill-number (kids p) (some (kid_cell x)) given.entries q ∙ ap (λ (l : List Place). number (give s l).entries q) e ∙ is))

  effect-frame : ((effect s (refine n)).header ≡ s.header) × (length (effect s (refine n)).entries ≡ length s.entries)
  effect-frame = rw effect_is (refl, fill-length (kids p) (some (kid_cell x)) given.entries ∙ have.long_same)

  effect-stays : (q : Place) → T (patch g c q) → T (patch g (cells (effect s (refine n)).entries) q)
  effect-stays q t = rw (effect_is, after-cells) (grown-patch g c v.mesh p here q (inl t))

-- ---- an accepted refinement

module _ (s : State) (v : Valid s) (n : ℕ) (ok : refusal (loose_checks s (refine n)) ≡ 0) where
  pub refine-frame : ((effect s (refine n)).header ≡ s.header) × (length (effect s (refine n)).entries ≡ length s.entries)
  refine-frame = let (p, x, r) = refinable s v n ok in effect-frame s v n p x r

  -- every patch stays
  pub refine-stays : (q : Place) → T (patch (grid_of s) (cells s.entries) q) → T (patch (grid_of s) (cells (effect s (refine n)).entries) q)
  refine-stays q t = let (p, x, r) = refinable s v n ok in effect-stays s v n p x r q t

  -- the kids have what the refined cell hands down, and every other place has what it had
  pub refine-contents : (q : Place) → contents (effect s (refine n)).entries q ≡ cond (any (same q) (kids (place_at s.entries n))) (map kid_cell (contents s.entries (place_at s.entries n))) (contents s.entries q)
  refine-contents q = let (p, x, r) = refinable s v n ok in effect-contents s v n p x r q

  -- a patch that stays keeps its number
  pub refine-number : (q : Place) → number s.entries q ≢ 0 → number (effect s (refine n)).entries q ≡ number s.entries q
  refine-number q h = let (p, x, r) = refinable s v n ok in effect-number s v n p x r q h

  -- "each new patch takes the smallest free number", in the order of `wanted`: at its turn, when the places before it have theirs
  pub refine-turn : (xs ys : List Place) (q : Place) → wanted (grid_of s) (place_at s.entries n) ≡ xs ++ q ∷ ys → number s.entries q ≡ 0 → Next (give s xs) × (number (effect s (refine n)).entries q ≡ next_free (give s xs))
  refine-turn xs ys q e z = let (p, x, r) = refinable s v n ok in effect-turn s v n p x r xs ys q (rw r.stood at e) z

  -- one to nine new patches, each under a number that was free
  pub refine-takes : (1 ≤ length (missing s (place_at s.entries n))) × (length (missing s (place_at s.entries n)) ≤ 9) × (in_use (effect s (refine n)).entries ≡ in_use s.entries + length (missing s (place_at s.entries n)))
  refine-takes = let (p, x, r) = refinable s v n ok in effect-takes s v n p x r

pub refine-valid : (s : State) → Valid s → (n : ℕ) → refusal (loose_checks s (refine n)) ≡ 0 → Valid (effect s (refine n))
refine-valid s v n ok = let (p, x, r) = refinable s v n ok in rw (effect_is s v n p x r) (after-valid s v n p x r)
