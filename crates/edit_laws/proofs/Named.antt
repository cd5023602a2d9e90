-- A spot names a kid's place by the row of the place above it, so that the kid's number can be read off that row, wherever the place may lie and
-- whether or not a patch stands there.
-- Assumes nothing.
use Prim.Native.Nat.{ℕ, suc, ◌/◌, ◌≤◌, ◌<◌}
use native.Mathlib.Omega.{arith}
use mathlib.Core.Path.{◌≡◌, refl, sym, ap, ◌∙◌}
use mathlib.Core.Logic.{◌≢◌}
use mathlib.Core.Option
use mathlib.Core.Option.{Option, none, some, some-injective}
use mathlib.Core.List.{List, [], ◌∷◌, ◌++◌, map}
use lib.Dec.{lit<}
use lib.ListN.{get_or}
use Rattle.edit_laws.specs.Rooted.{Rooted}
use Rattle.mesh.specs.Tools.{any}
use Rattle.mesh.specs.Place.{Place, Grid, base, same, root, compass, to_north, to_east, kid, kids, Wind, NE, SE, SW, NW, N, E, S, W, In, step}
use Rattle.mesh.specs.State.{Entry, place_of, entry, number, number_of}
use Rattle.mesh.specs.Request.{wanted}
use Rattle.mesh.proofs.Winds.{rule}
use Rattle.place_laws.proofs.Bools.{bool-ext}
use Rattle.place_laws.proofs.Lists.{any_at}
use Rattle.place_laws.proofs.Places.{mapped, same_refl}
use Rattle.place_laws.proofs.Steps.{north-depth, east-depth, step-north, step-east}
use Rattle.place_laws.proofs.Kids.{parent_in, parent-depth, some-kid}
use Rattle.place_laws.proofs.SideDigits.{kid_by, kid-by-parent, step-depth}
use Rattle.place_laws.proofs.Wanted.{each_in}
use Rattle.place_laws.proofs.Fringe.{fringe-south-sw, fringe-south-se, fringe-west-sw, fringe-west-nw}
use Rattle.number_laws.proofs.NumberedPlaces.{number-place, place-number}
use Rattle.table.specs.Words.{link_of}
use Rattle.worked.specs.Worked.{kid_word}
use Rattle.worked.proofs.Offsets.{kid-word-range}
use Rattle.edit_laws.specs.Linked.{Flags, table_with}
use Rattle.edit_laws.specs.Tables.{Spot, spot, kid_at, kid_spots, wanted_spots, outside_spots}
use Rattle.edit_laws.proofs.Rooted.{kid-read, link-of}
use Rattle.edit_laws.proofs.LinkWords.{around-kid-by}
use Rattle.edit_laws.proofs.FlagsAnew.{link-side}

-- the row is that of a place at the depth e, and q is the kid there with these digits
pub record Names (es : List Entry) (e : ℕ) (x : Spot) (q : Option Place) : Type 0 where
  pub above : Option Place
  pub level : (o : Place) → above ≡ some o → o.depth ≡ e
  pub is_row : x.parent ≡ number_of es above
  pub l-digit : x.l ≤ 1
  pub m-digit : x.m ≤ 1
  pub is-kid : Option.map (kid_by x.l x.m) above ≡ q

pub data AllNamed (es : List Entry) (e : ℕ) : List Spot → List (Option Place) → Type 0 where
  no_more : AllNamed es e [] []
  one_more : {x : Spot} {q : Option Place} {xs : List Spot} {qs : List (Option Place)} → Names es e x q → AllNamed es e xs qs → AllNamed es e (x ∷ xs) (q ∷ qs)

-- ---- lists

pub named-append : {es : List Entry} {e : ℕ} {xs ys : List Spot} {ps qs : List (Option Place)} → AllNamed es e xs ps → AllNamed es e ys qs → AllNamed es e (xs ++ ys) (ps ++ qs)
named-append no_more b = b
named-append (one_more n a) b = one_more n (named-append a b)

-- the places one deeper may change their numbers
pub names_same : {es ds : List Entry} {e : ℕ} {x : Spot} {q : Option Place} → ((o : Place) → o.depth ≡ e → number es o ≡ number ds o) → Names es e x q → Names ds e x q
names_same {es} {ds} {e} {x} h n = record {
  above = n.above;
  level = n.level;
  is_row = n.is_row ∙ go n.above n.level;
  l-digit = n.l-digit;
  m-digit = n.m-digit;
  is-kid = n.is-kid;
}
  where
    go : (a : Option Place) → ((o : Place) → a ≡ some o → o.depth ≡ e) → number_of es a ≡ number_of ds a
    go none d = refl
    go (some o) d = h o (d o refl)

pub named-same : {es ds : List Entry} {e : ℕ} {xs : List Spot} {qs : List (Option Place)} → ((o : Place) → o.depth ≡ e → number es o ≡ number ds o) → AllNamed es e xs qs → AllNamed ds e xs qs
named-same h no_more = no_more
named-same h (one_more n a) = one_more (names_same h n) (named-same h a)

-- ---- the four kids

-- in the order of their spots
abbrev pub kids_in_turn : Place → List Place
kids_in_turn p = kid SW p ∷ kid SE p ∷ kid NW p ∷ kid NE p ∷ []

pub kids-turn : (p q : Place) → any (same q) (kids_in_turn p) ≡ any (same q) (kids p)
unfolding kids
kids-turn p q =
    bool-ext (any (same q) (kids_in_turn p)) (any (same q) (kids p))
    (λ t. parent_in q p (some-kid p q (SW ∷ SE ∷ NW ∷ NE ∷ []) t))
    (each_in (λ o. In o (kids_in_turn p)) (kids p) (nth 3 (lit< tt), (nth 1 (lit< tt), (nth 0 (lit< tt), (nth 2 (lit< tt), tt)))) q)
  where
    nth : (i : ℕ) → i < 4 → In (get_or (kids_in_turn p) i root) (kids_in_turn p)
    nth i l = any_at (same (get_or (kids_in_turn p) i root)) root (kids_in_turn p) i l (same_refl (get_or (kids_in_turn p) i root))

-- ---- what a spot leads to

pub named-depth : {es : List Entry} {e : ℕ} {x : Spot} {q : Place} → Names es e x (some q) → q.depth ≡ suc e
named-depth {es} {e} {x} {q} n =
    let (o, a, k) = mapped (kid_by x.l x.m) q n.above n.is-kid in
    ap (λ (z : Place). z.depth) (sym k) ∙ parent-depth (kid_by x.l x.m o) o (kid-by-parent x.l x.m o n.l-digit n.m-digit) ∙ ap suc (n.level o a)

module _ {g : Grid} {cap : ℕ} {es : List Entry} (r : Rooted g cap es) (f : Flags) where
  pub kid-link : (l m : ℕ) → l ≤ 1 → m ≤ 1 → (o : Option Place) → link_of (table_with g es f) cap (number_of es o) (kid_word l m) ≡ number_of es (Option.map (kid_by l m) o)
  kid-link l m x y o =
      kid-read r (λ k. link_of (table_with g es f) cap k (kid_word l m)) (λ q. Unit {0}) l m x y tt
      (λ k q e c.
      link-of r f k (kid_word l m) (omega (arith, kid-word-range l m y))
      ∙ ap (number_of es) (around-kid-by g l m x y (place_of (entry es k)))
      ∙ ap (λ (z : Option Place). number_of es (Option.map (kid_by l m) z)) e) o tt

  pub kid_at_lem : {e : ℕ} {x : Spot} {q : Option Place} → Names es e x q → kid_at (table_with g es f) cap x ≡ number_of es q
  kid_at_lem {e} {x} n =
      ap (λ (k : ℕ). link_of (table_with g es f) cap k (kid_word x.l x.m)) n.is_row
      ∙ kid-link x.l x.m n.l-digit n.m-digit n.above
      ∙ ap (number_of es) n.is-kid

  -- ---- the spots near a cell

  by-wind : (e n : ℕ) (w : Wind) (o : Option Place) → n ≡ number_of es o → ((p : Place) → o ≡ some p → p.depth ≡ e)
      → Names es e (spot n ((compass w).east / 2) ((compass w).north / 2)) (Option.map (kid w) o)
  unfolding kid kid_by
  by-wind e n w o h d = record {
    above = o;
    level = d;
    is_row = h;
    l-digit = omega (arith, (rule w).east-back);
    m-digit = omega (arith, (rule w).north-back);
    is-kid = refl;
  }

  module _ (n : ℕ) (p : Place) (h : place_of (entry es n) ≡ some p) where
    own_row : n ≡ number_of es (some p)
    own_row = sym (place-number es r.numbered n p h)

    as-deep : (q : Place) → q.depth ≡ p.depth → (o : Place) → some q ≡ some o → o.depth ≡ p.depth
    as-deep q d o e = ap (λ (z : Place). z.depth) (sym (some-injective _ _ e)) ∙ d

    pub kids-named : AllNamed es p.depth (kid_spots (table_with g es f) cap n) (map some (kids_in_turn p))
    kids-named =
        let by : (w : Wind) → Names es p.depth (spot n ((compass w).east / 2) ((compass w).north / 2)) (some (kid w p)) = λ w. by-wind p.depth n w (some p) own_row (as-deep p refl) in
        one_more (by SW) (one_more (by SE) (one_more (by NW) (one_more (by NE) no_more)))

    -- the patch east has to stand, for the one north of it to be found
    pub wanted-named : number es (to_east g p) ≢ 0 → AllNamed es p.depth (wanted_spots (table_with g es f) cap n) (map some (wanted g p))
    unfolding wanted_spots wanted
    wanted-named z =
        let t = table_with g es f in
        let m = to_north g p in
        let q = to_east g p in
        let b = to_north g q in
        let dn = as-deep m (north-depth g p) in
        let de = as-deep q (east-depth g p) in
        let db = as-deep b (north-depth g q ∙ east-depth g p) in
        let north : link_of t cap n 5 ≡ number_of es (some m) = link-side r f n p h N tt ∙ ap (number_of es) (step-north g p) in
        let east : link_of t cap n 6 ≡ number_of es (some q) = link-side r f n p h E tt ∙ ap (number_of es) (step-east g p) in
        let both : link_of t cap (link_of t cap n 6) 5 ≡ number_of es (some b) = ap (λ (k : ℕ). link_of t cap k 5) east ∙ link-side r f (number es q) q (number-place es q z) N tt ∙ ap (number_of es) (step-north g q) in
        named-append kids-named
        (one_more (by-wind p.depth (link_of t cap n 5) SW (some m) north dn)
        (one_more (by-wind p.depth (link_of t cap n 5) SE (some m) north dn)
        (one_more (by-wind p.depth (link_of t cap n 6) NW (some q) east de)
        (one_more (by-wind p.depth (link_of t cap n 6) SW (some q) east de)
        (one_more (by-wind p.depth (link_of t cap (link_of t cap n 6) 5) SW (some b) both db) no_more)))))

    -- one step south or west of a kid, outside p
    pub outside-named : base g ≤ p.depth → AllNamed es p.depth (outside_spots (table_with g es f) cap n) (step g S (kid SW p) ∷ step g S (kid SE p) ∷ step g W (kid SW p) ∷ step g W (kid NW p) ∷ [])
    unfolding outside_spots
    outside-named low =
        let t = table_with g es f in
        let south : link_of t cap n 7 ≡ number_of es (step g S p) = link-side r f n p h S tt in
        let west : link_of t cap n 8 ≡ number_of es (step g W p) = link-side r f n p h W tt in
        let ds : (o : Place) → step g S p ≡ some o → o.depth ≡ p.depth = step-depth g S tt p in
        let dw : (o : Place) → step g W p ≡ some o → o.depth ≡ p.depth = step-depth g W tt p in
        rw (fringe-south-sw g p low, fringe-south-se g p low, fringe-west-sw g p low, fringe-west-nw g p low)
        (one_more (by-wind p.depth (link_of t cap n 7) NW (step g S p) south ds)
        (one_more (by-wind p.depth (link_of t cap n 7) NE (step g S p) south ds)
        (one_more (by-wind p.depth (link_of t cap n 8) SE (step g W p) west dw)
        (one_more (by-wind p.depth (link_of t cap n 8) NE (step g W p) west dw) no_more))))
