-- Rows gone through down the tree: those that are reached from a place by kids of some digits, so many levels down.
-- Assumes nothing.
use Prim.Native.Nat.{ℕ, zero, suc, ◌+◌, ◌%◌, ◌≤◌}
use native.Mathlib.Omega.{arith}
use native.Mathlib.Decide.{ℕ_discrete}
use mathlib.Core.Path.{◌≡◌, refl, sym, ap, ◌∙◌, subst}
use mathlib.Core.Logic.{◌⊎◌, inl, inr}
use mathlib.Core.Bool.{Bool, true, false, not, ◌&&◌, ◌||◌, cond}
use mathlib.Core.Option.{Option, none, some, some-injective}
use mathlib.Core.List.{List, [], ◌∷◌, ◌++◌, map}
use lib.Dec.{T, eqb, eqb→eq, leb, leb→le}
use lib.IntN.{ℤ}
use borrow.Author.Tests.{eq-eqb, ne_eqb}
use Rattle.edit_laws.specs.Rooted.{Rooted}
use Rattle.mesh.specs.Tools.{any, all, flat}
use Rattle.mesh.specs.Place.{Place, Grid, parent, same}
use Rattle.mesh.specs.State.{Entry, stands, number, number_of}
use Rattle.worked.specs.Worked.{kid_word}
use Rattle.place_laws.proofs.Bools.{no-is, and_left, and_right, or_left, or_right, or_cases, implied}
use Rattle.place_laws.proofs.Places.{in_one, same_refl}
use Rattle.place_laws.proofs.Kids.{parent-depth}
use Rattle.place_laws.proofs.SideDigits.{kid_by, kid-by-parent, parent_by}
use Rattle.place_laws.proofs.Along.{Choice, chosen, any_kid, Along, a-here, a-down, along-flat, along-first, along-cases}
use Rattle.number_laws.proofs.Entries.{in-stands, stands-in}
use Rattle.number_laws.proofs.NumberedPlaces.{numbered-not-zero}
use Rattle.edit_laws.specs.Linked.{Flags, table_with}
use Rattle.edit_laws.specs.Tables.{each_kid, each_down}
use Rattle.edit_laws.proofs.Setting.{flags-same}
use Rattle.edit_laws.proofs.Named.{kid-link}
use Rattle.edit_laws.proofs.PassingRows.{among, among-both, Level, new_at, RowStep, new-more, kept-all, pass-place}

-- ---- kids by their digits

-- the digits of a kid's column and row
abbrev pub Pair : Type 0
Pair = ℕ × ℕ

abbrev pub words_of : List Pair → List ℕ
words_of xs = map (λ x. kid_word x.0 x.1) xs

abbrev pub binary : List Pair → Bool
binary xs = all (λ x. leb x.0 1 && leb x.1 1) xs

abbrev pub has : List Pair → ℕ → ℕ → Bool
has xs l m = any (λ x. eqb l x.0 && eqb m x.1) xs

-- each kid of the choice is one of these
pub record Covers (ok : Choice) (xs : List Pair) : Type 0 where
  pub are-digits : T (binary xs)
  pub sw : T (not (ok 0 0) || has xs 0 0)
  pub se : T (not (ok 1 0) || has xs 1 0)
  pub nw : T (not (ok 0 1) || has xs 0 1)
  pub ne : T (not (ok 1 1) || has xs 1 1)

covered : {ok : Choice} {xs : List Pair} → Covers ok xs → (l m : ℕ) → l ≤ 1 → m ≤ 1 → T (ok l m) → T (has xs l m)
covered {ok} {xs} k zero zero a b t = implied (ok 0 0) (has xs 0 0) k.sw t
covered {ok} {xs} k (suc zero) zero a b t = implied (ok 1 0) (has xs 1 0) k.se t
covered {ok} {xs} k zero (suc zero) a b t = implied (ok 0 1) (has xs 0 1) k.nw t
covered {ok} {xs} k (suc zero) (suc zero) a b t = implied (ok 1 1) (has xs 1 1) k.ne t
covered k (suc (suc l)) m a b t = absurd (omega arith)
covered k zero (suc (suc m)) a b t = absurd (omega arith)
covered k (suc zero) (suc (suc m)) a b t = absurd (omega arith)

-- what is reached from one that stands starts at one that stands
along-stands : {g : Grid} {cap : ℕ} {es : List Entry} → Rooted g cap es → {ok : Choice} {p q : Place} → Along ok p q → T (any (stands q) es) → T (any (stands p) es)
along-stands r a-here t = t
along-stands {es = es} r (a-down {s} {q} k e u) t = let (n, l, h) = in-stands es q t in along-stands r k (r.parents n q s h e)

-- ---- the places so many levels down

module _ (xs : List Pair) where
  unfoldable pub under : ℕ → Place → List (Option Place)
  under zero p = some p ∷ []
  under (suc e) p = flat (map (λ x. under e (kid_by x.0 x.1 p)) xs)

  -- from a place that may be missing
  abbrev pub under_of : ℕ → Option Place → List (Option Place)
  under_of e none = []
  under_of e (some p) = under e p

  -- of these kids
  abbrev under_kids : ℕ → Place → List Pair → List (Option Place)
  under_kids e p ys = flat (map (λ x. under e (kid_by x.0 x.1 p)) ys)

  -- they are reached from there
  module _ (d : T (binary xs)) where
    under-kids : (e : ℕ) (p q : Place) → ((s : Place) → T (among q (under e s)) → Along any_kid s q × (q.depth ≡ s.depth + e))
        → (ys : List Pair) → T (binary ys) → T (among q (under_kids e p ys)) → Along any_kid p q × (q.depth ≡ p.depth + suc e)
    under-kids e p q ih [] b t = absurd t
    under-kids e p q ih (y ∷ ys) b t =
        go (or_cases (among q (under e k)) (among q (under_kids e p ys)) (subst T (among-both q (under e k) (under_kids e p ys)) t)) (under-kids e p q ih ys (and_right bin (binary ys) b))
      where
        bin : Bool
        bin = leb y.0 1 && leb y.1 1

        k : Place
        k = kid_by y.0 y.1 p

        is : parent k ≡ some p
        is =
            let i = and_left bin (binary ys) b in
            kid-by-parent y.0 y.1 p (leb→le _ _ (and_left (leb y.0 1) (leb y.1 1) i)) (leb→le _ _ (and_right (leb y.0 1) (leb y.1 1) i))

        go : T (among q (under e k)) ⊎ T (among q (under_kids e p ys)) → (T (among q (under_kids e p ys)) → Along any_kid p q × (q.depth ≡ p.depth + suc e)) → Along any_kid p q × (q.depth ≡ p.depth + suc e)
        go (inl u) more = let (a, z) = ih k u in (along-first any_kid is tt a, omega (arith, parent-depth k p is))
        go (inr u) more = more u

    pub under-along : (e : ℕ) (p q : Place) → T (among q (under e p)) → Along any_kid p q × (q.depth ≡ p.depth + e)
    unfolding under
    under-along zero p q t = let i = in_one q p t in (subst (λ (x : Place). Along any_kid p x) (sym i) a-here, ap (λ (x : Place). x.depth) i ∙ omega arith)
    under-along (suc e) p q t = under-kids e p q (λ s u. under-along e s q u) xs d t

    pub under-level : (e : ℕ) {h : ℕ} (o : Option Place) → ((p : Place) → o ≡ some p → p.depth + e ≡ h) → Level h (under_of e o)
    under-level e none i q t = absurd t
    under-level e (some p) i q t = (under-along e p q t).1 ∙ i p refl

  -- and all that are reached by kids of the choice are among them
  module _ {ok : Choice} (c : Covers ok xs) where
    kids_under : (e : ℕ) (p s q : Place) → parent s ≡ some p → T (among q (under e s)) → (ys : List Pair) → T (has ys (s.i % 2) (s.j % 2)) → T (among q (under_kids e p ys))
    kids_under e p s q i t [] h = absurd h
    kids_under e p s q i t (y ∷ ys) h =
        subst T (sym (among-both q (under e (kid_by y.0 y.1 p)) (under_kids e p ys))) (go (or_cases b (has ys (s.i % 2) (s.j % 2)) h) (kids_under e p s q i t ys))
      where
        b : Bool
        b = eqb (s.i % 2) y.0 && eqb (s.j % 2) y.1

        go : T b ⊎ T (has ys (s.i % 2) (s.j % 2)) → (T (has ys (s.i % 2) (s.j % 2)) → T (among q (under_kids e p ys))) → T (among q (under e (kid_by y.0 y.1 p)) || among q (under_kids e p ys))
        go (inr u) more = or_right (among q (under e (kid_by y.0 y.1 p))) (among q (under_kids e p ys)) (more u)
        go (inl u) more =
            let l : s.i % 2 ≡ y.0 = eqb→eq _ _ (and_left (eqb (s.i % 2) y.0) (eqb (s.j % 2) y.1) u) in
            let m : s.j % 2 ≡ y.1 = eqb→eq _ _ (and_right (eqb (s.i % 2) y.0) (eqb (s.j % 2) y.1) u) in
            let j : s ≡ kid_by y.0 y.1 p = parent_by s p i ∙ rw (l, m) in
            or_left (among q (under e (kid_by y.0 y.1 p))) (among q (under_kids e p ys)) (subst (λ (z : Place). T (among q (under e z))) j t)

    pub along_under : (e : ℕ) (p q : Place) → Along ok p q → q.depth ≡ p.depth + e → T (among q (under e p))
    unfolding under
    along_under zero p q a d = rw (along-flat ok a (d ∙ omega arith)) (or_left (same p p) false (same_refl p))
    along_under (suc e) p q a d = go (along-cases ok a) (λ s b i. along_under e s q b i)
      where
        go : (q ≡ p) ⊎ ((s : Place) × (parent s ≡ some p) × T (chosen ok s) × Along ok s q) → ((s : Place) → Along ok s q → q.depth ≡ s.depth + e → T (among q (under e s))) → T (among q (under (suc e) p))
        go (inl i) ih = absurd (omega (arith, ap (λ (y : Place). y.depth) i))
        go (inr (s, i, u, b)) ih = kids_under e p s q i (ih s b (omega (arith, parent-depth s p i))) xs (covered c (s.i % 2) (s.j % 2) (omega arith) (omega arith) u)

-- ---- a step at each of their rows

down_step : (f : List ℤ → ℕ → List ℤ) (cap : ℕ) (ws : List ℕ) (e : ℕ) (t : List ℤ) (n : ℕ) (b : Bool) → eqb n 0 ≡ b → each_down f cap ws (suc e) t n ≡ cond b t (each_kid (λ u k. each_down f cap ws e u k) cap n ws t)
unfolding each_down
down_step f cap ws e t n b i = rw i

module _ {g : Grid} {cap : ℕ} {es : List Entry} (r : Rooted g cap es) {row : List ℤ → ℕ → List ℤ} {fresh : Place → Bool → ℕ} {Right : Flags → Type 0} {h : ℕ} (s : RowStep g es row fresh Right h) where
  module _ (xs : List Pair) (d : T (binary xs)) where
    -- the kids of one row, one after the other
    pass-kids : (e : ℕ) (p : Place) → p.depth + suc e ≡ h
        → ((k : Place) → k.depth + e ≡ h → (f : Flags) → Right f → each_down row cap (words_of xs) e (table_with g es f) (number es k) ≡ table_with g es (new_at fresh (under xs e k) f))
        → (ys : List Pair) → T (binary ys) → (f : Flags) → Right f
        → each_kid (λ u k. each_down row cap (words_of xs) e u k) cap (number es p) (words_of ys) (table_with g es f) ≡ table_with g es (new_at fresh (under_kids xs e p ys) f)
    pass-kids e p i ih [] b f right = refl
    pass-kids e p i ih (y ∷ ys) b f right =
        let bin = leb y.0 1 && leb y.1 1 in
        let z = and_left bin (binary ys) b in
        let l₀ = leb→le _ _ (and_left (leb y.0 1) (leb y.1 1) z) in
        let l₁ = leb→le _ _ (and_right (leb y.0 1) (leb y.1 1) z) in
        let k = kid_by y.0 y.1 p in
        let j : k.depth + e ≡ h = omega (arith, parent-depth k p (kid-by-parent y.0 y.1 p l₀ l₁)) in
        let more = each_kid (λ u k. each_down row cap (words_of xs) e u k) cap (number es p) (words_of ys) in
        ap (λ (m : ℕ). more (each_down row cap (words_of xs) e (table_with g es f) m)) (kid-link r f y.0 y.1 l₀ l₁ (some p))
        ∙ ap more (ih k j f right)
        ∙ pass-kids e p i ih ys (and_right bin (binary ys) b) (new_at fresh (under xs e k) f) (kept-all r s (under xs e k) (λ q t. (under-along xs d e k q t).1 ∙ j) f right)
        ∙ flags-same g es (new_at fresh (under_kids xs e p ys) (new_at fresh (under xs e k) f)) (new_at fresh (under xs e k ++ under_kids xs e p ys) f) (λ m q _. new-more r s (under xs e k) (under_kids xs e p ys) f q)

    pass-down : (e : ℕ) (p : Place) → p.depth + e ≡ h → (f : Flags) → Right f
        → each_down row cap (words_of xs) e (table_with g es f) (number es p) ≡ table_with g es (new_at fresh (under xs e p) f)
    unfolding each_down under
    pass-down zero p i f right = pass-place r s f right (some p) (λ q j. ap (λ (y : Place). y.depth) (sym (some-injective _ _ j)) ∙ omega arith)
    pass-down (suc e) p i f right = go (ℕ_discrete (number es p) 0) (λ k j f right. pass-down e k j f right)
      where
        go : Dec (number es p ≡ 0)
            → ((k : Place) → k.depth + e ≡ h → (f : Flags) → Right f → each_down row cap (words_of xs) e (table_with g es f) (number es k) ≡ table_with g es (new_at fresh (under xs e k) f))
            → each_down row cap (words_of xs) (suc e) (table_with g es f) (number es p) ≡ table_with g es (new_at fresh (under xs (suc e) p) f)
        go (yes z) ih =
            down_step row cap (words_of xs) e (table_with g es f) (number es p) true (eq-eqb (number es p) 0 z)
            ∙ flags-same g es f (new_at fresh (under xs (suc e) p) f)
            (λ m q j. rw (no-is (among q (under xs (suc e) p)) (λ t. numbered-not-zero es r.numbered p (along-stands r (under-along xs d (suc e) p q t).0 (stands-in es m q j)) z)))
        go (no z) ih =
            down_step row cap (words_of xs) e (table_with g es f) (number es p) false (ne_eqb (number es p) 0 z)
            ∙ pass-kids e p i ih xs d f right

    down-none : (e : ℕ) (t : List ℤ) → each_down row cap (words_of xs) e t 0 ≡ t
    unfolding each_down
    down-none zero t = s.nil t
    down-none (suc e) t = refl

    pub pass-under : (e : ℕ) (o : Option Place) → ((p : Place) → o ≡ some p → p.depth + e ≡ h) → (f : Flags) → Right f
        → each_down row cap (words_of xs) e (table_with g es f) (number_of es o) ≡ table_with g es (new_at fresh (under_of xs e o) f)
    pass-under e none i f right = down-none e (table_with g es f)
    pass-under e (some p) i f right = pass-down e p (i p refl) f right
