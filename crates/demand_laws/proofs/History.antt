-- Histories: one after another; and the set rules and the rules of the numbers leave one state only. A patch's number is kept or taken in turn, and
-- in turn there is one smallest; so the numbers are the same place by place, and with the same contents the entries are.
-- Assumes nothing.
use Prim.Native.Nat.{ℕ, zero, suc, ◌<◌}
use native.Mathlib.Omega.{arith}
use native.Mathlib.Decide.{ℕ_discrete, dec_lt}
use mathlib.Core.Path.{◌≡◌, refl, sym, ap, ◌∙◌, subst, fun_ext}
use mathlib.Core.Logic.{◌≢◌, ◌⊎◌, inl, inr}
use mathlib.Core.Bool.{Bool, true, false, not}
use mathlib.Core.Option.{Option, some}
use mathlib.Core.List.{List, [], ◌∷◌, ◌++◌, append_assoc}
use lib.Dec.{T}
use lib.ListN.{length}
use lib.Seq.{ext_get_or}
use Rattle.mesh.specs.Tools.{any, is_some}
use Rattle.mesh.specs.Place.{Place, Grid, same, In}
use Rattle.mesh.specs.Mesh.{patch}
use Rattle.mesh.specs.State.{State, Entry, nil, free, used, Cell, place_of, is_nil, entry, cells, number, grid_of, contents}
use Rattle.mesh.specs.Valid.{Valid}
use Rattle.place_laws.proofs.Bools.{is-yes}
use Rattle.place_laws.proofs.Places.{in-cases, in_one}
use Rattle.place_laws.proofs.Distinct.{in-append}
use Rattle.number_laws.proofs.Entries.{place-used}
use Rattle.number_laws.proofs.NumberedPlaces.{valid-numbered, number-place, place-number, not-zero, entry-contents, cells-contents}
use Rattle.mesh.specs.Deed.{Deed}
use Rattle.demand_laws.specs.Numbers.{turns, FreeBehind, Smallest, Numbers}
use Rattle.demand_laws.specs.History.{Follows, History, no_more, one_more}

pub history-then : {s t u : State} {ds es : List Deed} → History s ds t → History t es u → History s (ds ++ es) u
history-then no_more k = k
history-then (one_more d h) k = one_more d (history-then h k)

-- ---- one smallest

smallest-one : (P Q : ℕ → Type 0) → ((m : ℕ) → P m → Q m) → ((m : ℕ) → Q m → P m) → (n k : ℕ) → Smallest P n → Smallest Q k → n ≡ k
smallest-one P Q f g n k a b = go (dec_lt n k) (dec_lt k n)
  where
    go : Dec (n < k) → Dec (k < n) → n ≡ k
    go (yes l) y = absurd (b.none_below n l (f n a.holds))
    go (no l) (yes m) = absurd (a.none_below k m (g k b.holds))
    go (no l) (no m) = omega arith

free-same : (s t u : State) (xs : List Place) → ((r : Place) → In r xs → number t.entries r ≡ number u.entries r) → (m : ℕ) → FreeBehind s t xs m → FreeBehind s u xs m
free-same s t u xs e m (f, others) = (f, λ r i h. others r i (e r i ∙ h))

-- ---- a place that is no patch has no number

not_some : (n : ℕ) → (n ≢ 0 → ⊥) → n ≡ 0
not_some zero f = refl
not_some (suc n) f = absurd (f (λ z. omega arith))

unpatched : (t : State) → Valid t → (q : Place) → (T (patch (grid_of t) (cells t.entries) q) → ⊥) → number t.entries q ≡ 0
unpatched t v q f = not_some (number t.entries q) (λ h. f (v.each (number t.entries q) q (number-place t.entries q h)))

-- ---- the same numbers

module _ (s t u : State) (d : Deed) (a : Follows s d t) (b : Follows s d u) where
  same-contents : contents t.entries ≡ contents u.entries
  same-contents = a.by-rule ∙ sym b.by-rule

  same-cells : cells t.entries ≡ cells u.entries
  same-cells = fun_ext (λ q.
      cells-contents t.entries (valid-numbered a.valid) q
      ∙ ap (λ (c : Place → Option Cell). is_some (c q)) same-contents
      ∙ sym (cells-contents u.entries (valid-numbered b.valid) q))

  same-patch : (q : Place) → patch (grid_of t) (cells t.entries) q ≡ patch (grid_of u) (cells u.entries) q
  same-patch q = ap (λ (g : Grid). patch g (cells t.entries) q) (a.same-grid ∙ sym b.same-grid) ∙ ap (λ (c : Place → Bool). patch (grid_of u) c q) same-cells

  -- but for the turns of new patches
  settled : (q : Place) → (In q (turns (grid_of s) d) → number s.entries q ≡ 0 → number t.entries q ≡ number u.entries q) → number t.entries q ≡ number u.entries q
  settled q turn = old (ℕ_discrete (number s.entries q) 0)
    where
      stays : number s.entries q ≢ 0 → (x : Bool) → patch (grid_of t) (cells t.entries) q ≡ x → number t.entries q ≡ number u.entries q
      stays h true e =
          let y = is-yes _ e in
          a.numbers.keeps q h y ∙ sym (b.numbers.keeps q h (subst T (same-patch q) y))
      stays h false e = unpatched t a.valid q (subst T e) ∙ sym (unpatched u b.valid q (subst T (sym (same-patch q) ∙ e)))

      unturned : (w : State) → Numbers s d w → any (same q) (turns (grid_of s) d) ≡ false → number s.entries q ≡ 0 → number w.entries q ≡ 0
      unturned w k e z = not_some (number w.entries q) (λ h. subst T e (k.in-turn q z h))

      new : number s.entries q ≡ 0 → (x : Bool) → any (same q) (turns (grid_of s) d) ≡ x → number t.entries q ≡ number u.entries q
      new z true e = turn (is-yes _ e) z
      new z false e = unturned t a.numbers e z ∙ sym (unturned u b.numbers e z)

      old : Dec (number s.entries q ≡ 0) → number t.entries q ≡ number u.entries q
      old (yes z) = new z (any (same q) (turns (grid_of s) d)) refl
      old (no h) = stays h (patch (grid_of t) (cells t.entries) q) refl

  -- those that had their turn, and those that have it yet
  turn-by-turn : (xs ys : List Place) → turns (grid_of s) d ≡ xs ++ ys → ((r : Place) → In r xs → number t.entries r ≡ number u.entries r)
      → (r : Place) → In r ys → number t.entries r ≡ number u.entries r
  turn-by-turn xs [] e had r i = absurd i
  turn-by-turn xs (q ∷ ys) e had r i = go (in-cases r q ys i) (turn-by-turn (xs ++ (q ∷ [])) ys (e ∙ sym (append_assoc xs (q ∷ []) ys)) (λ w j. joined w (in-append w xs (q ∷ []) j)))
    where
      here : number t.entries q ≡ number u.entries q
      here = settled q (λ j z. smallest-one (FreeBehind s t xs) (FreeBehind s u xs) (free-same s t u xs had) (free-same s u t xs (λ w k. sym (had w k))) _ _ (a.numbers.takes xs ys q e z) (b.numbers.takes xs ys q e z))

      at-q : (w : Place) → w ≡ q → number t.entries w ≡ number u.entries w
      at-q w k = subst (λ (x : Place). number t.entries x ≡ number u.entries x) (sym k) here

      joined : (w : Place) → In w xs ⊎ In w (q ∷ []) → number t.entries w ≡ number u.entries w
      joined w (inl j) = had w j
      joined w (inr j) = at-q w (in_one w q j)

      go : (r ≡ q) ⊎ In r ys → ((w : Place) → In w ys → number t.entries w ≡ number u.entries w) → number t.entries r ≡ number u.entries r
      go (inl k) rest = at-q r k
      go (inr j) rest = rest r j

  same_number : (q : Place) → number t.entries q ≡ number u.entries q
  same_number q = settled q (λ i z. turn-by-turn [] (turns (grid_of s) d) refl (λ r j. absurd j) q i)

-- ---- the same entries

-- what stands under a number of t stands under it in u
same-used : (t u : State) → Valid t → Valid u → contents t.entries ≡ contents u.entries → ((q : Place) → number t.entries q ≡ number u.entries q)
    → (n : ℕ) (q : Place) (x : Option Cell) → entry t.entries n ≡ used q x → entry u.entries n ≡ used q x
same-used t u v w c numbers n q x e =
    let k : number u.entries q ≡ n = sym (numbers q) ∙ place-number t.entries (valid-numbered v) n q (ap place_of e) in
    let z : number u.entries q ≢ 0 = λ y. not-zero t.entries (valid-numbered v) n q (ap place_of e) (sym k ∙ y) in
    let h : place_of (entry u.entries n) ≡ some q = ap (λ (m : ℕ). place_of (entry u.entries m)) (sym k) ∙ number-place u.entries q z in
    let i = place-used (entry u.entries n) q h in
    i ∙ ap (used q) (sym (entry-contents u.entries (valid-numbered w) n q _ i) ∙ ap (λ (f : Place → Option Cell). f q) (sym c) ∙ entry-contents t.entries (valid-numbered v) n q x e)

-- "one possible content": the rules leave one state
pub follows-one : (s t u : State) (d : Deed) → Follows s d t → Follows s d u → t ≡ u
follows-one s t u d a b = λ i. record { header = header_is i; entries = entries-is i }
  where
    header_is : t.header ≡ u.header
    header_is = λ i. record { grid = (a.same-grid ∙ sym b.same-grid) i; mark = (a.next-mark ∙ sym b.next-mark) i }

    long : length t.entries ≡ length u.entries
    long = a.same_length ∙ sym b.same_length

    entry-is : (n : ℕ) → n < length t.entries → entry t.entries n ≡ entry u.entries n
    entry-is zero l = a.valid.zeroth ∙ sym b.valid.zeroth
    entry-is (suc m) l = go (entry t.entries n) (entry u.entries n) refl refl (a.valid.others n (omega arith) (omega arith)) (b.valid.others n (omega arith) (omega (arith, long)))
      where
        n : ℕ
        n = suc m

        numbers : (q : Place) → number t.entries q ≡ number u.entries q
        numbers = same_number s t u d a b

        c : contents t.entries ≡ contents u.entries
        c = same-contents s t u d a b

        go : (x y : Entry) → entry t.entries n ≡ x → entry u.entries n ≡ y → T (not (is_nil (entry t.entries n))) → T (not (is_nil (entry u.entries n))) → entry t.entries n ≡ entry u.entries n
        go (used q x) y e f tn un = e ∙ sym (same-used t u a.valid b.valid c numbers n q x e)
        go free free e f tn un = e ∙ sym f
        go free (used q x) e f tn un = same-used u t b.valid a.valid (sym c) (λ r. sym (numbers r)) n q x f ∙ sym f
        go free nil e f tn un = absurd (rw f at un)
        go nil y e f tn un = absurd (rw e at tn)

    entries-is : t.entries ≡ u.entries
    entries-is = ext_get_or nil t.entries u.entries long entry-is

pub history-one : (ds : List Deed) {s t u : State} → History s ds t → History s ds u → t ≡ u
history-one [] no_more no_more = refl
history-one (d ∷ ds) {s} {t} {u} (one_more {t = m} a h) (one_more {t = w} b k) =
    history-one ds {s = w} {t = t} {u = u} (subst (λ (x : State). History x ds t) (follows-one s m w d a b) h) k
