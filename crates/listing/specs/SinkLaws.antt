-- The laws of the sinks: what is taken first and what is taken then are one list. An `impl` cites them, so they stand here and no tactic is used.
-- Assumes nothing.
use Prim.Native.Nat.{ℕ, suc, ◌+◌, ◌<◌, ◌≤◌}
use mathlib.Core.Path.{◌≡◌, refl, sym, ap, ◌∙◌, subst}
use mathlib.Core.Bool.{true, false}
use mathlib.Core.Logic.{◌⊎◌, inl, inr}
use mathlib.Core.List.{List, [], ◌∷◌, ◌++◌}
use lib.Dec.{leb}
use lib.ListN.{length, length-append}
use lib.Seq.{sets, length-sets, set_out}
use Rattle.std.specs.Prelude.{min}
use Rattle.std.proofs.Math.Nat.{le_refl, le_trans, le-suc, le_of_suc-le, le-add_right, add-zero, add_assoc, min-le_right, min-eq_left, min-eq_right}
use Rattle.std.proofs.lemmas.Bool.Decides.{leb_tells}
use Rattle.place_laws.specs.SetsInTurn.{sets-append}
use Rattle.listing.specs.Written.{WroteWhatFits}
use Rattle.listing.specs.Sinks.{Wrote, Counted}
use Rattle.listing.specs.declared.sinks.Numbers.{Numbers}
use Rattle.listing.specs.declared.sinks.Count.{Count}

-- ---- places

from_here : (at bound : ℕ) → at ≤ bound → at ≡ min (at + 0) bound
from_here at bound h = sym (ap (λ (i : ℕ). min i bound) (add-zero at) ∙ min-eq_left h)

bounded_twice : (p n bound : ℕ) → min (min p bound + n) bound ≡ min (p + n) bound
bounded_twice p n bound = go (leb_tells p bound)
  where
    go : ((leb p bound ≡ true) × (p ≤ bound)) ⊎ ((leb p bound ≡ false) × (bound < p)) → min (min p bound + n) bound ≡ min (p + n) bound
    go (inl (t, h)) = ap (λ (i : ℕ). min (i + n) bound) (min-eq_left h)
    go (inr (f, h)) =
        let k : bound ≤ p = le_of_suc-le h in
        ap (λ (i : ℕ). min (i + n) bound) (min-eq_right k) ∙ min-eq_right (le-add_right bound n) ∙ sym (min-eq_right (le_trans k (le-add_right p n)))

-- the place after two lists is that after one
one_place : (at bound : ℕ) (xs ys : List ℕ) → min (min (at + length xs) bound + length ys) bound ≡ min (at + length (xs ++ ys)) bound
one_place at bound xs ys =
    bounded_twice (at + length xs) (length ys) bound
    ∙ ap (λ (i : ℕ). min i bound) (add_assoc at (length xs) (length ys) ∙ ap (λ (i : ℕ). at + i) (sym (length-append xs ys)))

-- ---- lists

sets-out : (ys l : List ℕ) (i : ℕ) → length l ≤ i → sets l i ys ≡ l
sets-out [] l i h = refl
sets-out (y ∷ ys) l i h = ap (λ (x : List ℕ). sets x (suc i) ys) (set_out l i y h) ∙ sets-out ys l (suc i) (le_trans h (le-suc i))

pub wrote_none : (d : List ℕ) (n : ℕ) → n ≤ length d → WroteWhatFits d n [] d n
wrote_none d n h = record { stored = refl; next = from_here n (length d) h }

pub wrote-le : {d : List ℕ} {n : ℕ} {xs e : List ℕ} {m : ℕ} → WroteWhatFits d n xs e m → m ≤ length d
wrote-le {d} {n} {xs} w = subst (λ (i : ℕ). i ≤ length d) (sym w.next) (min-le_right (n + length xs) (length d))

pub wrote-length : {d : List ℕ} {n : ℕ} {xs e : List ℕ} {m : ℕ} → WroteWhatFits d n xs e m → length e ≡ length d
wrote-length {d} {n} {xs} w = ap length w.stored ∙ length-sets d n xs

wrote-within : {d : List ℕ} {n : ℕ} {xs e : List ℕ} {m : ℕ} → WroteWhatFits d n xs e m → m ≤ length e
wrote-within {m = m} w = subst (λ (b : ℕ). m ≤ b) (sym (wrote-length w)) (wrote-le w)

pub wrote-more : {d : List ℕ} {n : ℕ} {xs e : List ℕ} {m : ℕ} {ys f : List ℕ} {k : ℕ} → WroteWhatFits d n xs e m → WroteWhatFits e m ys f k → WroteWhatFits d n (xs ++ ys) f k
wrote-more {d} {n} {xs} {e} {m} {ys} {f} {k} w v = record {
  stored = v.stored ∙ go (leb_tells (n + length xs) (length d)) ∙ sym (sets-append xs ys d n);
  next =
      v.next
      ∙ ap (λ (b : ℕ). min (m + length ys) b) (wrote-length w)
      ∙ ap (λ (i : ℕ). min (i + length ys) (length d)) w.next
      ∙ one_place n (length d) xs ys;
}
  where
    go : ((leb (n + length xs) (length d) ≡ true) × (n + length xs ≤ length d)) ⊎ ((leb (n + length xs) (length d) ≡ false) × (length d < n + length xs)) → sets e m ys ≡ sets (sets d n xs) (n + length xs) ys
    go (inl (t, h)) = ap (λ (l : List ℕ). sets l m ys) w.stored ∙ ap (λ (i : ℕ). sets (sets d n xs) i ys) (w.next ∙ min-eq_left h)
    go (inr (t, h)) =
        let past : length d ≤ n + length xs = le_of_suc-le h in
        let end : length e ≡ m = wrote-length w ∙ sym (w.next ∙ min-eq_right past) in
        let none-left : length e ≤ m = subst (λ (i : ℕ). length e ≤ i) end (le_refl (length e)) in
        let none : length (sets d n xs) ≤ n + length xs = subst (λ (i : ℕ). i ≤ n + length xs) (sym (length-sets d n xs)) past in
        sets-out ys e m none-left ∙ w.stored ∙ sym (sets-out ys (sets d n xs) (n + length xs) none)

-- ---- sinks

pub numbers_none : (s : Numbers) → Wrote s [] s
numbers_none s = record { same = refl; wrote = λ h. wrote_none _ _ h }

pub numbers_more : (s e f : Numbers) (xs ys : List ℕ) → Wrote s xs e → Wrote e ys f → Wrote s (xs ++ ys) f
numbers_more s e f xs ys w v = record {
  same = v.same ∙ w.same;
  wrote = λ h. wrote-more (w.wrote h) (v.wrote (wrote-within (w.wrote h)));
}

pub count_none : (s : Count) → Counted s [] s
count_none s = record { same = refl; counted = λ h. from_here _ _ h }

pub count_more : (s e f : Count) (xs ys : List ℕ) → Counted s xs e → Counted e ys f → Counted s (xs ++ ys) f
count_more s e f xs ys w v = record {
  same = v.same ∙ w.same;
  counted = λ h.
      let within : e.at ≤ e.bound = subst (λ (i : ℕ). i ≤ e.bound) (sym (w.counted h ∙ ap (λ (b : ℕ). min (s.at + length xs) b) (sym w.same))) (min-le_right (s.at + length xs) e.bound) in
      v.counted within
      ∙ ap (λ (b : ℕ). min (e.at + length ys) b) w.same
      ∙ ap (λ (i : ℕ). min (i + length ys) s.bound) (w.counted h)
      ∙ one_place s.at s.bound xs ys;
}
