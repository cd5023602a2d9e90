-- What is put piece by piece is put in one, and a digit that is put before those above it stands where it belongs.
-- Assumes nothing.
use Rattle.std.proofs.Common.{◌≡◌, ℕ, zero, suc, ◌+◌, ◌-◌, ◌/◌, ◌%◌, ◌<◌, ◌≤◌, List, [], ◌∷◌, ◌++◌, length, get_or, take, set, sym, refl, ap, ◌∙◌, append_assoc, arith, length-append}
use Rattle.std.proofs.lemmas.List.{take_more}
use lib.Seq.{sets, length-sets, set_comm, take-append_seam, sets-eq}
use borrow.Rule.Slice.PartMut.{put_mid, Post-is}
use Rattle.place_laws.specs.SetsInTurn.{sets-append}
use Rattle.mesh.specs.Page.{total}
use Rattle.lines.specs.Puts.{Put}

-- ---- lists

pub total-append : (xs ys : List ℕ) → total (xs ++ ys) ≡ total xs + total ys
total-append [] ys = omega arith
total-append (x ∷ xs) ys = omega (arith, total-append xs ys)

pub total-more : (l : List ℕ) (i : ℕ) → i < length l → total (take (i + 1) l) ≡ total (take i l) + get_or l i 0
total-more l i h = ap total (take_more l i 0 h) ∙ total-append (take i l) (get_or l i 0 ∷ []) ∙ omega arith

-- ---- pieces

-- a part that is copied whole
pub copied : (xs d : List ℕ) (at : ℕ) → at + length xs ≤ length d → put_mid at (at + length xs - at) d xs ≡ sets d at xs
copied xs d at h =
    ap (λ (z : List ℕ). take at d ++ (xs ++ z)) (Post-is at (at + length xs) d (omega arith)) ∙ sym (append_assoc (take at d) xs _) ∙ sym (sets-eq xs d at h)

pub put-length : {d : List ℕ} {at : ℕ} {xs e : List ℕ} {r : ℕ} → Put d at xs e r → length e ≡ length d
put-length {d} {at} {xs} w = ap length w.stored ∙ length-sets d at xs

pub put-more : {d : List ℕ} {at : ℕ} {xs e : List ℕ} {r : ℕ} {ys f : List ℕ} {q : ℕ} → Put d at xs e r → Put e r ys f q → Put d at (xs ++ ys) f q
put-more {d} {at} {xs} {e} {r} {ys} w u =
    record {
      stored = u.stored ∙ ap (λ (z : List ℕ). sets z r ys) w.stored ∙ ap (λ (i : ℕ). sets (sets d at xs) i ys) w.next ∙ sym (sets-append xs ys d at);
      next = omega (arith, w.next, u.next, length-append xs ys);
    }

pub put_as : {d : List ℕ} {at : ℕ} {xs ys e : List ℕ} {r : ℕ} → xs ≡ ys → Put d at xs e r → Put d at ys e r
put_as {d} {at} {xs} {ys} {e} {r} h w = rw (← h) w

-- what the next piece has to know
pub text-put : {d : List ℕ} {at : ℕ} {xs e : List ℕ} {r : ℕ} → Put d at xs e r → (length e ≡ length d) × (r ≡ at + length xs)
text-put w = (put-length w, w.next)

-- ---- digits, the last first

pub sets-set : (xs d : List ℕ) (i j x : ℕ) → i + length xs ≤ j → sets (set d j x) i xs ≡ set (sets d i xs) j x
sets-set [] d i j x h = refl
sets-set (y ∷ ys) d i j x h =
    ap (λ (z : List ℕ). sets z (suc i) ys) (set_comm d j i x y (λ e. omega (arith, e))) ∙ sets-set ys (set d i y) (suc i) j x (omega arith)

module _ (f : ℕ → ℕ) (b : ℕ) where
  -- the last k digits of n to the base b, each as f writes it
  unfoldable pub places : ℕ → ℕ → List ℕ
  places zero n = []
  places (suc k) n = places k (n / b) ++ (f (n % b) ∷ [])

  pub length-places : (k n : ℕ) → length (places k n) ≡ k
  unfolding places
  length-places zero n = refl
  length-places (suc k) n = omega (arith, length-append (places k (n / b)) (f (n % b) ∷ []), length-places k (n / b))

  places-one : (d : List ℕ) (at k n : ℕ) → sets (set d (at + k) (f (n % b))) at (places k (n / b)) ≡ sets d at (places (suc k) n)
  unfolding places
  places-one d at k n =
      let l : length (places k (n / b)) ≡ k = length-places k (n / b) in
      sets-set (places k (n / b)) d at (at + k) (f (n % b)) (omega arith)
      ∙ ap (λ (i : ℕ). set (sets d at (places k (n / b))) (at + i) (f (n % b))) (sym l)
      ∙ sym (sets-append (places k (n / b)) (f (n % b) ∷ []) d at)

  -- one turn of the loop that puts them
  pub places-turn : (d : List ℕ) (at i n x : ℕ) → at < i → x ≡ f (n % b) → sets (set d (i - 1) x) at (places (i - 1 - at) (n / b)) ≡ sets d at (places (i - at) n)
  places-turn d at i n x h e =
      let k : ℕ = i - 1 - at in
      let q : i - at ≡ suc k = omega arith in
      let p : i - 1 ≡ at + k = omega arith in
      ap (λ (z : ℕ). sets (set d (i - 1) z) at (places k (n / b))) e
      ∙ ap (λ (j : ℕ). sets (set d j (f (n % b))) at (places k (n / b))) p
      ∙ places-one d at k n
      ∙ ap (λ (j : ℕ). sets d at (places j n)) (sym q)

  -- and its end
  pub places-done : (d : List ℕ) (at i n : ℕ) → i ≤ at → d ≡ sets d at (places (i - at) n)
  unfolding places
  places-done d at i n h =
      let q : i - at ≡ 0 = omega arith in
      ap (λ (k : ℕ). sets d at (places k n)) (sym q)

-- ---- from the start

-- what stands before the next place
pub put_front : {d xs e : List ℕ} {r : ℕ} → Put d 0 xs e r → length xs ≤ length d → take r e ≡ xs
put_front {d} {xs} {e} {r} w h =
    let k : r ≡ length xs = omega (arith, w.next) in
    rw (k, w.stored ∙ sets-eq xs d 0 (omega arith)) (take-append_seam xs _)
