-- Where the rows of a level begin anew: the row after a row, and which steps cross the seam of level 0, where a level and the one below do not have
-- their rows in pairs.
-- Assumes nothing.
use Prim.Native.Nat.{ℕ, zero, suc, pred, ◌+◌, ◌-◌, ◌*◌, ◌%◌, ◌^◌, ◌≤◌, ◌<◌}
use native.Mathlib.Nat.{pow-suc, mul_assoc, mod-zero, mod_self, mod-eq_of_lt}
use native.Mathlib.Omega.{arith}
use native.Mathlib.Decide.{ℕ_discrete, dec_le}
use mathlib.Core.Path.{◌≡◌, refl, sym, ap, ◌∙◌}
use mathlib.Core.Logic.{◌≢◌, ◌⊎◌, inl, inr}
use mathlib.Core.Bool.{Bool, true, false, ◌&&◌}
use lib.Dec.{eqb, ltb, lt→ltb}
use borrow.Author.Tests.{eq-eqb, ne_eqb}
use Rattle.mesh.specs.Place.{Place, Grid, base, lap, j_after, Wind, NE, SE, SW, NW, N, E, S, W, is_ring}
use Rattle.mesh.specs.Seam.{seam, crosses}
use Rattle.place_laws.proofs.Bools.{yes-is, is-yes}
use Rattle.place_laws.proofs.Steps.{lap-ghost, lap-open, lap-ring, lap-next, after_on, after-anew}

-- ---- the row after a row

-- at most one row on
pub after-near : (n j : ℕ) → j_after n j ≤ suc j
after-near n j = go (ℕ_discrete (suc j) n)
  where
    go : Dec (suc j ≡ n) → j_after n j ≤ suc j
    go (yes e) = rw (after-anew n j e) (omega arith)
    go (no h) = rw (after_on n j h) (omega arith)

-- within the rows that there are
pub after-within : (n j : ℕ) → j < n → j_after n j < n
after-within n j l = go (ℕ_discrete (suc j) n)
  where
    go : Dec (suc j ≡ n) → j_after n j < n
    go (yes e) = rw (after-anew n j e) (omega arith)
    go (no h) = rw (after_on n j h) (omega (arith, h))

-- counted modulo the rows that there are
pub after-modulo : (n j : ℕ) → (n ≡ 0) ⊎ (j < n) → j_after n j ≡ (j + 1) % n
after-modulo n j h = go h (ℕ_discrete (suc j) n)
  where
    go : (n ≡ 0) ⊎ (j < n) → Dec (suc j ≡ n) → j_after n j ≡ (j + 1) % n
    go (inl z) d = rw (z, mod-zero (j + 1)) (after_on 0 j (λ e. omega arith) ∙ omega arith)
    go (inr l) (yes e) = let f : j + 1 ≡ n = omega arith in rw (f, mod_self n) (after-anew n j e)
    go (inr l) (no f) = let k : j + 1 < n = omega (arith, f) in rw (mod-eq_of_lt k) (after_on n j f ∙ omega arith)

-- another row, if there are more than one
pub after-other : (n j : ℕ) → (n ≡ 1 → ⊥) → j_after n j ≡ j → ⊥
after-other n j f e = go (ℕ_discrete (suc j) n)
  where
    go : Dec (suc j ≡ n) → ⊥
    go (yes h) = f (omega (arith, after-anew n j h))
    go (no h) = omega (arith, after_on n j h)

-- two rows on is another row, if there are more than two
pub after-twice : (n j : ℕ) → (n ≡ 0) ⊎ (3 ≤ n) → j_after n (j_after n j) ≡ j → ⊥
after-twice n j m e = go m (ℕ_discrete (suc j) n)
  where
    go : (n ≡ 0) ⊎ (3 ≤ n) → Dec (suc j ≡ n) → ⊥
    go (inl z) (yes h) = omega arith
    go (inr z) (yes h) =
        let a : j_after n 0 ≡ j = rw (after-anew n j h) at e in
        omega (arith, after_on n 0 (λ k. omega arith))
    go z (no h) = next z (ℕ_discrete (suc (suc j)) n)
      where
        b : j_after n (suc j) ≡ j
        b = rw (after_on n j h) at e

        next : (n ≡ 0) ⊎ (3 ≤ n) → Dec (suc (suc j) ≡ n) → ⊥
        next (inl z) (yes k) = omega arith
        next (inr z) (yes k) = omega (arith, after-anew n (suc j) k, b)
        next z (no k) = omega (arith, after_on n (suc j) k, b)

-- ---- levels

pub lap-base : (g : Grid) → is_ring g ≡ true → lap g (base g) ≡ g.rows
lap-base g h = let z : base g - base g ≡ 0 = omega arith in lap-ring g (base g) h (omega arith) ∙ rw z (omega arith)

-- so many levels on
pub lap-on : (g : Grid) (e n : ℕ) → base g ≤ e → lap g (e + n) ≡ lap g e * 2 ^ n
lap-on g e zero h = let s : e + 0 ≡ e = omega arith in ap (lap g) s ∙ omega arith
lap-on g e (suc n) h =
    let s : e + suc n ≡ suc (e + n) = omega arith in
    rw (s, lap-next g (e + n) (omega arith), lap-on g e n h, pow-suc 2 n, ← mul_assoc (lap g e) (2 ^ n) 2) (omega arith)

-- a row of a level that goes round is below the number of its rows; where a level does not, any row is
abbrev pub Below : Grid → Place → Type 0
Below g p = (lap g p.depth ≡ 0) ⊎ (p.j < lap g p.depth)

-- ---- the seam

-- the step does not cross the seam of level 0: the ghosts have none
abbrev pub Smooth : Grid → Wind → Place → Type 0
Smooth g w p = p.depth ≡ base g → seam w (lap g p.depth) p.j ≡ false

pub smooth-is : (g : Grid) (w : Wind) (p : Place) → crosses g w p ≡ false → Smooth g w p
unfolding crosses
smooth-is g w p h e = rw (eq-eqb p.depth (base g) e) at h

-- an open grid has none
pub crosses-open : (g : Grid) (w : Wind) (p : Place) → is_ring g ≡ false → crosses g w p ≡ false
unfolding crosses
crosses-open g w p h = rw (lap-open g p.depth h) (go (eqb p.depth (base g)) w)
  where
    go : (b : Bool) (w : Wind) → (b && seam w 0 p.j) ≡ false
    go false w = refl
    go true N = ne_eqb (suc p.j) 0 (λ e. omega arith)
    go true S = refl
    go true E = refl
    go true W = refl
    go true NE = refl
    go true SE = refl
    go true SW = refl
    go true NW = refl

pub smooth-open : (g : Grid) (w : Wind) (p : Place) → is_ring g ≡ false → Smooth g w p
smooth-open g w p h = smooth-is g w p (crosses-open g w p h)

pub smooth-above : (g : Grid) (w : Wind) (p : Place) → base g < p.depth → Smooth g w p
smooth-above g w p h e = absurd (omega arith)

-- a level has two rows for each of the one below, or it is level 0, where the one below does not go round
paired : (g : Grid) (p : Place) → 0 < p.depth → (lap g p.depth ≡ 2 * lap g (pred p.depth)) ⊎ ((p.depth ≡ base g) × (lap g (pred p.depth) ≡ 0))
paired g p h = go (ℕ_discrete p.depth (base g)) (dec_le (base g) p.depth)
  where
    next : suc (pred p.depth) ≡ p.depth
    next = omega arith

    go : Dec (p.depth ≡ base g) → Dec (base g ≤ p.depth) → (lap g p.depth ≡ 2 * lap g (pred p.depth)) ⊎ ((p.depth ≡ base g) × (lap g (pred p.depth) ≡ 0))
    go (yes e) a = inr (e, lap-ghost g (pred p.depth) (omega arith))
    go (no f) (yes a) = inl (ap (lap g) (sym next) ∙ lap-next g (pred p.depth) (omega (arith, f)))
    go (no f) (no a) = inl (lap-ghost g p.depth (omega (arith, a)) ∙ omega (arith, lap-ghost g (pred p.depth) (omega (arith, a))))

-- n rows on a level and m on the one below, and no seam north of the row j: it is not the last one
abbrev pub NorthPaired : ℕ → ℕ → ℕ → Type 0
NorthPaired n m j = (n ≡ 2 * m) ⊎ ((m ≡ 0) × (suc j ≢ n))

-- and none south of it: it is neither the first one nor the one past the last
abbrev pub SouthPaired : ℕ → ℕ → ℕ → Type 0
SouthPaired n m j = (n ≡ 2 * m) ⊎ ((m ≡ 0) × (0 < j) × (j ≢ n))

module _ (g : Grid) (p : Place) (deep : 0 < p.depth) where
  abbrev n : ℕ
  n = lap g p.depth

  abbrev m : ℕ
  m = lap g (pred p.depth)

  pub north-paired : Smooth g N p → NorthPaired (lap g p.depth) (lap g (pred p.depth)) p.j
  north-paired s = go (paired g p deep)
    where
      go : (n ≡ 2 * m) ⊎ ((p.depth ≡ base g) × (m ≡ 0)) → NorthPaired n m p.j
      go (inl e) = inl e
      go (inr (d, z)) = inr (z, λ k. is-yes false (sym (sym (eq-eqb (suc p.j) n k) ∙ s d)))

  pub south-paired : Smooth g S p → SouthPaired (lap g p.depth) (lap g (pred p.depth)) p.j
  south-paired s = go (paired g p deep) (ℕ_discrete n 0) (ℕ_discrete p.j 0) (ℕ_discrete p.j n)
    where
      goes-round : n ≢ 0 → ltb 0 n ≡ true
      goes-round f = yes-is (ltb 0 n) (lt→ltb 0 n (omega (arith, f)))

      go : (n ≡ 2 * m) ⊎ ((p.depth ≡ base g) × (m ≡ 0)) → Dec (n ≡ 0) → Dec (p.j ≡ 0) → Dec (p.j ≡ n) → SouthPaired n m p.j
      go (inl e) _ _ _ = inl e
      go (inr (d, z)) (yes e) _ _ = inl (omega arith)
      go (inr (d, z)) (no f) (yes x) _ = absurd (is-yes false (sym (rw (goes-round f, eq-eqb p.j 0 x) at (s d))))
      go (inr (d, z)) (no f) (no x) (yes e) = absurd (is-yes false (sym (rw (goes-round f, ne_eqb p.j 0 x, eq-eqb p.j n e) at (s d))))
      go (inr (d, z)) (no f) (no x) (no e) = inr (z, omega (arith, x), e)
