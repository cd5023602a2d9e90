-- The places that are reached from a place by going down through kids of some digits: a place's whole tree, the part of it along one of its
-- sides, or the part in one of its corners.
-- Assumes nothing.
use Prim.Native.Nat.{ℕ, zero, suc, ◌+◌, ◌-◌, ◌%◌, ◌≤◌}
use native.Mathlib.Omega.{arith}
use mathlib.Core.Path.{◌≡◌, refl, sym, ap, ◌∙◌, subst}
use mathlib.Core.Logic.{◌⊎◌, inl, inr}
use mathlib.Core.Bool.{Bool, true}
use mathlib.Core.Option.{some}
use lib.Dec.{T}
use Rattle.mesh.specs.Place.{Place, Grid, base, home, parent}
use Rattle.place_laws.proofs.Kids.{up, parent_up, up_depth, parent-depth}
use Rattle.place_laws.proofs.Walls.{home-ground, home-up}

-- the kids with these digits are gone through
abbrev pub Choice : Type 0
Choice = ℕ → ℕ → Bool

-- a place is one of these kids of its parent
abbrev pub chosen : Choice → Place → Bool
chosen ok q = ok (q.i % 2) (q.j % 2)

-- q is r, or is reached from r by going down through such kids
pub data Along (ok : Choice) (r : Place) : Place → Type 0 where
  a-here : Along ok r r
  a-down : {s q : Place} → Along ok r s → parent q ≡ some s → T (chosen ok q) → Along ok r q

module _ (ok : Choice) where
  pub along-depth : {r q : Place} → Along ok r q → r.depth ≤ q.depth
  along-depth a-here = omega arith
  along-depth (a-down {s} {q} k e t) = omega (arith, along-depth k, parent-depth q s e)

  -- on the level where it begins it is one place
  pub along-flat : {r q : Place} → Along ok r q → q.depth ≡ r.depth → q ≡ r
  along-flat a-here e = refl
  along-flat (a-down {s} {q} k f t) e = absurd (omega (arith, along-depth k, parent-depth q s f))

  -- ---- the first step down

  pub along-first : {r s q : Place} → parent s ≡ some r → T (chosen ok s) → Along ok s q → Along ok r q
  along-first e t a-here = a-down a-here e t
  along-first e t (a-down k f u) = a-down (along-first e t k) f u

  pub along-cases : {r q : Place} → Along ok r q → (q ≡ r) ⊎ ((s : Place) × (parent s ≡ some r) × T (chosen ok s) × Along ok s q)
  along-cases a-here = inl refl
  along-cases {r} (a-down {s} {q} k e t) = inr (go (along-cases k))
    where
      go : (s ≡ r) ⊎ ((x : Place) × (parent x ≡ some r) × T (chosen ok x) × Along ok x s) → (x : Place) × (parent x ≡ some r) × T (chosen ok x) × Along ok x q
      go (inl i) = (q, e ∙ ap some i, t, a-here)
      go (inr (x, f, u, j)) = (x, f, u, a-down j e t)

-- ---- from a level-0 place

abbrev pub any_kid : Choice
any_kid l m = true

module _ (g : Grid) where
  home-along-by : (n : ℕ) (q : Place) → q.depth ≡ base g + n → Along any_kid (home g q) q
  home-along-by zero q e = subst (λ (x : Place). Along any_kid x q) (sym (home-ground g q (omega arith))) a-here
  home-along-by (suc n) q e =
      let h : Along any_kid (home g q) (up q) = rw (home-up g q (omega arith)) at (home-along-by n (up q) (omega (arith, up_depth q (omega arith)))) in
      a-down h (parent_up q (omega arith)) tt

  pub home-along : (q : Place) → base g ≤ q.depth → Along any_kid (home g q) q
  home-along q h = home-along-by (q.depth - base g) q (omega arith)
