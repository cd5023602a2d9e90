-- The row of a place, from the root down by the digits of its indices: wherever the kid words name the kids, it is the place's number.
-- Assumes nothing.
use Prim.Native.Nat.{ℕ, zero, suc, ◌+◌, ◌*◌, ◌/◌, ◌%◌, ◌≤◌}
use native.Mathlib.Omega.{arith}
use native.Mathlib.Decide.{ℕ_discrete}
use mathlib.Core.Path.{◌≡◌, refl, sym, ap, ◌∙◌}
use mathlib.Core.Logic.{◌≢◌}
use mathlib.Core.Bool.{cond}
use mathlib.Core.Option.{Option, none, some, map}
use mathlib.Core.List.{List}
use lib.Dec.{eqb}
use lib.IntN.{ℤ}
use borrow.Author.Tests.{eq-eqb, ne_eqb}
use Rattle.mesh.specs.Tools.{or_else}
use Rattle.mesh.specs.Place.{Place, at, root}
use Rattle.mesh.specs.State.{Entry, number, number_of}
use Rattle.place_laws.proofs.Places.{place-path}
use Rattle.place_laws.proofs.SideDigits.{kid_by}
use Rattle.table.specs.Words.{link_of}
use Rattle.worked.specs.Worked.{kid_word, down_to}

-- kid words name the kids, those of the nil patch none
abbrev pub KidsNamed : List ℤ → ℕ → List Entry → Type 0
KidsNamed t cap es = (l m : ℕ) → l ≤ 1 → m ≤ 1 → (o : Option Place) → link_of t cap (number_of es o) (kid_word l m) ≡ number_of es (map (kid_by l m) o)

kid_at : (e i j : ℕ) → kid_by (i % 2) (j % 2) (at e (i / 2) (j / 2)) ≡ at (suc e) i j
unfolding kid_by
kid_at e i j = place-path (at (suc e) (2 * (i / 2) + i % 2) (2 * (j / 2) + j % 2)) (at (suc e) i j) refl (omega arith) (omega arith)

module _ (t : List ℤ) (cap : ℕ) (es : List Entry) (named : KidsNamed t cap es) (first : number es root ≡ 1) (alone : (q : Place) → q.depth ≡ 0 → q ≢ root → number es q ≡ 0) where
  pub down_to_lem : (e i j : ℕ) → down_to t cap e i j ≡ number es (at e i j)
  unfolding down_to
  down_to_lem zero i j = go (ℕ_discrete (i + j) 0)
    where
      go : Dec (i + j ≡ 0) → cond (eqb (i + j) 0) 1 0 ≡ number es (at 0 i j)
      go (yes z) = let r : at 0 i j ≡ root = place-path (at 0 i j) root refl (omega arith) (omega arith) in rw (eq-eqb (i + j) 0 z, r) (sym first)
      go (no z) = rw (ne_eqb (i + j) 0 z) (sym (alone (at 0 i j) refl (λ e. z (ap (λ (x : Place). x.i + x.j) e))))
  down_to_lem (suc e) i j = rw (down_to_lem e (i / 2) (j / 2)) (go (ℕ_discrete (number es (at e (i / 2) (j / 2))) 0) ∙ ap (number es) (kid_at e i j))
    where
      o : Place
      o = at e (i / 2) (j / 2)

      l : ℕ
      l = i % 2

      m : ℕ
      m = j % 2

      below : (n : ℕ) → number_of es (some o) ≡ n → link_of t cap n (kid_word l m) ≡ number es (kid_by l m o)
      below n e = rw e at (named l m (omega arith) (omega arith) (some o))

      go : Dec (number es o ≡ 0) → cond (eqb (number es o) 0) 0 (link_of t cap (number es o) (kid_word l m)) ≡ number es (kid_by l m o)
      go (yes z) = rw (eq-eqb (number es o) 0 z) (sym (named l m (omega arith) (omega arith) none) ∙ below 0 z)
      go (no z) = rw (ne_eqb (number es o) 0 z) (below (number es o) refl)

  -- where a place may be missing
  pub down-from : (o : Option Place) → or_else 0 (λ q. down_to t cap q.depth q.i q.j) o ≡ number_of es o
  down-from none = refl
  down-from (some q) = down_to_lem q.depth q.i q.j
