-- The rows of level 0 under successive numbers: those in the rectangle become cells.
-- Assumes nothing.
use Prim.Native.Nat.{ℕ, ◌+◌}
use mathlib.Core.Path.{◌≡◌, refl, ap, ◌∙◌, fun_ext}
use mathlib.Core.Bool.{Bool, true, false, ◌&&◌, ◌||◌, cond}
use mathlib.Core.Option.{some}
use mathlib.Core.List.{List, [], ◌∷◌}
use lib.Dec.{eqb, eqb_refl, ltb}
use lib.ListN.{length}
use Rattle.edit_laws.specs.Rooted.{Rooted}
use Rattle.edit_laws.specs.BuildSoFar.{InTurn}
use Rattle.mesh.specs.Tools.{any, keep}
use Rattle.mesh.specs.Place.{Place, Grid, same, base, In}
use Rattle.mesh.specs.State.{Entry, place_of, entry}
use Rattle.mesh.specs.Build.{full}
use Rattle.place_laws.proofs.Bools.{yes-is}
use Rattle.place_laws.proofs.Places.{in-here, in-there}
use Rattle.edit_laws.specs.Linked.{Flags, table_with, with_flags}
use Rattle.edit_laws.specs.PatchSteps.{put_word}
use Rattle.edit_laws.specs.Built.{each_row, ground_row}
use Rattle.edit_laws.proofs.Linked.{i-of, j-of}
use Rattle.edit_laws.proofs.Setting.{put-flags}

-- these places are Complete, and have no other flag
abbrev pub complete_at : List Place → Flags → Flags
complete_at qs f p = cond (any (same p) qs) 1 (f p)

-- one place after the other
complete-first : (q : Place) (qs : List Place) (f : Flags) → complete_at qs (with_flags q 1 f) ≡ complete_at (q ∷ qs) f
complete-first q qs f = fun_ext (λ p. go p (any (same p) qs) (same p q))
  where
    go : (p : Place) (a b : Bool) → cond a 1 (cond b 1 (f p)) ≡ cond (b || a) 1 (f p)
    go p true true = refl
    go p false true = refl
    go p true false = refl
    go p false false = refl

module _ {g : Grid} {cap : ℕ} {es : List Entry} (r : Rooted g cap es) where
  full-ground : (q : Place) → q.depth ≡ base g → full g q ≡ (ltb q.i g.columns && ltb q.j g.rows)
  unfolding full
  full-ground q d = rw (d, yes-is (eqb (base g) (base g)) (eqb_refl (base g)))

  point-one : (n : ℕ) (q : Place) (f : Flags) → place_of (entry es n) ≡ some q → q.depth ≡ base g
      → ground_row g (table_with g es f) n ≡ table_with g es (cond (full g q) (with_flags q 1 f) f)
  point-one n q f h d = rw (i-of g es f n q h, j-of g es f n q h, ← full-ground q d) (go (full g q))
    where
      go : (b : Bool) → cond b (put_word (table_with g es f) n 12 1) (table_with g es f) ≡ table_with g es (cond b (with_flags q 1 f) f)
      go true = put-flags g es r.numbered f n q h 1
      go false = refl

  pub put-ground : (qs : List Place) (n : ℕ) (f : Flags) → InTurn es n qs → ((q : Place) → In q qs → q.depth ≡ base g)
      → each_row (ground_row g) (length qs) n (table_with g es f) ≡ table_with g es (complete_at (keep (full g) qs) f)
  unfolding each_row
  put-ground [] n f t deep = refl
  put-ground (q ∷ qs) n f (h, t) deep =
      ap (each_row (ground_row g) (length qs) (n + 1)) (point-one n q f h (deep q (in-here q q qs refl)))
      ∙ put-ground qs (n + 1) (cond (full g q) (with_flags q 1 f) f) t (λ x i. deep x (in-there x q qs i))
      ∙ ap (table_with g es) (go (full g q))
    where
      go : (b : Bool) → complete_at (keep (full g) qs) (cond b (with_flags q 1 f) f) ≡ complete_at (cond b (q ∷ keep (full g) qs) (keep (full g) qs)) f
      go true = complete-first q (keep (full g) qs) f
      go false = refl
