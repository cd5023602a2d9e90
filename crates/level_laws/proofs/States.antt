-- A build is balanced, and an accepted request keeps a valid state so: 21 does not hold of a cell that it refines, nor 22 of one whose kids it removes.
-- Assumes nothing.
use Prim.Native.Nat.{ℕ}
use mathlib.Core.Path.{◌≡◌, refl, sym, ap, ◌∙◌, subst, fun_ext}
use mathlib.Core.Bool.{Bool, true, false, not, ◌&&◌, cond}
use mathlib.Core.Option.{none}
use mathlib.Core.List.{List}
use Rattle.mesh.specs.Call.{Rectangle}
use Rattle.mesh.specs.Tools.{any}
use Rattle.mesh.specs.Place.{Place, Grid, same}
use Rattle.mesh.specs.Jump.{coarse_beside, finer_beside}
use Rattle.mesh.specs.Build.{full, built}
use Rattle.mesh.specs.State.{State, Header, cells, place_at, grid_of}
use Rattle.mesh.specs.Valid.{Valid}
use Rattle.mesh.specs.Refusal.{refusal}
use Rattle.mesh.specs.Request.{Request, refine, sentence, remove, kill, set_value, loose_checks, checks, effect, marked}
use Rattle.place_laws.proofs.Shrinking.{shrunk}
use Rattle.number_laws.proofs.Checks.{refine-passes, remove-passes, loosely}
use Rattle.number_laws.proofs.Building.{built-cells}
use Rattle.number_laws.proofs.NumberedPlaces.{valid-numbered}
use Rattle.number_laws.proofs.ByPlace.{cells-held}
use Rattle.number_laws.proofs.Keeping.{Kept}
use Rattle.number_laws.proofs.Refining.{refinable, here, after-cells, effect_is}
use Rattle.number_laws.proofs.Marking.{sentence-kept, sentence-cells, set_value-kept, set_value-cells}
use Rattle.number_laws.proofs.Taking.{remove-kept, kill-passed, kill-kept}
use Rattle.level_laws.specs.Beside.{NoJump}
use Rattle.level_laws.proofs.Balanced.{Balanced}
use Rattle.level_laws.proofs.Jumps.{balanced-no-jump}
use Rattle.level_laws.proofs.KeepingBalance.{full-balanced, grown-balanced, removed-balanced, killed-balanced}

-- a state's cells are balanced
abbrev pub Even : State → Type 0
Even s = Balanced (grid_of s) (cells s.entries)

-- a state with the same header and such cells
even-by : (s t : State) (c : Place → Bool) → t.header ≡ s.header → cells t.entries ≡ c → Balanced (grid_of s) c → Even t
even-by s t c h e b =
    subst (λ (x : Place → Bool). Balanced (grid_of t) x) (sym e)
    (subst (λ (x : Header). Balanced x.grid c) (sym h) b)

pub built-even : (g : Grid) (cap : ℕ) → Rectangle g → Even (built g cap)
unfolding built
built-even g cap r = even-by (built g cap) (built g cap) (full g) refl (fun_ext (built-cells g cap r)) (full-balanced g)

-- the cells at some places are gone
gone : {s t : State} {ps : List Place} → Kept s ps none t → cells t.entries ≡ shrunk (cells s.entries) ps
gone {s} {t} {ps} k = fun_ext (λ q. k.cells_is q ∙ go (any (same q) ps) (cells s.entries q))
  where
    go : (b x : Bool) → cond b false x ≡ (x && not b)
    go true true = refl
    go true false = refl
    go false true = refl
    go false false = refl

module _ (s : State) (v : Valid s) (even : Even s) where
  refine-even : (n : ℕ) → refusal (checks s (refine n)) ≡ 0 → Even (effect s (refine n))
  refine-even n ok =
      let (fine, loose) = refine-passes s n ok in
      let (p, x, r) = refinable s v n loose in
      let f : coarse_beside (grid_of s) (cells s.entries) p ≡ false = rw r.stood at (ap (λ (c : Place → Bool). coarse_beside (grid_of s) c (place_at s.entries n)) (cells-held s.entries (valid-numbered v)) ∙ fine) in
      rw (effect_is s v n p x r) (rw (after-cells s v n p x r) (grown-balanced (grid_of s) (cells s.entries) v.mesh even p (here s v n p x r) f))

  remove-even : (n : ℕ) → refusal (checks s (remove n)) ≡ 0 → Even (effect s (remove n))
  remove-even n ok =
      let (fine, loose) = remove-passes s n ok in
      let k = remove-kept s v n loose in
      even-by s (effect s (remove n)) _ k.header_is (gone k) (removed-balanced (grid_of s) (cells s.entries) even (place_at s.entries n) (ap (λ (c : Place → Bool). finer_beside (grid_of s) c (place_at s.entries n)) (cells-held s.entries (valid-numbered v)) ∙ fine))

  kill-even : (n : ℕ) → refusal (loose_checks s (kill n)) ≡ 0 → Even (effect s (kill n))
  kill-even n ok =
      let k = kill-kept s v n ok in
      let (d, e, l, o) = kill-passed s v n ok in
      even-by s (effect s (kill n)) _ k.header_is (gone k) (killed-balanced (grid_of s) (cells s.entries) even (place_at s.entries n) e)

  effect-even : (r : Request) → refusal (checks s r) ≡ 0 → Even (effect s r)
  effect-even (refine n) ok = refine-even n ok
  effect-even (remove n) ok = remove-even n ok
  effect-even (kill n) ok = kill-even n (loosely s (kill n) ok)
  effect-even (sentence n) ok = let o = loosely s (sentence n) ok in even-by s (effect s (sentence n)) _ (sentence-kept s v n o).header_is (fun_ext (sentence-cells s v n o)) even
  effect-even (set_value n x) ok = let o = loosely s (set_value n x) ok in even-by s (effect s (set_value n x)) _ (set_value-kept s v n x o).header_is (fun_ext (set_value-cells s v n x o)) even

  -- the mark plays no part
  pub accepted-even : (r : Request) → refusal (checks s r) ≡ 0 → Even (marked (effect s r))
  unfolding marked
  accepted-even r ok = effect-even r ok

  -- the promise, of a state
  pub even-no-jump : NoJump (grid_of s) (cells s.entries)
  even-no-jump = balanced-no-jump v.mesh even
