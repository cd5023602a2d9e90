-- The calls on the picture of a valid state: no first check refuses, and the state that is decoded is that state. So a build and any list of
-- tapes lend on the picture of the state that the rules give, with its counts.
-- Assumes nothing.
use Prim.Native.Nat.{ℕ, ◌≤◌}
use native.Mathlib.Omega.{arith}
use mathlib.Core.Path.{◌≡◌, refl, sym, ap, ◌∙◌}
use mathlib.Core.List.{List, [], ◌∷◌}
use lib.ListN.{length}
use borrow.Author.Tests.{ltb-false}
use Rattle.mesh.specs.Place.{Grid}
use Rattle.mesh.specs.State.{State, capacity}
use Rattle.mesh.specs.Valid.{Valid}
use Rattle.mesh.specs.LeafCounts.{Counted, counted}
use Rattle.mesh.specs.Refusal.{refusal}
use Rattle.mesh.specs.Build.{numbered, built}
use Rattle.mesh.specs.Tape.{run}
use Rattle.mesh.specs.Call.{check_call, build_checks, Taped, tape_call, Rectangle}
use Rattle.place_laws.proofs.Ranges.{fits-sizes}
use Rattle.place_laws.proofs.Base.{fits-range}
use Rattle.number_laws.proofs.Checks.{passes}
use Rattle.number_laws.proofs.Building.{built-valid, built-capacity}
use Rattle.picture_laws.proofs.Decoding.{decode-back}
use Rattle.tally_laws.proofs.CountedChecks.{counted-accepted}
use Rattle.demand_laws.specs.Deeds.{after}
use Rattle.demand_laws.proofs.Refusals.{unless-accepted}
use Rattle.demand_laws.proofs.Tapes.{run-led}

-- ---- a tape

module _ (s : State) (v : Valid s) where
  -- a tape on the picture of a state runs on that state
  pub tape-runs : (cap : ℕ) → capacity s ≡ cap → (bytes : List ℕ) → tape_call cap (counted s) bytes ≡ (let r = run s bytes in record { done = r.done; refusal = r.refusal; offset = r.offset; lent = counted r.state })
  unfolding tape_call
  tape-runs cap c bytes =
      unless-accepted _ _ (check_call cap (counted s)) (ap (λ (n : ℕ). check_call n (counted s)) (sym c) ∙ counted-accepted s v)
      ∙ ap (λ (t : State). let r = run t bytes in record { done = r.done; refusal = r.refusal; offset = r.offset; lent = counted r.state }) (decode-back s v)

-- and leaves the picture of a state that no first check refuses
pub tape-checked : (s : State) → Valid s → (cap : ℕ) → capacity s ≡ cap → (bytes : List ℕ) → check_call cap (tape_call cap (counted s) bytes).lent ≡ 0
unfolding run
tape-checked s v cap c bytes =
    let u = (run s bytes).state in
    let (led, n) = run-led bytes 0 s 0 0 v in
    let d : capacity u ≡ cap = omega (arith, led.same_length) in
    ap (λ (r : Taped). check_call cap r.lent) (tape-runs s v cap c bytes) ∙ ap (λ (k : ℕ). check_call k (counted u)) (sym d) ∙ counted-accepted u led.valid

-- ---- a build

pub record Buildable (cap : ℕ) (g : Grid) : Type 0 where
  pub sizes : (5 ≤ cap) × (cap ≤ 4095)
  pub rectangle : Rectangle g
  pub room : length (numbered g) ≤ cap

pub build-checked : (cap : ℕ) (l : Counted) (g : Grid) → refusal (build_checks cap l g) ≡ 0 → Buildable cap g
unfolding build_checks
build-checked cap l g ok =
    let (a₁, h₁) = passes 1 _ _ (λ z. omega arith) ok in
    let (_, h₂) = passes 1 _ _ (λ z. omega arith) h₁ in
    let (a₂, h₃) = passes 2 _ _ (λ z. omega arith) h₂ in
    let (a₃, _) = passes 11 _ _ (λ z. omega arith) h₃ in
    let z = fits-sizes cap l.lent a₁ in
    record { sizes = (z.low, z.high); rectangle = fits-range g a₂; room = ltb-false cap (length (numbered g)) a₃ }

pub build-valid : (cap : ℕ) (g : Grid) → Buildable cap g → Valid (built g cap) × (capacity (built g cap) ≡ cap)
build-valid cap g b = (built-valid g cap b.rectangle b.sizes.0 b.sizes.1 b.room, built-capacity g cap b.room)

-- ---- a build and any list of tapes

unfoldable pub after_calls : ℕ → Counted → List (List ℕ) → Counted
after_calls cap l [] = l
after_calls cap l (t ∷ ts) = after_calls cap (tape_call cap l t).lent ts

pub calls-picture : (ts : List (List ℕ)) (cap : ℕ) (s : State) → Valid s → capacity s ≡ cap → after_calls cap (counted s) ts ≡ counted (after s ts)
unfolding after_calls after run
calls-picture [] cap s v c = refl
calls-picture (t ∷ ts) cap s v c =
    let (led, n) = run-led t 0 s 0 0 v in
    ap (λ (r : Taped). after_calls cap r.lent ts) (tape-runs s v cap c t)
    ∙ calls-picture ts cap (run s t).state led.valid (omega (arith, led.same_length))
