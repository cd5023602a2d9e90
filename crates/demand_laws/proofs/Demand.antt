-- Demand 3, for every accepted build and every list of tapes, refused requests among them: the theorem that the laws are for.
-- Assumes nothing.
use Prim.Native.Nat.{ℕ, ◌-◌}
use mathlib.Core.Path.{◌≡◌, refl, sym, ap, ◌∙◌, subst, fun_ext}
use mathlib.Core.Logic.Iff
use mathlib.Core.Option.{some}
use mathlib.Core.List.{List}
use Rattle.mesh.specs.Place.{Place, Grid}
use Rattle.mesh.specs.State.{State, place_of, entry, cells, in_use, grid_of, capacity, contents}
use Rattle.mesh.specs.Valid.{Valid}
use Rattle.mesh.specs.Refusal.{refusal}
use Rattle.mesh.specs.Request.{Request, accepted, request}
use Rattle.mesh.specs.Build.{full, built}
use Rattle.mesh.specs.LeafCounts.{leaf_count, Counted, counted}
use Rattle.mesh.specs.Call.{Built, build_checks, build_call}
use Rattle.place_laws.proofs.Laps.{Below}
use Rattle.place_laws.proofs.Base.{patch-below}
use Rattle.place_laws.proofs.Tiling.{tiling-one}
use Rattle.number_laws.proofs.Building.{built-contents, built-cells}
use Rattle.picture_laws.proofs.Links.{link-place, links-return, parent-kid-return}
use Rattle.level_laws.proofs.States.{Even, built-even, accepted-even, even-no-jump}
use Rattle.walk_laws.specs.Points.{total}
use Rattle.tally_laws.specs.LeavesOn.{leaves_on}
use Rattle.tally_laws.proofs.FullCounts.{counts-full, none-else}
use Rattle.tally_laws.proofs.Listed.{counts-at}
use Rattle.walk_laws.proofs.Scans.{scan-all}
use Rattle.walk_laws.proofs.Counts.{in-use-counts}
use Rattle.mesh.specs.Deed.{Deed}
use Rattle.demand_laws.specs.Deeds.{set_rules, after, deeds}
use Rattle.demand_laws.specs.Demand.{Demand3, full_contents}
use Rattle.demand_laws.specs.History.{History}
use Rattle.demand_laws.proofs.Numbers.{built-numbers}
use Rattle.demand_laws.proofs.Adjacent.{around-adjacent}
use Rattle.demand_laws.proofs.Refusals.{unless-accepted, unless-why}
use Rattle.walk_laws.proofs.Leaves.{leaf-at-some, leaf-at-none}
use Rattle.demand_laws.proofs.Exactly.{accepted-is}
use Rattle.demand_laws.proofs.Requests.{request-done}
use Rattle.demand_laws.proofs.Tapes.{Led, tapes-led}
use Rattle.demand_laws.proofs.Lasting.{tapes-keep}
use Rattle.demand_laws.proofs.PicturedCalls.{Buildable, build-checked, build-valid, after_calls, calls-picture}

-- it holds of every valid state that the deeds lead to
demanded : (g : Grid) (cap : ℕ) → Buildable cap g → (ds : List Deed) (s : State) → Led (built g cap) ds s → Even s → Demand3 g ds s
unfolding built
demanded g cap b ds s l even = record {
  same-grid = l.same-grid;
  mark = l.mark;
  valid = l.valid;
  by-set-rules = by-rules;
  first-numbers = built-numbers g (capacity s);
  numbers = subst (λ (c : ℕ). History (built g c) ds s) (sym (build-valid cap g b).1 ∙ ap (λ (n : ℕ). n - 1) (sym l.same_length)) l.history;
  linked = λ n m w p q h a b. Iff.trans (link-place s l.valid n m w p q h a b) (around-adjacent (grid_of s) w p q (below n p a) (below m q b));
  returned = links-return s l.valid;
  parents = parent-kid-return s l.valid;
  tiled = λ u v t. leaf-at-some l.valid u v t;
  one-leaf = λ u v p q a h c k. tiling-one l.valid.mesh u v p q a h c k;
  no-leaf = λ u v h. leaf-at-none l.valid u v h;
  walked = λ o t from to a h k. scan-all s l.valid o t from to a h k;
  counted = in-use-counts l.valid;
  no_jump = even-no-jump s l.valid even;
  leaf-counts = λ k st a b. counts-at s k st a b ∙ full k st;
  no-other-leaf = λ k st h. sym (full k st) ∙ none-else s l.valid k st h;
}
  where
    by-rules : contents s.entries ≡ set_rules ds (full_contents g)
    by-rules = l.by-rules ∙ ap (set_rules ds) (fun_ext (built-contents g cap b.rectangle))

    full : (k st : ℕ) → leaf_count s k st ≡ leaves_on g (set_rules ds (full_contents g)) k st
    full k st = counts-full s l.valid k st ∙ (λ i. leaves_on (l.same-grid i) (by-rules i) k st)

    below : (n : ℕ) (p : Place) → place_of (entry s.entries n) ≡ some p → Below (grid_of s) p
    below n p h = patch-below (grid_of s) (cells s.entries) l.valid.mesh p (l.valid.each n p h)

-- ---- levels side by side

-- a valid state that is balanced is followed by such states alone
abbrev Balancing : State → Type 0
Balancing s = Valid s × Even s

stays-even : (s t : State) (r : Request) → request s r ≡ accepted t → Balancing s → Balancing t
stays-even s t r h (v, even) =
    let (ok, e) = accepted-is s r t h in
    ((request-done s v r t h).valid, subst Even (sym e) (accepted-even s v even r ok))

-- ---- an accepted build

build-accepted : (cap : ℕ) (l : Counted) (g : Grid) → (build_call cap l g).refusal ≡ 0
    → Buildable cap g × (build_call cap l g ≡ record { refusal = 0; in_use = in_use (built g cap).entries; lent = counted (built g cap) })
unfolding build_call
build-accepted cap l g ok =
    let n : ℕ = refusal (build_checks cap l g) in
    let e : n ≡ 0 = unless-why (λ n. record { refusal = n; in_use = 0; lent = l }) (record { refusal = 0; in_use = in_use (built g cap).entries; lent = counted (built g cap) }) (λ (r : Built). r.refusal) (λ k. refl) n ok in
    (build-checked cap l g e, unless-accepted _ _ n e)

-- "accepted, a build returns the number in use": the ghosts and the distinct corner points of the full rectangle
pub build-counts : (cap : ℕ) (l : Counted) (g : Grid) → (build_call cap l g).refusal ≡ 0 → (build_call cap l g).in_use ≡ total g (full g)
unfolding built
build-counts cap l g ok =
    let (b, is) = build-accepted cap l g ok in
    ap (λ (r : Built). r.in_use) is ∙ in-use-counts (build-valid cap g b).0 ∙ ap (total g) (fun_ext (built-cells g cap b.rectangle))

-- for every accepted build and every list of tapes: what is lent is the picture of the state that the rules give, with its counts, and demand 3 holds of it
pub demand-3 : (cap : ℕ) (l : Counted) (g : Grid) → (build_call cap l g).refusal ≡ 0 → (ts : List (List ℕ))
    → (after_calls cap (build_call cap l g).lent ts ≡ counted (after (built g cap) ts)) × Demand3 g (deeds (built g cap) ts) (after (built g cap) ts)
demand-3 cap l g ok ts =
    let (b, is) = build-accepted cap l g ok in
    let (v, c) = build-valid cap g b in (
      ap (λ (r : Built). after_calls cap r.lent ts) is ∙ calls-picture ts cap (built g cap) v c,
      demanded g cap b (deeds (built g cap) ts) (after (built g cap) ts) (tapes-led ts (built g cap) v) (tapes-keep Balancing stays-even ts (built g cap) (v, built-even g cap b.rectangle)).1,
    )
