-- A tape, request by request: on every picture the rules' run goes on from the state that is pictured now.
-- Assumes nothing.
use Prim.Native.Nat.{ℕ, ◌+◌, ◌%◌, ◌≤◌}
use native.Mathlib.Omega.{arith}
use mathlib.Core.Path.{◌≡◌, refl, sym, ap, ◌∙◌}
use mathlib.Core.List.{List}
use lib.ListN.{length, drop, drop_of_length-le}
use lib.IntN.{ℤ}
use lib.Ieee.{Float}
use Rattle.mesh.specs.State.{State, Header}
use Rattle.mesh.specs.LeafCounts.{Counted}
use Rattle.mesh.specs.Tape.{run_from, run}
use Rattle.mesh.proofs.Runs.{run_end}
use Rattle.apply.specs.Drawn.{lists, Drawn, Pictured}
use Rattle.apply.specs.Edited.{held, Ready, Kept}
use Rattle.apply.specs.declared.EditedTable.{EditedTable}
use Rattle.tape.specs.Ran.{Turned, Ran}

-- the run from s goes on from a state that is pictured now
pub record Present (s : State) (cap d : ℕ) (l : Header → Counted) (bytes : List ℕ) (at done mark₀ mark : ℕ) : Type 0 where
  pub state : State
  pub drawn : Drawn state cap d l
  pub is-mark : s.header.mark ≡ mark₀ → state.header.mark ≡ mark
  pub goes_on : run s bytes ≡ run_from 0 state done at (drop at bytes)

module _ (bytes : List ℕ) (cap d mark₀ : ℕ) (l₀ : Header → Counted) where
  pub record Ongoing (l : Header → Counted) (at done mark : ℕ) : Type 0 where
    pub within : at ≤ length bytes
    pub few : done ≤ at
    pub present : (s : State) → Drawn s cap d l₀ → Present s cap d l bytes at done mark₀ mark

  pub starts : Ongoing l₀ 0 0 mark₀
  unfolding run
  starts = record { within = omega arith; few = omega arith; present = λ s p. record { state = s; drawn = p; is-mark = λ m. m; goes_on = refl } }

  module _ {t : List ℤ} {v : List Float} {c : List ℕ} {at done mark : ℕ} (o : Ongoing (lists t v c) at done mark) where
    -- at each request some state is pictured
    pub still-pictured : Pictured cap d l₀ → Pictured cap d (lists t v c)
    still-pictured p = let x = o.present p.state p.drawn in record { state = x.state; drawn = x.drawn }

    module _ {t' : List ℤ} {v' : List Float} {c' : List ℕ} {given next : ℕ} (u : Turned bytes at cap d (lists t v c) (lists t' v' c') given next) where
      pub goes-next : {mark' : ℕ} → given ≡ 0 → mark' ≡ (mark + 1) % 65536 → Ongoing (lists t' v' c') next (done + 1) mark'
      goes-next z m = let (a, b) = u.further z in record {
        within = b;
        few = omega (arith, o.few);
        present = λ s p.
            let x = o.present s p in
            let y = u.goes z x.state x.drawn in
            record { state = y.state; drawn = y.drawn; is-mark = λ n. y.next-mark ∙ ap (λ (k : ℕ). (k + 1) % 65536) (x.is-mark n) ∙ sym m; goes_on = x.goes_on ∙ y.goes_on done };
      }

    pub ran_over : length bytes ≤ at → Ran bytes cap d mark₀ l₀ (lists t v c) done 0 at mark
    ran_over h = record {
      answer = λ s p.
          let x = o.present s p in
          rw (x.goes_on, drop_of_length-le bytes h, run_end x.state done at 0) (refl, refl, refl, x.drawn);
      marks = λ s p n. let x = o.present s p in rw (x.goes_on, drop_of_length-le bytes h, run_end x.state done at 0) (x.is-mark n);
    }

-- ---- the table that is edited

module _ {bytes : List ℕ} {mark₀ : ℕ} {e₀ e : EditedTable} {at done mark : ℕ} (o : Ongoing bytes e₀.cap e₀.d mark₀ (held e₀) (held e) at done mark) (k : Kept e₀ e) where
  pub ready : Pictured e₀.cap e₀.d (held e₀) → Ready e
  ready p = record { pictured = rw (k.same-capacity, k.same-depth) (still-pictured _ _ _ _ _ o p); maps = k.maps }

  pub turned-so : {l' : Header → Counted} {given next : ℕ} → Turned bytes at e.cap e.d (held e) l' given next → Turned bytes at e₀.cap e₀.d (held e) l' given next
  turned-so u = rw (← k.same-capacity, ← k.same-depth) u

pub kept-on : {e₀ e e' : EditedTable} → Kept e₀ e → Kept e e' → Kept e₀ e'
kept-on k l = record {
  same-words = l.same-words ∙ k.same-words;
  same-values = l.same-values ∙ k.same-values;
  same-counts = l.same-counts ∙ k.same-counts;
  same-map = l.same-map ∙ k.same-map;
  same-capacity = l.same-capacity ∙ k.same-capacity;
  same-depth = l.same-depth ∙ k.same-depth;
  maps = l.maps;
}
