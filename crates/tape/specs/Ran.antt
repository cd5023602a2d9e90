-- What one request of a tape and what a whole tape make of a lent table.
-- Assumes nothing.
use Rattle.std.specs.Prelude.{ℕ, ◌+◌, ◌%◌, ◌≤◌, ◌<◌, ◌≡◌, ◌≢◌, List, length, drop}
use Rattle.mesh.specs.State.{State, Header}
use Rattle.mesh.specs.LeafCounts.{Counted}
use Rattle.mesh.specs.Tape.{run_from, run}
use Rattle.apply.specs.Drawn.{Drawn}

-- ---- one request

-- the run from s goes on from another state, which l pictures, at the offset next, with one request more done and the mark raised
pub record Goes (s : State) (cap d : ℕ) (l : Header → Counted) (bytes : List ℕ) (at next : ℕ) : Type 0 where
  pub state : State
  pub drawn : Drawn state cap d l
  pub next-mark : state.header.mark ≡ (s.header.mark + 1) % 65536
  pub goes_on : (n : ℕ) → run_from 0 s n at (drop at bytes) ≡ run_from 0 state (n + 1) next (drop next bytes)

pub record Turned (bytes : List ℕ) (at cap d : ℕ) (l l' : Header → Counted) (given next : ℕ) : Type 0 where
  pub stops : given ≢ 0 → (s : State) → Drawn s cap d l → (n : ℕ) → run_from 0 s n at (drop at bytes) ≡ record { state = s; done = n; refusal = given; offset = at }
  pub same : given ≢ 0 → l' ≡ l
  pub goes : given ≡ 0 → (s : State) → Drawn s cap d l → Goes s cap d l' bytes at next
  pub further : given ≡ 0 → (at < next) × (next ≤ length bytes)

-- ---- the tape

-- the answer is the rules', and l' pictures the state that the rules leave
pub record Ran (bytes : List ℕ) (cap d mark : ℕ) (l l' : Header → Counted) (done given offset mark' : ℕ) : Type 0 where
  pub answer : (s : State) → Drawn s cap d l
      → (done ≡ (run s bytes).done) × (given ≡ (run s bytes).refusal) × (offset ≡ (run s bytes).offset) × Drawn (run s bytes).state cap d l'
  pub marks : (s : State) → Drawn s cap d l → s.header.mark ≡ mark → (run s bytes).state.header.mark ≡ mark'
